-- The known properties of each object type a second time: as signatures in the notation of RFC 9553 (1.3.2 and 1.3.3), written out type by type as its
-- sections 1.5 and 2 give them, of the properties that docs/RULES.md, 5.5, lists and without their defaults, and a reader of that notation. `AsSigned` says that the table (Schema.antt) is what the signatures say;
-- proofs/Judging/Signatures.antt proves it.
-- Assumes nothing: these are definitions.
use Rattle.std.specs.Prelude.{ℕ, suc, ◌≡◌, Bool, true, false, cond, length, take, drop}
use Prim.Native.String.{String}
use mathlib.Core.List.{List, [], ◌∷◌, map, Memᴰ as In}
use Rattle.std.proofs.Math.Option
use Rattle.std.proofs.Math.Option.{Option, none, some, bind, Option-elim}
use Rattle.laws.specs.Order.{same}
use Rattle.laws.specs.Each.{Each}
use Rattle.text.specs.Text.{bytes}
use Rattle.contact.specs.Schema.{ObjectType, any_string, exactly, flag, yes, count, time, Keys, free, ids, Ty, any, simple, object_of, list_of, map_of, by_type, Known, TypeRecord, types, properties, rules_of, type_in}
use Rattle.contact.specs.AskedKinds.{Sound}
use Rattle.contact.specs.Values.{value_from}

-- ---- the signatures

-- Name: type (attribute). After the attribute may stand the one content of a String, or the bounds of an UnsignedInt, which the RFC gives in prose.
unfoldable pub signatures : List (List String)
signatures =
    ("@type: String (mandatory; \"Card\")"
    ∷ "version: String (mandatory; \"1.0\")"
    ∷ "uid: String (mandatory)"
    ∷ "created: UTCDateTime (optional)"
    ∷ "updated: UTCDateTime (optional)"
    ∷ "kind: String (optional)"
    ∷ "language: String (optional)"
    ∷ "prodId: String (optional)"
    ∷ "members: String[Boolean] (optional)"
    ∷ "name: Name (optional)"
    ∷ "emails: Id[EmailAddress] (optional)"
    ∷ "phones: Id[Phone] (optional)"
    ∷ "addresses: Id[Address] (optional)"
    ∷ "localizations: String[PatchObject] (optional)"
    ∷ [])
    ∷ ("@type: String (optional; \"Name\")"
    ∷ "components: NameComponent[] (optional)"
    ∷ "sortAs: String[String] (optional)"
    ∷ "isOrdered: Boolean (optional)"
    ∷ "defaultSeparator: String (optional)"
    ∷ "full: String (optional)"
    ∷ "phoneticScript: String (optional)"
    ∷ "phoneticSystem: String (optional)"
    ∷ [])
    ∷ ("@type: String (optional; \"NameComponent\")"
    ∷ "value: String (mandatory)"
    ∷ "kind: String (mandatory)"
    ∷ "phonetic: String (optional)"
    ∷ [])
    ∷ ("@type: String (optional; \"Address\")"
    ∷ "components: AddressComponent[] (optional)"
    ∷ "countryCode: String (optional)"
    ∷ "coordinates: String (optional)"
    ∷ "timeZone: String (optional)"
    ∷ "contexts: String[Boolean] (optional)"
    ∷ "pref: UnsignedInt (optional; 1 to 100)"
    ∷ "isOrdered: Boolean (optional)"
    ∷ "defaultSeparator: String (optional)"
    ∷ "full: String (optional)"
    ∷ "phoneticScript: String (optional)"
    ∷ "phoneticSystem: String (optional)"
    ∷ [])
    ∷ ("@type: String (optional; \"AddressComponent\")"
    ∷ "value: String (mandatory)"
    ∷ "kind: String (mandatory)"
    ∷ "phonetic: String (optional)"
    ∷ [])
    ∷ ("@type: String (optional; \"EmailAddress\")"
    ∷ "address: String (mandatory)"
    ∷ "contexts: String[Boolean] (optional)"
    ∷ "pref: UnsignedInt (optional; 1 to 100)"
    ∷ "label: String (optional)"
    ∷ [])
    ∷ ("@type: String (optional; \"Phone\")"
    ∷ "number: String (mandatory)"
    ∷ "features: String[Boolean] (optional)"
    ∷ "contexts: String[Boolean] (optional)"
    ∷ "pref: UnsignedInt (optional; 1 to 100)"
    ∷ "label: String (optional)"
    ∷ [])
    ∷ []

-- ---- words

-- a word, and what it stands for
pub record WordFor (A : Type 0) : Type 0 where
  pub spelling : String
  pub means : A

-- a word of that spelling
abbrev pub stands : {A : Type 0} → String → A → WordFor A
stands s a = record { spelling = s; means = a }

-- the names of the types from a number on, each for its number
unfoldable pub names_from : ObjectType → List TypeRecord → List (WordFor ObjectType)
names_from o [] = []
names_from o (r ∷ rs) = stands r.own o ∷ names_from (suc o) rs

-- what each object type is called
abbrev pub object_words : List (WordFor ObjectType)
object_words = names_from 0 types

-- the types of values by themselves; a PatchObject is a String[*]
unfoldable pub type_words : List (WordFor Ty)
type_words =
    stands "String" (simple any_string)
    ∷ stands "Boolean" (simple flag)
    ∷ stands "UnsignedInt" (simple (count 0 9007199254740991))
    ∷ stands "UTCDateTime" (simple time)
    ∷ stands "PatchObject" (map_of free any)
    ∷ map (λ (w : WordFor ObjectType). stands w.spelling (object_of w.means)) object_words

-- those of the values of an object: a Boolean there is true, as the RFC says of each String[Boolean] above
abbrev pub value_words : List (WordFor Ty)
value_words = stands "Boolean" (simple yes) ∷ type_words

-- the types of keys
abbrev pub key_words : List (WordFor Keys)
key_words = stands "String" free ∷ stands "Id" ids ∷ []

-- must the property be there?
abbrev pub attributes : List (WordFor Bool)
attributes = stands "mandatory" true ∷ stands "optional" false ∷ []

-- what a text stands for, if it is a word of the list
unfoldable pub meaning : {A : Type 0} → List (WordFor A) → List ℕ → Option A
meaning [] t = none
meaning (w ∷ ws) t = let more = meaning ws t in cond (same (bytes w.spelling) t) (some w.means) more

-- ---- the reader

-- what stands before a mark, and what after it
pub record Halves : Type 0 where
  pub before : List ℕ
  pub after : List ℕ

-- a text in two, at the first place where the mark stands
unfoldable pub cut : (mark : String) → List ℕ → Option Halves
cut mark [] = none
cut mark (b ∷ bs) =
    let n = length (bytes mark) in
    let here : Option Halves = some (record { before = []; after = drop n (b ∷ bs) }) in
    let later : Option Halves = Option.map (λ (h : Halves). record { before = b ∷ h.before; after = h.after }) (cut mark bs) in
    cond (same (take n (b ∷ bs)) (bytes mark)) here later

-- a text up to the first such mark, which ends it
unfoldable pub until_mark : (mark : String) → List ℕ → Option (List ℕ)
until_mark mark t = bind (cut mark t) (λ h. cond (same h.after []) (some h.before) none)

-- A[] or A[B], cut at the first bracket
unfoldable pub bracketed : Halves → Option Ty
bracketed h =
    bind (until_mark "]" h.after) (λ inside.
    cond (same inside [])
    (Option.map list_of (meaning type_words h.before))
    (bind (meaning key_words h.before) (λ keys. Option.map (map_of keys) (meaning value_words inside))))

-- A|B, cut at the first bar: an object of the type B if its `@type` says so, else of the type A
unfoldable pub choice : Halves → Option Ty
choice h = bind (meaning object_words h.before) (λ usual. Option.map (by_type usual) (meaning object_words h.after))

-- a type without a note
unfoldable pub plain_type : List ℕ → Option Ty
plain_type t =
    let whole = Option-elim (cut "|" t) (meaning type_words t) choice in
    Option-elim (cut "[" t) whole bracketed

-- a type with a note: the content of a String, or the bounds of an UnsignedInt
unfoldable pub noted : (type note : List ℕ) → Option Ty
noted type note =
    cond (same type (bytes "String"))
    (bind (cut "\"" note) (λ h. Option.map (λ content. simple (exactly content)) (until_mark "\"" h.after)))
    (cond (same type (bytes "UnsignedInt"))
    (Option.map (λ h. simple (count (value_from 0 h.before) (value_from 0 h.after))) (cut " to " note))
    none)

-- a property of that name, of that type if it is one, with that attribute
unfoldable pub line : (spelling : List ℕ) → Option Ty → (attribute : List ℕ) → Option Known
line n type attribute = bind type (λ ty. Option.map (λ must. record { spelling = n; type = ty; mandatory = must }) (meaning attributes attribute))

-- the line of the table that a signature stands for
unfoldable pub parsed : String → Option Known
parsed s =
    bind (cut ": " (bytes s)) (λ n.
    bind (cut " (" n.after) (λ t.
    bind (until_mark ")" t.after) (λ inside.
    let plain = line n.before (plain_type t.before) inside in
    Option-elim (cut "; " inside) plain (λ a. line n.before (noted t.before a.after) a.before))))

-- ---- the statement

-- the table is what the signatures say
pub record AsSigned : Type 0 where
  -- line by line, for all object types
  pub lines : map (map parsed) signatures ≡ map (λ (r : TypeRecord). map some r.known) types
  -- `@type` is the type's own name, by which the signatures of others call it
  pub own_name_lem : map (λ (r : TypeRecord). type_in r.known (bytes "@type")) types ≡ map (λ (r : TypeRecord). simple (exactly (bytes r.own))) types
  -- a name has one line
  pub one_line : (o : ObjectType) (k j : Known) → In k (properties o) → In j (properties o) → k.spelling ≡ j.spelling → k ≡ j
  -- the rules between members count names that have a line
  pub rules : (o : ObjectType) → Each (Sound o) (rules_of o)
