-- The conditions 21 to 28 of the refusal sheet, each by itself and in words. 22 to 28 are about a document and the members of a PatchObject that is to
-- patch it (`BrokenPatch`). 22 to 26 name the key that breaks them (`BreaksWith`); a key counts by the pointer that it writes, so one with a loose `~`
-- breaks 22 alone. 27 and 28 speak of the text that would be written: which one that is the definitions say (`applied`, `written`), and field `would_be`
-- of specs/Demands.antt ties it to words. Of a card and a language (`BrokenCondition`) the document is the card without its localizations (`LeftOutOf`),
-- and the PatchObject is the one that is found, which is the one that the card has (`PatchUnder`); if there is none, that is 21. The answer is the
-- broken condition of smallest number, of 22 to 26 for the smallest key (proofs/Patching/Refused.antt).
-- Assumes nothing: these are definitions.
use Rattle.std.specs.Prelude.{ℕ, ◌≤◌, ◌<◌, ◌≡◌, ◌⊎◌, ◌≢◌, List, [], ◌∷◌, ◌++◌, length}
use Rattle.std.proofs.Math.Option.{some}
use Rattle.laws.specs.Order.{Earlier}
use Rattle.text.specs.Limits.{Limits}
use Rattle.text.specs.Text.{bytes}
use Rattle.text.specs.Doc.{Name, Doc, scalar, array, object, Members, empty, member, Property, property}
use Rattle.text.specs.Writing.{written}
use Rattle.contact.specs.BetweenMembers.{HasProperty, HasMember}
use Rattle.contact.specs.Verdict.{refused_card}
use Rattle.contact.specs.Judging.{CardAnswer}
use Rattle.contact.specs.Pointer.{Pointer, last, parts, find}
use Rattle.contact.specs.PointerText.{PointerText}
use Rattle.contact.specs.Patch.{entries_of, applied}
use Rattle.contact.specs.Localize.{key_refusal, patch_at}
use Rattle.contact.specs.Entries.{Prefix}
use Rattle.contact.specs.declared.CardRefusal.{CardRefusal}
use Rattle.contact.specs.declared.LocalRefusal.{LocalRefusal}
use Rattle.contact.specs.declared.LocalRefusal.TheVariants.{NoLanguage, BadKey, OwnLocalizations, Clash, InArray, NoObject, Short, Inner}

-- ---- keys

-- somewhere in the key stands a `~` (126) that neither `0` nor `1` follows
pub record LooseTilde (key : Name) : Type 0 where
  pub front : List ℕ
  pub behind : List ℕ
  pub stands : key ≡ front ++ (126 ∷ behind)
  pub loose : (rest : List ℕ) → (behind ≢ 48 ∷ rest) × (behind ≢ 49 ∷ rest)

-- one of the members has this name
pub data HasKey (key : Name) : Members → Type 0 where
  first : {label : List ℕ} {d : Doc} {ms : Members} → HasKey key (member key label d ms)
  later : {n : Name} {label : List ℕ} {d : Doc} {ms : Members} → HasKey key ms → HasKey key (member n label d ms)

-- two of the members, the one before the other, have these names
pub data HasKeys (key other : Name) : Members → Type 0 where
  first_key : {label : List ℕ} {d : Doc} {ms : Members} → HasKey other ms → HasKeys key other (member key label d ms)
  later_on : {n : Name} {label : List ℕ} {d : Doc} {ms : Members} → HasKeys key other ms → HasKeys key other (member n label d ms)

-- two different members have these names, in whichever order
abbrev pub TwoKeys : (key other : Name) → Members → Type 0
TwoKeys key other ms = HasKeys key other ms ⊎ HasKeys other key ms

-- ---- the way of a pointer

-- the names lead from the one value, through objects, to the other
pub data Leads : List Name → Doc → Doc → Type 0 where
  here : {d : Doc} → Leads [] d d
  into : {n : Name} {ns : List Name} {ms : Members} {d x : Doc} → HasMember ms n d → Leads ns d x → Leads (n ∷ ns) (object ms) x

-- the pointer, from the value d, reaches the value x while the part n and then the parts `left` are left: so n is its last part if nothing is left
pub record Reaches (p : Pointer) (d x : Doc) (n : Name) (left : List Name) : Type 0 where
  pub way : List Name
  pub split : parts p ≡ way ++ (n ∷ left)
  pub leads : Leads way d x

-- it points at a property: it reaches an object with nothing left but its last part, and that is the property's name there
pub data PointsAt (p : Pointer) (d : Doc) : Property → Type 0 where
  at_last : {ms : Members} {n : Name} {s : Property} → Reaches p d (object ms) n [] → HasProperty ms n s → PointsAt p d s

-- it goes inside an array: it reaches one, with a part left
pub data EntersArray (p : Pointer) (d : Doc) : Type 0 where
  reached : {ms : Members} {n : Name} {left : List Name} → Reaches p d (array ms) n left → EntersArray p d

-- a part before the last doesn't lead to an object that exists: it reaches a value that is neither array nor object, or an object that lacks a
-- part which is not the last
pub data LosesWay (p : Pointer) (d : Doc) : Type 0 where
  at_scalar : {kind : ℕ} {token : List ℕ} {n : Name} {left : List Name} → Reaches p d (scalar kind token) n left → LosesWay p d
  no_member_there : {ms : Members} {n m : Name} {left : List Name} → Reaches p d (object ms) n (m ∷ left) → ((e : Doc) → ¬ HasMember ms n e) → LosesWay p d

-- ---- 22 to 26: a document, and the members of the PatchObject that is to patch it

-- the key breaks the condition of this number
pub data BreaksWith (d : Doc) (ms : Members) : (number : ℕ) → (key : Name) → Type 0 where
  bad_key : {key : Name} → HasKey key ms → LooseTilde key → BreaksWith d ms 22 key
  own_localizations : {key : Name} {p : Pointer} → HasKey key ms → PointerText key p → Prefix (last (bytes "localizations")) p → BreaksWith d ms 23 key
  clashing : {key other : Name} {p q : Pointer} → TwoKeys key other ms → PointerText key p → PointerText other q → Prefix p q ⊎ Prefix q p
      → BreaksWith d ms 24 key
  entering_array : {key : Name} {p : Pointer} → HasKey key ms → PointerText key p → EntersArray p d → BreaksWith d ms 25 key
  losing_way : {key : Name} {p : Pointer} → HasKey key ms → PointerText key p → LosesWay p d → BreaksWith d ms 26 key

-- no key breaks any: so the entries can be applied to the document
abbrev pub Applicable : Doc → Members → Type 0
Applicable d ms = (number : ℕ) (key : Name) → ¬ BreaksWith d ms number key

-- of the keys that break the condition of this number the key is the smallest in byte order
pub record SmallestKey (d : Doc) (ms : Members) (number : ℕ) (key : Name) : Type 0 where
  pub breaks : BreaksWith d ms number key
  pub no_earlier : (other : Name) → BreaksWith d ms number other → ¬ Earlier other key

-- the smallest number that is broken, and of the keys that break it the smallest in byte order
pub record FirstBroken (d : Doc) (ms : Members) (number : ℕ) (key : Name) : Type 0 where
  pub smallest : SmallestKey d ms number key
  pub least : (m : ℕ) (other : Name) → BreaksWith d ms m other → number ≤ m

-- ---- the PatchObject, and the card without its localizations

-- the PatchObject of the language has the members ms
pub record PatchOf (card : Doc) (lang : Name) (ms : Members) : Type 0 where
  pub label : List ℕ
  pub stands : find (patch_at lang) card ≡ some (property label (object ms))

-- the same by rules and not by a search: the card has `localizations`, and these have the language
pub data PatchUnder (lang : Name) (ms : Members) : (card : Doc) → Type 0 where
  patch_under : {os ls : Members} → HasMember os (bytes "localizations") (object ls) → HasMember ls lang (object ms) → PatchUnder lang ms (object os)

-- the members but those of the name n, in their order and as they were
pub data LeftOut (n : Name) : Members → Members → Type 0 where
  no_more : LeftOut n empty empty
  goes : {label : List ℕ} {d : Doc} {ms rest : Members} → LeftOut n ms rest → LeftOut n (member n label d ms) rest
  stays : {m : Name} {label : List ℕ} {d : Doc} {ms rest : Members} → m ≢ n → LeftOut n ms rest → LeftOut n (member m label d ms) (member m label d rest)

-- objects, of which the one has the members of the other but those of the name n
pub data LeftOutOf (n : Name) : Doc → Doc → Type 0 where
  left_out : {ms rest : Members} → LeftOut n ms rest → LeftOutOf n (object ms) (object rest)

-- ---- the refusals

-- the second number that the sheet has for a refusal: 0 for 21, for 22 to 26 the place of the key, for 27 the bytes needed, for 28 the number of the
-- refusal inside
pub data SecondNumber : LocalRefusal → ℕ → Type 0 where
  no_language_case : SecondNumber NoLanguage 0
  bad_key_case : {p : ℕ} → SecondNumber (BadKey p) p
  own_localizations_case : {p : ℕ} → SecondNumber (OwnLocalizations p) p
  clash : {p : ℕ} → SecondNumber (Clash p) p
  in_array_case : {p : ℕ} → SecondNumber (InArray p) p
  no_object_case : {p : ℕ} → SecondNumber (NoObject p) p
  needed : {n : ℕ} → SecondNumber (Short n) n
  inside : {r : CardRefusal} → SecondNumber (Inner r) (refused_card r).number

-- `place` says where a key stands: keys at fault are named by their places
module _ (L : Limits) (words room : ℕ) (place : Name → ℕ) where
  -- 22 to 28, of a document and the members of a PatchObject: the condition of this number is broken, and calls for this refusal
  pub data BrokenPatch (d : Doc) (ms : Members) : ℕ → LocalRefusal → Type 0 where
    with_key : {number : ℕ} {key : Name} → SmallestKey d ms number key → BrokenPatch d ms number (key_refusal number (place key))
    short : room < length (written (applied d (entries_of ms))) → BrokenPatch d ms 27 (Short (length (written (applied d (entries_of ms)))))
    -- what would be written is no card: for its first fault as a text, or for the first rule that it breaks (`CardAnswer`, specs/Judging.antt)
    unfit : {r : CardRefusal} {table : List ℕ} → CardAnswer L words (written (applied d (entries_of ms))) (refused_card r) table → BrokenPatch d ms 28 (Inner r)

  -- 21 to 28, of a card and a language
  pub data BrokenCondition (card : Doc) (lang : Name) : ℕ → LocalRefusal → Type 0 where
    no_language : ((ms : Members) → ¬ PatchOf card lang ms) → BrokenCondition card lang 21 NoLanguage
    of_patch : {ms : Members} {d : Doc} {number : ℕ} {r : LocalRefusal} → PatchOf card lang ms → LeftOutOf (bytes "localizations") card d
        → BrokenPatch d ms number r → BrokenCondition card lang number r

-- the refusal of the smallest number whose condition is broken
pub record Smallest (Broken : ℕ → LocalRefusal → Type 0) (number : ℕ) (r : LocalRefusal) : Type 0 where
  pub broken : Broken number r
  pub least : (m : ℕ) (q : LocalRefusal) → Broken m q → number ≤ m
