-- No two different values share a packing: `same_value`; and the same values pack alike: `packed_alike`. Assumes nothing.
use mathlib.Core.Path.{◌≡◌, refl, sym, ap, ap₂, subst, ◌∙◌}
use mathlib.Core.List.{List, [], ◌∷◌, ◌++◌}
use Prim.Native.Nat.{ℕ, ◌<◌}
use native.Mathlib.Omega.{arith}
use Rattle.text.specs.Tree.{Bracket, square, curly}
use Rattle.text.specs.Doc.{Name, Doc, scalar, array, object, Members, empty, member}
use Rattle.text.specs.Labels.{Labelled, Every}
use Rattle.text.specs.Writable.{Lexeme}
use Rattle.text.proofs.Labels.{EveryIn, every_parts}
use Rattle.packing.specs.Packed.{field_of, content_in, name_field, packed, packed_items}
use Rattle.packing.specs.Values.{SameName, SameValue, as_written, decoded, arrays, objects, SameItems, none, more}
use Rattle.packing.proofs.Fields.{one_field}
use Rattle.packing.proofs.Plain.{label_content, string_label}

-- ---- the same values pack alike

alike_name : (b : Bracket) (n m : Name) → SameName b n m → name_field b n ≡ name_field b m
alike_name square n m e = refl
alike_name curly n m e = ap (field_of 8) e

mutual
  pub packed_alike : {d e : Doc} → SameValue d e → packed d ≡ packed e
  packed_alike as_written = refl
  packed_alike (decoded g h) = ap (field_of 5) (label_content g ∙ sym (label_content h))
  packed_alike (arrays h) = ap (field_of 6) (items_alike h)
  packed_alike (objects h) = ap (field_of 7) (items_alike h)

  items_alike : {b : Bracket} {ms ns : Members} → SameItems b ms ns → packed_items ms b ≡ packed_items ns b
  items_alike none = refl
  items_alike (more {b} {n} {m} o h r) = ap₂ (λ (x y : List ℕ). x ++ y) (alike_name b n m o) (ap₂ (λ (x y : List ℕ). x ++ y) (packed_alike h) (items_alike r))

-- ---- what packs alike is the same value

-- a kind of a value that holds no others
pub lexeme_kind : {kind : ℕ} {w : List ℕ} → Lexeme kind w → kind < 6
lexeme_kind Lexeme.null = omega arith
lexeme_kind Lexeme.falsity = omega arith
lexeme_kind Lexeme.truth = omega arith
lexeme_kind (Lexeme.number n) = omega arith
lexeme_kind (Lexeme.string s) = omega arith

same_token : {j k : ℕ} {v w : List ℕ} → Lexeme j v → Lexeme k w → j ≡ k → content_in j v ≡ content_in k w → SameValue (scalar j v) (scalar k w)
same_token Lexeme.null Lexeme.null e h = as_written
same_token Lexeme.null Lexeme.falsity e h = absurd (omega arith)
same_token Lexeme.null Lexeme.truth e h = absurd (omega arith)
same_token Lexeme.null (Lexeme.number n) e h = absurd (omega arith)
same_token Lexeme.null (Lexeme.string s) e h = absurd (omega arith)
same_token Lexeme.falsity Lexeme.null e h = absurd (omega arith)
same_token Lexeme.falsity Lexeme.falsity e h = as_written
same_token Lexeme.falsity Lexeme.truth e h = absurd (omega arith)
same_token Lexeme.falsity (Lexeme.number n) e h = absurd (omega arith)
same_token Lexeme.falsity (Lexeme.string s) e h = absurd (omega arith)
same_token Lexeme.truth Lexeme.null e h = absurd (omega arith)
same_token Lexeme.truth Lexeme.falsity e h = absurd (omega arith)
same_token Lexeme.truth Lexeme.truth e h = as_written
same_token Lexeme.truth (Lexeme.number n) e h = absurd (omega arith)
same_token Lexeme.truth (Lexeme.string s) e h = absurd (omega arith)
same_token (Lexeme.number m) Lexeme.null e h = absurd (omega arith)
same_token (Lexeme.number m) Lexeme.falsity e h = absurd (omega arith)
same_token (Lexeme.number m) Lexeme.truth e h = absurd (omega arith)
same_token (Lexeme.number {w = v} m) (Lexeme.number n) e h = subst (λ (w : List ℕ). SameValue (scalar 4 v) (scalar 4 w)) h as_written
same_token (Lexeme.number m) (Lexeme.string s) e h = absurd (omega arith)
same_token (Lexeme.string r) Lexeme.null e h = absurd (omega arith)
same_token (Lexeme.string r) Lexeme.falsity e h = absurd (omega arith)
same_token (Lexeme.string r) Lexeme.truth e h = absurd (omega arith)
same_token (Lexeme.string r) (Lexeme.number n) e h = absurd (omega arith)
same_token (Lexeme.string r) (Lexeme.string {w} s) e h = decoded (string_label r) (subst (λ (c : List ℕ). Labelled c (34 ∷ w ++ (34 ∷ []))) (sym h) (string_label s))

-- the same value, and the same behind it
record Alike (d e : Doc) (r s : List ℕ) : Type 0 where
  same : SameValue d e
  rests : r ≡ s

abbrev Good : Doc → Type 0
Good = Every Labelled Lexeme

abbrev GoodIn : Bracket → Members → Type 0
GoodIn = EveryIn Labelled Lexeme

-- no packing starts with the tag of a name, and none is empty
named : (b : Bracket) (n m : Name) (r s : List ℕ) → name_field b n ++ r ≡ name_field b m ++ s → SameName b n m × (r ≡ s)
named square n m r s h = (tt, h)
named curly n m r s h = let o = one_field 8 8 n m r s h in (o.contents, o.rests)

some_item : {A : Type 0} (b : Bracket) (n : Name) (d : Doc) (r : List ℕ) → [] ≡ name_field b n ++ (packed d ++ r) → A
some_item square n (scalar kind token) r h = let z : ◌≡◌ {A = ℕ} 0 1 = cc in absurd (omega arith)
some_item square n (array ms) r h = let z : ◌≡◌ {A = ℕ} 0 1 = cc in absurd (omega arith)
some_item square n (object ms) r h = let z : ◌≡◌ {A = ℕ} 0 1 = cc in absurd (omega arith)
some_item curly n d r h = let z : ◌≡◌ {A = ℕ} 0 1 = cc in absurd (omega arith)

mutual
  alike : (d e : Doc) (r s : List ℕ) → Good d → Good e → packed d ++ r ≡ packed e ++ s → Alike d e r s
  alike (scalar j v) (scalar k w) r s g h p =
      let o = one_field j k (content_in j v) (content_in k w) r s p in
      record { same = same_token g h o.tags o.contents; rests = o.rests }
  alike (scalar j v) (array ns) r s g h p = let o = one_field j 6 (content_in j v) (packed_items ns square) r s p in absurd (omega (arith, lexeme_kind g, o.tags))
  alike (scalar j v) (object ns) r s g h p = let o = one_field j 7 (content_in j v) (packed_items ns curly) r s p in absurd (omega (arith, lexeme_kind g, o.tags))
  alike (array ms) (scalar k w) r s g h p = let o = one_field 6 k (packed_items ms square) (content_in k w) r s p in absurd (omega (arith, lexeme_kind h, o.tags))
  alike (array ms) (array ns) r s g h p =
      let o = one_field 6 6 (packed_items ms square) (packed_items ns square) r s p in
      record { same = arrays (alike_items ms square ns g h o.contents); rests = o.rests }
  alike (array ms) (object ns) r s g h p = let o = one_field 6 7 (packed_items ms square) (packed_items ns curly) r s p in absurd (omega (arith, o.tags))
  alike (object ms) (scalar k w) r s g h p = let o = one_field 7 k (packed_items ms curly) (content_in k w) r s p in absurd (omega (arith, lexeme_kind h, o.tags))
  alike (object ms) (array ns) r s g h p = let o = one_field 7 6 (packed_items ms curly) (packed_items ns square) r s p in absurd (omega (arith, o.tags))
  alike (object ms) (object ns) r s g h p =
      let o = one_field 7 7 (packed_items ms curly) (packed_items ns curly) r s p in
      record { same = objects (alike_items ms curly ns g h o.contents); rests = o.rests }

  alike_items : (ms : Members) (b : Bracket) (ns : Members) → GoodIn b ms → GoodIn b ns → packed_items ms b ≡ packed_items ns b → SameItems b ms ns
  alike_items empty b empty g h p = none
  alike_items empty b (member m w e ns) g h p = some_item b m e (packed_items ns b) p
  alike_items (member n v d ms) b empty g h p = some_item b n d (packed_items ms b) (sym p)
  alike_items (member n v d ms) b (member m w e ns) g h p =
      let x = every_parts Labelled Lexeme b n v d ms g in
      let y = every_parts Labelled Lexeme b m w e ns h in
      let q = named b n m (packed d ++ packed_items ms b) (packed e ++ packed_items ns b) p in
      let a = alike d e (packed_items ms b) (packed_items ns b) x.1 y.1 q.1 in
      more q.0 a.same (alike_items ms b ns x.2 y.2 a.rests)

-- theorem: documents of texts that have one packing say the same value
pub same_value : (d e : Doc) → Every Labelled Lexeme d → Every Labelled Lexeme e → packed d ≡ packed e → SameValue d e
same_value d e g h p = (alike d e [] [] g h (ap (λ (x : List ℕ). x ++ []) p)).same
