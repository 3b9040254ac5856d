-- The parts of a key that is UTF-8 are UTF-8, so an added name is said by its spelling: `part_said`.
-- Assumes nothing.
use mathlib.Core.Path.{◌≡◌, refl, sym, ap, ◌∙◌, subst}
use mathlib.Core.List.{List, [], ◌∷◌, ◌++◌}
use Prim.Native.Nat.{ℕ, ◌<◌}
use native.Mathlib.Omega.{arith}
use lib.Dec.{eqb}
use borrow.Author.Tests.{eqb-true, eqb-false, ne_eqb}
use Rattle.laws.proofs.Bools.{by_test}
use Rattle.text.specs.Doc.{Name}
use Rattle.text.specs.Utf8.{utf8}
use Rattle.text.specs.Spelling.{Good, utf8s}
use Rattle.text.specs.Writing.{spelled}
use Rattle.text.specs.Labels.{Labelled}
use Rattle.text.proofs.Spelling.Codes.{ascii_good, by_utf8, one_byte}
use Rattle.text.proofs.Spelling.Encoding.{AllGood, spells_good}
use Rattle.text.proofs.NewNames.{new_label}
use Rattle.contact.specs.Pointer.{Pointer, last, down, last_part, push, split, plain, plain_parts, pointer_of}
use Rattle.contact.proofs.Patching.Pointers.{plain_byte, plain_loose}

-- a name that is the UTF-8 of code points that a string may hold
record Clean (n : Name) : Type 0 where
  codes : List ℕ
  good : AllGood codes
  is : n ≡ utf8s codes

clean_none : Clean []
unfolding utf8s
clean_none = record { codes = []; good = tt; is = refl }

clean_more : (c : ℕ) (n : Name) → Good c → Clean n → Clean (utf8 c ++ n)
unfolding utf8s
clean_more c n g h = record { codes = c ∷ h.codes; good = (g, h.good); is = ap (λ (x : List ℕ). utf8 c ++ x) h.is }

-- the same of a character of one byte
clean_byte : (b : ℕ) (n : Name) → b < 128 → Clean n → Clean (b ∷ n)
clean_byte b n l h = rw (one_byte b l) at (clean_more b n (ascii_good b l) h)

-- ---- a character that is not looked for has none of its bytes looked for

-- no byte of these is x
abbrev Free : ℕ → List ℕ → Type 0
Free x [] = Unit {0}
Free x (b ∷ w) = (b ≡ x → ⊥) × Free x w

utf8_free : (x c : ℕ) → x < 128 → (c ≡ x → ⊥) → Free x (utf8 c)
utf8_free x c l n =
    by_utf8 (Free x) c
    (λ h. (n, tt))
    (λ h k. (λ e. omega arith, (λ e. omega arith, tt)))
    (λ h k. (λ e. omega arith, (λ e. omega arith, (λ e. omega arith, tt))))
    (λ h. (λ e. omega arith, (λ e. omega arith, (λ e. omega arith, (λ e. omega arith, tt)))))

-- ---- splitting at `/`

-- bytes put in front of the first part
abbrev push_all : List ℕ → Pointer → Pointer
push_all [] p = p
push_all (b ∷ w) p = push b (push_all w p)

split_free : (w r : List ℕ) → Free 47 w → split (w ++ r) ≡ push_all w (split r)
split_free [] r h = refl
split_free (b ∷ w) r h = rw (ne_eqb b 47 h.0) (ap (push b) (split_free w r h.1))

abbrev CleanParts : Pointer → Type 0
CleanParts (last n) = Clean n
CleanParts (down n p) = Clean n × CleanParts p

push_last : (w : List ℕ) (n : Name) → push_all w (last n) ≡ last (w ++ n)
push_last [] n = refl
push_last (b ∷ w) n = ap (push b) (push_last w n)

push_down : (w : List ℕ) (n : Name) (p : Pointer) → push_all w (down n p) ≡ down (w ++ n) p
push_down [] n p = refl
push_down (b ∷ w) n p = ap (push b) (push_down w n p)

push_clean : (c : ℕ) (p : Pointer) → Good c → CleanParts p → CleanParts (push_all (utf8 c) p)
push_clean c (last n) g h = rw (push_last (utf8 c) n) (clean_more c n g h)
push_clean c (down n p) g h = rw (push_down (utf8 c) n p) (clean_more c n g h.0, h.1)

split_clean : (cs : List ℕ) → AllGood cs → CleanParts (split (utf8s cs))
unfolding utf8s
split_clean [] g = clean_none
split_clean (c ∷ cs) g =
    by_test (eqb c 47)
    (λ x. let e : c ≡ 47 = eqb-true c 47 x in
    rw (e, one_byte 47 (omega arith)) (clean_none, split_clean cs g.1))
    (λ x. rw (split_free (utf8 c) (utf8s cs) (utf8_free 47 c (omega arith) (eqb-false c 47 x))) (push_clean c (split (utf8s cs)) g.0 (split_clean cs g.1)))

-- ---- undoing `~1` and `~0`

plain_free : (w r : List ℕ) → Free 126 w → plain (w ++ r) ≡ w ++ plain r
plain_free [] r h = refl
plain_free (b ∷ w) r h = plain_byte b (w ++ r) (ne_eqb b 126 h.0) ∙ ap (λ (x : List ℕ). b ∷ x) (plain_free w r h.1)

-- a `~` before another byte, and before another character
tilde_byte : (b : ℕ) (bs : List ℕ) → (b ≡ 48 → ⊥) → (b ≡ 49 → ⊥) → plain (126 ∷ b ∷ bs) ≡ 126 ∷ plain (b ∷ bs)
tilde_byte b bs m n = plain_loose 126 b bs (ne_eqb b 49 n) (ne_eqb b 48 m)

-- the first byte of these is neither 48 nor 49
abbrev Starts : List ℕ → Type 0
Starts [] = ⊥
Starts (b ∷ w) = (b ≡ 48 → ⊥) × (b ≡ 49 → ⊥)

utf8_starts : (c : ℕ) → (c ≡ 48 → ⊥) → (c ≡ 49 → ⊥) → Starts (utf8 c)
utf8_starts c m n =
    by_utf8 Starts c (λ h. (m, n)) (λ h k. (λ e. omega arith, λ e. omega arith)) (λ h k. (λ e. omega arith, λ e. omega arith)) (λ h. (λ e. omega arith, λ e. omega arith))

tilde_other : (w r : List ℕ) → Starts w → plain (126 ∷ w ++ r) ≡ 126 ∷ plain (w ++ r)
tilde_other [] r h = absurd h
tilde_other (b ∷ w) r h = tilde_byte b (w ++ r) h.0 h.1

-- what is left when a character stands before r, and when a `~` stands before both
clean_first : (c : ℕ) (r : List ℕ) → Good c → Clean (plain r) → Clean (plain (126 ∷ r)) → Clean (plain (utf8 c ++ r))
clean_first c r g h k =
    by_test (eqb c 126)
    (λ x. let e : utf8 c ++ r ≡ 126 ∷ r = ap (λ (d : ℕ). utf8 d ++ r) (eqb-true c 126 x) ∙ ap (λ (w : List ℕ). w ++ r) (one_byte 126 (omega arith)) in
    subst (λ (w : List ℕ). Clean (plain w)) (sym e) k)
    (λ x. subst Clean (sym (plain_free (utf8 c) r (utf8_free 126 c (omega arith) (eqb-false c 126 x)))) (clean_more c (plain r) g h))

-- a `~` and one digit before r
digit_first : (c d : ℕ) (r : List ℕ) → c ≡ d → d < 128 → 126 ∷ utf8 c ++ r ≡ 126 ∷ d ∷ r
digit_first c d r e l = ap (λ (x : ℕ). 126 ∷ utf8 x ++ r) e ∙ ap (λ (w : List ℕ). 126 ∷ w ++ r) (one_byte d l)

clean_second : (c : ℕ) (r : List ℕ) → Clean (plain r) → Clean (plain (utf8 c ++ r)) → Clean (plain (126 ∷ utf8 c ++ r))
clean_second c r h k =
    by_test (eqb c 49)
    (λ x. subst (λ (w : List ℕ). Clean (plain w)) (sym (digit_first c 49 r (eqb-true c 49 x) (omega arith))) (clean_byte 47 (plain r) (omega arith) h))
    (λ x. by_test (eqb c 48)
    (λ y. subst (λ (w : List ℕ). Clean (plain w)) (sym (digit_first c 48 r (eqb-true c 48 y) (omega arith))) (clean_byte 126 (plain r) (omega arith) h))
    (λ y. subst Clean (sym (tilde_other (utf8 c) r (utf8_starts c (eqb-false c 48 y) (eqb-false c 49 x)))) (clean_byte 126 (plain (utf8 c ++ r)) (omega arith) k)))

plain_clean : (cs : List ℕ) → AllGood cs → Clean (plain (utf8s cs)) × Clean (plain (126 ∷ utf8s cs))
unfolding utf8s
plain_clean [] g = (clean_none, clean_byte 126 [] (omega arith) clean_none)
plain_clean (c ∷ cs) g =
    let h = plain_clean cs g.1 in
    let k = clean_first c (utf8s cs) g.0 h.0 h.1 in
    (k, clean_second c (utf8s cs) h.0 k)

-- ---- the parts

last_clean : (p : Pointer) → CleanParts p → Clean (last_part (plain_parts p))
last_clean (last n) h = subst (λ (m : Name). Clean (plain m)) (sym h.is) (plain_clean h.codes h.good).0
last_clean (down n p) h = last_clean p h.1

pub part_said : (key : Name) (label : List ℕ) → Labelled key label → Labelled (last_part (pointer_of key)) (spelled (last_part (pointer_of key)))
part_said key label h =
    let c : Clean (last_part (pointer_of key)) = last_clean (split key) (rw h.says (split_clean h.codes (spells_good h.spells))) in
    rw c.is (new_label c.codes c.good)
