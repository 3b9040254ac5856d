-- A key without a loose `~` is the text of one pointer, which `pointer_of` finds: `pointer_iff`. Two keys of one pointer are one key: `one_key`.
-- Assumes nothing.
use mathlib.Core.Path.{◌≡◌, refl, sym, ap, ap₂, ◌∙◌}
use mathlib.Core.Bool.{false, not, ◌&&◌, true≢false}
use mathlib.Core.Logic.{◌↔◌, ◌≢◌}
use mathlib.Core.List.{List, [], ◌∷◌, ◌++◌}
use Prim.Native.Nat.{ℕ}
use lib.Dec.{eqb}
use borrow.Author.Tests.{eqb-true, eqb-false, ne_eqb}
use Rattle.laws.proofs.Bools.{by_test, or_false}
use Rattle.text.specs.Doc.{Name}
use Rattle.contact.specs.Pointer.{Pointer, last, down, push, split, plain, plain_parts, pointer_of, zero_or_one, bad_tilde}
use Rattle.contact.specs.Conditions.{LooseTilde}
use Rattle.contact.specs.PointerText.{PartText, none, byte, tilde, slash, PointerText, one, more}
use Rattle.contact.proofs.Patching.Tilde.{tilde_iff}

-- ---- a part

pub plain_byte : (b : ℕ) (bs : List ℕ) → eqb b 126 ≡ false → plain (b ∷ bs) ≡ b ∷ plain bs
plain_byte b [] h = refl
plain_byte b (c ∷ bs) h = rw h

-- another byte after `~` leaves both as they are
pub plain_loose : (b c : ℕ) (bs : List ℕ) → eqb c 49 ≡ false → eqb c 48 ≡ false → plain (b ∷ c ∷ bs) ≡ b ∷ plain (c ∷ bs)
plain_loose b c bs h k = by_test (eqb b 126) (λ x. rw (x, h, k)) (λ x. rw x)

part_plain : {bs : List ℕ} {n : Name} → PartText bs n → plain bs ≡ n
part_plain none = refl
part_plain (byte {b = b} {bs = bs} h k x) = plain_byte b bs (ne_eqb b 126 k) ∙ ap (λ (n : Name). b ∷ n) (part_plain x)
part_plain (tilde x) = ap (λ (n : Name). 126 ∷ n) (part_plain x)
part_plain (slash x) = ap (λ (n : Name). 47 ∷ n) (part_plain x)

part_last : {bs : List ℕ} {n : Name} → PartText bs n → split bs ≡ last bs
part_last none = refl
part_last (byte {b = b} h k x) = rw (ne_eqb b 47 h) (ap (push b) (part_last x))
part_last (tilde x) = ap (λ (p : Pointer). push 126 (push 48 p)) (part_last x)
part_last (slash x) = ap (λ (p : Pointer). push 126 (push 49 p)) (part_last x)

part_split : {bs : List ℕ} {n : Name} (cs : List ℕ) → PartText bs n → split (bs ++ (47 ∷ cs)) ≡ down bs (split cs)
part_split cs none = refl
part_split cs (byte {b = b} h k x) = rw (ne_eqb b 47 h) (ap (push b) (part_split cs x))
part_split cs (tilde x) = ap (λ (p : Pointer). push 126 (push 48 p)) (part_split cs x)
part_split cs (slash x) = ap (λ (p : Pointer). push 126 (push 49 p)) (part_split cs x)

-- ---- what is written is found

text_pointer : {key : List ℕ} {p : Pointer} → PointerText key p → p ≡ pointer_of key
text_pointer (one {bs = bs} x) = sym (ap plain_parts (part_last x) ∙ ap last (part_plain x))
text_pointer (more {bs = bs} {cs = cs} {n = n} {p = p} x y) =
    sym (ap plain_parts (part_split cs x) ∙ ap₂ down (part_plain x) (sym (text_pointer y)))

-- ---- and has no loose `~`

part_tilde : {bs : List ℕ} {n : Name} (cs : List ℕ) → PartText bs n → bad_tilde (bs ++ (47 ∷ cs)) ≡ bad_tilde cs
part_tilde cs none = refl
part_tilde cs (byte {b = b} h k x) = rw (ne_eqb b 126 k) (part_tilde cs x)
part_tilde cs (tilde x) = part_tilde cs x
part_tilde cs (slash x) = part_tilde cs x

part_alone : {bs : List ℕ} {n : Name} → PartText bs n → bad_tilde bs ≡ false
part_alone none = refl
part_alone (byte {b = b} h k x) = rw (ne_eqb b 126 k) (part_alone x)
part_alone (tilde x) = part_alone x
part_alone (slash x) = part_alone x

text_tilde : {key : List ℕ} {p : Pointer} → PointerText key p → bad_tilde key ≡ false
text_tilde (one x) = part_alone x
text_tilde (more {cs = cs} x y) = part_tilde cs x ∙ text_tilde y

-- ---- every key without one is written so

push_byte : {key : List ℕ} {p : Pointer} (b : ℕ) → b ≢ 47 → b ≢ 126 → PointerText key p → PointerText (b ∷ key) (push b p)
push_byte b h k (one x) = one (byte h k x)
push_byte b h k (more x y) = more (byte h k x) y

push_tilde : {key : List ℕ} {p : Pointer} → PointerText key p → PointerText (126 ∷ 48 ∷ key) (push 126 p)
push_tilde (one x) = one (tilde x)
push_tilde (more x y) = more (tilde x) y

push_slash : {key : List ℕ} {p : Pointer} → PointerText key p → PointerText (126 ∷ 49 ∷ key) (push 47 p)
push_slash (one x) = one (slash x)
push_slash (more x y) = more (slash x) y

plain_push : (b : ℕ) (p : Pointer) → eqb b 126 ≡ false → plain_parts (push b p) ≡ push b (plain_parts p)
plain_push b (last n) h = ap last (plain_byte b n h)
plain_push b (down n p) h = ap (λ (m : Name). down m (plain_parts p)) (plain_byte b n h)

plain_tilde : (p : Pointer) → plain_parts (push 126 (push 48 p)) ≡ push 126 (plain_parts p)
plain_tilde (last n) = refl
plain_tilde (down n p) = refl

plain_slash : (p : Pointer) → plain_parts (push 126 (push 49 p)) ≡ push 47 (plain_parts p)
plain_slash (last n) = refl
plain_slash (down n p) = refl

-- the pointer of the key, in three ways to begin it
Written : Name → Type 0
Written key = PointerText key (pointer_of key)

begin_other : (b : ℕ) (bs : List ℕ) → eqb b 126 ≡ false → Written bs → Written (b ∷ bs)
unfolding Written
begin_other b bs h x =
    by_test (eqb b 47)
    (λ e. rw (eqb-true b 47 e) (more none x))
    (λ e. rw (e, plain_push b (split bs) h) (push_byte b (eqb-false b 47 e) (eqb-false b 126 h) x))

begin_tilde : (b c : ℕ) (bs : List ℕ) → b ≡ 126 → c ≡ 48 → Written bs → Written (b ∷ c ∷ bs)
unfolding Written
begin_tilde b c bs e f x = rw (e, f, plain_tilde (split bs)) (push_tilde x)

begin_slash : (b c : ℕ) (bs : List ℕ) → b ≡ 126 → c ≡ 49 → Written bs → Written (b ∷ c ∷ bs)
unfolding Written
begin_slash b c bs e f x = rw (e, f, plain_slash (split bs)) (push_slash x)

after : (b : ℕ) (bs : List ℕ) → bad_tilde (b ∷ bs) ≡ false → bad_tilde bs ≡ false
after b bs h = (or_false (eqb b 126 && not (zero_or_one bs)) (bad_tilde bs) h).1

written : (key : Name) → bad_tilde key ≡ false → Written key
unfolding Written
written [] h = one none
written (b ∷ []) h =
    by_test (eqb b 126) (λ x. absurd (true≢false (simp x at h))) (λ x. begin_other b [] x (one none))
written (b ∷ c ∷ bs) h =
    by_test (eqb b 126)
    (λ x. by_test (eqb c 48)
    (λ y. begin_tilde b c bs (eqb-true b 126 x) (eqb-true c 48 y) (written bs (after c bs (after b (c ∷ bs) h))))
    (λ y. by_test (eqb c 49)
    (λ z. begin_slash b c bs (eqb-true b 126 x) (eqb-true c 49 z) (written bs (after c bs (after b (c ∷ bs) h))))
    (λ z. absurd (true≢false (simp (x, y, z) at h)))))
    (λ x. begin_other b (c ∷ bs) x (written (c ∷ bs) (after b (c ∷ bs) h)))

-- ---- the theorems

pub pointer_iff : (key : Name) (p : Pointer) → PointerText key p ↔ ((bad_tilde key ≡ false) × (p ≡ pointer_of key))
unfolding Written
pointer_iff key p = (λ x. (text_tilde x, text_pointer x), λ h. rw h.1 (written key h.0))

-- the same in words
pub key_iff : (key : Name) (p : Pointer) → PointerText key p ↔ ((¬ LooseTilde key) × (p ≡ pointer_of key))
key_iff key p = (
  λ x. ((λ l. true≢false (sym ((tilde_iff key).1 l) ∙ ((pointer_iff key p).0 x).0)), ((pointer_iff key p).0 x).1),
  λ h. (pointer_iff key p).1 (by_test (bad_tilde key) (λ b. absurd (h.0 ((tilde_iff key).0 b))) (λ b. b), h.1),
)

pub part_one : {bs cs : List ℕ} {n : Name} → PartText bs n → PartText cs n → bs ≡ cs
part_one none none = refl
part_one (byte {b = b} h k x) (byte h' k' y) = ap (λ (l : List ℕ). b ∷ l) (part_one x y)
part_one (byte h k x) (tilde y) = absurd (k refl)
part_one (byte h k x) (slash y) = absurd (h refl)
part_one (tilde x) (byte h k y) = absurd (k refl)
part_one (tilde x) (tilde y) = ap (λ (l : List ℕ). 126 ∷ 48 ∷ l) (part_one x y)
part_one (slash x) (byte h k y) = absurd (h refl)
part_one (slash x) (slash y) = ap (λ (l : List ℕ). 126 ∷ 49 ∷ l) (part_one x y)

text_one : {key other : List ℕ} {p : Pointer} → PointerText key p → PointerText other p → key ≡ other
text_one (one x) (one y) = part_one x y
text_one (more x y) (more x' y') = λ i. part_one x x' i ++ (47 ∷ text_one y y' i)

-- two keys without a loose `~` that mean one pointer are one key
pub one_key : (key other : Name) → bad_tilde key ≡ false → bad_tilde other ≡ false → pointer_of key ≡ pointer_of other → key ≡ other
unfolding Written
one_key key other h k e = text_one (written key h) (rw e (written other k))

-- ---- of `~01`

pub tilde_zero_one : (bs : List ℕ) → plain (126 ∷ 48 ∷ 49 ∷ bs) ≡ 126 ∷ plain (49 ∷ bs)
tilde_zero_one bs = refl
