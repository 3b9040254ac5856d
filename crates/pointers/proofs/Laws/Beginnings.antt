-- Keys by the bytes that they begin with, as they are written:
--     Begins, begins, uncoded    a pointer by the first byte of what is left of a key
--     alike-none, alike_next     keys that begin alike, byte by byte
--     alike-raw, same-written, same-plain     bytes that both have as they are written
--     alike-to-tilde, alike-past     what is left behind these decides, with the tildes that both have
--     by_first     their order, and whether they clash, by the first byte that differs
-- Assumes nothing.
use Rattle.std.specs.declared.cmp.Ordering.TheVariants.{Less, Greater}
use Prim.Native.Nat.{ℕ, zero, suc, ◌+◌, ◌-◌, ◌≤◌, ◌<◌}
use mathlib.Core.Path.{◌≡◌, refl, sym, ap, ◌∙◌}
use mathlib.Core.Logic.{◌≢◌}
use mathlib.Core.Bool.{Bool, true, false, not, cond, true≢false}
use mathlib.Core.List.{List, [], ◌∷◌}
use native.Mathlib.Omega.{arith}
use native.Mathlib.Numerals.{add-one}
use native.Mathlib.Decide.{ℕ_discrete, dec_le}
use lib.Dec.{eqb}
use lib.ListN.{length}
use borrow.Author.Tests.{ne_eqb, lt-ltb, le-ltb, eqb-false}
use Rattle.laws.specs.Order.{order_of, same}
use Rattle.laws.proofs.Orders.{order_on}
use Rattle.laws.proofs.Places.{inside}
use Rattle.text.specs.Text.{byte_at}
use Rattle.json_reader.specs.Cursors.{rest, cursor}
use Rattle.json_reader.specs.Names.{order_at, Raw}
use Rattle.json_reader.specs.Plain.{Plain, AlikeTo}
use Rattle.contact.specs.Pointer.{Pointer, last, down, push, split, plain, plain_parts, pointer_of, clash}
use Rattle.pointers.specs.Pointers.{pointer_order, is_coded, tells, pointer_from, SameAt, SameWritten, AlikeKeys, ends_before, rank_of}
use Rattle.pointers.proofs.Laws.Parts.{plain_tilde}
use Rattle.pointers.proofs.Laws.Glyphs.{rest_byte, rest_over}

-- ---- the first byte

-- a pointer by the first byte of its key, 256 where there is none; with what is left after it
pub data Begins (p : Pointer) (b : ℕ) : Pointer → Type 0 where
  over : {q : Pointer} → b ≡ 256 → p ≡ last [] → Begins p b q
  slash : {q : Pointer} → b ≡ 47 → p ≡ down [] q → Begins p b q
  byte : {q : Pointer} → b < 256 → b ≢ 47 → p ≡ push b q → Begins p b q

-- a byte that is no tilde stays what it is
plain_on : (b : ℕ) (n : List ℕ) → b ≢ 126 → plain (b ∷ n) ≡ b ∷ plain n
plain_on b [] ne = refl
plain_on b (c ∷ n) ne = rw (ne_eqb b 126 ne)

push_plain : (b : ℕ) (p : Pointer) → b ≢ 126 → plain_parts (push b p) ≡ push b (plain_parts p)
push_plain b (last n) ne = ap last (plain_on b n ne)
push_plain b (down n p) ne = ap (λ m. down m (plain_parts p)) (plain_on b n ne)

pointer_byte : (b : ℕ) (bs : List ℕ) → b ≢ 126 → b ≢ 47 → pointer_of (b ∷ bs) ≡ push b (pointer_of bs)
pointer_byte b bs tilde other = rw (ne_eqb b 47 other) (push_plain b (split bs) tilde)

pointer_slash : {b : ℕ} (bs : List ℕ) → b ≡ 47 → pointer_of (b ∷ bs) ≡ down [] (pointer_of bs)
pointer_slash bs e = rw e

pub begins : (t : List ℕ) (i : ℕ) → byte_at t i ≤ 256 → byte_at t i ≢ 126 → byte_at t i ≢ 92 → Begins (pointer_from t i) (byte_at t i) (pointer_from t (i + 1))
begins t i most tilde back = elim (ℕ_discrete (byte_at t i) 256) [
  | yes e ↦ over e (ap pointer_of (rest_over t i e))
  | no some ↦ elim (ℕ_discrete (byte_at t i) 47) [
    | yes e ↦ slash e (ap pointer_of (rest_byte t i back some) ∙ pointer_slash (rest t (cursor (i + 1) 0 0)) e)
    | no other ↦ byte (omega arith) other (ap pointer_of (rest_byte t i back some) ∙ pointer_byte (byte_at t i) (rest t (cursor (i + 1) 0 0)) tilde other)
  ]
]

-- a byte that is neither tilde nor backslash
uncoded : (b : ℕ) → is_coded b ≡ false → (b ≢ 126) × (b ≢ 92)
uncoded b e = (
  λ q. let t : is_coded 126 ≡ false = rw q at e in let z : ◌≡◌ {A = ℕ} 0 1 = cc in omega arith,
  λ q. let t : is_coded 92 ≡ false = rw q at e in let z : ◌≡◌ {A = ℕ} 0 1 = cc in omega arith,
)

record Telling (x y : ℕ) : Type 0 where
  differ : x ≢ y
  left : (x ≢ 126) × (x ≢ 92)
  right : (y ≢ 126) × (y ≢ 92)

telling : (x y : ℕ) → tells x y ≡ true → Telling x y
telling x y t = go (eqb x y) refl (is_coded x) refl (is_coded y) refl t
  where
    go : (s : Bool) → eqb x y ≡ s → (u : Bool) → is_coded x ≡ u → (v : Bool) → is_coded y ≡ v → cond s false (cond u false (not v)) ≡ true → Telling x y
    go true e u f v g h = absurd (true≢false (sym h))
    go false e true f v g h = absurd (true≢false (sym h))
    go false e false f true g h = absurd (true≢false (sym h))
    go false e false f false g h = record { differ = eqb-false x y e; left = uncoded x f; right = uncoded y g }

-- ---- keys that begin alike

order_same : (b : ℕ) (n m : List ℕ) → order_of (b ∷ n) (b ∷ m) ≡ order_of n m
order_same b n m = order_on b b n m (omega arith) (omega arith)

push_order : (b : ℕ) (p q : Pointer) → pointer_order (push b p) (push b q) ≡ pointer_order p q
unfolding pointer_order
push_order b (last n) (last m) = order_same b n m
push_order b (last n) (down m q) = rw (order_same b n m)
push_order b (down n p) (last m) = rw (order_same b n m)
push_order b (down n p) (down m q) = rw (order_same b n m)

same_same : (b : ℕ) (n m : List ℕ) → same (b ∷ n) (b ∷ m) ≡ same n m
same_same b n m = rw (order_same b n m)

push_clash : (b : ℕ) (p q : Pointer) → clash (push b p) (push b q) ≡ clash p q
push_clash b (last n) (last m) = same_same b n m
push_clash b (last n) (down m q) = same_same b n m
push_clash b (down n p) (last m) = same_same b n m
push_clash b (down n p) (down m q) = rw (same_same b n m)

slash_order : {p q p' q' : Pointer} → p ≡ down [] p' → q ≡ down [] q' → pointer_order p q ≡ pointer_order p' q'
unfolding pointer_order order_of
slash_order e f = rw (e, f)

slash_clash : {p q p' q' : Pointer} → p ≡ down [] p' → q ≡ down [] q' → clash p q ≡ clash p' q'
unfolding order_of
slash_clash e f = rw (e, f)

pub alike_none : (a b : List ℕ) → AlikeKeys a b 0
alike_none a b = record { order = refl; clashing = refl; first = omega arith }

-- behind bytes that push the same
alike_push : (a b : List ℕ) (k m c : ℕ) → AlikeKeys a b k → pointer_from a k ≡ push c (pointer_from a m) → pointer_from b k ≡ push c (pointer_from b m)
    → m ≤ length a → AlikeKeys a b m
alike_push a b k m c w p q long =
    record {
      order = sym (rw (p, q) (push_order c (pointer_from a m) (pointer_from b m))) ∙ w.order;
      clashing = sym (rw (p, q) (push_clash c (pointer_from a m) (pointer_from b m))) ∙ w.clashing;
      first = long;
    }

module _ (a b : List ℕ) (k : ℕ) (w : AlikeKeys a b k) (e : byte_at a k ≡ byte_at b k) (some : byte_at a k < 256) (tilde : byte_at a k ≢ 126)
    (back : byte_at a k ≢ 92) where
  pub alike_next : AlikeKeys a b (k + 1)
  alike_next = go (begins a k (omega arith) tilde back) (begins b k (omega (arith, e)) (λ z. tilde (e ∙ z)) (λ z. back (e ∙ z)))
    where
      long : k + 1 ≤ length a
      long = omega (arith, inside a k some)

      go : Begins (pointer_from a k) (byte_at a k) (pointer_from a (k + 1)) → Begins (pointer_from b k) (byte_at b k) (pointer_from b (k + 1)) → AlikeKeys a b (k + 1)
      go (over x p) q = absurd (omega arith)
      go (slash x p) (over y q) = absurd (omega arith)
      go (slash x p) (byte y ne q) = absurd (ne (sym e ∙ x))
      go (byte x ne p) (over y q) = absurd (omega arith)
      go (byte x ne p) (slash y q) = absurd (ne (e ∙ y))
      go (slash x p) (slash y q) =
          record { order = sym (slash_order p q) ∙ w.order; clashing = sym (slash_clash p q) ∙ w.clashing; first = long }
      go (byte x ne p) (byte y ne2 q) =
          alike_push a b k (k + 1) (byte_at a k) w p (q ∙ ap (λ (c : ℕ). push c (pointer_from b (k + 1))) (sym e)) long

-- ---- as they are written

plain_raw : (b : ℕ) → Plain b → Raw b
plain_raw b p = record { byte = omega (arith, p.ascii); no_escape = p.no_slash }

pub alike_raw : {a b : List ℕ} {i j k : ℕ} → AlikeTo Plain a i b j k → AlikeTo Raw a i b j k
alike_raw r = record { alike = λ m h. let here = r.alike m h in (here.0, plain_raw _ here.1); first = r.first; second = r.second }

pub same_written : (a b : List ℕ) {k : ℕ} → AlikeTo Raw a 0 b 0 k → SameWritten a b k
same_written a b r i h =
    let z : 0 + i ≡ i = omega arith in
    let here = r.alike i h in
    record { same = rw z at here.0; byte = rw z at here.1.byte; no_escape = rw z at here.1.no_escape }

pub same_plain : (a b : List ℕ) {k : ℕ} → AlikeTo Plain a 0 b 0 k → SameWritten a b k
same_plain a b run = same_written a b (alike_raw run)

-- ---- with tildes that both have

coded_tilde : (p : Pointer) → plain_parts (push 126 (push 48 p)) ≡ push 126 (plain_parts p)
coded_tilde (last n) = refl
coded_tilde (down n p) = refl

coded_slash : (p : Pointer) → plain_parts (push 126 (push 49 p)) ≡ push 47 (plain_parts p)
coded_slash (last n) = refl
coded_slash (down n p) = refl

-- before any other byte a tilde stands for itself
push_alone : (c : ℕ) (p : Pointer) → c ≢ 49 → c ≢ 48 → plain_parts (push 126 (push c p)) ≡ push 126 (plain_parts (push c p))
push_alone c (last n) one nought = ap last (plain_tilde c n one nought)
push_alone c (down n p) one nought = ap (λ m. down m (plain_parts p)) (plain_tilde c n one nought)

pointer_alone : (c : ℕ) (bs : List ℕ) → c ≢ 49 → c ≢ 48 → pointer_of (126 ∷ c ∷ bs) ≡ push 126 (pointer_of (c ∷ bs))
pointer_alone c bs one nought = elim (ℕ_discrete c 47) [
  | yes e ↦ rw e refl
  | no other ↦ rw (ne_eqb c 47 other) (push_alone c (split bs) one nought)
]

-- what is left of a key at a tilde and a byte that is no backslash
at_tilde : (t : List ℕ) (k c : ℕ) → byte_at t k ≡ 126 → byte_at t (k + 1) ≡ c → c < 256 → c ≢ 92
    → rest t (cursor k 0 0) ≡ 126 ∷ c ∷ rest t (cursor (k + 2) 0 0)
at_tilde t k c e f small back =
    let two : k + 1 + 1 ≡ k + 2 = omega arith in
    let first = rest_byte t k (λ z. omega (arith, e)) (λ z. omega (arith, e)) in
    let second = rest_byte t (k + 1) (λ z. back (sym f ∙ z)) (λ z. omega (arith, f)) in
    first ∙ rw (e, second, f, two)

module _ (a b : List ℕ) (k : ℕ) (w : AlikeKeys a b k) (e : byte_at a k ≡ 126) (f : byte_at b k ≡ 126) (same : byte_at a (k + 1) ≡ byte_at b (k + 1))
    (some : byte_at a (k + 1) < 256) (back : byte_at a (k + 1) ≢ 92) where
  pair : (t : List ℕ) → byte_at t k ≡ 126 → byte_at t (k + 1) ≡ byte_at a (k + 1) → rest t (cursor k 0 0) ≡ 126 ∷ byte_at a (k + 1) ∷ rest t (cursor (k + 2) 0 0)
  pair t x y = at_tilde t k (byte_at a (k + 1)) x y some back

  -- a tilde and its digit
  alike_digit : (d c : ℕ) → byte_at a (k + 1) ≡ d → ((bs : List ℕ) → pointer_of (126 ∷ d ∷ bs) ≡ push c (pointer_of bs)) → AlikeKeys a b (k + 2)
  alike_digit d c g is =
      alike_push a b k (k + 2) c w (ap pointer_of (pair a e refl) ∙ rw g (is (rest a (cursor (k + 2) 0 0))))
      (ap pointer_of (pair b f (sym same)) ∙ rw g (is (rest b (cursor (k + 2) 0 0)))) (omega (arith, inside a (k + 1) some))

  -- a tilde before any other byte
  alike_alone : byte_at a (k + 1) ≢ 49 → byte_at a (k + 1) ≢ 48 → AlikeKeys a b (k + 1)
  alike_alone one nought =
      alike_push a b k (k + 1) 126 w (on a e refl) (on b f (sym same)) (omega (arith, inside a k (omega (arith, e))))
    where
      on : (t : List ℕ) → byte_at t k ≡ 126 → byte_at t (k + 1) ≡ byte_at a (k + 1) → pointer_from t k ≡ push 126 (pointer_from t (k + 1))
      on t x y =
          let c = byte_at a (k + 1) in
          let two : k + 1 + 1 ≡ k + 2 = omega arith in
          let next : rest t (cursor (k + 1) 0 0) ≡ c ∷ rest t (cursor (k + 2) 0 0) =
          rest_byte t (k + 1) (λ z. back (sym y ∙ z)) (λ z. omega (arith, y)) ∙ rw (y, two) in
          ap pointer_of (pair t x y) ∙ pointer_alone c (rest t (cursor (k + 2) 0 0)) one nought ∙ sym (ap (λ (bs : List ℕ). push 126 (pointer_of bs)) next)

-- behind a byte, the last of some that stand alike, what is left decides; a tilde is left too
record Upto (a b : List ℕ) (k : ℕ) : Type 0 where
  tilde : byte_at a k ≡ 126 → AlikeKeys a b k
  other : byte_at a k ≢ 126 → AlikeKeys a b (k + 1)

from_here : (a b : List ℕ) (k : ℕ) → SameAt a b k → AlikeKeys a b k → Upto a b k
from_here a b k h w =
    record { tilde = λ e. w; other = λ ne. alike_next a b k w h.same h.byte ne h.no_escape }

further : (a b : List ℕ) (k : ℕ) → SameAt a b k → SameAt a b (k + 1) → Upto a b k → Upto a b (k + 1)
further a b k h n u = elim (ℕ_discrete (byte_at a k) 126) [
  | no ne ↦ from_here a b (k + 1) n (u.other ne)
  | yes e ↦ elim (ℕ_discrete (byte_at a (k + 1)) 48) [
    | yes d ↦ digit e 48 126 d (λ bs. coded_tilde (split bs)) (omega arith)
    | no nought ↦ elim (ℕ_discrete (byte_at a (k + 1)) 49) [
      | yes d ↦ digit e 49 47 d (λ bs. coded_slash (split bs)) (omega arith)
      | no one ↦ from_here a b (k + 1) n
          (alike_alone a b k (u.tilde e) e (sym h.same ∙ e) n.same n.byte n.no_escape one nought)
    ]
  ]
]
  where
    digit : byte_at a k ≡ 126 → (d c : ℕ) → byte_at a (k + 1) ≡ d → ((bs : List ℕ) → pointer_of (126 ∷ d ∷ bs) ≡ push c (pointer_of bs)) → d < 126 → Upto a b (k + 1)
    digit e d c g is small =
        let two : k + 1 + 1 ≡ k + 2 = omega arith in
        record {
          tilde = λ z. absurd (omega arith);
          other = λ ne. rw two (alike_digit a b k (u.tilde e) e (sym h.same ∙ e) n.same n.byte n.no_escape d c g is);
        }

module _ (a b : List ℕ) where
  upto : (k : ℕ) → ((i : ℕ) → i < suc k → SameAt a b i) → Upto a b k
  upto zero alike = from_here a b 0 (alike 0 (omega arith)) (alike_none a b)
  upto (suc k) alike =
      rw (← add-one k)
      (further a b k (alike k (omega arith)) (alike (k + 1) (omega arith)) (upto k (λ i h. alike i (omega arith))))

  module _ (k : ℕ) (run : SameWritten a b k) (some : 0 < k) where
    last_of : Upto a b (k - 1)
    last_of = upto (k - 1) (λ i h. run i (omega arith))

    pub alike_to_tilde : byte_at a (k - 1) ≡ 126 → AlikeKeys a b (k - 1)
    alike_to_tilde e = last_of.tilde e

    pub alike_past : byte_at a (k - 1) ≢ 126 → AlikeKeys a b k
    alike_past ne = let e : k - 1 + 1 ≡ k = omega arith in rw e at (last_of.other ne)

-- ---- the first byte that differs

-- a pointer that begins with a byte, against one that ends, one whose part ends, and one that begins with another
end_less : (y : ℕ) (q : Pointer) → (pointer_order (last []) (push y q) ≡ Less) × (clash (last []) (push y q) ≡ false)
unfolding pointer_order order_of
end_less y (last m) = (refl, refl)
end_less y (down m q) = (refl, refl)

part_less : (p : Pointer) (y : ℕ) (q : Pointer) → (pointer_order (down [] p) (push y q) ≡ Less) × (clash (down [] p) (push y q) ≡ false)
unfolding pointer_order order_of
part_less p y (last m) = (refl, refl)
part_less p y (down m q) = (refl, refl)

end_more : (x : ℕ) (p : Pointer) → (pointer_order (push x p) (last []) ≡ Greater) × (clash (push x p) (last []) ≡ false)
unfolding pointer_order order_of
end_more x (last n) = (refl, refl)
end_more x (down n p) = (refl, refl)

part_more : (x : ℕ) (p q : Pointer) → (pointer_order (push x p) (down [] q) ≡ Greater) × (clash (push x p) (down [] q) ≡ false)
unfolding pointer_order order_of
part_more x (last n) q = (refl, refl)
part_more x (down n p) q = (refl, refl)

byte_less : (x y : ℕ) (p q : Pointer) → x < y → (pointer_order (push x p) (push y q) ≡ Less) × (clash (push x p) (push y q) ≡ false)
unfolding pointer_order order_of
byte_less x y (last n) (last m) h = (rw (lt-ltb x y h), rw (lt-ltb x y h))
byte_less x y (last n) (down m q) h = (rw (lt-ltb x y h), rw (lt-ltb x y h))
byte_less x y (down n p) (last m) h = (rw (lt-ltb x y h), rw (lt-ltb x y h))
byte_less x y (down n p) (down m q) h = (rw (lt-ltb x y h), rw (lt-ltb x y h))

byte_more : (x y : ℕ) (p q : Pointer) → y < x → (pointer_order (push x p) (push y q) ≡ Greater) × (clash (push x p) (push y q) ≡ false)
unfolding pointer_order order_of
byte_more x y (last n) (last m) h = (rw (le-ltb x y (omega arith), lt-ltb y x h), rw (le-ltb x y (omega arith), lt-ltb y x h))
byte_more x y (last n) (down m q) h = (rw (le-ltb x y (omega arith), lt-ltb y x h), rw (le-ltb x y (omega arith), lt-ltb y x h))
byte_more x y (down n p) (last m) h = (rw (le-ltb x y (omega arith), lt-ltb y x h), rw (le-ltb x y (omega arith), lt-ltb y x h))
byte_more x y (down n p) (down m q) h = (rw (le-ltb x y (omega arith), lt-ltb y x h), rw (le-ltb x y (omega arith), lt-ltb y x h))

-- ranks of bytes
byte_rank : (b : ℕ) → b < 256 → b ≢ 47 → (0 < rank_of b) × (rank_of b < 256)
byte_rank b lt ne = elim (dec_le 47 b) [
  | yes h ↦ rw (le-ltb b 47 h, ne_eqb b 47 ne) (omega arith, lt)
  | no h ↦ rw (lt-ltb b 47 (omega arith)) (omega arith, omega arith)
]

rank_less : (x y : ℕ) → x ≢ 47 → y ≢ 47 → x < y → rank_of x < rank_of y
rank_less x y nx ny lt = elim (dec_le 47 x) [
  | yes h ↦ rw (le-ltb x 47 h, ne_eqb x 47 nx, le-ltb y 47 (omega arith), ne_eqb y 47 ny) lt
  | no h ↦ elim (dec_le 47 y) [
    | yes k ↦ rw (lt-ltb x 47 (omega arith), le-ltb y 47 k, ne_eqb y 47 ny) (omega arith)
    | no k ↦ rw (lt-ltb x 47 (omega arith), lt-ltb y 47 (omega arith)) (omega arith)
  ]
]

at_less : (p q : ℕ) → p < q → q < 256 → order_at p q ≡ Less
unfolding order_at
at_less p q lt h = rw (ne_eqb p q (λ e. omega arith), ne_eqb p 256 (λ e. omega arith), ne_eqb q 256 (λ e. omega arith), lt-ltb p q lt)

at_more : (p q : ℕ) → q < p → p < 256 → order_at p q ≡ Greater
unfolding order_at
at_more p q lt h = rw (ne_eqb p q (λ e. omega arith), ne_eqb p 256 (λ e. omega arith), ne_eqb q 256 (λ e. omega arith), le-ltb p q (omega arith))

over_less : (q : ℕ) → q < 256 → order_at 256 q ≡ Less
unfolding order_at
over_less q h = rw (ne_eqb 256 q (λ e. omega arith))

over_more : (p : ℕ) → p < 256 → order_at p 256 ≡ Greater
unfolding order_at
over_more p h = rw (ne_eqb p 256 (λ e. omega arith))

not_over : (b : ℕ) → b < 256 → eqb b 256 ≡ false
not_over b h = ne_eqb b 256 (λ e. omega arith)

module _ {p q p' q' : Pointer} (x y : ℕ) (differ : x ≢ y) where
  differ_order : Begins p x p' → Begins q y q' → order_at (rank_of x) (rank_of y) ≡ pointer_order p q
  unfolding pointer_order order_of order_at
  differ_order (over a e) (over b f) = absurd (differ (a ∙ sym b))
  differ_order (over a e) (slash b f) = rw (a, b, e, f)
  differ_order (over a e) (byte b ne f) = rw (a, e, f, (end_less y q').0) (over_less (rank_of y) (byte_rank y b ne).1)
  differ_order (slash a e) (over b f) = rw (a, b, e, f)
  differ_order (slash a e) (slash b f) = absurd (differ (a ∙ sym b))
  differ_order (slash a e) (byte b ne f) = rw (a, e, f, (part_less p' y q').0) (at_less 0 (rank_of y) (byte_rank y b ne).0 (byte_rank y b ne).1)
  differ_order (byte a ne e) (over b f) = rw (b, e, f, (end_more x p').0) (over_more (rank_of x) (byte_rank x a ne).1)
  differ_order (byte a ne e) (slash b f) = rw (b, e, f, (part_more x p' q').0) (at_more (rank_of x) 0 (byte_rank x a ne).0 (byte_rank x a ne).1)
  differ_order (byte a ne e) (byte b ne2 f) = elim (dec_le x y) [
    | yes le ↦ let lt : x < y = omega arith in
        rw (e, f, (byte_less x y p' q' lt).0) (at_less (rank_of x) (rank_of y) (rank_less x y ne ne2 lt) (byte_rank y b ne2).1)
    | no gt ↦ let lt : y < x = omega arith in
        rw (e, f, (byte_more x y p' q' lt).0) (at_more (rank_of x) (rank_of y) (rank_less y x ne2 ne lt) (byte_rank x a ne).1)
  ]

  differ_clash : Begins p x p' → Begins q y q' → ends_before x y ≡ clash p q
  unfolding order_of
  differ_clash (over a e) (over b f) = absurd (differ (a ∙ sym b))
  differ_clash (over a e) (slash b f) = rw (a, b, e, f)
  differ_clash (over a e) (byte b ne f) = rw (a, ne_eqb y 47 ne, e, f, (end_less y q').1)
  differ_clash (slash a e) (over b f) = rw (a, b, e, f)
  differ_clash (slash a e) (slash b f) = absurd (differ (a ∙ sym b))
  differ_clash (slash a e) (byte b ne f) = rw (a, not_over y b, e, f, (part_less p' y q').1)
  differ_clash (byte a ne e) (over b f) = rw (b, not_over x a, ne_eqb x 47 ne, e, f, (end_more x p').1)
  differ_clash (byte a ne e) (slash b f) = rw (b, not_over x a, e, f, (part_more x p' q').1)
  differ_clash (byte a ne e) (byte b ne2 f) = elim (dec_le x y) [
    | yes le ↦ let lt : x < y = omega arith in rw (not_over x a, not_over y b, e, f, (byte_less x y p' q' lt).1)
    | no gt ↦ let lt : y < x = omega arith in rw (not_over x a, not_over y b, e, f, (byte_more x y p' q' lt).1)
  ]

-- both, by two bytes that tell it
pub by_first : (a b : List ℕ) (k : ℕ) {x y : ℕ} → (x ≡ byte_at a k) × (x ≤ 256) → (y ≡ byte_at b k) × (y ≤ 256) → tells x y ≡ true
    → (order_at (rank_of x) (rank_of y) ≡ pointer_order (pointer_from a k) (pointer_from b k)) × (ends_before x y ≡ clash (pointer_from a k) (pointer_from b k))
by_first a b k {x} {y} (e, most) (f, top) t =
    let u = telling x y t in
    let p : Begins (pointer_from a k) x (pointer_from a (k + 1)) = rw e (begins a k (omega arith) (λ z. u.left.0 (e ∙ z)) (λ z. u.left.1 (e ∙ z))) in
    let q : Begins (pointer_from b k) y (pointer_from b (k + 1)) = rw f (begins b k (omega arith) (λ z. u.right.0 (f ∙ z)) (λ z. u.right.1 (f ∙ z))) in
    (differ_order x y u.differ p q, differ_clash x y u.differ p q)
