-- Laws of a string that is compared with a literal as written up to a place:
--     decode-over, decode-byte       decoding where no backslash stands
--     common-start, common-more      from the start, and one byte further
--     order-heads                    the order of two runs by their first bytes
--     literal-differs                where the string doesn't go on with a backslash, the bytes there decide
-- Assumes nothing.
use Rattle.std.specs.declared.cmp.Ordering.{Ordering}
use Prim.Native.Nat.{ℕ, ◌+◌, ◌≤◌, ◌<◌}
use mathlib.Core.Path.{◌≡◌, refl, sym, ◌∙◌}
use mathlib.Core.List.{List, [], ◌∷◌}
use native.Mathlib.Decide.{dec_le}
use native.Mathlib.Omega.{arith}
use lib.ListN.{length, get_or, drop_of_length-le, get_or-eq_default}
use lib.Dec.{eqb}
use borrow.Author.Tests.{eq-eqb, ne_eqb, eqb-true, eqb-false}
use Rattle.laws.specs.Order.{order_of, same}
use Rattle.laws.proofs.Bools.{by_test}
use Rattle.laws.proofs.Branches.{if_equal, if_less}
use Rattle.laws.proofs.Places.{inside, ended, drop_byte}
use Rattle.laws.proofs.Orders.{order_less, order_more, agree, absent}
use Rattle.text.specs.Text.{byte_at}
use Rattle.text.specs.Strings.{stop, piece, piece_by, decode_from, decode}
use Rattle.text.proofs.Walks.{decode_at}
use Rattle.json_reader.specs.Names.{Common, Alike, order_at}

-- ---- decoding where no backslash stands

pub decode_over : (t : List ℕ) (i : ℕ) → byte_at t i ≡ 256 → decode_from t i ≡ []
unfolding piece_by
decode_over t i e = decode_at t i stop (rw (eq-eqb _ _ e))

pub decode_byte : (t : List ℕ) (i : ℕ) → (byte_at t i ≡ 92 → ⊥) → (byte_at t i ≡ 256 → ⊥) → decode_from t i ≡ byte_at t i ∷ decode_from t (i + 1)
unfolding piece_by
decode_byte t i s e = decode_at t i (piece (byte_at t i ∷ []) 1) (rw (ne_eqb _ _ e, ne_eqb _ _ s))

-- ---- what is in common

pub common_start : (a b : List ℕ) → Common a b 0
common_start a b = record { literal = refl; within = omega arith }

pub common_more : (a b : List ℕ) (i : ℕ) → Common a b i → (byte_at a i ≡ 92 → ⊥) → byte_at a i < 256 → byte_at a i ≡ byte_at b i → Common a b (i + 1)
common_more a b i c s h e =
    let x = byte_at a i in
    let y = byte_at b i in
    let k = inside b i (omega arith) in
    let d = decode_byte a i s (λ z. omega arith) in
    record {
      literal = sym (rw (d, drop_byte b i k) (agree x y _ _ e)) ∙ c.literal;
      within = omega arith;
    }

-- ---- at the first difference

pub by_number : {G : Type 0} (a b : ℕ) → (a ≡ b → G) → ((a ≡ b → ⊥) → G) → G
by_number a b f g = by_test (eqb a b) (λ e. f (eqb-true a b e)) (λ e. g (eqb-false a b e))

apart : (x y : ℕ) → y ≤ x → (x ≡ y → ⊥) → y < x
apart x y h e = omega arith

-- where no 256 stands a list goes on
there : (l : List ℕ) (i : ℕ) → (byte_at l i ≡ 256 → ⊥) → i < length l
there l i e = elim (dec_le (length l) i) [
  | yes h ↦ absurd (e (get_or-eq_default l 256 h))
  | no h ↦ omega arith
]

-- two runs by their first bytes, 256 where one is over, which are the same only if both are over
pub order_heads : (p q : ℕ) (xs ys : List ℕ) {xs' ys' : List ℕ} → (p ≡ 256 → xs ≡ []) → ((p ≡ 256 → ⊥) → xs ≡ p ∷ xs') → (q ≡ 256 → ys ≡ [])
    → ((q ≡ 256 → ⊥) → ys ≡ q ∷ ys') → (p ≡ q → p ≡ 256) → order_at p q ≡ order_of xs ys
unfolding order_at order_of
order_heads p q xs ys {xs'} {ys'} ends heads ends' heads' stops =
    let P : Ordering → Type 0 = λ o. o ≡ order_of xs ys in
    if_equal P p q (λ e. rw (ends (stops e), ends' (sym e ∙ stops e)))
    (λ e. if_equal P p 256 (λ o. rw (ends o, heads' (λ z. e (o ∙ sym z))))
    (λ o. if_equal P q 256 (λ z. rw (heads o, ends' z))
    (λ z. if_less P p q (λ l. rw (heads o, heads' z) (sym (order_less p q xs' ys' l)))
    (λ l. rw (heads o, heads' z) (sym (order_more p q xs' ys' (apart p q l e)))))))

module _ (a b : List ℕ) (i : ℕ) (h : Alike a b i) (s : byte_at a i ≡ 92 → ⊥) where
  -- small: the literal has bytes only
  pub literal_differs : get_or b i 0 < 256 → eqb (byte_at a i) (byte_at b i) ≡ same (decode a) b
  unfolding order_of
  literal_differs small =
      by_number (byte_at a i) (byte_at b i)
      (λ e. let o = h.stops e s in rw (eq-eqb _ _ e, ← h.common.literal, decode_over a i o, drop_of_length-le b (ended b i small (sym e ∙ o))))
      (λ e. by_number (byte_at a i) 256
      (λ o. rw (ne_eqb _ _ e, ← h.common.literal, decode_over a i o, drop_byte b i (there b i (λ q. e (o ∙ sym q)))))
      (λ o. rw (ne_eqb _ _ e, ← h.common.literal, decode_byte a i s o) (sym (absent b i (byte_at a i) (decode_from a (i + 1)) e))))
