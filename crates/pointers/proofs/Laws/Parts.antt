-- Laws of pointers as they are read byte by byte:
--     part-plain, part-tilde          the first part of a key, by its first byte
--     plain-tilde                     a `~` that neither `0` nor `1` follows
--     tail-on                         what follows the first part
--     ends, goes                      a pointer by what follows its first part
--     order_sides                     the order of what is left at two cursors
--     taken, over                     what is read of a part, and what is left of it
-- Assumes nothing.
use Rattle.std.specs.Prelude.{Option, Some, None}
use mathlib.Core.Path.{◌≡◌, refl, ap, sym, ◌∙◌}
use mathlib.Core.Bool.{Bool, true, false}
use mathlib.Core.List.{List, [], ◌∷◌}
use mathlib.Core.Option.{none, some}
use Prim.Native.Nat.{ℕ}
use native.Mathlib.Omega.{arith}
use native.Mathlib.Decide.{ℕ_discrete}
use borrow.Author.Tests.{ne_eqb}
use Rattle.laws.specs.Order.{order_of}
use Rattle.text.specs.Doc.{Name}
use Rattle.contact.specs.Pointer.{Pointer, last, down, push, split, plain, plain_parts, pointer_of, first_part}
use Rattle.pointers.specs.Parts.{part_left, part_unread, tilde_left, name_left, name_unread, beyond}
use Rattle.json_reader.specs.Cursors.{rest, unread}
use Rattle.json_reader.specs.declared.decode.Cursor.{Cursor}

-- ---- the first part ----

first_push : (b : ℕ) (p : Pointer) → first_part (push b p) ≡ b ∷ first_part p
first_push b (last n) = refl
first_push b (down n p) = refl

first_plain : (p : Pointer) → first_part (plain_parts p) ≡ plain (first_part p)
first_plain (last n) = refl
first_plain (down n p) = refl

split_on : (b : ℕ) (bs : List ℕ) → (b ≡ 47 → ⊥) → split (b ∷ bs) ≡ push b (split bs)
split_on b bs ne = rw (ne_eqb b 47 ne)

-- a byte that is no `/` stands before what the bytes after it begin with
raw_on : (b : ℕ) (bs : List ℕ) → (b ≡ 47 → ⊥) → part_left (b ∷ bs) ≡ plain (b ∷ first_part (split bs))
raw_on b bs ne = first_plain (split (b ∷ bs)) ∙ ap (λ p. plain (first_part p)) (split_on b bs ne) ∙ ap plain (first_push b (split bs))

plain_byte : (b : ℕ) (n : Name) → (b ≡ 126 → ⊥) → plain (b ∷ n) ≡ b ∷ plain n
plain_byte b [] ne = refl
plain_byte b (c ∷ n) ne = rw (ne_eqb b 126 ne)

pub part_plain : (b : ℕ) (bs : List ℕ) → (b ≡ 47 → ⊥) → (b ≡ 126 → ⊥) → part_left (b ∷ bs) ≡ b ∷ part_left bs
part_plain b bs slash tilde =
    raw_on b bs slash ∙ plain_byte b (first_part (split bs)) tilde ∙ ap (λ n. b ∷ n) (sym (first_plain (split bs)))

pub plain_tilde : (c : ℕ) (n : Name) → (c ≡ 49 → ⊥) → (c ≡ 48 → ⊥) → plain (126 ∷ c ∷ n) ≡ 126 ∷ plain (c ∷ n)
plain_tilde c n one zero = rw (ne_eqb c 49 one, ne_eqb c 48 zero)

-- after a `~`: the escape's byte, or the `~` itself and what follows it
after_tilde : (c : ℕ) (cs : List ℕ) → (c ≡ 47 → ⊥) → part_left (126 ∷ c ∷ cs) ≡ plain (126 ∷ c ∷ first_part (split cs))
after_tilde c cs slash =
    raw_on 126 (c ∷ cs) (λ e. omega arith) ∙ ap (λ p. plain (126 ∷ first_part p)) (split_on c cs slash) ∙ ap (λ n. plain (126 ∷ n)) (first_push c (split cs))

pub part_tilde : (bs : List ℕ) → part_left (126 ∷ bs) ≡ tilde_left bs
unfolding tilde_left
part_tilde [] = refl
part_tilde (c ∷ cs) =
    elim (ℕ_discrete c 49) [
      | yes one ↦ rw (one, first_plain (split cs)) (after_tilde 49 cs (λ e. omega arith))
      | no one ↦
          elim (ℕ_discrete c 48) [
            | yes zero ↦ rw (zero, first_plain (split cs)) (after_tilde 48 cs (λ e. omega arith))
            | no zero ↦
                elim (ℕ_discrete c 47) [
                  | yes slash ↦ rw slash refl
                  | no slash ↦
                      rw (ne_eqb c 49 one, ne_eqb c 48 zero)
                      (after_tilde c cs slash ∙ plain_tilde c (first_part (split cs)) one zero ∙ ap (λ n. 126 ∷ n) (sym (raw_on c cs slash)))
                ]
          ]
    ]

-- ---- what follows the first part ----

tail_push : (b : ℕ) (p : Pointer) → beyond (plain_parts (push b p)) ≡ beyond (plain_parts p)
tail_push b (last n) = refl
tail_push b (down n p) = refl

pub tail_on : (b : ℕ) (bs : List ℕ) → (b ≡ 47 → ⊥) → beyond (pointer_of (b ∷ bs)) ≡ beyond (pointer_of bs)
tail_on b bs slash = ap (λ p. beyond (plain_parts p)) (split_on b bs slash) ∙ tail_push b (split bs)

pub ends : (p : Pointer) → beyond p ≡ none → p ≡ last (first_part p)
ends (last n) e = refl
ends (down n p) e = let z : ◌≡◌ {A = ℕ} 0 1 = cc in absurd (omega arith)

pub goes : (p q : Pointer) → beyond p ≡ some q → p ≡ down (first_part p) q
goes (last n) q e = let z : ◌≡◌ {A = ℕ} 0 1 = cc in absurd (omega arith)
goes (down n p) q e = cc

-- ---- what is read ----

-- a byte that is handed out is the first of those that were left
pub taken : (key : List ℕ) (c : Cursor) {r : (Option (ℕ × Cursor))} {b : ℕ} {d : Cursor} → part_unread key r ≡ part_left (rest key c) → r ≡ Some (b, d)
    → part_left (rest key c) ≡ b ∷ part_left (rest key d)
taken key c e g = sym e ∙ ap (part_unread key) g

-- where none is handed out, none is left
pub over : (key : List ℕ) (c : Cursor) {r : (Option (ℕ × Cursor))} → part_unread key r ≡ part_left (rest key c) → r ≡ None → part_left (rest key c) ≡ []
over key c e g = sym e ∙ ap (part_unread key) g

-- the order of what is left at two cursors, by what these are
pub order_sides : (part other : Bool) {a a' b b' : List ℕ} {x x' y y' : Cursor} → a ≡ a' → x ≡ x' → b ≡ b' → y ≡ y'
    → order_of (name_left part a x) (name_left other b y) ≡ order_of (name_left part a' x') (name_left other b' y')
order_sides part other e f g h = rw (e, f, g, h) refl
