-- The order of pointers by which entries are sorted, and a pointer without its first parts. Assumes nothing: these are definitions.
use Rattle.std.specs.declared.cmp.Ordering.{Ordering}
use Rattle.std.specs.declared.cmp.Ordering.TheVariants.{Less, Equal, Greater}
use Rattle.std.specs.Prelude.{ℕ, zero, suc, ◌+◌, ◌≤◌, ◌<◌, ◌≡◌, ◌≢◌, Bool, false, not, cond, ◌||◌, List, eqb, ltb, length}
use Rattle.laws.specs.Order.{order_of}
use Rattle.text.specs.Text.{byte_at}
use Rattle.json_reader.specs.Cursors.{rest, cursor}
use Rattle.contact.specs.Pointer.{Pointer, last, down, pointer_of, clash}

-- the first decides unless it says the same
abbrev pub or_then : Ordering → Ordering → Ordering
or_then Less o = Less
or_then Equal o = o
or_then Greater o = Greater

-- part by part, by bytes; of two that agree as far as the one goes, the one that ends stands before
unfoldable pub pointer_order : Pointer → Pointer → Ordering
pointer_order (last n) (last m) = order_of n m
pointer_order (last n) (down m q) = or_then (order_of n m) Less
pointer_order (down n p) (last m) = or_then (order_of n m) Greater
pointer_order (down n p) (down m q) = let more = pointer_order p q in or_then (order_of n m) more

-- without its first parts; the last part stays
unfoldable pub strip : (parts : ℕ) → Pointer → Pointer
strip zero p = p
strip (suc k) (last n) = last n
strip (suc k) (down n p) = strip k p

-- ---- by the first difference of two keys as they are written

-- a tilde (126) or a backslash (92), which means something together with what follows
abbrev pub is_coded : ℕ → Bool
is_coded b = eqb b 126 || eqb b 92

-- what is left of a key at a place where a character begins, as a pointer
abbrev pub pointer_from : List ℕ → (at : ℕ) → Pointer
pointer_from key at = pointer_of (rest key (cursor at 0 0))

-- two keys have the same byte at a place, which is no backslash (92)
pub record SameAt (a b : List ℕ) (k : ℕ) : Type 0 where
  pub same : byte_at a k ≡ byte_at b k
  pub byte : byte_at a k < 256
  pub no_escape : byte_at a k ≢ 92

-- so it is with their first k bytes
abbrev pub SameWritten : (a b : List ℕ) → (k : ℕ) → Type 0
SameWritten a b k = (i : ℕ) → i < k → SameAt a b i

-- the first k bytes of two keys are the same, and spell the same: so what is left decides
pub record AlikeKeys (a b : List ℕ) (k : ℕ) : Type 0 where
  pub order : pointer_order (pointer_from a k) (pointer_from b k) ≡ pointer_order (pointer_from a 0) (pointer_from b 0)
  pub clashing : clash (pointer_from a k) (pointer_from b k) ≡ clash (pointer_from a 0) (pointer_from b 0)
  pub first : k ≤ length a

-- two bytes differ, and both mean something alone
abbrev pub tells : (x y : ℕ) → Bool
tells x y = cond (eqb x y) false (cond (is_coded x) false (not (is_coded y)))

-- of two bytes that differ, 256 where a key is over: one key is over where a part of the other ends
abbrev pub ends_before : (x y : ℕ) → Bool
ends_before x y = cond (eqb x 256) (eqb y 47) (cond (eqb y 256) (eqb x 47) false)

-- where a byte stands: the end of a part (47) before any other; 256 stays
abbrev pub rank_of : ℕ → ℕ
rank_of b = cond (ltb b 47) (b + 1) (cond (eqb b 47) 0 b)
