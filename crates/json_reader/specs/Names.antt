-- A string compared with a byte string as written, as far as that goes, and the order at a difference. Assumes nothing: these are definitions.
use Rattle.std.specs.declared.cmp.Ordering.{Ordering}
use Rattle.std.specs.declared.cmp.Ordering.TheVariants.{Less, Equal, Greater}
use Rattle.std.specs.Prelude.{ℕ, ◌≤◌, ◌<◌, ◌≡◌, List, cond, length, drop, ltb, eqb}
use Rattle.laws.specs.Order.{same}
use Rattle.text.specs.Text.{byte_at}
use Rattle.text.specs.Strings.{decode_from, decode}

-- a byte that means nothing but itself in a string: no backslash
pub record Raw (b : ℕ) : Type 0 where
  pub byte : b < 256
  pub no_escape : b ≡ 92 → ⊥

-- What two strings have in common up to a place decides nothing: the first, decoded from there on, compares with the second as it is from there on as from
-- their start.
pub record Common (a b : List ℕ) (i : ℕ) : Type 0 where
  pub literal : same (decode_from a i) (drop i b) ≡ same (decode a) b
  pub within : i ≤ length b

-- and they have no more in common, unless a backslash or the end of both stands there
pub record Alike (a b : List ℕ) (i : ℕ) : Type 0 where
  pub common : Common a b i
  pub stops : byte_at a i ≡ byte_at b i → (byte_at a i ≡ 92 → ⊥) → byte_at a i ≡ 256

-- the order by two bytes, 256 where a string is over, that differ unless both are over
unfoldable pub order_at : (p q : ℕ) → Ordering
order_at p q = cond (eqb p q) Equal (cond (eqb p 256) Less (cond (eqb q 256) Greater (cond (ltb p q) Less Greater)))
