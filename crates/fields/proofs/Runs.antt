-- Two runs of bytes, compared byte by byte:
--     run_more     a byte that both have decides nothing
--     run-told     the bytes at a place decide, if they differ or both runs are over
-- Assumes nothing.
use mathlib.Core.Path.{◌≡◌, sym, ◌∙◌}
use mathlib.Core.List.{List}
use Prim.Native.Nat.{ℕ, ◌+◌, ◌≤◌, ◌<◌}
use native.Mathlib.Omega.{arith}
use lib.ListN.{get_or, drop, drop_of_length-le}
use Rattle.laws.specs.Order.{order_of}
use Rattle.laws.proofs.Orders.{order_on}
use Rattle.laws.proofs.Places.{inside, ended, drop_byte}
use Rattle.text.specs.Text.{byte_at}
use Rattle.json_reader.specs.Names.{order_at}
use Rattle.json_reader.proofs.Alike.{order_heads}

module _ (a b : List ℕ) (i : ℕ) (h : order_of (drop i a) (drop i b) ≡ order_of a b) where
  pub run_more : byte_at a i ≡ byte_at b i → byte_at a i < 256 → order_of (drop (i + 1) a) (drop (i + 1) b) ≡ order_of a b
  run_more e l =
      let m = inside a i l in
      let n = inside b i (omega arith) in
      sym (rw (drop_byte a i m, drop_byte b i n) (order_on (byte_at a i) (byte_at b i) (drop (i + 1) a) (drop (i + 1) b) (omega arith) (omega arith))) ∙ h

  pub run_told : get_or a i 0 < 256 → get_or b i 0 < 256 → byte_at a i ≤ 256 → byte_at b i ≤ 256 → (byte_at a i ≡ byte_at b i → byte_at a i ≡ 256) → order_at (byte_at a i) (byte_at b i) ≡ order_of a b
  run_told small small' most most' stops =
      order_heads (byte_at a i) (byte_at b i) (drop i a) (drop i b) (λ e. drop_of_length-le a (ended a i small e)) (λ e. drop_byte a i (inside a i (omega arith)))
      (λ e. drop_of_length-le b (ended b i small' e)) (λ e. drop_byte b i (inside b i (omega arith))) stops
      ∙ h
