-- Laws of a part of a key that is spelled as a new name:
--     own-spelled     bytes that spell themselves, and then what is left of the part
-- Assumes nothing.
use Prim.Native.Nat.{ℕ, zero, suc, ◌+◌, ◌-◌, ◌≤◌, ◌<◌}
use mathlib.Core.Path.{◌≡◌, ap}
use mathlib.Core.Bool.{true}
use mathlib.Core.List.{List, ◌∷◌, ◌++◌}
use native.Mathlib.Omega.{arith}
use Rattle.laws.specs.Lists.{part_of}
use Rattle.laws.proofs.Places.{inside}
use Rattle.laws.proofs.Parts.{part_here, part_more}
use Rattle.text.specs.Text.{byte_at}
use Rattle.json_reader.specs.Plain.{Own}
use Rattle.output.proofs.Own.{own_byte}
use Rattle.pointers.specs.Parts.{left_at, OwnTo}
use Rattle.pointers.proofs.Laws.Own.{own_on}
use Rattle.patch.specs.Spelled.{spelled_rest}

-- k of them
run_of : (key : List ℕ) (k i e : ℕ) → i + k ≡ e → ((j : ℕ) → i ≤ j → j < e → Own (byte_at key j))
    → spelled_rest (left_at true key i) ≡ part_of key i e ++ spelled_rest (left_at true key e)
run_of key zero i e at own = let here : i ≡ e = omega arith in rw (here, part_here key e)
run_of key (suc k) i e at own =
    let o = own i (omega arith) (omega arith) in
    let last-in = inside key (i + k) (let small = (own (i + k) (omega arith) (omega arith)).plain.ascii in omega arith) in
    rw (own_on key i o, own_byte (byte_at key i) o.plain.printable o.plain.no_quote o.plain.no_slash, part_more key i e (omega arith) (omega arith))
    (ap (λ (l : List ℕ). byte_at key i ∷ l) (run_of key k (i + 1) e (omega arith) (λ j x y. own j (omega arith) y)))

pub own_spelled : (key : List ℕ) {from to : ℕ} → OwnTo key from to → spelled_rest (left_at true key from) ≡ part_of key from to ++ spelled_rest (left_at true key to)
own_spelled key {from} {to} o = let h = o.later in run_of key (to - from) from to (omega arith) o.own
