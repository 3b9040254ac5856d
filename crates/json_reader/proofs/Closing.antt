-- A container that is closed once what is inside it was read and its names were looked through, and values that were read from a later place on.
-- Assumes nothing.
use Rattle.std.specs.Prelude.{Result, Ok, Err}
use mathlib.Core.Path.{refl, ap, ◌∙◌, ◌≡◌}
use mathlib.Core.List.{List}
use Prim.Native.Nat.{ℕ, ◌+◌, ◌-◌, ◌*◌, ◌≤◌}
use native.Mathlib.Omega.{arith}
use lib.ListN.{length}
use Rattle.laws.specs.Earliest.{Earliest, nowhere, found, first_repeat}
use Rattle.text.specs.Tree.{Bracket, square, curly, bracket_kind, none, node, size}
use Rattle.text.specs.Reader.{Read, bad, close_of}
use Rattle.text.specs.declared.Refusal.{Refusal}
use Rattle.text.proofs.Stores.{rows_close}
use Rattle.repeats.specs.Quoted.{tail_at}
use Rattle.repeats.specs.Closed.{settle}
use Rattle.json_reader.specs.Rows.{Word}
use Rattle.text.proofs.Promise.{first_and_rest}
use Rattle.json_reader.proofs.Ways.{OneValue}
use Rattle.json_reader.specs.Readers.{Gone, Took, Closable, Closes, settled, Further}

pub kind_fits : (b : Bracket) → Word (bracket_kind b)
kind_fits square = omega arith
kind_fits curly = omega arith

-- what was read inside may be closed
pub closable : (p : ℕ) (R : Read) (t : List ℕ) (at n : ℕ) (old mid : List ℕ) (inner : Result (ℕ × ℕ) Refusal) → Word (length t)
    → Took p R t at (n + 1) old mid inner → Closable n inner
closable p R t at n old mid (Err x) h g = tt
closable p R t at n old mid (Ok (to, after)) h g = (omega arith, (omega (arith, g.few), omega (arith, g.inside)))

-- what closing makes of what was read inside
pub closed : (b : Bracket) (R : Read) (ns ne at n : ℕ) (t : List ℕ) (old mid new : List ℕ) (inner r : Result (ℕ × ℕ) Refusal)
    → Took n R t (at + 1) (n + 1) old mid inner → Closes (bracket_kind b) ns ne at n inner mid new r → Took 0 (close_of b ns ne at R) t at n old new r
unfolding close_of size
closed b R ns ne at n t old mid new (Err x) r g e = rw e (rw g)
closed b R ns ne at n t old mid new (Ok (to, after)) r g e =
    let s : after - n - 1 ≡ size g.trees = omega arith in
    rw e.0
    (record {
      trees = node b ns ne at to g.trees none;
      is = ap (close_of b ns ne at) g.is;
      count = omega arith;
      table = e.1 ∙ rw (g.table, s) (rows_close b g.trees old ns ne at to n);
      later = omega (arith, g.later);
      inside = g.inside;
      few = g.few;
    })

-- what the earliest repeated name makes of what was read
took_settled : (p : ℕ) (e : Earliest) (R : Read) (t : List ℕ) (at n : ℕ) (old new : List ℕ) (r : Result (ℕ × ℕ) Refusal) → Took p R t at n old new r
    → Took p (settle e R) t at n old new (settled e r)
took_settled p nowhere R t at n old new r g = g
took_settled p (found q) R t at n old new r g = refl

pub took_settles : (p : ℕ) (t names ps : List ℕ) (R : Read) (at n : ℕ) (old new : List ℕ) (read r : Result (ℕ × ℕ) Refusal) → r ≡ settled (first_repeat (tail_at t 1) names) read → names ≡ ps
    → Took p R t at n old new read → Took p (settle (first_repeat (tail_at t 1) ps) R) t at n old new r
took_settles p t names ps R at n old new read r e f g = rw (e, f) (took_settled p (first_repeat (tail_at t 1) ps) R t at n old new read g)

-- values read from a later place on
pub took_from : (R : Read) (t : List ℕ) (at from n : ℕ) (old new : List ℕ) (r : Result (ℕ × ℕ) Refusal) → at ≤ from → Took 0 R t from n old new r
    → Took 0 R t at n old new r
took_from R t at from n old new (Err x) h g = g
took_from R t at from n old new (Ok (to, after)) h g =
    record { trees = g.trees; is = g.is; count = g.count; table = g.table; later = omega (arith, g.later); inside = g.inside; few = g.few }

-- an answer by its case
pub took_next : (R : Read) (t : List ℕ) (at n : ℕ) (old new : List ℕ) {r : (Result (ℕ × ℕ) Refusal)} {to after : ℕ} → Took 0 R t at n old new r → r ≡ Ok (to, after) → Gone 0 R t at n old new to after
took_next R t at n old new g e = rw e at g

pub took_stop : (R : Read) (t : List ℕ) (at n : ℕ) (old new : List ℕ) {r : (Result (ℕ × ℕ) Refusal)} {x : Refusal} → Took 0 R t at n old new r → r ≡ Err x → R ≡ bad x
took_stop R t at n old new g e = rw e at g

pub further_next : (end : ℕ) {r : (Result (ℕ × ℕ) Refusal)} {to after : ℕ} → Further end r → r ≡ Ok (to, after) → Further end (Ok (to, after))
further_next end g e = rw e at g

-- behind a value each name has its own value and four bytes
pub took_further : (R : Read) (t : List ℕ) (at n end : ℕ) (old new : List ℕ) (r : Result (ℕ × ℕ) Refusal) → OneValue R → end ≤ n → 4 * end ≤ at → Took 0 R t at n old new r → Further end r
took_further R t at n end old new (Err x) s h k g = tt
took_further R t at n end old new (Ok (to, after)) s h k g = (omega (arith, g.count, first_and_rest g.trees (rw g.is at s).0), omega (arith, g.later))
