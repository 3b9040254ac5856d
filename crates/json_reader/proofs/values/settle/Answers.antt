-- `json_reader::values::settle` meets its contract: one name or none repeats nothing, and else the search decides. Assumes nothing.
use Rattle.std.specs.Prelude.{Result, Err, Option, Some, None}
use Rattle.text.specs.declared.Refusal.{Refusal}
use mathlib.Core.Path.{◌≡◌, refl, ap, sym, ◌∙◌}
use mathlib.Core.List.{List}
use Prim.Native.Nat.{ℕ, ◌-◌}
use native.Mathlib.Omega.{arith}
use lib.Seq.{slice}
use borrow.Rule.Slice.PartMut.{mid_of, mid_len}
use Rattle.laws.specs.Earliest.{Earliest, nowhere, found, first_repeat, place_of}
use Rattle.laws.proofs.Searching.{few_none, some_same, none_not_some}
use Rattle.text.specs.declared.Refusal.TheVariants.{Repeated}
use Rattle.repeats.specs.Quoted.{tail_at}
use Rattle.json_reader.specs.Readers.{SettleAsks, settled}
use Rattle.json_reader.proofs.Store.{part_slice, part_under}
use Rattle.json_reader.proofs.values.settle.Goals as goal

-- what the search gave, as what it stands for
none_found : (e : Earliest) (read : Result (ℕ × ℕ) Refusal) → ◌≡◌ {A = Option ℕ} None (place_of e) → read ≡ settled e read
none_found nowhere read q = refl
none_found (found x) read q = absurd (none_not_some q)

one_found : (e : Earliest) (p : ℕ) (read : Result (ℕ × ℕ) Refusal) → Some p ≡ place_of e → Err (Repeated p) ≡ settled e read
one_found nowhere p read q = absurd (none_not_some (sym q))
one_found (found x) p read q = ap (λ (n : ℕ). Err (Repeated n)) (some_same q)

pub returns-then-end-top-lt2 : goal.returns-then-end-top-lt2
returns-then-end-top-lt2 c =
    let a = c.args in
    let r = c.requires.run in
    record { is = rw (few_none (tail_at a.text.now 1) a.names.now a.top a.items.end r.1 r.0 (omega arith)); under = λ j h. refl }

-- what is lent to the search is the names from `top` on
lent : (t names : List ℕ) (top end : ℕ) → SettleAsks t names top end → mid_of top (end - top) names ≡ slice top end names
lent t names top end p = part_slice top end names p.run.0 p.run.1

-- what the search told of them
told : (t names : List ℕ) (top end : ℕ) {o : Option ℕ} → SettleAsks t names top end
    → o ≡ place_of (first_repeat (tail_at t 1) (mid_of top (end - top) names))
    → o ≡ place_of (first_repeat (tail_at t 1) (slice top end names))
told t names top end h e = e ∙ ap (λ (l : List ℕ). place_of (first_repeat (tail_at t 1) l)) (lent t names top end h)

pub first_repeat-requires : goal.first_repeat-requires
first_repeat-requires c =
    let p = c.requires in
    let a = c.args in
    record {
      short = p.short;
      climbs = rw (lent a.text.now a.names.now a.top a.items.end p) p.climbs;
      most = omega (arith, p.most, mid_len a.top a.items.end a.names.now p.run.1);
    }

pub returns-in-Some : goal.returns-in-Some
returns-in-Some c =
    let a = c.args in
    let l = a.names.now in
    let r = c.requires.run in
    record {
      is =
          one_found (first_repeat (tail_at a.text.now 1) (slice a.top a.items.end l)) c.in-Some.place a.items.read
          (told a.text.now l a.top a.items.end c.requires (sym c.in-Some.is ∙ c.first_repeat.ensures));
      under = part_under a.top (a.items.end - a.top) l c.first_repeat.new.places (omega arith);
    }

pub returns-in-None : goal.returns-in-None
returns-in-None c =
    let a = c.args in
    let l = a.names.now in
    let r = c.requires.run in
    record {
      is =
          none_found (first_repeat (tail_at a.text.now 1) (slice a.top a.items.end l)) a.items.read
          (told a.text.now l a.top a.items.end c.requires (sym c.in-None.is ∙ c.first_repeat.ensures));
      under = part_under a.top (a.items.end - a.top) l c.first_repeat.new.places (omega arith);
    }
