-- `pieces::feed::in_string` meets its contract: the quote closes a string between two characters, and else the byte does what it does inside one.
-- Assumes nothing.
use Rattle.std.specs.Prelude.{Some, None, Ok, Err}
use mathlib.Core.List.{List}
use mathlib.Core.Path.{◌≡◌, sym, ap, subst, ◌∙◌}
use Prim.Native.Nat.{ℕ, ◌+◌, ◌-◌, ◌≤◌}
use native.Mathlib.Omega.{arith}
use Rattle.text.specs.Tree.{Bracket}
use Rattle.wire.specs.declared.Inner.{Inner}
use Rattle.wire.specs.Inners.{move_of}
use Rattle.wire.specs.Machine.{going, on_move}
use Rattle.wire.specs.Held.{opened_of, inner_at, spot_at}
use Rattle.wire.proofs.Fits.{InnerFits, MoveFits, inner_fits, move_fits}
use Rattle.pieces.specs.Turns.{first_of, behind_of}
use Rattle.pieces.proofs.Steps.{strung, refused_way, character_way, moved_way, still_way, string_way, spot_plain, first_most, first_below, behind_plain}
use Rattle.pieces.proofs.feed.in_string.Goals as goal

-- behind the closing quote
closed : (at n : ℕ) (os : List Bracket) (start f g k : ℕ)
    → going (at + 1) n os (spot_at (behind_of start) f g k) ≡ on_move at n os (λ x. strung start x) (spot_at (behind_of start) 0 0 0) (Ok None)
unfolding on_move
closed at n os start f g k = ap (going (at + 1) n os) (spot_plain (behind_of start) f g k (behind_plain start))

pub returns-then-h-first : goal.returns-then-h-first
unfolding move_of inner_at
returns-then-h-first c =
    let a = c.args in
    let h = a.h in
    let quote : a.b ≡ 34 = c.if-b-eq-QUOTE.true in
    let at_first : h.spot ≡ first_of h.spot = c.if-h-first.true ∙ c.first_of-first.ensures in
    let zero_th : h.spot - first_of h.spot ≡ 0 = omega arith in
    let start : c.behind.result ≡ behind_of (first_of h.spot) = c.behind.ensures ∙ ap behind_of c.first_of-first.ensures in
    let small = behind_plain (first_of h.spot) in
    moved_way a.at h a.b (behind_of (first_of h.spot)) c.moved.result (omega arith) (rw start at c.moved.ensures)
    ∙ closed a.at h.values (opened_of h.depth h.opened) (first_of h.spot) h.from h.bits h.high
    ∙ sym (string_way a.at h a.b (Ok None) c.requires.le_spot c.requires.going (rw (zero_th, quote)))

-- what the byte does
moves : (c : goal.After-inside) → let a = c.args in
    c.step.result ≡ move_of a.at (inner_at (a.h.spot - first_of a.h.spot) a.h.from a.h.bits a.h.high) a.b
moves c =
    rw (← c.first_of-first.ensures, ← c.inner_at.ensures) c.step.ensures

-- what stands inside fits its words
fits : (c : goal.After-inside) (s : Inner) → c.step.result ≡ Ok (Some s) → InnerFits s
fits c s e =
    let a = c.args in
    let i : Inner = inner_at (a.h.spot - first_of a.h.spot) a.h.from a.h.bits a.h.high in
    subst MoveFits (sym (moves c) ∙ e) (move_fits a.at i a.b (inner_fits (a.h.spot - first_of a.h.spot) a.h.from a.h.bits a.h.high))

pub returns-in-Ok-Some : goal.returns-in-Ok-Some
unfolding on_move
returns-in-Ok-Some c =
    let a = c.args in
    let h = a.h in
    let still = c.in-Ok-Some.is ∙ ap Ok c.in-Ok-Some.field-0-is in
    still_way a.at h a.b _ c.inside.result (fits c _ still) (rw c.first_of-first.ensures at c.inside.ensures)
    ∙ sym (string_way a.at h a.b _ c.requires.le_spot c.requires.going (sym still ∙ moves c))

-- what the byte does
moves_2 : (c : goal.After-moved-in-Ok-None) → let a = c.args in
    c.step.result ≡ move_of a.at (inner_at (a.h.spot - first_of a.h.spot) a.h.from a.h.bits a.h.high) a.b
moves_2 c =
    rw (← c.first_of-first.ensures, ← c.inner_at.ensures) c.step.ensures

pub returns-in-Ok-None : goal.returns-in-Ok-None
returns-in-Ok-None c =
    let a = c.args in
    let h = a.h in
    let start : c.behind-in-Ok-None.result ≡ behind_of (first_of h.spot) = c.behind-in-Ok-None.ensures ∙ ap behind_of c.first_of-first.ensures in
    let small = behind_plain (first_of h.spot) in
    moved_way a.at h a.b (behind_of (first_of h.spot)) c.moved-in-Ok-None.result (omega arith) (rw start at c.moved-in-Ok-None.ensures)
    ∙ closed a.at h.values (opened_of h.depth h.opened) (first_of h.spot) h.from h.bits h.high
    ∙ sym (string_way a.at h a.b (Ok None) c.requires.le_spot c.requires.going (sym (c.in-Ok-None.is ∙ ap Ok c.in-Ok-None.field-0-is) ∙ moves_2 c))

-- what the byte does
moves_3 : (c : goal.After-told) → let a = c.args in
    c.step.result ≡ move_of a.at (inner_at (a.h.spot - first_of a.h.spot) a.h.from a.h.bits a.h.high) a.b
moves_3 c =
    rw (← c.first_of-first.ensures, ← c.inner_at.ensures) c.step.ensures

pub returns-in-Err-Malformed : goal.returns-in-Err-Malformed
unfolding on_move
returns-in-Err-Malformed c =
    let a = c.args in
    refused_way a.at a.h a.b _ c.told.result c.told.ensures
    ∙ sym (string_way a.at a.h a.b _ c.requires.le_spot c.requires.going (sym (c.in-Err-Malformed.is ∙ ap Err c.in-Err-Malformed.field-0-is) ∙ moves_3 c))

-- what the byte does
moves_4 : (c : goal.After-told-in-Err-Forbidden) → let a = c.args in
    c.step.result ≡ move_of a.at (inner_at (a.h.spot - first_of a.h.spot) a.h.from a.h.bits a.h.high) a.b
moves_4 c =
    rw (← c.first_of-first.ensures, ← c.inner_at.ensures) c.step.ensures

pub returns-in-Err-Forbidden : goal.returns-in-Err-Forbidden
unfolding on_move
returns-in-Err-Forbidden c =
    let a = c.args in
    character_way a.at a.h a.b _ c.told-in-Err-Forbidden.result c.told-in-Err-Forbidden.ensures
    ∙ sym (string_way a.at a.h a.b _ c.requires.le_spot c.requires.going (sym (c.in-Err-Forbidden.is ∙ ap Err c.in-Err-Forbidden.field-0-is) ∙ moves_4 c))

-- the numbers of its places begin at or below its own
below : (c : goal.After-struct_known-2-1) → (c.first_of-first.result ≤ c.args.h.spot) × (c.first_of-first.result ≤ 38)
below c =
    let h = c.args.h in
    (rw c.first_of-first.ensures (first_below h.spot c.requires.le_spot), rw c.first_of-first.ensures (first_most h.spot).0)

pub overflow_sub-h : goal.overflow_sub-h
overflow_sub-h c = omega (arith, (below c).0)

-- the numbers of its places begin at or below its own
below_2 : (c : goal.In-Ok-Some) → (c.first_of-first.result ≤ c.args.h.spot) × (c.first_of-first.result ≤ 38)
below_2 c =
    let h = c.args.h in
    (rw c.first_of-first.ensures (first_below h.spot c.requires.le_spot), rw c.first_of-first.ensures (first_most h.spot).0)

pub inside-requires : goal.inside-requires
inside-requires c = omega (arith, (below_2 c).1)
