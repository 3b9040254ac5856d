-- `pieces::spots::inside` meets its contract: an arm for each place inside a string, whose number and words `open` is handed. Assumes nothing.
use native.Mathlib.Nat.{add-zero}
use Rattle.wire.specs.Held.{inner_code, inner_from, inner_bits, inner_high}
use Rattle.pieces.proofs.spots.inside.Goals as goal

pub returns-in-Plain : goal.returns-in-Plain
unfolding inner_code inner_from inner_bits inner_high
returns-in-Plain c = rw (c.in-Plain.is, add-zero) c.«open».ensures

pub returns-in-Escape : goal.returns-in-Escape
unfolding inner_code inner_from inner_bits inner_high
returns-in-Escape c = rw c.in-Escape.is c.open-in-Escape.ensures

pub returns-in-Four : goal.returns-in-Four
unfolding inner_code inner_from inner_bits inner_high
returns-in-Four c = rw (c.in-Four.is, ← c.four_code.ensures.value) c.open-in-Four.ensures

pub returns-in-Pair : goal.returns-in-Pair
unfolding inner_code inner_from inner_bits inner_high
returns-in-Pair c = rw c.in-Pair.is c.open-in-Pair.ensures

pub returns-in-PairU : goal.returns-in-PairU
unfolding inner_code inner_from inner_bits inner_high
returns-in-PairU c = rw c.in-PairU.is c.open-in-PairU.ensures

pub returns-in-Low1 : goal.returns-in-Low1
unfolding inner_code inner_from inner_bits inner_high
returns-in-Low1 c = rw c.in-Low1.is c.open-in-Low1.ensures

pub returns-in-Low2 : goal.returns-in-Low2
unfolding inner_code inner_from inner_bits inner_high
returns-in-Low2 c = rw c.in-Low2.is c.open-in-Low2.ensures

pub returns-in-Low3 : goal.returns-in-Low3
unfolding inner_code inner_from inner_bits inner_high
returns-in-Low3 c = rw c.in-Low3.is c.open-in-Low3.ensures

pub returns-in-Low4 : goal.returns-in-Low4
unfolding inner_code inner_from inner_bits inner_high
returns-in-Low4 c = rw c.in-Low4.is c.open-in-Low4.ensures

pub returns-in-Second3 : goal.returns-in-Second3
unfolding inner_code inner_from inner_bits inner_high
returns-in-Second3 c = rw c.in-Second3.is c.open-in-Second3.ensures

pub returns-in-Second4 : goal.returns-in-Second4
unfolding inner_code inner_from inner_bits inner_high
returns-in-Second4 c = rw c.in-Second4.is c.open-in-Second4.ensures

pub returns-in-Tails : goal.returns-in-Tails
unfolding inner_code inner_from inner_bits inner_high
returns-in-Tails c = rw (c.in-Tails.is, ← c.tails_code.ensures.value) c.open-in-Tails.ensures
