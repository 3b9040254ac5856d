-- The specimens of reading in pieces hold: each text has its answer after as many bytes as its case says. Assumes nothing.
use Rattle.std.specs.Prelude.{◌≡◌, refl, map}
use Rattle.text.specs.Chars.{digit_of, tail_of, letter_of}
use Rattle.text.specs.Tokens.{kind_by}
use Rattle.wire.specs.Figures.{exp_turn, frac_turn, turn_of, figure_of}
use Rattle.wire.specs.Inners.{sound, checked, unit_move, hex_move, tail_move, move3, move4, lead_move, move_of}
use Rattle.wire.specs.Machine.{counted, opens, spot_of, begins, quotes, items, firsts, closes, after_of, word_on, on_turn, on_move, feed, feeds, taken, piece}
use Rattle.wire.specs.Specimens.{worked, told, cases}

pub specimens : map worked cases ≡ cases
unfolding worked told digit_of tail_of letter_of kind_by exp_turn frac_turn turn_of figure_of sound checked unit_move hex_move tail_move move3 move4 lead_move move_of counted opens spot_of begins quotes items firsts closes after_of word_on on_turn on_move feed feeds taken piece
specimens = refl
