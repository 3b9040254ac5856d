-- What a cursor over a key still has of its part, and what follows the part. Assumes nothing: these are definitions.
use Rattle.std.specs.Prelude.{Some, None, Option}
use Rattle.std.specs.Prelude.{ℕ, ◌+◌, ◌-◌, ◌≤◌, ◌<◌, ◌≡◌, Bool, true, false, cond, List, [], ◌∷◌, length, eqb}
use Rattle.std.proofs.Math.Option.{Option as Maybe, none, some}
use Rattle.laws.specs.Order.{order_of}
use Rattle.text.specs.Doc.{Name}
use Rattle.text.specs.Text.{byte_at}
use Rattle.json_reader.specs.Cursors.{rest, cursor, next_of}
use Rattle.json_reader.specs.Plain.{Own}
use Rattle.json_reader.specs.declared.decode.Cursor.{Cursor}
use Rattle.contact.specs.Pointer.{Pointer, last, down, pointer_of, first_part}
use Rattle.pointers.specs.declared.parts.Glyph.{Glyph}

-- the first part of decoded bytes that are left of a key
abbrev pub part_left : List ℕ → Name
part_left bs = first_part (pointer_of bs)

-- what an answer about the part at a cursor stands for
abbrev pub part_unread : List ℕ → Option (ℕ × Cursor) → Name
part_unread key (Some (b, c)) = b ∷ part_left (rest key c)
part_unread key None = []

-- what is left of a part whose `~` has just been read
unfoldable pub tilde_left : List ℕ → Name
tilde_left [] = 126 ∷ []
tilde_left (b ∷ bs) = cond (eqb b 49) (47 ∷ part_left bs) (cond (eqb b 48) (126 ∷ part_left bs) (126 ∷ part_left (b ∷ bs)))

-- what is left at a cursor of a part of a pointer, or of a whole name
abbrev pub name_left : (part : Bool) → List ℕ → Cursor → Name
name_left true key c = part_left (rest key c)
name_left false key c = rest key c

-- what an answer about a part or a name stands for
abbrev pub name_unread : (part : Bool) → List ℕ → Option (ℕ × Cursor) → Name
name_unread part key (Some (b, c)) = b ∷ name_left part key c
name_unread part key None = []

-- the same from a place on where a character begins
abbrev pub left_at : (part : Bool) → List ℕ → (at : ℕ) → Name
left_at part key at = name_left part key (cursor at 0 0)

-- what a glyph says of its place: below 256 it is the next byte, which `len` bytes of the key spell; at 256 nothing is left
pub record GlyphAt (part : Bool) (key : List ℕ) (at : ℕ) (g : Glyph) : Type 0 where
  pub most : g.value ≤ 256
  pub over : g.value ≡ 256 → left_at part key at ≡ []
  pub byte : g.value < 256 → left_at part key at ≡ g.value ∷ left_at part key (at + g.len)
  pub within : g.value < 256 → at + g.len ≤ length key

-- what a glance at a place shows: a glyph, or nothing
abbrev pub ShownAt : (part : Bool) → List ℕ → (at : ℕ) → Option Glyph → Type 0
ShownAt part key at None = Prim.Unit {0}
ShownAt part key at (Some g) = GlyphAt part key at g

-- a byte that spells itself, in a part as in a name
pub record Spelled (b : ℕ) : Type 0 where
  pub byte : b < 256
  pub no_slash : b ≡ 47 → ⊥
  pub no_tilde : b ≡ 126 → ⊥
  pub no_escape : b ≡ 92 → ⊥

-- the k bytes that stand from two places on decide nothing, whether they are of parts or of names: behind them the order is that from there; no more is left
-- there, and they stand in their bytes, so that no place behind them wraps
pub record InCommon (key : List ℕ) (i : ℕ) (name : List ℕ) (j k : ℕ) : Type 0 where
  pub ordered : (part other : Bool) → order_of (left_at part key (i + k)) (left_at other name (j + k)) ≡ order_of (left_at part key i) (left_at other name j)
  pub fewer : (part : Bool) → length (left_at part key (i + k)) ≤ length (left_at part key i)
  pub first : k ≤ length key - i
  pub second : k ≤ length name - j

-- what is beyond the first part, if anything is
abbrev pub beyond : Pointer → Maybe Pointer
beyond (last n) = none
beyond (down n p) = some p

-- a pointer that ends with its first part, or goes on where the cursor stands
abbrev pub Goes : List ℕ → Pointer → Option Cursor → Type 0
Goes key p None = p ≡ last (first_part p)
Goes key p (Some c) = p ≡ down (first_part p) (pointer_of (rest key c))

-- the longest escape: two units of `\u` and four digits
abbrev pub longest_escape : ℕ
longest_escape = 12

-- the same by places: it goes on at one that is not far past the key's end
abbrev pub GoesAt : List ℕ → Pointer → Option ℕ → Type 0
GoesAt key p None = p ≡ last (first_part p)
GoesAt key p (Some to) = (p ≡ down (first_part p) (pointer_of (rest key (cursor to 0 0)))) × (to ≤ length key + longest_escape)

-- ---- the answers themselves

-- what is handed out where a `~` stands before what is read next; the cursor is behind the `~`
unfoldable pub tilde_next : Cursor → Option (ℕ × Cursor) → Option (ℕ × Cursor)
tilde_next on None = Some (126, on)
tilde_next on (Some (b, after)) = cond (eqb b 49) (Some (47, after)) (cond (eqb b 48) (Some (126, after)) (Some (126, on)))

-- the next byte of the part at a cursor, by what is read there
unfoldable pub part_by : List ℕ → Option (ℕ × Cursor) → Option (ℕ × Cursor)
part_by key None = None
part_by key (Some (b, on)) =
    let escaped = tilde_next on (next_of key on) in
    cond (eqb b 47) None (cond (eqb b 126) escaped (Some (b, on)))

abbrev pub part_next : List ℕ → Cursor → Option (ℕ × Cursor)
part_next key c = part_by key (next_of key c)

-- from a cursor on, byte by byte, to what follows its part: the end of the key, or the cursor behind the `/`
pub data Crosses (key : List ℕ) : Cursor → Option Cursor → Type 0 where
  at_end : {c : Cursor} → next_of key c ≡ None → Crosses key c None
  at_slash : {c d : Cursor} → next_of key c ≡ Some (47, d) → Crosses key c (Some d)
  past : {c d : Cursor} {b : ℕ} {r : (Option Cursor)} → next_of key c ≡ Some (b, d) → (b ≡ 47 → ⊥) → Crosses key d r → Crosses key c r

-- the same from a place on to a place
abbrev pub CrossesTo : List ℕ → (at : ℕ) → Option ℕ → Type 0
CrossesTo key at None = Crosses key (cursor at 0 0) None
CrossesTo key at (Some to) = (c : Cursor) × Crosses key (cursor at 0 0) (Some c) × (c.at ≡ to)

-- ---- on the way

-- from a place on, past bytes of the key that are neither `stop` nor a backslash
pub data RunTo (key : List ℕ) (stop from : ℕ) : ℕ → Type 0 where
  no_byte : RunTo key stop from from
  one_more : {at : ℕ} → RunTo key stop from at → byte_at key at < 256 → (byte_at key at ≡ 92 → ⊥) → (byte_at key at ≡ stop → ⊥) → RunTo key stop from (at + 1)

-- the same from a cursor on, if a character begins there; any other stays
pub data Passes (key : List ℕ) (stop : ℕ) (c : Cursor) : Cursor → Type 0 where
  stays : Passes key stop c c
  passes : {to : ℕ} → c.left ≡ 0 → RunTo key stop c.at to → Passes key stop c (cursor to 0 0)

-- ---- bytes that are the same in a part and in a name that is written anew

-- bytes that stand for themselves in a part too stand from a place on up to r, and none does at r
pub record OwnTo (key : List ℕ) (from r : ℕ) : Type 0 where
  pub later : from ≤ r
  pub own : (i : ℕ) → from ≤ i → i < r → Own (byte_at key i)
  pub ends : Own (byte_at key r) → ⊥
