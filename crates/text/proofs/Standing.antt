-- Values that stand in a table from a row on:
--     rows-length, tree-length       a value takes one row, and those inside it one each
--     rows-stand, rows-linked        values whose rows are words of a table stand in it, and name each other
--     first-row, first-room          the words of a row are those of the first value, and its rows are inside the table
--     inside, after, alone           what is inside the first value stands from the next row on; what follows it, `below + 1` rows further
--     stands-unique                  a table says which values stand in it: no two trees stand at one row and end before the same row
--     filled-stands, table-stands    the table that reading leaves: the tree stands in it from row 0 on
--     start-at                       the place where a value starts is a word of its row
-- Assumes nothing.
use Prim.Native.Nat.{ℕ, zero, suc, ◌<◌, ◌≤◌, ◌+◌, ◌-◌, ◌*◌}
use mathlib.Core.Path.{◌≡◌, refl, sym, ap, ◌∙◌}
use mathlib.Core.List.{List, ◌++◌, append_assoc}
use native.Mathlib.Decide.{dec_le}
use native.Mathlib.Omega.{arith}
use lib.ListN.{length, get_or, drop, replicate, length-append, length-drop, get_or-append}
use lib.Seq.{drop-drop, drop_at, get_or-drop, get_or-append-add}
use Rattle.laws.specs.Lists.{filled}
use Rattle.text.specs.Limits.{row_words}
use Rattle.text.specs.Tree.{Bracket, square, curly, bracket_kind, Forest, none, leaf, node, size, row_of, first_row, rows_of, tree_rows, starts_of}
use Rattle.text.specs.Seats.{Head, leaf_head, node_head}
use Rattle.text.specs.Words.{start_in, parent_in, sibling_in}
use Rattle.text.specs.Standing.{RowAt, RowsAt, Stands, StandsTo}
use Rattle.text.specs.Firsts.{HasFirst, inside_at, below_at, head_at, rest_at, Kinds}
use Rattle.text.specs.Reader.{good}
use Rattle.text.specs.Whole.{table_of}

-- the first of some values alone, with what is inside it
abbrev pub first_of : Forest → Forest
first_of none = none
first_of (leaf kind ns ne from to rest) = leaf kind ns ne from to none
first_of (node b ns ne from to inside rest) = node b ns ne from to inside none

-- ---- lengths ----

pub rows_length : (p k z : ℕ) (f : Forest) → length (rows_of p k z f) ≡ row_words * size f
unfolding rows_of size
rows_length p k z none = refl
rows_length p k z (leaf kind ns ne from to rest) = omega (arith, rows_length p (k + 1) z rest)
rows_length p k z (node b ns ne from to inside rest) =
    simp length-append (omega (arith, rows_length k (k + 1) 0 inside, rows_length p (k + 1 + size inside) z rest))

pub tree_length : (f : Forest) → length (tree_rows f) ≡ row_words * size f
tree_length f = rows_length 0 0 0 f

-- ---- the words of a row ----

word : (t l : List ℕ) (n : ℕ) → drop n t ≡ l → (i : ℕ) → get_or t (n + i) 0 ≡ get_or l i 0
word t l n e i = sym (get_or-drop n t i 0) ∙ ap (λ (m : List ℕ). get_or m i 0) e

-- the links of row k: its parent's row and its next sibling's
pub record LinksAt (table : List ℕ) (k p z : ℕ) : Type 0 where
  pub parent : parent_in table k ≡ p
  pub next : sibling_in table k ≡ z

-- from row k on the rows have the links of the values, which stand in a container of row p, before the row z there
abbrev pub LinkedAt : (table : List ℕ) (p k z : ℕ) → Forest → Type 0
LinkedAt table p k z none = Prim.Unit {0}
LinkedAt table p k z (leaf kind ns ne from to rest) = LinksAt table k p (first_row (k + 1) z rest) × LinkedAt table p (k + 1) z rest
LinkedAt table p k z (node b ns ne from to within rest) =
    LinksAt table k p (first_row (k + 1 + size within) z rest) × LinkedAt table k (k + 1) 0 within × LinkedAt table p (k + 1 + size within) z rest

row_words_lem : (t more : List ℕ) (k p z : ℕ) (h : Head)
    → drop (k * row_words) t ≡ row_of h.kind h.ns h.ne h.from h.to h.below p z ++ more → RowAt t k h × LinksAt t k p z
row_words_lem t more k p z h e = (
  record {
    kind = word t _ (k * row_words) e 0;
    name_starts = word t _ (k * row_words) e 1;
    name_ends = word t _ (k * row_words) e 2;
    start = word t _ (k * row_words) e 3;
    finish = word t _ (k * row_words) e 4;
    below = word t _ (k * row_words) e 5;
  },
  record { parent = word t _ (k * row_words) e 6; next = word t _ (k * row_words) e 7 },
)

next_row : (t l : List ℕ) (k n : ℕ) → drop (k * row_words) t ≡ l → drop ((k + n) * row_words) t ≡ drop (n * row_words) l
next_row t l k n e =
    let place : (k + n) * row_words ≡ k * row_words + n * row_words = omega arith in
    rw place (sym (drop-drop (n * row_words) (k * row_words) t) ∙ ap (λ (m : List ℕ). drop (n * row_words) m) e)

rows_at : (t : List ℕ) (p k z : ℕ) (f : Forest) (more : List ℕ) → drop (k * row_words) t ≡ rows_of p k z f ++ more → RowsAt t k f × LinkedAt t p k z f
unfolding rows_of size
rows_at t p k z none more e = (tt, tt)
rows_at t p k z (leaf kind ns ne from to rest) more e =
    let (row, links) = row_words_lem t _ k p (first_row (k + 1) z rest) (leaf_head kind ns ne from to) e in
    let (rows, linked) = rows_at t p (k + 1) z rest more (next_row t _ k 1 e) in
    ((row, rows), (links, linked))
rows_at t p k z (node b ns ne from to within rest) more e =
    let here = rows_of k (k + 1) 0 within in
    let behind = rows_of p (k + 1 + size within) z rest ++ more in
    let below : drop ((k + 1) * row_words) t ≡ here ++ behind = next_row t _ k 1 e ∙ append_assoc here (rows_of p (k + 1 + size within) z rest) more in
    let beyond : drop ((k + 1 + size within) * row_words) t ≡ behind =
    next_row t _ (k + 1) (size within) below ∙ drop_at here behind (size within * row_words) (omega (arith, rows_length k (k + 1) 0 within)) in
    let (row, links) = row_words_lem t _ k p (first_row (k + 1 + size within) z rest) (node_head b ns ne from to (size within)) e in
    let (rows1, linked1) = rows_at t k (k + 1) 0 within behind below in
    let (rows2, linked2) = rows_at t p (k + 1 + size within) z rest more beyond in
    ((row, rows1, rows2), (links, linked1, linked2))

-- values whose rows are words of the table stand in it
pub rows_stand : (t : List ℕ) (p k z : ℕ) (f : Forest) (more : List ℕ) → k * row_words ≤ length t → drop (k * row_words) t ≡ rows_of p k z f ++ more → Stands t k f
rows_stand t p k z f more h e =
    record {
      rows = (rows_at t p k z f more e).0;
      room = omega (arith, length-drop (k * row_words) t, ap length e, length-append (rows_of p k z f) more, rows_length p k z f);
    }

-- and name each other
pub rows_linked : (t : List ℕ) (p k z : ℕ) (f : Forest) (more : List ℕ) → drop (k * row_words) t ≡ rows_of p k z f ++ more → LinkedAt t p k z f
rows_linked t p k z f more e = (rows_at t p k z f more e).1

-- ---- the first value ----

-- row k has the words of the first value
pub first_row_lem : {t : List ℕ} {k : ℕ} (f : Forest) → HasFirst f → Stands t k f → RowAt t k (head_at f)
unfolding size
first_row_lem none s h = absurd s
first_row_lem (leaf kind ns ne from to rest) s h = h.rows.0
first_row_lem (node b ns ne from to within rest) s h = h.rows.0

-- its row and those of the values below it are inside the table
pub first_room : {t : List ℕ} {k : ℕ} (f : Forest) → HasFirst f → Stands t k f → (k + 1 + below_at f) * row_words ≤ length t
unfolding size
first_room none s h = absurd s
first_room (leaf kind ns ne from to rest) s h = omega (arith, h.room)
first_room (node b ns ne from to within rest) s h = omega (arith, h.room)

-- what is inside it
pub inside : {t : List ℕ} {k : ℕ} (f : Forest) → HasFirst f → Stands t k f → StandsTo t (k + 1) (k + 1 + below_at f) (inside_at f)
unfolding size
inside none s h = absurd s
inside (leaf kind ns ne from to rest) s h = record { stands = record { rows = tt; room = omega (arith, h.room) }; ends = refl }
inside (node b ns ne from to within rest) s h = record { stands = record { rows = h.rows.1; room = omega (arith, h.room) }; ends = refl }

-- what follows it
pub next : {t : List ℕ} {k : ℕ} (f : Forest) → HasFirst f → Stands t k f → Stands t (k + 1 + below_at f) (rest_at f)
unfolding size
next none s h = absurd s
next {t} {k} (leaf kind ns ne from to rest) s h =
    let place : k + 1 + 0 ≡ k + 1 = omega arith in
    record { rows = rw place h.rows.1; room = omega (arith, h.room) }
next (node b ns ne from to within rest) s h = record { rows = h.rows.2; room = omega (arith, h.room) }

-- the first value alone
pub alone : {t : List ℕ} {k : ℕ} (f : Forest) → HasFirst f → Stands t k f → Stands t k (first_of f)
unfolding size
alone none s h = absurd s
alone (leaf kind ns ne from to rest) s h = record { rows = (h.rows.0, tt); room = omega (arith, h.room) }
alone (node b ns ne from to within rest) s h = record { rows = (h.rows.0, h.rows.1, tt); room = omega (arith, h.room) }

-- ---- the same for values that end before a row ----

pub first_and_rest : (f : Forest) → HasFirst f → size f ≡ 1 + below_at f + size (rest_at f)
unfolding size
first_and_rest none s = absurd s
first_and_rest (leaf kind ns ne from to rest) s = omega arith
first_and_rest (node b ns ne from to within rest) s = omega arith

module _ {t : List ℕ} {k end : ℕ} (f : Forest) (s : HasFirst f) (h : StandsTo t k end f) where
  pub after : StandsTo t (k + 1 + below_at f) end (rest_at f)
  after = record { stands = next f s h.stands; ends = omega (arith, first_and_rest f s, h.ends) }

  pub within : k + 1 + below_at f ≤ end
  within = omega (arith, after.ends)

-- there is a value where the rows have not ended, and none where they have
pub some_at : {t : List ℕ} {k end : ℕ} (f : Forest) → StandsTo t k end f → k < end → HasFirst f
unfolding size
some_at none h lt = absurd (omega (arith, h.ends))
some_at (leaf kind ns ne from to rest) h lt = tt
some_at (node b ns ne from to inside rest) h lt = tt

pub none_at : {t : List ℕ} {k end : ℕ} (f : Forest) → StandsTo t k end f → end ≤ k → f ≡ none
unfolding size
none_at none h le = refl
none_at (leaf kind ns ne from to rest) h le = absurd (omega (arith, h.ends))
none_at (node b ns ne from to inside rest) h le = absurd (omega (arith, h.ends))

-- ---- a table says which values stand in it ----

bracket_unique : (a b : Bracket) → bracket_kind a ≡ bracket_kind b → a ≡ b
bracket_unique square square e = refl
bracket_unique square curly e = absurd (omega arith)
bracket_unique curly square e = absurd (omega arith)
bracket_unique curly curly e = refl

bracket_kind_lem : (b : Bracket) → 6 ≤ bracket_kind b
bracket_kind_lem square = omega arith
bracket_kind_lem curly = omega arith

-- no two trees stand at one row and end before the same row
pub stands_unique : {t : List ℕ} {k end : ℕ} (f g : Forest) → Kinds f → Kinds g → StandsTo t k end f → StandsTo t k end g → f ≡ g
unfolding size
stands_unique none none p q h i = refl
stands_unique none (leaf kind ns ne from to rest) p q h i = absurd (omega (arith, h.ends, i.ends))
stands_unique none (node b ns ne from to inside rest) p q h i = absurd (omega (arith, h.ends, i.ends))
stands_unique (leaf kind ns ne from to rest) none p q h i = absurd (omega (arith, h.ends, i.ends))
stands_unique {k = k} (leaf kind ns ne from to rest) (leaf kind2 ns2 ne2 from2 to2 rest2) p q h i =
    let f : Forest = leaf kind ns ne from to rest in
    let g : Forest = leaf kind2 ns2 ne2 from2 to2 rest2 in
    let a = first_row_lem f tt h.stands in
    let b = first_row_lem g tt i.stands in
    let r = stands_unique {k = k + 1 + below_at f} rest rest2 p.1 q.1 (after f tt h) (after g tt i) in
    cc (a.kind, b.kind, a.name_starts, b.name_starts, a.name_ends, b.name_ends, a.start, b.start, a.finish, b.finish)
stands_unique (leaf kind ns ne from to rest) (node b2 ns2 ne2 from2 to2 inside2 rest2) p q h i =
    absurd (omega (arith, (first_row_lem (leaf kind ns ne from to rest) tt h.stands).kind, (first_row_lem (node b2 ns2 ne2 from2 to2 inside2 rest2) tt i.stands).kind, p.0.most, bracket_kind_lem b2))
stands_unique (node b ns ne from to inside1 rest) none p q h i = absurd (omega (arith, h.ends, i.ends))
stands_unique (node b ns ne from to inside1 rest) (leaf kind2 ns2 ne2 from2 to2 rest2) p q h i =
    absurd (omega (arith, (first_row_lem (node b ns ne from to inside1 rest) tt h.stands).kind, (first_row_lem (leaf kind2 ns2 ne2 from2 to2 rest2) tt i.stands).kind, q.0.most, bracket_kind_lem b))
stands_unique {t} {k} {end} (node b ns ne from to inside1 rest) (node b2 ns2 ne2 from2 to2 inside2 rest2) p q h i =
    let f : Forest = node b ns ne from to inside1 rest in
    let g : Forest = node b2 ns2 ne2 from2 to2 inside2 rest2 in
    let a = first_row_lem f tt h.stands in
    let c = first_row_lem g tt i.stands in
    let n : size inside2 ≡ size inside1 = sym c.below ∙ a.below in
    let br : b ≡ b2 = bracket_unique b b2 (sym a.kind ∙ c.kind) in
    let u = stands_unique {k = k + 1} inside1 inside2 p.0 q.0 (inside f tt h.stands) (rw n at (inside g tt i.stands)) in
    let r = stands_unique {k = k + 1 + below_at f} rest rest2 p.1 q.1 (after f tt h) (rw n at (after g tt i)) in
    cc (a.name_starts, c.name_starts, a.name_ends, c.name_ends, a.start, c.start, a.finish, c.finish)

-- ---- the table that reading leaves ----

pub filled_stands : (words : ℕ) (f : Forest) → StandsTo (filled words (tree_rows f)) 0 (size f) f
filled_stands words f =
    record { stands = rows_stand (filled words (tree_rows f)) 0 0 0 f (replicate (words - length (tree_rows f)) 0) (omega arith) refl; ends = omega arith }

pub filled_linked : (words : ℕ) (f : Forest) → LinkedAt (filled words (tree_rows f)) 0 0 0 f
filled_linked words f = rows_linked (filled words (tree_rows f)) 0 0 0 f (replicate (words - length (tree_rows f)) 0) refl

pub table_stands : {table : List ℕ} (words : ℕ) (f : Forest) (to : ℕ) → table ≡ table_of words (good f to) → StandsTo table 0 (size f) f
unfolding table_of
table_stands words f to e = rw e (filled_stands words f)

pub table_linked : {table : List ℕ} (words : ℕ) (f : Forest) (to : ℕ) → table ≡ table_of words (good f to) → LinkedAt table 0 0 0 f
unfolding table_of
table_linked words f to e = rw e (filled_linked words f)

-- ---- where the values start ----

starts_length : (f : Forest) → length (starts_of f) ≡ size f
unfolding starts_of size
starts_length none = refl
starts_length (leaf kind ns ne from to rest) = omega (arith, starts_length rest)
starts_length (node b ns ne from to inside rest) = simp length-append (omega (arith, starts_length inside, starts_length rest))

-- the start of the i-th value from row k on, those inside others counted too, is the word of its row
pub start_at_lem : {t : List ℕ} {k end : ℕ} (f : Forest) → StandsTo t k end f → (i : ℕ) → i < size f → get_or (starts_of f) i 0 ≡ start_in t (k + i)
unfolding starts_of size
start_at_lem none h i lt = absurd (omega arith)
start_at_lem {t} {k} {end} (leaf kind ns ne from to rest) h zero lt =
    let place : k + 0 ≡ k = omega arith in
    rw place (sym (first_row_lem (leaf kind ns ne from to rest) tt h.stands).start)
start_at_lem {t} {k} {end} (leaf kind ns ne from to rest) h (suc i) lt =
    let place : k + suc i ≡ k + 1 + 0 + i = omega arith in
    rw place (start_at_lem {k = k + 1 + 0} rest (after (leaf kind ns ne from to rest) tt h) i (omega arith))
start_at_lem {t} {k} {end} (node b ns ne from to within rest) h zero lt =
    let place : k + 0 ≡ k = omega arith in
    rw place (sym (first_row_lem (node b ns ne from to within rest) tt h.stands).start)
start_at_lem {t} {k} {end} (node b ns ne from to within rest) h (suc i) lt = elim (dec_le (size within) i) [
  | yes le ↦
      let f : Forest = node b ns ne from to within rest in
      let place : k + suc i ≡ k + 1 + size within + (i - size within) = omega arith in
      let n = starts_length within in
      let split : i ≡ length (starts_of within) + (i - size within) = omega arith in
      ap (λ (j : ℕ). get_or (starts_of within ++ starts_of rest) j 0) split
      ∙ get_or-append-add (starts_of within) (starts_of rest) (i - size within) 0
      ∙ rw place (start_at_lem {k = k + 1 + size within} rest (after f tt h) (i - size within) (omega arith))
  | no le ↦
      let f : Forest = node b ns ne from to within rest in
      let place : k + suc i ≡ k + 1 + i = omega arith in
      let n = starts_length within in
      get_or-append (starts_of within) (starts_of rest) 0 i (omega arith)
      ∙ rw place (start_at_lem {k = k + 1} within (inside f tt h.stands) i (omega arith))
]
