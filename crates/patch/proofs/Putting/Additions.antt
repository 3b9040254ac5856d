-- A walk along the entries of a run, each of which adds a member or none:
--     First, first_said, none_said      the first entry of a run, and those after it; or there is none
--     settled-met                       an entry that met a member adds none
--     Adding, adding-on, adding-end     the members that are still to be added, and the closing brace
-- Assumes nothing.
use Prim.Native.Nat.{ℕ, ◌+◌, ◌≤◌, ◌<◌}
use mathlib.Core.Path.{◌≡◌, refl, ap, ◌∙◌}
use mathlib.Core.List.{List, [], ◌∷◌}
use native.Mathlib.Omega.{arith}
use lib.ListN.{length, get_or}
use Rattle.text.specs.Tree.{Forest}
use Rattle.text.specs.Firsts.{name_start, name_end}
use Rattle.text.specs.Strings.{name_of}
use Rattle.text.specs.Doc.{Members, empty, member, label_at, doc_of}
use Rattle.text.specs.Writing.{spelled, written_members}
use Rattle.contact.specs.Pointer.{first_part}
use Rattle.contact.specs.Patch.{Entry, change_of, added}
use Rattle.patch.specs.Entries.{Listed, over, next, stripped}
use Rattle.patch.specs.Marks.{met, ShortKeys}
use Rattle.patch.specs.Runs.{InOrder, asc_more}
use Rattle.output.specs.Written.{full, Wrote}
use Rattle.json_reader.specs.Lookup.{KnownAt}
use Rattle.patch.specs.Patched.{adds, pointer_in, entry_of, piece, since, Passed, Said, Settled}
use Rattle.patch.specs.declared.writing.Pen.{Pen}
use Rattle.patch.proofs.Listing.Marks.{around_all}
use Rattle.output.proofs.Bytes.{BytesLeft, left_on, left_as, left_last}
use Rattle.patch.proofs.Putting.Kept.{link, linked, added_linked, passed_none}
use Rattle.patch.proofs.Putting.Meeting.{met_by, point_in, adds_there}

-- the member of an entry
abbrev pub member_of : (t : List ℕ) → Forest → Members → Members
member_of t g ms = member (name_of t (name_start g) (name_end g)) (label_at t (name_start g) (name_end g)) (doc_of t g) ms

-- a run that is not empty
pub record First (t table rows : List ℕ) (i hi parts : ℕ) (ms : Members) : Type 0 where
  pub tree : Forest
  pub value : KnownAt table (get_or rows i 0) tree
  pub more : Members
  pub is : ms ≡ member_of t tree more
  pub said : Said t table rows (i + 1) hi parts more

asc_rest : {p : Entry} {es : List Entry} → InOrder (p ∷ es) → InOrder es
asc_rest (asc_more l a) = a

pub first_said : {t table rows : List ℕ} {i hi parts : ℕ} {ms : Members} → Said t table rows i hi parts ms → i < hi → First t table rows i hi parts ms
unfolding stripped
first_said s h = go s.listed s.ascending s.short h
  where
    go : {t table rows : List ℕ} {i hi parts : ℕ} {ms : Members} → Listed t table rows i hi ms → InOrder (stripped parts ms) → ShortKeys t → i < hi
        → First t table rows i hi parts ms
    go over a short h = absurd (omega arith)
    go (next {ms = ms} g lt some kinds stands l) a short h =
        record {
          tree = g;
          value = record { some = some; kinds = kinds; stands = stands };
          more = ms;
          is = refl;
          said = record { listed = l; ascending = asc_rest a; short = short };
        }

pub none_said : {t table rows : List ℕ} {i hi : ℕ} {ms : Members} → Listed t table rows i hi ms → hi ≤ i → ms ≡ empty
none_said over h = refl
none_said (next g lt some kinds stands l) h = absurd (omega arith)

-- an entry that met a member is settled: its walk is marked already
pub settled_met : (pt : List ℕ) {ptable rows cues : List ℕ} {i : ℕ} (walks : List ℕ) {old : List ℕ} (s : Pen) → met ≤ get_or cues i 0 → length old < full
    → Settled pt ptable rows cues i walks walks old s old s
settled_met pt {rows = rows} {i = i} walks s high fits =
    record {
      around = around_all walks i (i + 1);
      is =
          λ t table parts all h v m.
          let b = met_by m high in
          let there = rw (point_in pt rows parts i v) at b.0 in
          (passed_none s fits (adds_there all (pointer_in pt parts h) (change_of (doc_of pt h)) there), b.1);
    }

-- Of the bytes `total` that go into `old` from `at` on, those of the members that the entries from i on add to an object, and its brace, are left.
pub record Adding (t table rows : List ℕ) (i hi parts : ℕ) (object : Members) (old : List ℕ) (at : ℕ) (total new : List ℕ) (s : Pen) : Type 0 where
  pub rest : Members
  pub said : Said t table rows i hi parts rest
  pub left : BytesLeft old at total new s.to (written_members (added object (stripped parts rest)) s.first)

module _ (t : List ℕ) {table rows : List ℕ} {i hi parts : ℕ} {object : Members} {old : List ℕ} {at : ℕ} {total new : List ℕ} {s : Pen}
    (w : Adding t table rows i hi parts object old at total new s) where
  pub adding_on : (f : First t table rows i hi parts w.rest) {new' : List ℕ} {s' : Pen}
      → Passed new s (adds object (entry_of t parts f.tree)) (spelled (first_part (pointer_in t parts f.tree))) new' s'
      → Adding t table rows (i + 1) hi parts object old at total new' s'
  unfolding stripped
  adding_on f {new'} {s'} p =
      let g = f.tree in
      let o = adds object (entry_of t parts g) in
      let n = first_part (pointer_in t parts g) in
      let es = stripped parts f.more in
      let asc : InOrder (entry_of t parts g ∷ es) = rw f.is at w.said.ascending in
      let here : added object (stripped parts w.rest) ≡ link o n (spelled n) (added object es) =
      ap (λ (ms : Members). added object (stripped parts ms)) f.is ∙ added_linked object (pointer_in t parts g) (change_of (doc_of t g)) es asc in
      let bytes = ap (λ (ms : Members). written_members ms s.first) here ∙ linked o n (spelled n) (added object es) s.first in
      let later = written_members (added object es) (since o s.first) in
      record {
        rest = f.more;
        said = f.said;
        left = rw p.next (left_on (piece o s.first (spelled n)) later (left_as bytes w.left) p.wrote);
      }

  pub adding_end : hi ≤ i → {last : List ℕ} {r : ℕ} → Wrote new s.to (125 ∷ []) last r → Wrote old at total last r
  unfolding stripped
  adding_end h b =
      let none = ap (λ (ms : Members). written_members (added object (stripped parts ms)) s.first) (none_said w.said.listed h) in
      left_last (125 ∷ []) (left_as none w.left) b
