-- A value that stands at a row: its kind, its token and its members, by the row's words; and the member of a name. Assumes nothing.
use Rattle.std.specs.Prelude.{Some, None, Option}
use Rattle.std.specs.Option.{is_some}
use Prim.Native.Nat.{ℕ, ◌<◌, ◌≤◌, ◌+◌, ◌*◌}
use mathlib.Core.Path.{◌≡◌, refl, sym, subst, ◌∙◌}
use mathlib.Core.List.{List}
use mathlib.Core.Option.{Option as Maybe, none, some}
use native.Mathlib.Omega.{arith}
use lib.ListN.{length}
use Rattle.laws.specs.Lists.{part_of}
use Rattle.text.specs.Limits.{row_words}
use Rattle.text.specs.Tree.{Forest}
use Rattle.text.specs.Standing.{StandsTo}
use Rattle.text.specs.Firsts.{inside_at}
use Rattle.text.specs.Doc.{Name, Doc, Property, doc_of, members_of, kind_of, token_of, children_of, seek, is_there}
use Rattle.text.proofs.Promise.{first_row_lem, first_room, doc_kind, doc_token, doc_below}
use Rattle.contact.specs.Rules.{is_this_string, has_kind}
use Rattle.json_reader.specs.Rows.{kind_in, start_in, end_in, below_in}
use Rattle.json_reader.specs.Lookup.{last_row, row_after, Finds}
use Rattle.json_reader.proofs.Seeking.{row_after_lem, members_stand}
use Rattle.card.specs.Rows.{ValueAt, RowOf, ValueOf}

-- ---- one value

module _ (text : List ℕ) {t : List ℕ} {k : ℕ} (f : Forest) (v : ValueAt t k f) where
  pub value_kind : kind_in t k ≡ kind_of (doc_of text f)
  value_kind = (first_row_lem f v.some v.stands).kind ∙ sym (doc_kind text f v.some)

  pub value_token : kind_in t k < 6 → token_of (doc_of text f) ≡ part_of text (start_in t k) (end_in t k)
  value_token lt =
      let r = first_row_lem f v.some v.stands in
      doc_token text f v.some (omega (arith, r.kind)) ∙ rw (r.start, r.finish)

  -- its members stand from the next row on, up to the row after it
  pub value_members : {r : ℕ} → r ≡ row_after t k → k < last_row → StandsTo t (k + 1) r (inside_at f)
  value_members e lt = members_stand v.some v.stands (row_after_lem t k e lt)

  pub value_room : (k + 1 + below_in t k) * row_words ≤ length t
  value_room = omega (arith, (first_row_lem f v.some v.stands).below, first_room f v.some v.stands)

-- what holds of the members of any value at the row holds of what is below it
pub value_below : (text : List ℕ) (f : Forest) → children_of (doc_of text f) ≡ members_of text (inside_at f)
value_below text f = doc_below text f

-- ---- the member of a name

abbrev pub seek_in : (text name : List ℕ) → Forest → Maybe Property
seek_in text name f = seek name (members_of text f)

abbrev pub content_of : Property → Doc
content_of p = p.content

-- a search among rows answers with the row of the member
pub row_of : (text table : List ℕ) (end : ℕ) (name : Name) (f : Forest) (r : Option ℕ) → Finds text table end name f r
    → RowOf content_of text table r (seek_in text name f)
row_of text table end name f (Some m) h = rw h.is (h.found, record { some = h.some_found; stands = h.stands.stands }, refl)
row_of text table end name f None h = rw h tt

-- the value of a member, if there is one
abbrev pub content_in : Maybe Property → Maybe Doc
content_in none = none
content_in (some p) = some p.content

pub content_row : (text table : List ℕ) (r : Option ℕ) (o : Maybe Property) → RowOf content_of text table r o → ValueOf text table r (content_in o)
content_row text table (Some k) (some p) h = h
content_row text table (Some k) none h = absurd h
content_row text table None (some p) h = absurd h
content_row text table None none h = tt

pub content_string : (n : Name) (o : Maybe Property) → is_this_string n (content_in o) ≡ has_kind n o
content_string n none = refl
content_string n (some p) = refl

-- ---- what the answer of a search says

module _ {A : Type 0} (value_of : A → Doc) (text t : List ℕ) where
  -- it says whether there is one
  pub there : (r : Option ℕ) (o : Maybe A) → RowOf value_of text t r o → is_some r ≡ is_there o
  there (Some k) (some a) h = refl
  there (Some k) none h = absurd h
  there None (some a) h = absurd h
  there None none h = refl

  at_case : (k : ℕ) (o : Maybe A) → RowOf value_of text t (Some k) o → (P : Maybe A → Type 0)
      → ((a : A) (f : Forest) → ValueAt t k f → value_of a ≡ doc_of text f → P (some a)) → P o
  at_case k (some a) (f, v, e) P this = this a f v e
  at_case k none s P this = absurd s

  nothing_case : (o : Maybe A) → RowOf value_of text t None o → (P : Maybe A → Type 0) → P none → P o
  nothing_case (some a) s P this = absurd s
  nothing_case none s P this = this

  here_case : (k : ℕ) (o : Maybe A) → RowOf value_of text t (Some k) o → (f : Forest) × ValueAt t k f
  here_case k (some a) (f, v, e) = (f, v)
  here_case k none s = absurd s

  module _ {r : (Option ℕ)} (o : Maybe A) (s : RowOf value_of text t r o) where
    pub found_here : {k : ℕ} → r ≡ Some k → (f : Forest) × ValueAt t k f
    found_here {k} q = here_case k o (subst (λ (g : Option ℕ). RowOf value_of text t g o) q s)

    pub by_found : (P : Maybe A → Type 0) {k : ℕ} → r ≡ Some k
        → ((a : A) (f : Forest) → ValueAt t k f → value_of a ≡ doc_of text f → P (some a)) → P o
    by_found P {k} q this = at_case k o (subst (λ (g : Option ℕ). RowOf value_of text t g o) q s) P this

    pub by_nothing : (P : Maybe A → Type 0) → r ≡ None → P none → P o
    by_nothing P q this = nothing_case o (subst (λ (g : Option ℕ). RowOf value_of text t g o) q s) P this

abbrev pub itself : Doc → Doc
itself d = d
