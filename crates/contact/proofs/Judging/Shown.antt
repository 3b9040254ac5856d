-- The rows of a document are those of the text that says it: on the row of a value of which a type is asked stands that value (`value_shown`).
-- Assumes nothing.
use Prim.Native.Nat.{ℕ, ◌+◌}
use native.Mathlib.Omega.{arith}
use mathlib.Core.Path.{◌≡◌, refl, sym, subst}
use mathlib.Core.List.{List}
use Rattle.text.specs.Tree.{Forest, none, square, curly, size}
use Rattle.text.specs.Seats.{Head, node_head, Seat, top, under, Sits}
use Rattle.text.specs.Doc.{Name, Doc, scalar, array, object, Members, member, kind_of, token_of, children_of, count_of, count_all}
use Rattle.text.proofs.Grammar.Trees.{in_none}
use Rattle.text.specs.Telling.{TellsAll, nothing, token, entries, members, Tells, tells}
use Rattle.contact.specs.Schema.{Key, Ty}
use Rattle.contact.specs.Breaches.{Sees, Under, Among, first, later, At, root, inside}
use Rattle.contact.specs.Breaches as B
use Rattle.contact.specs.Judging.{Shows}
use Rattle.contact.specs.Judging as S

pub value_seen : (v : Doc) → Sees v (kind_of v) (token_of v) (children_of v)
value_seen (scalar kind w) = B.token
value_seen (array ms) = B.list
value_seen (object ms) = B.box

told_count : {t : List ℕ} {f : Forest} {ms : Members} → TellsAll t f ms → size f ≡ count_all ms
unfolding size count_of count_all
told_count nothing = refl
told_count (token n s k r) = omega (arith, told_count r)
told_count (entries n e r) = omega (arith, told_count e, told_count r)
told_count (members n e r) = omega (arith, told_count e, told_count r)

module _ (t : List ℕ) (f : Forest) where
  -- values that stand in f from the seat c on
  abbrev In : Seat → Forest → Type 0
  In c g = (d : Seat) (h : Head) → Sits c g d h → Sits top f d h

  -- the value v stands on a row of the tree f, and what is below it stands below
  pub record Shown (row : ℕ) (v : Doc) : Type 0 where
    pub seat : Seat
    pub head : Head
    pub there : Sits top f seat head
    pub on_row : seat.after ≡ row
    pub shows : Shows t head v
    pub inner : Forest
    pub says : TellsAll t inner (children_of v)
    pub further : In (under seat) inner

  first_shown : {g : Forest} {n : Name} {label : List ℕ} {v : Doc} {ms : Members} (c : Seat) → TellsAll t g (member n label v ms) → In c g → Shown c.after v
  first_shown c (token n s k r) i =
      record { seat = c; head = _; there = i c _ Sits.leaf_here; on_row = refl; shows = S.token s; inner = none; says = nothing; further = λ d h x. in_none x }
  first_shown c (entries {ns = ns} {ne = ne} {from = from} {to = to} {inside = g} {es = es} n e r) i = record {
    seat = c;
    head = _;
    there = i c _ Sits.node_here;
    on_row = refl;
    shows = subst (λ (k : ℕ). Shows t (node_head square ns ne from to k) (array es)) (sym (told_count e)) S.list;
    inner = g;
    says = e;
    further = λ d h x. i d h (Sits.into x);
  }
  first_shown c (members {ns = ns} {ne = ne} {from = from} {to = to} {inside = g} {es = es} n e r) i = record {
    seat = c;
    head = _;
    there = i c _ Sits.node_here;
    on_row = refl;
    shows = subst (λ (k : ℕ). Shows t (node_head curly ns ne from to k) (object es)) (sym (told_count e)) S.box;
    inner = g;
    says = e;
    further = λ d h x. i d h (Sits.into x);
  }

  -- the values behind the first
  record Rest (c : Seat) (e : Doc) (ms : Members) : Type 0 where
    pub seat : Seat
    pub values : Forest
    pub says : TellsAll t values ms
    pub in_f : In seat values
    pub after : seat.after ≡ c.after + count_of e

  rest_shown : {g : Forest} {n : Name} {label : List ℕ} {e : Doc} {ms : Members} (c : Seat) → TellsAll t g (member n label e ms) → In c g → Rest c e ms
  unfolding size count_of count_all
  rest_shown c (token n s k r) i = record { seat = _; values = _; says = r; in_f = λ d h x. i d h (Sits.leaf_on x); after = omega arith }
  rest_shown c (entries n e r) i = record { seat = _; values = _; says = r; in_f = λ d h x. i d h (Sits.node_on x); after = omega (arith, told_count e) }
  rest_shown c (members n e r) i = record { seat = _; values = _; says = r; in_f = λ d h x. i d h (Sits.node_on x); after = omega (arith, told_count e) }

  among_shown : {k : Key} {v : Doc} {passed : List Name} {ms : Members} {between : ℕ} {g : Forest} (row : ℕ) (c : Seat) → c.after ≡ row → TellsAll t g ms → In c g
      → Among passed ms between k v → Shown (row + between) v
  among_shown {v = v} row c a s i first = subst (λ (m : ℕ). Shown m v) (let e : c.after ≡ row + 0 = omega arith in e) (first_shown c s i)
  among_shown {v = v} row c a s i (later {e = e} {between = between} x) =
      let r = rest_shown c s i in
      let b : r.seat.after ≡ row + count_of e = omega (arith, r.after) in
      subst (λ (m : ℕ). Shown m v) (let z : row + count_of e + between ≡ row + (count_of e + between) = omega arith in z) (among_shown (row + count_of e) r.seat b r.says r.in_f x)

  -- theorem
  pub value_shown : {whole : Doc} {row : ℕ} {ty : Ty} {u : Under} {v : Doc} → Tells t f whole → At whole row ty u v → Shown row v
  value_shown (tells s) root = first_shown top s (λ d h x. x)
  value_shown s (inside {row = row} a fits x g) =
      let r = value_shown s a in
      let b : (under r.seat).after ≡ row + 1 = omega (arith, r.on_row) in
      among_shown (row + 1) (under r.seat) b r.says r.further x
