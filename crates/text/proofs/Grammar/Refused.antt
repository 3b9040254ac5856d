-- Refused rightly: where the text is not over the byte limit, it is refused with a number and a place exactly if it has a fault of that number at that
-- place and none at a smaller place, nor at that place with a smaller number (`refuses`); and with 1 exactly if it is over that limit (`too_long`); for any
-- limits. Assumes nothing.
use mathlib.Core.Path.{◌≡◌, refl, sym, ap, ◌∙◌}
use mathlib.Core.List.{List, ◌++◌, append_assoc}
use mathlib.Core.Logic.{◌↔◌, ⊎_elim}
use Prim.Native.Nat.{ℕ, ◌+◌, ◌≤◌, ◌<◌}
use native.Mathlib.Omega.{arith}
use native.Mathlib.Nat.{le_refl}
use lib.ListN.{length, take, drop, take-append-drop, length-append}
use lib.Seq.{length-take-le, take-take}
use Rattle.laws.proofs.Branches.{if_less}
use Rattle.text.specs.Limits.{Limits}
use Rattle.text.specs.Tokens.{skip}
use Rattle.text.specs.Tree.{Forest}
use Rattle.text.specs.declared.Paper.{Paper}
use Rattle.text.specs.Sheet.{numbers, refused}
use Rattle.text.specs.Reader.{Read, good, bad}
use Rattle.text.specs.Whole.{end_of, read_of, Refuses}
use Rattle.text.specs.Grammar.{value}
use Rattle.text.specs.Seats.{Seat, top}
use Rattle.text.specs.Meaning.{Accepts}
use Rattle.text.specs.Fault.{Begins, TreeBreaks, Violated, FaultAt, grammar, violated, InEach, First, FirstFault}
use Rattle.text.specs.declared.Refusal.{Refusal}
use Rattle.text.specs.declared.Refusal.TheVariants.{TooLong, Grammar, Character, Repeated, Deep, Many, Small}
use Rattle.text.proofs.Induction.{read_accepted}
use Rattle.text.proofs.Fewer.{long_text}
use Rattle.text.proofs.Grammar.Stands.{by_order}
use Rattle.text.proofs.Grammar.Words.{skip_later}
use Rattle.text.proofs.Grammar.Sound.{Stopped, Told, Parsed, Viable, place_of}
use Rattle.text.proofs.Grammar.Wrong.{rank, Wrong}
use Rattle.text.proofs.Grammar.Meets.{number_of, numbered_has, NearAnswer, read, broken}
use Rattle.text.proofs.Grammar.Rules.{wrong_breaks, breaks_wrong, wrong_number}
use Rattle.text.proofs.Grammar.Calm.{InTime, in_time}
use Rattle.text.proofs.Grammar.Wholes.{root, root_told, self, other, other_calm, viable_begins, value_inside, read_inside, read_begins, read_text}
use Rattle.text.proofs.Grammar.Accepted.{kept_accepts}

-- a refusal that is in time
pub time_bad : {m x : ℕ} {R : Read} {r : Refusal} → InTime m x R → R ≡ bad r → rank (number_of r) (place_of (bad r)) ≤ rank m x
time_bad {r} (in_time {r = s} h) e = let k : s ≡ r = cc in rw k at h

time_good : {A : Type 0} {m x to : ℕ} {R : Read} {f : Forest} → InTime m x R → R ≡ good f to → A
time_good (in_time h) e = let z : ◌≡◌ {A = ℕ} 0 1 = cc in absurd (omega arith)

module _ (L : Limits) (t : List ℕ) where
  -- what an answer says of a text that it meets
  near_good : {q end to : ℕ} {c : Seat} {f g : Forest} → NearAnswer L t q c g end (good f to) → (f ≡ g) × (to ≡ end)
  near_good read = (refl, refl)

  near_bad : {q end : ℕ} {f : Forest} {r : Refusal} → NearAnswer L t q top f end (bad r) → (3 ≤ number_of r) × TreeBreaks L t f (number_of r) (place_of (bad r))
  near_bad {r} (broken {d} {h} {m} {x} i w n) =
      let k = numbered_has n in
      let b : Wrong L t d h (number_of r) (place_of (bad r)) = rw (k.number, k.place) w in
      ((wrong_number L t b).0, record { seat = d; head = h; there = i; breaks = wrong_breaks L t b })

  -- ---- no fault before ----

  -- a text that begins with so many bytes begins with fewer
  shorter : {p q : ℕ} → p ≤ q → Begins t q → Begins t p
  shorter {p} {q} l b =
      let e : take q t ++ b.rest ≡ take p t ++ (drop p (take q t) ++ b.rest) =
      ap (λ (w : List ℕ). w ++ b.rest) (sym (take-append-drop p (take q t))) ∙ append_assoc (take p (take q t)) (drop p (take q t)) b.rest ∙ ap
      (λ (w : List ℕ). w ++ (drop p (take q t) ++ b.rest)) (take-take p q t l) in
      record { rest = drop p (take q t) ++ b.rest; is = rw e at b.is }

  -- the numbers of faults are 2 to 6
  fault_number : {m x : ℕ} → FaultAt L t m x → (2 ≤ m) × (m ≤ 6)
  fault_number (grammar g) = omega arith
  fault_number (violated v) = let w = wrong_number L t (breaks_wrong L t v.broken.breaks) in omega arith

  -- a broken rule is refused in time
  violated_time : {m x : ℕ} → Violated L t m x → InTime m x (root L t)
  violated_time {m} {x} v =
      let b = v.broken in
      (other_calm L t x v.within v.rest v.is).least b.seat b.head m x b.there (breaks_wrong L t b.breaks) (omega arith)

  -- the first e bytes begin a text of the grammar, and no rule is broken before the number n at q; so there is no fault before
  module _ {n q e : ℕ} (b : Begins t e) (k : (m x : ℕ) → Violated L t m x → rank n q ≤ rank m x) (i : e ≤ length t) (l : q ≤ e) (far : 2 < n → q + 1 ≤ e) where
    none_at : (m x : ℕ) → x + 1 ≤ e → rank m x < rank n q → FaultAt L t m x → ⊥
    none_at m x s o (grammar g) = g.no_further (omega arith) (shorter s b)
    none_at m x s o (violated v) = omega (arith, k m x v)

    first_fault : FaultAt L t n q → FirstFault L t n q
    first_fault g =
        record {
          fault = g;
          no_earlier = λ m x v o. none_at m x (omega arith) (omega (arith, fault_number v)) v;
          no_smaller = λ m v o. none_at m q (omega (arith, far (omega (arith, fault_number v)))) (omega arith) v;
        }

  -- ---- each refusal is the first fault ----

  module _ (r : Refusal) (e : bad r ≡ root L t) where
    no_rule_before : (m x : ℕ) → Violated L t m x → rank (number_of r) (place_of (bad r)) ≤ rank m x
    no_rule_before m x v = time_bad (violated_time v) (sym e)

    -- 2: no text of the grammar goes on with the byte there
    grammar_first : (p : ℕ) → r ≡ Grammar p → Viable L t value (skip t 0) p p → FirstFault L t 2 p
    grammar_first p k v =
        first_fault (viable_begins L t v) (λ m x w. rw k at (no_rule_before m x w)) v.within (le_refl p) (λ h. absurd (omega arith))
        (grammar (record {
          within = v.within;
          begins = viable_begins L t v;
          no_further = λ l b. absurd (no_two (near_bad (other L t (bad r) e p (rw k (le_refl p)) l b.rest b.is).is).0);
          no_end = λ o d. absurd (no_two (near_bad (self L t (bad r) e d).is).0);
        }))
      where
        no_two : 3 ≤ number_of r → ⊥
        no_two h = let f : number_of r ≡ 2 = ap number_of k in omega arith

    -- 3 to 6: in each text that goes on with the byte there, the rule is broken
    rule_each : (n p : ℕ) → number_of r ≡ n → place_of (bad r) ≡ p → p < length t → InEach L t n p
    rule_each n p k o l u d = rw (k, o) at (near_bad (other L t (bad r) e p (omega arith) l u d).is).1

    rule_first : (n p : ℕ) → number_of r ≡ n → place_of (bad r) ≡ p → Viable L t value (skip t 0) p (p + 1) → FirstFault L t n p
    rule_first n p k o v =
        let b = viable_begins L t v in
        let l : p < length t = omega (arith, v.within) in
        first_fault b (λ m x w. rw (k, o) at (no_rule_before m x w)) v.within (omega arith) (λ h. le_refl (p + 1))
        (violated (record { within = l; rest = b.rest; is = b.is; broken = rule_each n p k o l b.rest b.is }))

  -- a refusal has its numbers on the sheet
  record OnSheet (r : Refusal) : Type 0 where
    n : ℕ
    p : ℕ
    is : refused r ≡ numbers n p 0
    first : FirstFault L t n p
    each : 3 ≤ n → InEach L t n p

  rule_sheet : (r : Refusal) → bad r ≡ root L t → (n p : ℕ) → refused r ≡ numbers n p 0 → number_of r ≡ n → place_of (bad r) ≡ p → Viable L t value (skip t 0) p (p + 1) → OnSheet r
  rule_sheet r e n p s k o v = record { n = n; p = p; is = s; first = rule_first r e n p k o v; each = λ h. rule_each r e n p k o (omega (arith, v.within)) }

  value_refused : (r : Refusal) → bad r ≡ root L t → Stopped (Viable L t value (skip t 0)) r → OnSheet r
  unfolding refused
  value_refused TooLong e v = absurd v
  value_refused (Grammar p) e v = record { n = 2; p = p; is = refl; first = grammar_first (Grammar p) e p refl v; each = λ h. absurd (omega arith) }
  value_refused (Character p) e v = rule_sheet (Character p) e 3 p refl refl refl v
  value_refused (Repeated p) e v = rule_sheet (Repeated p) e 4 p refl refl refl v
  value_refused (Deep p) e v = rule_sheet (Deep p) e 5 p refl refl refl v
  value_refused (Many p) e v = rule_sheet (Many p) e 6 p refl refl refl v
  value_refused (Small n) e v = absurd v

  -- a value, and behind it and its white space something else
  module _ (f : Forest) (to : ℕ) (e : good f to ≡ root L t) (p : Parsed L t value L.depth top 0 0 (skip t 0) f to) (z : skip t to < length t) where
    longer : skip t to < length t → Begins t (skip t to + 1) → ⊥
    longer l b =
        let m = other L t (good f to) e (skip t to) (skip_later t to) l b.rest b.is in
        let x : to ≡ m.end = (near_good m.is).1 in
        ⊎_elim (λ a. omega (arith, ap (skip t) x, length-append (take (skip t to + 1) t) b.rest, length-take-le (skip t to + 1) t (omega arith)))
        (λ a. omega (arith, ap (skip t) x, a.answer)) (m.ends (omega (arith, value_inside L t p)))

    over : skip t to ≡ length t → ⊥
    over h = omega arith

    unended : FirstFault L t 2 (skip t to)
    unended =
        let i = read_inside L t p in
        let b = read_begins L t p in
        first_fault b (λ m x w. time_good (violated_time w) (sym e)) i (le_refl (skip t to)) (λ h. absurd (omega arith))
        (grammar (record { within = i; begins = b; no_further = longer; no_end = λ h d. over h }))

-- ---- every answer ----

-- what an answer means, where the text is not over the byte limit
abbrev RightAnswer : Limits → List ℕ → Read → Type 0
RightAnswer L t (good f to) = Accepts L t f × (to ≡ length t)
RightAnswer L t (bad r) = OnSheet L t r

means : (L : Limits) (t : List ℕ) → length t ≤ L.bytes → RightAnswer L t (read_of L t)
unfolding read_of end_of refused
means L t short =
    if_less (RightAnswer L t) L.bytes (length t) (λ h. absurd (omega arith)) (λ h. go (root L t) refl (root_told L t))
  where
    go : (R : Read) → R ≡ root L t → Told (Parsed L t value L.depth top 0 0 (skip t 0)) (Viable L t value (skip t 0)) R → RightAnswer L t (end_of t R)
    go (bad r) e v = value_refused L t r e v
    go (good f to) e p =
        if_less (RightAnswer L t) (skip t to) (length t)
        (λ z. record { n = 2; p = skip t to; is = refl; first = unended L t f to e p z; each = λ h. absurd (omega arith) })
        (λ z.
        let o : skip t to ≡ length t = omega (arith, read_inside L t p) in
        let d = read_text L t p o in
        (kept_accepts L t short p.kept d.0 d.1, o))

-- ---- an accepted text has no fault ----

no_fault : (L : Limits) (t : List ℕ) (f : Forest) (to : ℕ) {m x : ℕ} → read_of L t ≡ good f to → Accepts L t f → FaultAt L t m x → ⊥
no_fault L t f to {m} {x} e a (grammar g) =
    by_order x (length t) (λ l. g.no_further l (record {
      rest =
          drop (x + 1) t;
      is = rw (sym (take-append-drop (x + 1) t)) at a.derives;
    })) (λ l. g.no_end (omega (arith, g.within)) a.derives)
no_fault L t f to {m} {x} e a (violated v) = time_good (violated_time L t v) (read_accepted L t f to e).value

-- ---- theorem: refused rightly ----

-- there is one first fault
pub one_first : {F : ℕ → ℕ → Type 0} {n p m q : ℕ} → First F n p → First F m q → (n ≡ m) × (p ≡ q)
one_first {n = n} {p = p} {m = m} {q = q} f g =
    by_order p q (λ l. absurd (g.no_earlier n p f.fault l))
    (λ l. by_order q p (λ k. absurd (f.no_earlier m q g.fault k))
    (λ k.
    let e : p ≡ q = omega arith in
    by_order n m (λ h. absurd (g.no_smaller n (rw e at f.fault) h)) (λ h. by_order m n (λ o. absurd (f.no_smaller m (rw (← e) at g.fault) o)) (λ o. (omega arith, e)))))

module _ (L : Limits) (t : List ℕ) (short : length t ≤ L.bytes) (n p : ℕ) where
  refused_first : Refuses L t n p → FirstFault L t n p
  refused_first r =
      let s : OnSheet L t r.refusal = rw r.answer at (means L t short) in
      let e : numbers s.n s.p 0 ≡ numbers n p 0 = sym s.is ∙ r.sheet in
      let x : s.n ≡ n = ap (λ (a : Paper). a.number) e in
      let y : s.p ≡ p = ap (λ (a : Paper). a.second) e in
      rw (x, y) at s.first

  first_refused : FirstFault L t n p → Refuses L t n p
  first_refused f = go (read_of L t) refl (means L t short)
    where
      go : (R : Read) → read_of L t ≡ R → RightAnswer L t R → Refuses L t n p
      go (good g to) e m = absurd (no_fault L t g to e m.0 f.fault)
      go (bad r) e m =
          let o = one_first f m.first in
          record { refusal = r; answer = e; sheet = m.is ∙ rw (← o.0, ← o.1) }

  refused_each : Refuses L t n p → 3 ≤ n → InEach L t n p
  refused_each r h =
      let s : OnSheet L t r.refusal = rw r.answer at (means L t short) in
      let e : numbers s.n s.p 0 ≡ numbers n p 0 = sym s.is ∙ r.sheet in
      let x : s.n ≡ n = ap (λ (a : Paper). a.number) e in
      let y : s.p ≡ p = ap (λ (a : Paper). a.second) e in
      rw (x, y) at (s.each (omega arith))

pub refuses : (L : Limits) (t : List ℕ) → length t ≤ L.bytes → (n p : ℕ) → Refuses L t n p ↔ FirstFault L t n p
refuses L t short n p = (refused_first L t short n p, first_refused L t short n p)

-- where one of 3 to 6 is refused, each text of the grammar that goes on as the text does up to that place breaks the rule there
pub in_each : (L : Limits) (t : List ℕ) → length t ≤ L.bytes → (n p : ℕ) → Refuses L t n p → 3 ≤ n → InEach L t n p
in_each L t short n p = refused_each L t short n p

-- ---- theorem: 1 comes first ----

module _ (L : Limits) (t : List ℕ) where
  -- nothing else is refused with 1
  not_long : (R : Read) → Told (Parsed L t value L.depth top 0 0 (skip t 0)) (Viable L t value (skip t 0)) R → end_of t R ≡ bad TooLong → ⊥
  unfolding end_of
  not_long (bad TooLong) v e = v
  not_long (bad (Grammar p)) v e = let z : ◌≡◌ {A = ℕ} 0 1 = cc in omega arith
  not_long (bad (Character p)) v e = let z : ◌≡◌ {A = ℕ} 0 1 = cc in omega arith
  not_long (bad (Repeated p)) v e = let z : ◌≡◌ {A = ℕ} 0 1 = cc in omega arith
  not_long (bad (Deep p)) v e = let z : ◌≡◌ {A = ℕ} 0 1 = cc in omega arith
  not_long (bad (Many p)) v e = let z : ◌≡◌ {A = ℕ} 0 1 = cc in omega arith
  not_long (bad (Small n)) v e = v
  not_long (good f to) v e =
      if_less (λ (R : Read). R ≡ bad TooLong → ⊥) (skip t to) (length t)
      (λ k h. let z : ◌≡◌ {A = ℕ} 0 1 = cc in omega arith) (λ k h. let z : ◌≡◌ {A = ℕ} 0 1 = cc in omega arith) e

  refused_long : read_of L t ≡ bad TooLong → L.bytes < length t
  unfolding read_of
  refused_long =
      if_less (λ (R : Read). R ≡ bad TooLong → L.bytes < length t) L.bytes (length t) (λ h e. h) (λ h e. absurd (not_long (root L t) (root_told L t) e))

pub too_long : (L : Limits) (t : List ℕ) → (read_of L t ≡ bad TooLong) ↔ (L.bytes < length t)
too_long L t = (refused_long L t, long_text L t)
