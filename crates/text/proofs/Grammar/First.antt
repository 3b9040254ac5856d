-- A text of the grammar that is not over the byte limit is refused for the first rule that a value of its own tree breaks: `tree_refuses`, for any
-- limits. Assumes nothing.
use mathlib.Core.Path.{◌≡◌, refl, sym, ap, ◌∙◌}
use mathlib.Core.List.{List}
use mathlib.Core.Logic.{◌↔◌}
use Prim.Native.Nat.{ℕ, ◌≤◌}
use native.Mathlib.Omega.{arith}
use borrow.Author.Tests.{le-ltb}
use lib.ListN.{length}
use Rattle.text.specs.Limits.{Limits}
use Rattle.text.specs.declared.Paper.{Paper}
use Rattle.text.specs.Sheet.{numbers, refused}
use Rattle.text.specs.Reader.{Read, good, bad}
use Rattle.text.specs.Whole.{end_of, read_of, Refuses}
use Rattle.text.specs.Grammar.{JsonText, root_of}
use Rattle.text.specs.Seats.{Head, Seat, top, Sits}
use Rattle.text.specs.Fault.{TreeBreaks, FirstBreak}
use Rattle.text.specs.declared.Refusal.{Refusal}
use Rattle.text.proofs.Grammar.Sound.{place_of}
use Rattle.text.proofs.Grammar.Wrong.{rank, Wrong}
use Rattle.text.proofs.Grammar.Meets.{Numbered, third, fourth, fifth, sixth, numbered_has}
use Rattle.text.proofs.Grammar.Rules.{wrong_breaks, breaks_wrong, wrong_number}
use Rattle.text.proofs.Grammar.Wholes.{root, root_within, self_calm}
use Rattle.text.proofs.Grammar.Accepted.{accepts, accepts_clean, Answered, ended, stopped, answered, ended_so}
use Rattle.text.proofs.Grammar.Refused.{time_bad, one_first}

-- a refusal's numbers on the sheet
numbered_sheet : {m x : ℕ} {r : Refusal} → Numbered m x r → refused r ≡ numbers m x 0
unfolding refused
numbered_sheet third = refl
numbered_sheet fourth = refl
numbered_sheet fifth = refl
numbered_sheet sixth = refl

module _ (L : Limits) (t : List ℕ) (short : length t ≤ L.bytes) where
  -- the text is short enough, so what its value answers is the answer
  pub by_root : (R : Read) → root L t ≡ R → read_of L t ≡ end_of t R
  unfolding read_of
  by_root R e = rw (le-ltb L.bytes (length t) short, e)

  module _ (j : JsonText t) where
    -- a value that has something wrong, which is the answer: nothing is wrong before it
    first_wrong : {d : Seat} {h : Head} {m x : ℕ} {r : Refusal} → root L t ≡ bad r → Sits top (root_of j) d h → Wrong L t d h m x → Numbered m x r
        → FirstBreak L t (root_of j) m x
    first_wrong {d} {h} {m} {x} {r} e i w n =
        record {
          fault = record { seat = d; head = h; there = i; breaks = wrong_breaks L t w };
          no_earlier = λ k q b l. omega (arith, least k q b (omega (arith, here)), few b, wrong_number L t w);
          no_smaller = λ k b l. omega (arith, least k x b here);
        }
      where
        here : x ≤ length t
        here = omega (arith, (numbered_has n).place, root_within L t, ap place_of e)

        least : (k q : ℕ) → TreeBreaks L t (root_of j) k q → q ≤ length t → rank m x ≤ rank k q
        least k q b l =
            let has = numbered_has n in
            omega (arith, has.number, has.place, time_bad ((self_calm L t j).least b.seat b.head k q b.there (breaks_wrong L t b.breaks) (omega arith)) e)

        few : {k q : ℕ} → TreeBreaks L t (root_of j) k q → k ≤ 6
        few b = (wrong_number L t (breaks_wrong L t b.breaks)).1

    -- what is answered of the text: it is read whole, or a value of it has something wrong that comes first
    pub data Told : Read → Type 0 where
      whole : Told (good (root_of j) (length t))
      wrong : {d : Seat} {h : Head} {m x : ℕ} {r : Refusal} → Sits top (root_of j) d h → Wrong L t d h m x → Numbered m x r → FirstBreak L t (root_of j) m x → Told (bad r)

    pub told : Told (read_of L t)
    unfolding end_of
    told = go (root L t) refl (answered L t j)
      where
        go : (R : Read) → root L t ≡ R → Answered L t (root_of j) R → Told (read_of L t)
        go R e (ended end o) = rw (by_root R e, ended_so L t (root_of j) end o) whole
        go R e (stopped i w n) = rw (by_root R e) (wrong i w n (first_wrong e i w n))

    module _ (n p : ℕ) where
      refused_first : Refuses L t n p → FirstBreak L t (root_of j) n p
      refused_first r = go (read_of L t) r.answer told
        where
          go : (R : Read) → R ≡ bad r.refusal → Told R → FirstBreak L t (root_of j) n p
          go R e whole = let z : ◌≡◌ {A = ℕ} 0 1 = cc in absurd (omega arith)
          go R e (wrong {m = m} {x = x} {r = s} i w k f) =
              let same : s ≡ r.refusal = cc in
              let sheet : numbers m x 0 ≡ numbers n p 0 = sym (numbered_sheet k) ∙ ap refused same ∙ r.sheet in
              let a : m ≡ n = ap (λ (y : Paper). y.number) sheet in
              let b : x ≡ p = ap (λ (y : Paper). y.second) sheet in
              rw (a, b) at f

      first_refused : FirstBreak L t (root_of j) n p → Refuses L t n p
      first_refused f = go (read_of L t) refl told
        where
          go : (R : Read) → read_of L t ≡ R → Told R → Refuses L t n p
          go R e whole =
              let b = f.fault in
              absurd (accepts_clean L t ((accepts L t (root_of j)).0 e) b.there (breaks_wrong L t b.breaks))
          go R e (wrong {r = s} i w k g) =
              let o = one_first f g in
              record { refusal = s; answer = e; sheet = numbered_sheet k ∙ rw (← o.0, ← o.1) }

-- theorem: a text of the grammar is refused for the first rule that a value of its tree breaks
pub tree_refuses : (L : Limits) (t : List ℕ) → length t ≤ L.bytes → (j : JsonText t) (n p : ℕ) → Refuses L t n p ↔ FirstBreak L t (root_of j) n p
tree_refuses L t short j n p = (refused_first L t short j n p, first_refused L t short j n p)
