-- Accepted exactly: a text is read with a tree if and only if it derives that tree from the grammar, its strings and names spell, the names in each object
-- are distinct, and the limits hold (`accepts`), for any limits. A text of bytes that is read is read to its end (`accepts_whole`). Assumes nothing.
use Rattle.std.specs.Prelude.{Ok}
use mathlib.Core.Path.{◌≡◌, refl, sym, ap, subst, ◌∙◌}
use mathlib.Core.List.{List}
use mathlib.Core.Logic.{◌↔◌, ◌⊎◌, ⊎_elim}
use Prim.Native.Nat.{ℕ, ◌+◌, ◌-◌, ◌≤◌}
use native.Mathlib.Omega.{arith}
use native.Mathlib.Nat.{le_refl}
use borrow.Author.Tests.{le-ltb}
use lib.ListN.{length}
use Rattle.laws.specs.Lists.{part_of}
use Rattle.text.specs.Limits.{Limits}
use Rattle.text.specs.Tokens.{skip}
use Rattle.text.specs.Tree.{Forest}
use Rattle.text.specs.Reader.{Read, good, bad}
use Rattle.text.specs.Whole.{end_of, read_of}
use Rattle.text.specs.Spelling.{Spells}
use Rattle.text.specs.Placed.{Quoted}
use Rattle.text.specs.Grammar.{JsonText, root_of, value}
use Rattle.text.specs.Seats.{Head, Seat, top, Sits}
use Rattle.text.specs.Meaning.{Accepts}
use Rattle.text.specs.declared.Refusal.{Refusal}
use Rattle.text.proofs.Induction.{read_accepted}
use Rattle.text.proofs.Grammar.Exact.{PastPlace}
use Rattle.text.proofs.Grammar.Quotes.{quoted_at}
use Rattle.text.proofs.Grammar.Trees.{in_deep, in_few}
use Rattle.text.proofs.Grammar.Sound.{Parsed, place_of}
use Rattle.text.proofs.Grammar.Told.{three_end}
use Rattle.text.proofs.Grammar.Wrong.{Wrong, string, name, again, deep, many, Kept}
use Rattle.text.proofs.Grammar.Meets.{Numbered, NearAnswer, read, broken}
use Rattle.text.proofs.Grammar.Rules.{quoted_end, sane_string, sane_name, sane_new}
use Rattle.text.proofs.Grammar.Wholes.{root, root_told, root_within, self, read_inside, read_text}

module _ (L : Limits) (t : List ℕ) where
  -- ---- read, so it is as it should be ----

  pub kept_accepts : {f : Forest} → length t ≤ L.bytes → Kept L t L.depth top f → (d : JsonText t) → f ≡ root_of d → Accepts L t f
  kept_accepts {f} short k d e =
      record {
        derives = d;
        tree = e;
        strings = λ c h i. sane_string L t c h (k.sane c h i);
        names = λ c h i. sane_name L t c h (k.sane c h i);
        distinct = λ u. record { new = λ c h i. sane_new L t c h (k.sane c h i) u };
        short = short;
        shallow = k.shallow;
        few = omega (arith, k.few);
      }

  read_accepts : (f : Forest) → read_of L t ≡ good f (length t) → Accepts L t f
  read_accepts f e =
      let a = read_accepted L t f (length t) e in
      let p : Parsed L t value L.depth top 0 0 (skip t 0) f a.end = rw a.value at (root_told L t) in
      let d = read_text L t p a.space in
      kept_accepts a.short p.kept d.0 d.1

  -- ---- as it should be, so it is read ----

  name_closed : {f : Forest} {d : Seat} {h : Head} (j : ℕ) → Accepts L t f → Sits top f d h → h.ns ≡ j + 1 → quoted_at t j ≡ Ok (h.ne + 1)
  name_closed {d} {h} j a i k = quoted_end t j (subst (λ (n : ℕ). Quoted t n h.ne) k (a.names d h i (omega arith)))

  -- its values have nothing wrong
  pub accepts_clean : {f : Forest} {d : Seat} {h : Head} {m x : ℕ} → Accepts L t f → Sits top f d h → Wrong L t d h m x → ⊥
  accepts_clean {d} {h} a i (string k z) = three_end z (quoted_end t h.from (a.strings d h i k))
  accepts_clean {d} {h} a i (name j k z) = three_end z (name_closed j a i k)
  accepts_clean {d} {h} {x} a i (again {e} u k z n) =
      let same_end : Ok e ≡ Ok (h.ne + 1) = sym z ∙ name_closed x a i k in
      let end : e ≡ h.ne + 1 = cc in
      let last : e - 1 ≡ h.ne = omega arith in
      let p : Spells (part_of t h.ns h.ne) n.codes = rw (k, ← last) n.spells in
      (a.distinct u).new d h i (omega arith) n.codes p n.there
  accepts_clean a i (deep o k) = omega (arith, in_deep i o, a.shallow)
  accepts_clean a i (many k) = omega (arith, in_few i, a.few)

  -- what is answered of a text of the grammar: its value is read and the text ends behind it, or a value has something wrong, which is the answer
  pub data Answered (f : Forest) : Read → Type 0 where
    ended : (end : ℕ) → skip t end ≡ length t → Answered f (good f end)
    stopped : {d : Seat} {h : Head} {m x : ℕ} {r : Refusal} → Sits top f d h → Wrong L t d h m x → Numbered m x r → Answered f (bad r)

  pub answered : (d : JsonText t) → Answered (root_of d) (root L t)
  answered d = let m = self L t (root L t) refl d in go (root L t) (root_within L t) m.end m.is m.ends
    where
      go : (R : Read) → place_of R ≤ length t → (end : ℕ) → NearAnswer L t (length t + 1) top (root_of d) end R
          → (end ≤ length t → (skip t end ≡ length t) ⊎ PastPlace (length t + 1) (length t) (skip t end)) → Answered (root_of d) R
      go R i end read o = ended end (⊎_elim (λ u. u) (λ u. absurd (omega (arith, u.word))) (o i))
      go R i end (broken j w n) o = stopped j w n

  pub ended_so : (f : Forest) (end : ℕ) → skip t end ≡ length t → end_of t (good f end) ≡ good f (length t)
  unfolding end_of
  ended_so f end e = rw (e, le-ltb (length t) (length t) (le_refl (length t)))

  accepts_read : (f : Forest) → Accepts L t f → read_of L t ≡ good f (length t)
  unfolding read_of
  accepts_read f a =
      rw (le-ltb L.bytes (length t) a.short) (go (root L t) (subst (λ (g : Forest). Answered g (root L t)) (sym a.tree) (answered a.derives)))
    where
      go : (R : Read) → Answered f R → end_of t R ≡ good f (length t)
      go R (ended end e) = ended_so f end e
      go R (stopped j w n) = absurd (accepts_clean a j w)

-- theorem: accepted exactly
pub accepts : (L : Limits) (t : List ℕ) (f : Forest) → (read_of L t ≡ good f (length t)) ↔ Accepts L t f
accepts L t f = (read_accepts L t f, accepts_read L t f)

-- theorem: what is read of a text of bytes is the whole text, and accepted
pub accepts_whole : (L : Limits) (t : List ℕ) (f : Forest) (to : ℕ) → read_of L t ≡ good f to → Accepts L t f × (to ≡ length t)
accepts_whole L t f to e =
    let a = read_accepted L t f to e in
    let p : Parsed L t value L.depth top 0 0 (skip t 0) f a.end = rw a.value at (root_told L t) in
    let i : to ≤ length t = rw a.space at (read_inside L t p) in
    let o : to ≡ length t = omega (arith, a.ended) in
    (read_accepts L t f (e ∙ ap (good f) o), o)
