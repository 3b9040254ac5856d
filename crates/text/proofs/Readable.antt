-- What reading a text for a lent table answers, in words: it reads just the texts that are readable (`read_so`, `readable_good`), and refuses just those
-- that are unreadable, as they are (`unread_so`, `unreadable_bad`). Assumes nothing.
use Rattle.std.specs.Prelude.{Err}
use Prim.Native.Nat.{ℕ, ◌*◌}
use mathlib.Core.Path.{◌≡◌, refl, sym, subst, ◌∙◌}
use mathlib.Core.List.{List}
use native.Mathlib.Omega.{arith}
use lib.ListN.{length}
use borrow.Author.Tests.{lt-ltb, le-ltb}
use Rattle.laws.proofs.Branches.{if_less}
use Rattle.text.specs.Limits.{Limits, row_words}
use Rattle.text.specs.Tree.{Forest, size}
use Rattle.text.specs.Reader.{Read, good, bad}
use Rattle.text.specs.Sheet.{numbers, refused, paper}
use Rattle.text.specs.Whole.{read_of, fit_of, whole_of}
use Rattle.text.specs.Meaning.{Readable}
use Rattle.text.specs.Fault.{Unreadable, long, faulty, short}
use Rattle.text.specs.declared.Refusal.{Refusal}
use Rattle.text.specs.declared.Refusal.TheVariants.{TooLong, Grammar, Character, Repeated, Deep, Many, Small}
use Rattle.text.proofs.Outcomes.{paper_unique}
use Rattle.text.proofs.Promise.{whole_good, whole_bad}
use Rattle.text.proofs.Grammar.Stands.{by_order}
use Rattle.text.proofs.Grammar.Accepted.{accepts, accepts_whole}
use Rattle.text.proofs.Grammar.Refused.{refuses, too_long}

-- a refusal's third number is 0
on_sheet : (r : Refusal) → refused r ≡ numbers (refused r).number (refused r).second 0
unfolding refused
on_sheet TooLong = refl
on_sheet (Grammar p) = refl
on_sheet (Character p) = refl
on_sheet (Repeated p) = refl
on_sheet (Deep p) = refl
on_sheet (Many p) = refl
on_sheet (Small n) = refl

-- a refusal is told by its numbers
pub one_refusal : (r s : Refusal) → refused r ≡ refused s → r ≡ s
unfolding paper
one_refusal r s e = let z : Err r ≡ Err s = paper_unique (Err r) (Err s) e in cc

module _ (L : Limits) (words : ℕ) (t : List ℕ) where
  pub readable_good : (f : Forest) → Readable L words t f → whole_of L words t ≡ good f (length t)
  unfolding whole_of fit_of
  readable_good f r = rw ((accepts L t f).1 r.accepts, le-ltb words (row_words * size f) r.enough)

  pub unreadable_bad : {r : Refusal} → Unreadable L words t r → whole_of L words t ≡ bad r
  unfolding whole_of fit_of
  unreadable_bad (long l) = whole_bad L words t TooLong ((too_long L t).1 l)
  unreadable_bad (faulty {r = r} {n = n} {p = p} l f e) =
      let x = (refuses L t l n p).1 f in
      let same : x.refusal ≡ r = one_refusal x.refusal r (x.sheet ∙ sym e) in
      whole_bad L words t r (subst (λ (q : Refusal). read_of L t ≡ bad q) same x.answer)
  unreadable_bad (short s) =
      rw ((accepts L t s.tree).1 s.accepts, lt-ltb words (row_words * size s.tree) s.short, s.needed)

  -- what each answer means
  pub data Means : Read → Type 0 where
    reads : {f : Forest} {to : ℕ} → Readable L words t f → Means (good f to)
    denies : {r : Refusal} → Unreadable L words t r → Means (bad r)

  refusal_means : (r : Refusal) → read_of L t ≡ bad r → Unreadable L words t r
  refusal_means r e =
      by_order L.bytes (length t)
      (λ l. let z : bad TooLong ≡ bad r = sym ((too_long L t).1 l) ∙ e in let same : TooLong ≡ r = cc in subst (Unreadable L words t) same (long l))
      (λ l.
      faulty l
      ((refuses L t l (refused r).number (refused r).second).0 (record { refusal = r; answer = e; sheet = on_sheet r }))
      (on_sheet r))

  pub means : Means (whole_of L words t)
  unfolding whole_of fit_of
  means = go (read_of L t) refl
    where
      go : (R : Read) → read_of L t ≡ R → Means (fit_of words R)
      go (bad r) e = denies (refusal_means r e)
      go (good f to) e =
          let a = (accepts_whole L t f to e).0 in
          if_less Means words (row_words * size f) (λ l. denies (short (record { tree = f; accepts = a; short = l; needed = refl })))
          (λ l. reads (record { accepts = a; enough = l }))

  pub read_so : {f : Forest} {to : ℕ} → whole_of L words t ≡ good f to → Readable L words t f
  read_so {f} {to} e = let fit = whole_good L words t f to e in record { accepts = (accepts_whole L t f to fit.read).0; enough = fit.room }

  pub unread_so : {r : Refusal} → whole_of L words t ≡ bad r → Unreadable L words t r
  unread_so {r} e = go (whole_of L words t) means e
    where
      go : (R : Read) → Means R → R ≡ bad r → Unreadable L words t r
      go R (reads x) q = let z : ◌≡◌ {A = ℕ} 0 1 = cc in absurd (omega arith)
      go R (denies {r = s} x) q = let same : s ≡ r = cc in subst (Unreadable L words t) same x
