-- Laws of what is laid (specs/Laid.antt):
--     laid_none, laid_of     nothing; what was written as it should be
--     laid_then              some bytes and then others
--     laid-field             a content behind the place of its head, and then the head: the field
-- Assumes nothing.
use Prim.Native.Nat.{ℕ, ◌+◌, ◌-◌, ◌/◌, ◌%◌, ◌≤◌, ◌<◌}
use mathlib.Core.Path.{◌≡◌, refl, sym, ap, ◌∙◌}
use mathlib.Core.List.{List, [], ◌∷◌, ◌++◌}
use native.Mathlib.Nat.{add-zero, add_assoc}
use native.Mathlib.Omega.{arith}
use lib.ListN.{length, length-append}
use lib.Seq.{sets, length-sets}
use Rattle.laws.proofs.Sets.{sets_append, sets_before}
use Rattle.output.specs.Written.{CountedPlace, Wrote}
use Rattle.output.proofs.Bytes.{counts_same, counts_on}
use Rattle.packing.specs.Packed.{field_of}
use Rattle.vault.specs.Laid.{head_size, head_of, Laid}

pub laid_none : {old : List ℕ} (at : ℕ) → Laid old at [] old at
laid_none at = record { to = rw add-zero (counts_same at); out = λ h. refl; long = refl }

pub laid_of : {old : List ℕ} {at : ℕ} {bytes new : List ℕ} {r : ℕ} → Wrote old at bytes new r → Laid old at bytes new r
laid_of {old} {at} {bytes} w = record { to = w.to; out = λ h. w.out; long = ap length w.out ∙ length-sets old at bytes }

pub laid_then : {old : List ℕ} {at : ℕ} (xs ys : List ℕ) {mid : List ℕ} {p : ℕ} {new : List ℕ} {r : ℕ} → Laid old at xs mid p → Laid mid p ys new r
    → Laid old at (xs ++ ys) new r
laid_then {old} {at} xs ys {mid} {p} a b =
    let n = length-append xs ys in
    record {
      to = rw (n, ← add_assoc) (counts_on (length ys) a.to b.to);
      out =
          λ h.
          let here : p ≡ at + length xs = a.to.exact (omega arith) in
          b.out (omega arith)
          ∙ ap (λ (o : List ℕ). sets o p ys) (a.out (omega arith))
          ∙ ap (λ (q : ℕ). sets (sets old at xs) q ys) here
          ∙ sym (sets_append xs ys old at);
      long = b.long ∙ a.long;
    }

-- a head, and a content behind it
head_first : (head content old : List ℕ) (at : ℕ) → sets (sets old (at + length head) content) at head ≡ sets old at (head ++ content)
head_first head content old at = sets_before head content old at (at + length head) (omega arith) ∙ sym (sets_append head content old at)

-- where the length fits into two bytes the head is the field's own
head_is : (tag n : ℕ) → tag < 256 → n ≤ 65535 → head_of tag n ≡ tag ∷ (n / 256) ∷ (n % 256) ∷ []
head_is tag n h k =
    let t : tag % 256 ≡ tag = omega arith in
    let high : n / 256 % 256 ≡ n / 256 = omega arith in
    rw (t, high)

pub laid_field : (tag : ℕ) → tag < 256 → {old : List ℕ} {at start : ℕ} → CountedPlace (at + head_size) start
    → (content : List ℕ) {mid : List ℕ} {end : ℕ} → Laid old start content mid end
    → {last : List ℕ} → last ≡ sets mid at (head_of tag (end - at - head_size))
    → Laid old at (field_of tag content) last end
laid_field tag small {old} {at} {start} s content {mid} {end} w {last} e =
    let n : ℕ = length content in
    let far : at + head_size + n ≡ at + length (field_of tag content) = omega arith in
    let head : List ℕ = tag ∷ (n / 256) ∷ (n % 256) ∷ [] in
    record {
      to = rw (← far) (counts_on n s w.to);
      out =
          λ h.
          let begins : start ≡ at + head_size = s.exact (omega arith) in
          let ends : end ≡ start + n = w.to.exact (omega arith) in
          let own : end - at - head_size ≡ n = omega arith in
          e
          ∙ ap (λ (m : ℕ). sets mid at (head_of tag m)) own
          ∙ ap (sets mid at) (head_is tag n small (omega arith))
          ∙ ap (λ (o : List ℕ). sets o at head) (w.out (omega arith) ∙ ap (λ (p : ℕ). sets old p content) begins)
          ∙ head_first head content old at;
      long = ap length e ∙ length-sets mid at (head_of tag (end - at - head_size)) ∙ w.long;
    }
