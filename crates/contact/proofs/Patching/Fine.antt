-- A PatchObject that breaks none of 22 to 26 on a document, by the tests: `fine`.
-- Assumes nothing.
use mathlib.Core.Path.{◌≡◌, subst, ◌∙◌}
use mathlib.Core.Bool.{Bool, true, false}
use mathlib.Core.Option.{Option, some}
use Prim.Native.Nat.{ℕ}
use Rattle.laws.proofs.Bools.{by_test}
use Rattle.text.specs.Doc.{Name, Doc, Members}
use Rattle.contact.specs.Patch.{entries_of, any_own, any_walk, is_in_array, is_no_object}
use Rattle.contact.specs.Faults.{least_key, least_clash, own_key, walks_to}
use Rattle.contact.specs.Entries.{NoClash, ParentsThere}
use Rattle.contact.specs.Conditions.{LooseTilde, HasKey, BreaksWith, bad_key, Applicable}
use Rattle.contact.proofs.Patching.Apart.{from_any_clash, from_any_walk}
use Rattle.contact.proofs.Patching.Least.{Least, key_some, own_keys, walk_keys, clash_some}
use Rattle.contact.proofs.Patching.Faults.{least_23, least_24, least_25, least_26}

pub record Fine (d : Doc) (ms : Members) : Type 0 where
  pub none_loose : (key : Name) → HasKey key ms → ¬ LooseTilde key
  pub none_own : any_own (entries_of ms) ≡ false
  pub no_clash : NoClash (entries_of ms)
  pub parents : ParentsThere (entries_of ms) d

module _ (d : Doc) (ms : Members) (u : Applicable d ms) where
  -- a test that finds a key of a broken condition finds none
  none_found : (n : ℕ) (o : Option Name) (b : Bool) → Least (BreaksWith d ms n) o → (b ≡ true → (k : Name) × (o ≡ some k)) → b ≡ false
  none_found n o b l h = by_test b (λ e. let (k, q) = h e in absurd (u n k (subst (Least (BreaksWith d ms n)) q l).0)) (λ e. e)

  none_walks_in : any_walk is_in_array (entries_of ms) d ≡ false
  none_walks_in =
      none_found 25 (least_key (walks_to is_in_array d) ms) _ (least_25 d ms (u 22)) (λ e. key_some (walks_to is_in_array d) ms (walk_keys is_in_array d ms ∙ e))

  none_lost : any_walk is_no_object (entries_of ms) d ≡ false
  none_lost =
      none_found 26 (least_key (walks_to is_no_object d) ms) _ (least_26 d ms (u 22)) (λ e. key_some (walks_to is_no_object d) ms (walk_keys is_no_object d ms ∙ e))

  pub fine : Fine d ms
  fine = record {
    none_loose = λ key there loose. u 22 key (bad_key there loose);
    none_own = none_found 23 (least_key own_key ms) _ (least_23 d ms (u 22)) (λ e. key_some own_key ms (own_keys ms ∙ e));
    no_clash = from_any_clash (entries_of ms) (none_found 24 (least_clash ms) _ (least_24 d ms (u 22)) (clash_some ms));
    parents = from_any_walk (entries_of ms) d none_walks_in none_lost;
  }
