-- What it says that conditions are kept:
--     placed-kept      nothing is found where the code says so
--     keys_kept        22, 23 and 24: no key has a loose `~`, none begins with `localizations`, no two clash
--     walks-kept       25 and 26: each pointer finds its parent
-- Assumes nothing.
use Rattle.std.specs.Prelude.{Ok}
use Prim.Native.Nat.{ℕ}
use mathlib.Core.Path.{◌≡◌, refl, sym, ◌∙◌}
use mathlib.Core.Bool.{Bool, true, false}
use mathlib.Core.Option.{Option, none, some, none-ne-some}
use native.Mathlib.Omega.{arith}
use Rattle.laws.proofs.Bools.{by_test}
use Rattle.text.specs.Doc.{Name, Doc, Members}
use Rattle.contact.specs.Pointer.{bad_tilde}
use Rattle.contact.specs.Patch.{entries_of, is_in_array, is_no_object, any_bad_key, any_own, any_clash}
use Rattle.contact.specs.Faults.{PatchFault, all_kept, broken_by, least_key, least_clash, own_key, walks_to, or_else_fault}
use Rattle.contact.specs.Entries.{NoClash, ParentsThere}
use Rattle.contact.proofs.Patching.Least.{any_key, key_some, clash_some, bad_keys, own_keys, walk_keys}
use Rattle.contact.proofs.Patching.Apart.{from_any_clash, from_any_walk}
use Rattle.patch.specs.Conditions.{key_fault, walk_fault, condition_of}

pub placed_kept : (place : Name → ℕ) (f : PatchFault) → condition_of place f ≡ (Ok tt) → f ≡ all_kept
placed_kept place all_kept e = refl
placed_kept place (broken_by number key) e = let z : ◌≡◌ {A = ℕ} 0 1 = cc in absurd (omega arith)

-- where nothing is found, this condition has no key, and of the others nothing is found
none_found : (number : ℕ) (o : Option Name) (rest : PatchFault) → or_else_fault number o rest ≡ all_kept → (o ≡ none) × (rest ≡ all_kept)
none_found number none rest e = (refl, e)
none_found number (some key) rest e = let z : ◌≡◌ {A = ℕ} 0 1 = cc in absurd (omega arith)

-- a test that is true of one key leaves a smallest key
unfound : (b : Bool) (o : Option Name) → (b ≡ true → (key : Name) × (o ≡ some key)) → o ≡ none → b ≡ false
unfound b o h e = by_test b (λ t. let (key, f) = h t in absurd (none-ne-some key (sym e ∙ f))) (λ t. t)

no_key_lem : (f : Name → Bool) (ms : Members) → least_key f ms ≡ none → any_key f ms ≡ false
no_key_lem f ms = unfound (any_key f ms) (least_key f ms) (key_some f ms)

pub none_bad_lem : (ms : Members) → least_key bad_tilde ms ≡ none → any_bad_key ms ≡ false
none_bad_lem ms e = sym (bad_keys ms) ∙ no_key_lem bad_tilde ms e

pub record KeysKept (ms : Members) : Type 0 where
  pub none_bad : any_bad_key ms ≡ false
  pub none_own : any_own (entries_of ms) ≡ false
  pub no_clash : NoClash (entries_of ms)

pub keys_kept : (ms : Members) → key_fault ms ≡ all_kept → KeysKept ms
keys_kept ms e =
    let a = none_found 22 (least_key bad_tilde ms) (or_else_fault 23 (least_key own_key ms) (or_else_fault 24 (least_clash ms) all_kept)) e in
    let b = none_found 23 (least_key own_key ms) (or_else_fault 24 (least_clash ms) all_kept) a.1 in
    let c = none_found 24 (least_clash ms) all_kept b.1 in
    record {
      none_bad = none_bad_lem ms a.0;
      none_own = sym (own_keys ms) ∙ no_key_lem own_key ms b.0;
      no_clash = from_any_clash (entries_of ms) (unfound (any_clash (entries_of ms)) (least_clash ms) (clash_some ms) c.0);
    }

pub walks_kept : (d : Doc) (ms : Members) → walk_fault d ms ≡ all_kept → ParentsThere (entries_of ms) d
walks_kept d ms e =
    let a = none_found 25 (least_key (walks_to is_in_array d) ms) (or_else_fault 26 (least_key (walks_to is_no_object d) ms) all_kept) e in
    let b = none_found 26 (least_key (walks_to is_no_object d) ms) all_kept a.1 in
    from_any_walk (entries_of ms) d (sym (walk_keys is_in_array d ms) ∙ no_key_lem (walks_to is_in_array d) ms a.0)
    (sym (walk_keys is_no_object d ms) ∙ no_key_lem (walks_to is_no_object d) ms b.0)
