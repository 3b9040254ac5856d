-- What the conditions 22 to 26 find in a PatchObject on the document that it patches: the smallest number that is broken, and of the keys that break it
-- the smallest in byte order. In words: `FirstBroken` (specs/Conditions.antt); docs/RULES.md, 6.4.
-- Assumes nothing: these are definitions.
use Rattle.std.specs.Prelude.{ℕ, Bool, cond}
use Rattle.std.proofs.Math.Option.{Option, none, some}
use Rattle.text.specs.Text.{bytes}
use Rattle.laws.specs.Order.{same, before}
use Rattle.text.specs.Doc.{Name, Doc, Members, empty, member}
use Rattle.contact.specs.Pointer.{pointer_of, bad_tilde, first_part, clash}
use Rattle.contact.specs.Patch.{Walk, walk, is_in_array, is_no_object}

-- nothing, or the number of the condition and the key that breaks it
pub data PatchFault : Type 0 where
  all_kept : PatchFault
  broken_by : (number : ℕ) → (key : Name) → PatchFault

-- ---- the smallest key

-- the key that is smaller in byte order, of none, one or two
abbrev pub smaller_key : Option Name → Option Name → Option Name
smaller_key none b = b
smaller_key (some a) none = some a
smaller_key (some a) (some b) = cond (before b a) (some b) (some a)

-- the key, if the test is true
abbrev pub key_if : Bool → Name → Option Name
key_if b key = cond b (some key) none

-- of the keys of which the test is true
abbrev pub least_key : (Name → Bool) → Members → Option Name
least_key f empty = none
least_key f (member key label d ms) = smaller_key (key_if (f key) key) (least_key f ms)

-- of a key and those that clash with it, if there are any
abbrev pub with_others : Name → Option Name → Option Name
with_others key none = none
with_others key (some other) = smaller_key (some key) (some other)

-- of the keys that clash with another: the first and those that clash with it, and those that clash behind it
abbrev pub least_clash : Members → Option Name
least_clash empty = none
least_clash (member key label d ms) =
    smaller_key (with_others key (least_key (λ other. clash (pointer_of key) (pointer_of other)) ms)) (least_clash ms)

-- ---- the smallest number

-- does the key's pointer begin with `localizations`?
abbrev pub own_key : Name → Bool
own_key key = same (first_part (pointer_of key)) (bytes "localizations")

-- does its walk over the document end so?
abbrev pub walks_to : (Walk → Bool) → Doc → Name → Bool
walks_to is d key = is (walk (pointer_of key) d)

-- the condition of this number by the smallest key that breaks it; if none does, what is found of the others
abbrev pub or_else_fault : ℕ → Option Name → PatchFault → PatchFault
or_else_fault number none rest = rest
or_else_fault number (some key) rest = broken_by number key

-- each condition over all keys and the untouched document
unfoldable pub fault_in : Doc → Members → PatchFault
fault_in d ms =
    or_else_fault 22 (least_key bad_tilde ms)
    (or_else_fault 23 (least_key own_key ms)
    (or_else_fault 24 (least_clash ms)
    (or_else_fault 25 (least_key (walks_to is_in_array d) ms)
    (or_else_fault 26 (least_key (walks_to is_no_object d) ms) all_kept))))
