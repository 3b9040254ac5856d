-- What a caller of `put_card` knows and gets:
--     stripped-all    entries with all their parts
--     wrote_count     the count is the length of what was to be written, as long as that is countable
-- Assumes nothing.
use Prim.Native.Nat.{ℕ, ◌<◌}
use mathlib.Core.Path.{◌≡◌, refl, ap, ◌∙◌}
use mathlib.Core.List.{List, ◌∷◌}
use native.Mathlib.Omega.{arith}
use native.Mathlib.Nat.{zero-add}
use lib.ListN.{length}
use Rattle.text.specs.Doc.{Members, empty, member}
use Rattle.contact.specs.Pointer.{pointer_of}
use Rattle.contact.specs.Patch.{Entry, entry, change_of, entries_of}
use Rattle.pointers.specs.Pointers.{strip}
use Rattle.patch.specs.Entries.{stripped}
use Rattle.output.specs.Written.{full, Wrote}

pub stripped_all : (ms : Members) → stripped 0 ms ≡ entries_of ms
unfolding stripped strip
stripped_all empty = refl
stripped_all (member key label d ms) = ap (λ (es : List Entry). entry (pointer_of key) (change_of d) ∷ es) (stripped_all ms)

pub wrote_count : {old bytes new : List ℕ} {r : ℕ} → Wrote old 0 bytes new r → length bytes < full → r ≡ length bytes
wrote_count {bytes = bytes} w h = w.to.exact (omega arith) ∙ zero-add (length bytes)
