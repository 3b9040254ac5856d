-- How a pointer is written, by rules and not by a reader: its parts with a `/` (47) between two of them, and in a part `~0` (126 48) for `~` and
-- `~1` (126 49) for `/` (RFC 6901, section 3; docs/RULES.md, 6.2). There is no other way to write it, and `pointer_of` finds what is written
-- (proofs/Patching/Pointers.antt).
-- Assumes nothing: these are definitions.
use Rattle.std.specs.Prelude.{ℕ, ◌≢◌, List, [], ◌∷◌, ◌++◌}
use Rattle.text.specs.Doc.{Name}
use Rattle.contact.specs.Pointer.{Pointer, last, down}

-- a part as it is written, and the name that it means
pub data PartText : List ℕ → Name → Type 0 where
  none : PartText [] []
  byte : {b : ℕ} {bs : List ℕ} {n : Name} → b ≢ 47 → b ≢ 126 → PartText bs n → PartText (b ∷ bs) (b ∷ n)
  tilde : {bs : List ℕ} {n : Name} → PartText bs n → PartText (126 ∷ 48 ∷ bs) (126 ∷ n)
  slash : {bs : List ℕ} {n : Name} → PartText bs n → PartText (126 ∷ 49 ∷ bs) (47 ∷ n)

-- a key as it is written, decoded, and the pointer that it means
pub data PointerText : List ℕ → Pointer → Type 0 where
  one : {bs : List ℕ} {n : Name} → PartText bs n → PointerText bs (last n)
  more : {bs cs : List ℕ} {n : Name} {p : Pointer} → PartText bs n → PointerText cs p → PointerText (bs ++ (47 ∷ cs)) (down n p)
