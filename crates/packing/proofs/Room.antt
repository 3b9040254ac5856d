-- How much room is always enough: six times the bytes of a packing for its compact text (`six_fold`). A byte becomes six at most, and a head outweighs brackets,
-- quotes, colon and comma. Assumes nothing.
use mathlib.Core.List.{List, [], ◌∷◌, ◌++◌}
use mathlib.Core.Bool.{Bool, true, false}
use Prim.Native.Nat.{ℕ, ◌+◌, ◌*◌, ◌≤◌}
use native.Mathlib.Omega.{arith}
use lib.ListN.{length, length-append}
use Rattle.laws.proofs.Branches.{if_equal, if_less}
use Rattle.text.specs.Strings.{content_of}
use Rattle.text.specs.Tree.{square, curly}
use Rattle.text.specs.Doc.{Name, Doc, scalar, array, object, Members, empty, member}
use Rattle.text.specs.Writing.{comma, written, written_entries, written_members, short_of, spelled_byte, spelled_bytes, spelled}
use Rattle.text.specs.Labels.{Labelled, Every}
use Rattle.text.specs.Writable.{Lexeme}
use Rattle.text.proofs.Labels.{EveryIn}
use Rattle.packing.specs.Packed.{field_of, content_in, packed, packed_items}
use Rattle.packing.specs.Values.{plain_token, plain, plain_items}

-- ---- strings and names

byte_six : (b : ℕ) → length (spelled_byte b) ≤ 6
byte_six b =
    if_equal P (short_of b) 0 (λ e. if_less P b 32 (λ h. omega arith) (λ h. omega arith)) (λ n. omega arith)
  where
    P : List ℕ → Type 0
    P w = length w ≤ 6

bytes_six : (n : Name) → length (spelled_bytes n) ≤ 6 * length n
bytes_six [] = omega arith
bytes_six (b ∷ n) = omega (arith, byte_six b, bytes_six n, length-append (spelled_byte b) (spelled_bytes n))

spelled_six : (n : Name) → length (spelled n) ≤ 6 * length n + 2
spelled_six n = omega (arith, bytes_six n, length-append (spelled_bytes n) (34 ∷ []))

comma_one : (first : Bool) → length (comma first) ≤ 1
comma_one true = omega arith
comma_one false = omega arith

-- ---- documents

token_six : {kind : ℕ} {w : List ℕ} → Lexeme kind w → length (plain_token kind w) + 1 ≤ 6 * length (field_of kind (content_in kind w))
token_six Lexeme.null = omega arith
token_six Lexeme.falsity = omega arith
token_six Lexeme.truth = omega arith
token_six (Lexeme.number n) = omega arith
token_six (Lexeme.string {w} s) = omega (arith, spelled_six (content_of (34 ∷ w ++ (34 ∷ []))))

mutual
  unfolding plain plain_items

  pub six_fold : (d : Doc) → Every Labelled Lexeme d → length (written (plain d)) + 1 ≤ 6 * length (packed d)
  six_fold (scalar kind token) h = token_six h
  six_fold (array ms) h = omega (arith, six_entries ms h true)
  six_fold (object ms) h = omega (arith, six_members ms h true)

  six_entries : (ms : Members) → EveryIn Labelled Lexeme square ms → (first : Bool)
      → length (written_entries (plain_items ms square) first) ≤ 6 * length (packed_items ms square) + 1
  six_entries empty h first = omega arith
  six_entries (member n label d ms) h first =
      omega (
        arith,
        comma_one first,
        six_fold d h.1,
        six_entries ms h.2 false,
        length-append (comma first ++ written (plain d)) (written_entries (plain_items ms square) false),
        length-append (comma first) (written (plain d)),
        length-append (packed d) (packed_items ms square),
      )

  six_members : (ms : Members) → EveryIn Labelled Lexeme curly ms → (first : Bool)
      → length (written_members (plain_items ms curly) first) ≤ 6 * length (packed_items ms curly) + 1
  six_members empty h first = omega arith
  six_members (member n label d ms) h first =
      omega (
        arith,
        comma_one first,
        spelled_six n,
        six_fold d h.1,
        six_members ms h.2 false,
        length-append (comma first ++ spelled n ++ (58 ∷ written (plain d))) (written_members (plain_items ms curly) false),
        length-append (comma first ++ spelled n) (58 ∷ written (plain d)),
        length-append (comma first) (spelled n),
        length-append (field_of 8 n) (packed d ++ packed_items ms curly),
        length-append (packed d) (packed_items ms curly),
      )
