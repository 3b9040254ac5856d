-- What is promised of a reader that takes pieces (02, Req 10), sentence by sentence: `InPieces`. It is said of any reader, by what a caller lends and gets
-- back; no automaton is named. proofs/Promise.antt proves it of `wired` (specs/Service.antt), for all limits. Assumes nothing: these are definitions.
use Rattle.std.specs.Prelude.{ℕ, ◌≤◌, ◌<◌, ◌≡◌, ◌⊎◌, List, [], ◌++◌, length, take}
use Rattle.text.specs.Text.{Bytes}
use Rattle.text.specs.Limits.{Limits}
use Rattle.text.specs.Sheet.{numbers, refused, paper}
use Rattle.text.specs.declared.Paper.{Paper}
use Rattle.text.specs.declared.Refusal.{Refusal}
use Rattle.text.specs.declared.Refusal.TheVariants.{TooLong}
use Rattle.wire.specs.Measure.{measure, Certain, Shortest}

-- what a call leaves of the words that the caller keeps, and what it answers
pub record Kept : Type 0 where
  pub words : List ℕ
  pub answer : Paper

-- a reader in pieces: the words to begin with, and what it does with any words and a piece, and with any words at the end
pub record Wire : Type 0 where
  pub start : List ℕ
  pub take : (words piece : List ℕ) → Kept
  pub end : (words : List ℕ) → Kept

-- the words that are kept after some pieces from the start on, whose bytes one after another are p
pub data After (w : Wire) : (p words : List ℕ) → Type 0 where
  nothing : After w [] w.start
  piece : {p words : List ℕ} (q : List ℕ) → Bytes q → After w p words → After w (p ++ q) (w.take words q).words

-- "go on"
abbrev pub go_on_answer : Paper
go_on_answer = numbers 0 0 0

-- no refusal is certain after j bytes of p
abbrev pub Open : Limits → List ℕ → (j : ℕ) → Type 0
Open L p j = (r : Refusal) → Certain L (take j p) r → ⊥

-- what is to be answered after the bytes p
pub data Says (L : Limits) (p : List ℕ) : Paper → Type 0 where
  -- "go on" until one refusal is certain
  go_on : length p ≤ L.bytes → ((j : ℕ) → Open L p j) → Says L p go_on_answer
  -- and then that refusal, from the byte on that makes it certain
  certain : {k : ℕ} {r : Refusal} → k ≤ L.bytes → Shortest L p k r → Says L p (refused r)
  -- a byte beyond the limit gives 1 unless a refusal was certain before it
  too_long : L.bytes < length p → ((j : ℕ) → j ≤ L.bytes → Open L p j) → Says L p (refused TooLong)

-- demand 1, of every call: "go on" counts as an acceptance; 4 and 7 aren't given, and nothing is written
pub data Answers : Paper → Type 0 where
  acceptance : {values : ℕ} → Answers (numbers 0 values 0)
  refusal : {number second : ℕ} → ((1 ≤ number) × (number ≤ 3)) ⊎ ((5 ≤ number) × (number ≤ 6)) → Answers (numbers number second 0)

-- the words and the answer stay from here on, whatever comes
pub record Final (w : Wire) (k : Kept) : Type 0 where
  pub further_piece : (q : List ℕ) → w.take k.words q ≡ k
  pub further_end : w.end k.words ≡ k

-- the sentences of the request
pub record InPieces (L : Limits) (w : Wire) : Type 0 where
  -- whatever words are lent, a call ends with acceptance or one numbered refusal; and as many words are left as a start leaves
  pub take_ends : (words q : List ℕ) → Answers (w.take words q).answer × (length (w.take words q).words ≡ length w.start)
  pub end_ends : (words : List ℕ) → Answers (w.end words).answer × (length (w.end words).words ≡ length w.start)
  -- a piece answers "go on" until one refusal is certain whatever follows, and then that refusal: neither too early nor too late ..
  pub answers : {p words : List ℕ} → After w p words → (q : List ℕ) → Bytes q → Says L (p ++ q) (w.take words q).answer
  -- .. and this is the only answer
  pub only : (p : List ℕ) {a b : Paper} → Says L p a → Says L p b → a ≡ b
  -- at the end the answer is that reading's: its refusal, or acceptance with the number of values ..
  pub at_end : {p words : List ℕ} → After w p words → Says L p go_on_answer → (w.end words).answer ≡ paper (measure L p)
  -- .. but where a refusal was given before, that one
  pub end_refused : {p words : List ℕ} {a : Paper} → After w p words → Says L p a → (a ≡ go_on_answer → ⊥) → (w.end words).answer ≡ a
  -- however the text is cut: the same bytes leave the same words, so that all later answers agree
  pub cutting : {p words others : List ℕ} → After w p words → After w p others → words ≡ others
  -- empty pieces change nothing
  pub empty : {p words : List ℕ} → After w p words → (w.take words []).words ≡ words
  -- after a refusal every further piece or end returns the same answer and changes nothing, whatever words were lent ..
  pub refused_stays : (words q : List ℕ) → ((w.take words q).answer ≡ go_on_answer → ⊥) → Final w (w.take words q)
  -- .. and after the end
  pub end_stays : (words : List ℕ) → Final w (w.end words)
