-- What a patched document is, of the document, the members of the PatchObject and the result (`Patched`); what a patched card is (`PatchedCard`), and
-- what judging makes of a document that is written (`WrittenCard`). proofs/Patching/Together.antt proves them where no key breaks 22 to 26.
-- docs/RULES.md, 6.5 and 6.6. Assumes nothing: these are definitions.
use Rattle.std.specs.Prelude.{ℕ, ◌+◌, ◌≤◌, ◌<◌, ◌≡◌, ◌≢◌, List, length}
use Rattle.std.proofs.Math.Option.{none, some}
use Rattle.laws.specs.Sorting.{Perm}
use Rattle.text.specs.Limits.{Limits}
use Rattle.text.specs.Text.{bytes}
use Rattle.text.specs.Reader.{good}
use Rattle.text.specs.Whole.{read_of}
use Rattle.text.specs.Grammar.{root_of}
use Rattle.text.specs.Doc.{Name, Doc, object, Members, member, property, count_of, count_all}
use Rattle.text.specs.Writing.{written}
use Rattle.text.specs.Writable.{Writable, depth_in, ReadsBack}
use Rattle.text.specs.declared.Refusal.TheVariants.{Deep}
use Rattle.contact.specs.Judge.{card_breach}
use Rattle.contact.specs.Verdict.{failed, by_breach, judged_of}
use Rattle.contact.specs.Pointer.{Pointer, last, first_part, last_part, find}
use Rattle.contact.specs.Patch.{Change, Entry, run}
use Rattle.contact.specs.Localize.{start}
use Rattle.contact.specs.Likeness.{Reordered}
use Rattle.contact.specs.Entries.{Asked, HasEntry, valued, Clear, Shuffled, Laid, NotOver, LaidAt}
use Rattle.contact.specs.Conditions.{LeftOutOf}
use Rattle.contact.specs.declared.CardRefusal.TheVariants.{Text}

-- ---- cards that differ in the order of a PatchObject's entries

-- objects with the same members in another order
pub data Rearranged : Doc → Doc → Type 0 where
  rearranged : {ms ns : Members} → Shuffled ms ns → Rearranged (object ms) (object ns)

-- the same members, but that the values of the member n differ as R says
pub data AtMember (n : Name) (R : Doc → Doc → Type 0) : Members → Members → Type 0 where
  this_one : {label : List ℕ} {d e : Doc} {ms : Members} → R d e → AtMember n R (member n label d ms) (member n label e ms)
  later_one : {m : Name} {label : List ℕ} {d : Doc} {ms ns : Members} → m ≢ n → AtMember n R ms ns → AtMember n R (member m label d ms) (member m label d ns)

-- objects that differ in the value of the member n alone, as R says
pub data InMember (n : Name) (R : Doc → Doc → Type 0) : Doc → Doc → Type 0 where
  in_member : {ms ns : Members} → AtMember n R ms ns → InMember n R (object ms) (object ns)

-- the cards differ in nothing but the order of the entries of the language's PatchObject
abbrev pub OrderOnly : Name → Doc → Doc → Type 0
OrderOnly lang card other = InMember (bytes "localizations") (InMember lang Rearranged) card other

-- ---- what a patched document is

-- x is what the entries of a PatchObject with the members ms say of the document d
pub record Patched (d : Doc) (ms : Members) (x : Doc) : Type 0 where
  -- what the PatchObject asks for
  pub entries : List Entry
  pub asked : Asked ms entries
  -- set or removed one at a time, in any order, each entry finds its parent, and the end is x but for the order of members
  pub one_by_one : (fs : List Entry) → Perm entries fs → (end : Doc) × (run fs d ≡ some end) × Reordered end x
  -- each entry has its way: what its pointer finds is the value that it sets, under the name as it was written, or nothing
  pub effects : (p : Pointer) (c : Change) → HasEntry p c entries → find p x ≡ valued (last_part p) c (find p d)
  -- a property that no pointer names, enters or covers: its name as written and its value
  pub keeps : (p : Pointer) → Clear p entries → find p x ≡ find p d
  -- members keep their places, and added ones follow in ascending order of name: in d itself, and in each object that is not replaced as a whole
  pub root : (os : Members) → d ≡ object os → (ns : Members) × (x ≡ object ns) × Laid os os ns
  pub below : (p : Pointer) (label : List ℕ) (os : Members) → NotOver p entries → find p d ≡ some (property label (object os)) → LaidAt p label os x
  -- it can be written and read again: names stay distinct, labels say their names, tokens are tokens
  pub writable : Writable x
  -- it is no longer and has no more values than d and the PatchObject together
  pub bytes : length (written x) ≤ length (written d) + length (written (object ms))
  pub values : count_of x ≤ count_of d + count_all ms

-- x is the card as a PatchObject with the members ms leaves it
pub record PatchedCard (card : Doc) (ms : Members) (x : Doc) : Type 0 where
  -- the starting point is the card but for its localizations: its other members in their order, so what else a pointer finds is found there
  pub starting : LeftOutOf (bytes "localizations") card (start card)
  pub started : (p : Pointer) → first_part p ≢ bytes "localizations" → find p (start card) ≡ find p card
  -- from there it is patched
  pub from_start : Patched (start card) ms x
  -- and has no localizations: there were none at the start, and no entry sets them
  pub unlocalized : find (last (bytes "localizations")) x ≡ none

-- ---- what is written of it

-- the text of the document x, for a table of so many words: it is read back, and judged as x is
pub record WrittenCard (L : Limits) (words : ℕ) (x : Doc) : Type 0 where
  pub back : ReadsBack L x
  -- within the depth it is read, and only the rules of cards are left to break; deeper, it is refused for that
  pub read : depth_in x ≤ L.depth → read_of L (written x) ≡ good (root_of back.derives) (length (written x))
  pub judged : depth_in x ≤ L.depth → judged_of L words (written x) ≡ by_breach (root_of back.derives) (card_breach x)
  pub deeper : L.depth < depth_in x → (p : ℕ) × (judged_of L words (written x) ≡ failed (Text (Deep p)))
