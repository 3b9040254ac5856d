-- What is written of a document is read back: `reads_back`, for every writable document and any limits; and whether names are compared or not: `reads_loose`.
-- Assumes nothing.
use mathlib.Core.Path.{◌≡◌, refl, subst, ◌∙◌}
use mathlib.Core.Bool.{false}
use native.Mathlib.Nat.{le_refl}
use lib.ListN.{length}
use Rattle.text.specs.Limits.{Limits, loose}
use Rattle.text.specs.Tree.{size}
use Rattle.text.specs.Grammar.{JsonText, root_of, depth_of}
use Rattle.text.specs.Doc.{Doc}
use Rattle.text.specs.Writing.{written}
use Rattle.text.specs.Whole.{read_of}
use Rattle.text.specs.Telling.{Tells}
use Rattle.text.specs.Writable.{Lexical, Writable, ReadsBack}
use Rattle.text.proofs.Grammar.Accepted.{accepts}
use Rattle.text.proofs.Grammar.First.{tree_refuses}
use Rattle.text.proofs.Telling.{tells_doc, told_size, told_depth}
use Rattle.text.proofs.Answers.{told_answers}
use Rattle.text.proofs.Loose.{told_loose}
use Rattle.text.proofs.Readback.Says.{text_doc, text_doc_lem}
use Rattle.text.proofs.Readback.Derived.{written_text}
use Rattle.text.proofs.Readback.Meant.{writable_accepts}

-- it says the document: it is read within limits that are wide enough
text_tells : {d : Doc} (j : JsonText (written d)) → text_doc j ≡ d → Lexical d → Tells (written d) (root_of j) d
text_tells {d} j again h =
    let t = written d in
    let L : Limits = record { bytes = length t; depth = depth_of (root_of j); values = size (root_of j); unique = false } in
    let a = writable_accepts t L j (rw again h) refl (le_refl (length t)) (le_refl (depth_of (root_of j))) (le_refl (size (root_of j))) in
    subst (Tells t (root_of j)) (text_doc_lem j ∙ again) (tells_doc L t (root_of j) (length t) ((accepts L t (root_of j)).1 a))

pub reads_back : (L : Limits) (d : Doc) → Lexical d → ReadsBack L d
reads_back L d h =
    let (j, again) = written_text d h in
    let s : Tells (written d) (root_of j) d = text_tells j again h in
    record {
      derives = j;
      says = text_doc_lem j ∙ again;
      count = told_size s;
      depth = told_depth s;
      answer = told_answers L (written d) j d s;
      first = λ short. tree_refuses L (written d) short j;
    }

pub reads_loose : (L : Limits) (d : Doc) → Writable d → read_of (loose L) (written d) ≡ read_of L (written d)
reads_loose L d w =
    let (j, again) = written_text d w.labels in
    told_loose L (written d) j d (text_tells j again w.labels) w.distinct
