-- What packing a text answers and leaves (specs/Promise.antt), by what the text is: `view`, and back from there. Assumes nothing.
use mathlib.Core.Path.{◌≡◌, refl, sym, ap, subst, ◌∙◌}
use mathlib.Core.List.{List, ◌++◌}
use mathlib.Core.Logic.{◌↔◌, inl, inr}
use Prim.Native.Nat.{ℕ, zero, suc, ◌-◌, ◌*◌, ◌≤◌, ◌<◌}
use native.Mathlib.Omega.{arith}
use lib.ListN.{length, take, replicate}
use lib.Seq.{take-append_seam}
use borrow.Author.Tests.{le-ltb, lt-ltb}
use Rattle.laws.specs.Lists.{filled}
use Rattle.laws.specs.Each.{none, more}
use Rattle.laws.proofs.Bounds.{below_each}
use Rattle.laws.proofs.Branches.{if_less}
use Rattle.text.specs.Limits.{Limits, row_words}
use Rattle.text.specs.Text.{Bytes}
use Rattle.text.specs.Tree.{Forest, size, tree_rows}
use Rattle.text.specs.Reader.{Read}
use Rattle.text.specs.Whole.{whole_of}
use Rattle.text.specs.Sheet.{numbers, refused, leaves, EndsBy}
use Rattle.text.specs.Meaning.{Accepts, Readable}
use Rattle.text.specs.Fault.{Unreadable}
use Rattle.text.specs.Doc.{doc_of}
use Rattle.text.specs.declared.Refusal.{Refusal}
use Rattle.text.proofs.Lines.{on_line, wider, line_of, text_line, same_number, same_second, refused_ends, accepted_ends}
use Rattle.text.proofs.Promise.{tree_length}
use Rattle.text.proofs.Readable.{one_refusal, readable_good, unreadable_bad, Means, reads, denies, means}
use Rattle.text.proofs.Grammar.Stands.{by_order}
use Rattle.packing.specs.Packed.{packed, widest, widest_allowed, longest}
use Rattle.packing.specs.Format.{PackedAs}
use Rattle.packing.specs.Values.{SameValue}
use Rattle.packing.specs.Unpackable.{Fits, Unpackable}
use Rattle.packing.specs.Services.{Stored, stored, unstored, pack_read, pack_of, answer_of_stored, refused_packing, paper_of_packing, table_of_stored, output_of_stored, packed_by}
use Rattle.packing.specs.Promise.{Accepted, written_in, PackLine, Packable}
use Rattle.packing.specs.declared.PackRefusal.TheVariants.{Given, Wide, Short}
use Rattle.packing.proofs.Widest.{fits_whole}
use Rattle.packing.proofs.Same.{packed_alike, same_value}
use Rattle.packing.proofs.Format.{packed_told, packed_so}
use Rattle.packing.proofs.Bytes.{packed_bytes}
use Rattle.packing.proofs.Texts.{text_labels, one_tree}

-- ---- what is written in a lent output

-- what was filled in is found again
pub taken : (room : ℕ) (p : List ℕ) → take (length p) (filled room p) ≡ p
taken room p = take-append_seam p (replicate (room - length p) 0)

zeros : (n : ℕ) → Bytes (replicate n 0)
zeros zero = none
zeros (suc n) = more {x = 0} (omega arith) (zeros n)

filled_bytes : {p : List ℕ} (n : ℕ) → Bytes p → Bytes (p ++ replicate n 0)
filled_bytes n none = zeros n
filled_bytes n (more h e) = more h (filled_bytes n e)

module _ (L : Limits) where
  -- ---- the format

  pub rules_so : (t : List ℕ) (f : Forest) → Accepts L t f → (p : List ℕ) → PackedAs (doc_of t f) p ↔ (Fits (doc_of t f) × (p ≡ packed (doc_of t f)))
  rules_so t f a p = (packed_told (doc_of t f) p, λ (h, e). subst (PackedAs (doc_of t f)) (sym e) (packed_so (doc_of t f) (text_labels L t f a) h))

  pub packing_room_so : (t : List ℕ) (words : ℕ) (f : Forest) (p : List ℕ) → Packable L words t f p → length p ≤ longest
  packing_room_so t words f p k =
      let (fits, e) = packed_told (doc_of t f) p k.packing in
      omega (arith, ap length e, (fits_whole (doc_of t f)).0 fits)

  pub text_bytes : (t : List ℕ) (f : Forest) → Accepts L t f → (p : List ℕ) → PackedAs (doc_of t f) p → Bytes p
  text_bytes t f a p h =
      let (fits, e) = packed_told (doc_of t f) p h in
      subst Bytes (sym e) (below_each 256 (packed (doc_of t f)) (packed_bytes (doc_of t f) (text_labels L t f a) fits))

  module _ (t : List ℕ) (words room : ℕ) where
    -- ---- by what the text is

    pub data View : Stored → Type 0 where
      unread : {r : Refusal} → Unreadable L words t r → View (unstored (Given r))
      wide : {f : Forest} → Readable L words t f → (Fits (doc_of t f) → ⊥) → View (unstored Wide)
      short : {f : Forest} {p : List ℕ} → Packable L words t f p → room < length p → View (unstored (Short (length p)))
      fine : {f : Forest} {p : List ℕ} → Packable L words t f p → length p ≤ room → View (stored f p)

    pub view : View (pack_of L words room t)
    unfolding pack_of pack_read
    view = go (whole_of L words t) (means L words t)
      where
        go : (R : Read) → Means L words t R → View (pack_read room t R)
        go R (denies u) = unread u
        go R (reads {f = f} r) =
            if_less View widest_allowed (widest (doc_of t f)) (λ h. wide r (λ k. omega arith))
            (λ h. let k : Packable L words t f (packed (doc_of t f)) = record { readable = r; packing = (rules_so t f r.accepts _).1 (h, refl) } in
            if_less View room (length (packed (doc_of t f))) (λ l. short k l) (λ l. fine k l))

    unread_so : {r : Refusal} → Unreadable L words t r → pack_of L words room t ≡ unstored (Given r)
    unfolding pack_of pack_read
    unread_so u = rw (unreadable_bad L words t u)

    wide_so : {f : Forest} → Readable L words t f → (Fits (doc_of t f) → ⊥) → pack_of L words room t ≡ unstored Wide
    unfolding pack_of pack_read
    wide_so {f} r h =
        let l : widest_allowed < widest (doc_of t f) = by_order widest_allowed (widest (doc_of t f)) (λ x. x) (λ x. absurd (h x)) in
        rw (readable_good L words t f r, lt-ltb widest_allowed (widest (doc_of t f)) l)

    module _ {f : Forest} {p : List ℕ} (k : Packable L words t f p) where
      short_so : room < length p → pack_of L words room t ≡ unstored (Short (length p))
      unfolding pack_of pack_read
      short_so l =
          let (fits, e) = packed_told (doc_of t f) p k.packing in
          let n : room < length (packed (doc_of t f)) = rw (← e) l in
          rw (readable_good L words t f k.readable, le-ltb widest_allowed (widest (doc_of t f)) fits, lt-ltb room (length (packed (doc_of t f))) n)
          (ap (λ (q : List ℕ). unstored (Short (length q))) (sym e))

      fine_so : length p ≤ room → pack_of L words room t ≡ stored f p
      unfolding pack_of pack_read
      fine_so l =
          let (fits, e) = packed_told (doc_of t f) p k.packing in
          let n : length (packed (doc_of t f)) ≤ room = rw (← e) l in
          rw (readable_good L words t f k.readable, le-ltb widest_allowed (widest (doc_of t f)) fits, le-ltb room (length (packed (doc_of t f))) n)
          (ap (stored f) (sym e))

    -- ---- on paper

    pub ends_so : EndsBy PackLine words room (packed_by L t words room)
    unfolding packed_by answer_of_stored paper_of_packing refused_packing table_of_stored output_of_stored
    ends_so = go view
      where
        go : {k : Stored} → View k → EndsBy PackLine words room (leaves (paper_of_packing (answer_of_stored k)) (table_of_stored words k) (output_of_stored room k))
        go (unread {r} u) = refused_ends words room (wider (λ n l. inl l) (text_line r))
        go (wide r h) = refused_ends words room (on_line 51 0 (inr (omega arith)))
        go (short {f} {p} k l) = refused_ends words room (on_line 52 (length p) (inr (omega arith)))
        go (fine {f} {p} k l) = accepted_ends words room (tree_rows f) p (size f) (tree_length f) (omega (arith, tree_length f, k.readable.enough)) l

    pub packs_so : Accepted (packed_by L t words room) ↔ ((f : Forest) × (p : List ℕ) × Packable L words t f p × (length p ≤ room))
    unfolding packed_by answer_of_stored paper_of_packing refused_packing
    packs_so = (λ e. go view e, λ (f, p, k, l). rw (fine_so k l))
      where
        go : {k : Stored} → View k → (paper_of_packing (answer_of_stored k)).number ≡ 0 → (f : Forest) × (p : List ℕ) × Packable L words t f p × (length p ≤ room)
        go (unread {r} u) e = absurd (omega (arith, line_of (text_line r)))
        go (wide r h) e = absurd (omega arith)
        go (short k l) e = absurd (omega arith)
        go (fine {f} {p} k l) e = (f, p, k, l)

    pub packing_so : (f : Forest) (p : List ℕ) → Packable L words t f p → length p ≤ room
        → packed_by L t words room ≡ leaves (numbers 0 (size f) (length p)) (filled words (tree_rows f)) (filled room p)
    unfolding packed_by answer_of_stored paper_of_packing table_of_stored output_of_stored
    packing_so f p k l = rw (fine_so k l)

    pub unread_iff : (r : Refusal) → ((packed_by L t words room).answer ≡ refused r) ↔ Unreadable L words t r
    unfolding packed_by answer_of_stored paper_of_packing refused_packing
    unread_iff r = (λ e. go view e, λ u. rw (unread_so u))
      where
        go : {k : Stored} → View k → paper_of_packing (answer_of_stored k) ≡ refused r → Unreadable L words t r
        go (unread {r = s} u) e = subst (Unreadable L words t) (one_refusal s r e) u
        go (wide q h) e = absurd (omega (arith, same_number e, line_of (text_line r)))
        go (short k l) e = absurd (omega (arith, same_number e, line_of (text_line r)))
        go (fine k l) e = absurd (omega (arith, same_number e, line_of (text_line r)))

    pub wide_iff : (second : ℕ) → ((packed_by L t words room).answer ≡ numbers 51 second 0)
        ↔ ((second ≡ 0) × ((f : Forest) × Readable L words t f × (Fits (doc_of t f) → ⊥)))
    unfolding packed_by answer_of_stored paper_of_packing refused_packing
    wide_iff second = (λ e. go view e, λ (z, (f, r, h)). rw (wide_so r h, z))
      where
        go : {k : Stored} → View k → paper_of_packing (answer_of_stored k) ≡ numbers 51 second 0 → (second ≡ 0) × ((f : Forest) × Readable L words t f × (Fits (doc_of t f) → ⊥))
        go (unread {r} u) e = absurd (omega (arith, same_number e, line_of (text_line r)))
        go (wide {f} r h) e = (sym (same_second e), (f, r, h))
        go (short k l) e = absurd (omega (arith, same_number e))
        go (fine k l) e = absurd (omega (arith, same_number e))

    pub short_iff : (n : ℕ) → ((packed_by L t words room).answer ≡ numbers 52 n 0)
        ↔ ((f : Forest) × (p : List ℕ) × Packable L words t f p × (n ≡ length p) × (room < n))
    unfolding packed_by answer_of_stored paper_of_packing refused_packing
    short_iff n = (λ e. go view e, λ (f, p, k, z, l). let m : room < length p = omega arith in rw (short_so k m, z))
      where
        go : {k : Stored} → View k → paper_of_packing (answer_of_stored k) ≡ numbers 52 n 0
            → (f : Forest) × (p : List ℕ) × Packable L words t f p × (n ≡ length p) × (room < n)
        go (unread {r} u) e = absurd (omega (arith, same_number e, line_of (text_line r)))
        go (wide r h) e = absurd (omega (arith, same_number e))
        go (short {f} {p} k l) e = let z : length p ≡ n = same_second e in (f, p, k, sym z, omega arith)
        go (fine k l) e = absurd (omega (arith, same_number e))

    pub bytes_so : Bytes (packed_by L t words room).output
    unfolding packed_by output_of_stored
    bytes_so = go view
      where
        go : {k : Stored} → View k → Bytes (output_of_stored room k)
        go (unread u) = zeros (room - 0)
        go (wide r h) = zeros (room - 0)
        go (short k l) = zeros (room - 0)
        go (fine {f} {p} k l) = filled_bytes (room - length p) (text_bytes t f k.readable.accepts p k.packing)

    -- ---- what is written

    -- an accepted call has written the bytes that pack the text
    pub wrote : (f : Forest) → Readable L words t f → Accepted (packed_by L t words room) → Packable L words t f (written_in (packed_by L t words room))
    wrote f r e =
        let (g, p, k, l) = packs_so.0 e in
        let same : g ≡ f = one_tree L t g f k.readable.accepts r.accepts in
        rw (packing_so g p k l, taken room p) (record { readable = r; packing = subst (λ (h : Forest). PackedAs (doc_of t h) p) same k.packing })

  -- ---- two calls

  pub value_so : (t u : List ℕ) (words room words' room' : ℕ) (f g : Forest) → Readable L words t f → Readable L words' u g
      → Accepted (packed_by L t words room) → Accepted (packed_by L u words' room')
      → (written_in (packed_by L t words room) ≡ written_in (packed_by L u words' room')) ↔ SameValue (doc_of t f) (doc_of u g)
  value_so t u words room words' room' f g r s x y =
      let (h, p) = packed_told (doc_of t f) _ (wrote t words room f r x).packing in
      let (i, q) = packed_told (doc_of u g) _ (wrote u words' room' g s y).packing in
      (λ e. same_value (doc_of t f) (doc_of u g) (text_labels L t f r.accepts) (text_labels L u g s.accepts) (sym p ∙ e ∙ q), λ v. p ∙ packed_alike v ∙ sym q)

  -- what packing can write is what a call writes
  pub can_write_so : (p : List ℕ) → Unpackable L p
      ↔ ((t : List ℕ) × (words : ℕ) × (room : ℕ) × Accepted (packed_by L t words room) × (written_in (packed_by L t words room) ≡ p))
  can_write_so p = (there, λ (t, words, room, e, w). back t words room e w)
    where
      there : Unpackable L p → (t : List ℕ) × (words : ℕ) × (room : ℕ) × Accepted (packed_by L t words room) × (written_in (packed_by L t words room) ≡ p)
      there u =
          let r : Readable L (row_words * size u.tree) u.text u.tree = record { accepts = u.accepted; enough = omega arith } in
          let k : Packable L (row_words * size u.tree) u.text u.tree p = record { readable = r; packing = u.packing } in
          let q = packing_so u.text (row_words * size u.tree) (length p) u.tree p k (omega arith) in
          (u.text, row_words * size u.tree, length p, rw q, rw q (taken (length p) p))

      back : (t : List ℕ) (words room : ℕ) → Accepted (packed_by L t words room) → written_in (packed_by L t words room) ≡ p → Unpackable L p
      back t words room e w =
          let (f, q, k, l) = (packs_so t words room).0 e in
          let same : q ≡ p = sym (taken room q) ∙ ap written_in (sym (packing_so t words room f q k l)) ∙ w in
          record { text = t; tree = f; accepted = k.readable.accepts; packing = subst (PackedAs (doc_of t f)) same k.packing }
