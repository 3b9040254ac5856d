-- Both arrangements of white space have the same texts: that of specs/Grammar.antt, where it stands behind the bytes that it may follow, and the RFC's own
-- (specs/Rfc.antt), where each structural character takes it before and after. `from_rfc`, `to_rfc`, `same_texts`. Assumes nothing.
use mathlib.Core.Path.{◌≡◌, sym, ap, ◌∙◌}
use mathlib.Core.List.{List, [], ◌∷◌, ◌++◌, append_assoc, append-nil}
use mathlib.Core.Logic.{◌↔◌}
use Prim.Native.Nat.{ℕ}
use Rattle.text.specs.Abnf.{Star}
use Rattle.text.specs.Tree.{Bracket}
use Rattle.text.specs.Grammar.{Ws, opening, Phrase, items, Is, simple, empty, full, element, member, one, comma, JsonText, json_text, closing}
use Rattle.text.specs.Rfc.{mark, Rfc, RfcText}
use Rattle.text.proofs.Grammar.Quotes.{star_join}
use Rattle.text.proofs.Grammar.Sound.{glue_end}

-- ---- the same bytes, put together in another order

full_lists : (o z : ℕ) (a b c d p q r : List ℕ)
    → mark o a b ((p ++ (q ++ r)) ++ mark z c d []) ≡ a ++ ((o ∷ (b ++ p) ++ ((q ++ (r ++ c)) ++ z ∷ [])) ++ d)
full_lists o z a b c d p q r = simp (append_assoc, append-nil)

bare_full_lists : (o z : ℕ) (b q r : List ℕ) → o ∷ b ++ ((q ++ r) ++ z ∷ []) ≡ mark o [] b (q ++ mark z r [] []) ++ []
bare_full_lists o z b q r = simp (append_assoc, append-nil)

member_lists : (x : ℕ) (a b c p q r : List ℕ) → c ++ mark x a b (p ++ (q ++ r)) ≡ [] ++ ((c ++ (a ++ x ∷ ((b ++ p) ++ q))) ++ r)
member_lists x a b c p q r = simp append_assoc

bare_member_lists : (x : ℕ) (a b c q r : List ℕ) → c ++ mark x a b (q ++ r) ≡ (c ++ mark x a b q) ++ r
bare_member_lists x a b c q r = simp append_assoc

comma_lists : (x : ℕ) (a b p q r s t u : List ℕ)
    → (p ++ (q ++ r)) ++ mark x a b (s ++ (t ++ u)) ≡ p ++ ((q ++ ((r ++ a) ++ x ∷ ((b ++ s) ++ t))) ++ u)
comma_lists x a b p q r s t u = simp append_assoc

bare_comma_lists : (x : ℕ) (a b q r t u : List ℕ) → (q ++ r) ++ mark x a b (t ++ u) ≡ (q ++ mark x (r ++ a) b t) ++ u
bare_comma_lists x a b q r t u = simp append_assoc

text_lists : (a p q r s : List ℕ) → a ++ ((p ++ (q ++ r)) ++ s) ≡ (a ++ p) ++ (q ++ (r ++ s))
text_lists a p q r s = simp append_assoc

-- ---- from the RFC's arrangement

-- a part with white space around it, and items with white space before them
record Padded (a : Phrase) (w : List ℕ) : Type 0 where
  before : List ℕ
  core : List ℕ
  behind : List ℕ
  is : Is a core
  space_before : Ws before
  space_behind : Ws behind
  all : w ≡ before ++ (core ++ behind)

items_space : {v c : List ℕ} {k : Bracket} → Is (items k) v → Ws c → Is (items k) (v ++ c)
items_space {c = c} (one {v} {s} d p) q = rw (append_assoc v s c) (one d (star_join p q))
items_space {c = c} (comma {v} {s} {r} {w} d p o e) q = rw (glue_end 44 v s r w c) (comma d p o (items_space e q))

-- a part of the RFC's grammar is one of this, with white space around it
padded : {a : Phrase} {w : List ℕ} → Rfc a w → Padded a w
padded (Rfc.simple {w} k l) = record { before = []; core = w; behind = []; is = simple k l; space_before = Star.none; space_behind = Star.none; all = sym (append-nil w) }
padded (Rfc.empty {a} {b} {c} {d} k p q r s) =
    record { before = a; core = opening k ∷ (b ++ c) ++ closing k ∷ []; behind = d; is = empty k (star_join q r); space_before = p; space_behind = s; all = simp (append_assoc, append-nil) }
padded (Rfc.full {a} {b} {c} {d} {w} k p q e r s) =
    let h = padded e in
    let u = items_space h.is (star_join h.space_behind r) in
    record {
      before = a;
      core = opening k ∷ (b ++ h.before) ++ ((h.core ++ (h.behind ++ c)) ++ closing k ∷ []);
      behind = d;
      is = full k (star_join q h.space_before) u;
      space_before = p;
      space_behind = s;
      all =
          ap (λ (l : List ℕ). mark (opening k) a b (l ++ mark (closing k) c d [])) h.all
          ∙ full_lists (opening k) (closing k) a b c d h.before h.core h.behind;
    }
padded (Rfc.element e) = let h = padded e in record {
  before = h.before;
  core = h.core;
  behind = h.behind;
  is = element h.is;
  space_before = h.space_before;
  space_behind = h.space_behind;
  all = h.all;
}
padded (Rfc.member {m} {a} {b} {w} g p q e) =
    let h = padded e in
    record {
      before = [];
      core = m ++ (a ++ 58 ∷ ((b ++ h.before) ++ h.core));
      behind = h.behind;
      is = member g p (star_join q h.space_before) h.is;
      space_before = Star.none;
      space_behind = h.space_behind;
      all = ap (λ (l : List ℕ). m ++ mark 58 a b l) h.all ∙ member_lists 58 a b m h.before h.core h.behind;
    }
padded (Rfc.one e) =
    let h = padded e in
    record {
      before = h.before;
      core = h.core ++ h.behind;
      behind = [];
      is = one h.is h.space_behind;
      space_before = h.space_before;
      space_behind = Star.none;
      all = h.all ∙ simp append-nil;
    }
padded (Rfc.comma {v} {a} {b} {w} e p q f) =
    let h = padded e in
    let g = padded f in
    record {
      before = h.before;
      core = h.core ++ ((h.behind ++ a) ++ 44 ∷ ((b ++ g.before) ++ g.core));
      behind = g.behind;
      is = comma h.is (star_join h.space_behind p) (star_join q g.space_before) g.is;
      space_before = h.space_before;
      space_behind = g.space_behind;
      all =
          ap (λ (l : List ℕ). l ++ mark 44 a b w) h.all
          ∙ ap (λ (l : List ℕ). (h.before ++ (h.core ++ h.behind)) ++ mark 44 a b l) g.all
          ∙ comma_lists 44 a b h.before h.core h.behind g.before g.core g.behind;
    }

pub from_rfc : {t : List ℕ} → RfcText t → JsonText t
from_rfc (RfcText.json_text {s} {w} {r} p d q) =
    let h = padded d in
    let e : (s ++ h.before) ++ (h.core ++ (h.behind ++ r)) ≡ s ++ (w ++ r) =
    sym (ap (λ (l : List ℕ). s ++ (l ++ r)) h.all ∙ text_lists s h.before h.core h.behind r) in
    rw e at (json_text (star_join p h.space_before) h.is (star_join h.space_behind q))

-- and the other way: what is left over is white space behind the part
record SpaceBehind (a : Phrase) (w : List ℕ) : Type 0 where
  core : List ℕ
  behind : List ℕ
  is : Rfc a core
  space_behind : Ws behind
  all : w ≡ core ++ behind

bare : {a : Phrase} {w : List ℕ} → Is a w → SpaceBehind a w
bare (simple {w} k l) = record { core = w; behind = []; is = Rfc.simple k l; space_behind = Star.none; all = sym (append-nil w) }
bare (empty {s} k p) =
    record {
      core = mark (opening k) [] s (mark (closing k) [] [] []);
      behind = [];
      is = Rfc.empty k Star.none p Star.none Star.none;
      space_behind = Star.none;
      all = sym (append-nil (opening k ∷ s ++ closing k ∷ []));
    }
bare (full {s} {w} k p d) =
    let h = bare d in
    record {
      core = mark (opening k) [] s (h.core ++ mark (closing k) h.behind [] []);
      behind = [];
      is = Rfc.full k Star.none p h.is h.space_behind Star.none;
      space_behind = Star.none;
      all =
          ap (λ (l : List ℕ). opening k ∷ s ++ (l ++ closing k ∷ [])) h.all
          ∙ bare_full_lists (opening k) (closing k) s h.core h.behind;
    }
bare (element d) = let h = bare d in record { core = h.core; behind = h.behind; is = Rfc.element h.is; space_behind = h.space_behind; all = h.all }
bare (member {m} {s} {r} {w} g p o d) =
    let h = bare d in
    record {
      core = m ++ mark 58 s r h.core;
      behind = h.behind;
      is = Rfc.member g p o h.is;
      space_behind = h.space_behind;
      all = ap (λ (l : List ℕ). m ++ mark 58 s r l) h.all ∙ bare_member_lists 58 s r m h.core h.behind;
    }
bare (one {v} {s} d p) =
    let h = bare d in
    record { core = h.core; behind = h.behind ++ s; is = Rfc.one h.is; space_behind = star_join h.space_behind p; all = ap (λ (l : List ℕ). l ++ s) h.all ∙ simp append_assoc }
bare (comma {v} {s} {r} {w} d p o e) =
    let h = bare d in
    let g = bare e in
    record {
      core = h.core ++ mark 44 (h.behind ++ s) r g.core;
      behind = g.behind;
      is = Rfc.comma h.is (star_join h.space_behind p) o g.is;
      space_behind = g.space_behind;
      all =
          ap (λ (l : List ℕ). l ++ mark 44 s r w) h.all
          ∙ ap (λ (l : List ℕ). (h.core ++ h.behind) ++ mark 44 s r l) g.all
          ∙ bare_comma_lists 44 s r h.core h.behind g.core g.behind;
    }

pub to_rfc : {t : List ℕ} → JsonText t → RfcText t
to_rfc (json_text {s} {w} {r} p d q) =
    let h = bare d in
    let e : s ++ (h.core ++ (h.behind ++ r)) ≡ s ++ (w ++ r) = sym (ap (λ (l : List ℕ). s ++ (l ++ r)) h.all ∙ simp append_assoc) in
    rw e at (RfcText.json_text p h.is (star_join h.space_behind q))

pub same_texts : (t : List ℕ) → RfcText t ↔ JsonText t
same_texts t = (from_rfc, to_rfc)
