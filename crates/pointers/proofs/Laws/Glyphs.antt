-- Laws of keys that are read as written, up to a backslash:
--     order-fresh                                         a cursor where a character begins is a place
--     name-glyph, part-glyph, slash-glyph   what a byte shows
--     slash-read, name-read, part-read                    what is read at a backslash
--     tilde-one, tilde-zero, tilde-alone                  what a `~` and the byte after it show
--     shown-order, shown-ends, shown-on                   two glyphs that are compared
--     common-none, common-next, common-spelled                bytes that two places have in common
--     Later, later-run, later-past, as-tilded-past        a run of bytes without a `/` stays in its part, one without a `~` has no bad one
--     goes_later, slash-next, over-next                   what follows a part, from a later cursor on, at a `/` and at the end
-- Assumes nothing.
use Rattle.std.specs.Prelude.{Some, None, Option}
use Rattle.std.specs.declared.cmp.Ordering.TheVariants.{Equal}
use Prim.Native.Nat.{ℕ, zero, suc, ◌+◌, ◌-◌, ◌≤◌, ◌<◌}
use mathlib.Core.Path.{◌≡◌, refl, ap, sym, ◌∙◌}
use mathlib.Core.Bool.{Bool, true, false}
use mathlib.Core.List.{List, [], ◌∷◌, ◌++◌}
use mathlib.Core.Option.{Option as Maybe}
use native.Mathlib.Decide.{ℕ_discrete}
use native.Mathlib.Nat.{add-zero}
use native.Mathlib.Numerals.{add-one}
use native.Mathlib.Omega.{arith}
use lib.ListN.{length}
use borrow.Author.Tests.{ne_eqb}
use Rattle.laws.specs.Order.{order_of}
use Rattle.laws.proofs.Orders.{order_on}
use Rattle.laws.proofs.Places.{inside}
use Rattle.text.specs.Text.{byte_at}
use Rattle.text.specs.Doc.{Name}
use Rattle.text.specs.Strings.{decode_from}
use Rattle.text.specs.Utf8.{conts}
use Rattle.contact.specs.Pointer.{Pointer, pointer_of, bad_tilde}
use Rattle.json_reader.specs.Cursors.{rest, cursor, fresh_of, next_of}
use Rattle.json_reader.specs.Names.{order_at}
use Rattle.json_reader.specs.Plain.{Own}
use Rattle.json_reader.specs.declared.decode.Cursor.{Cursor}
use Rattle.json_reader.proofs.Alike.{decode_over, decode_byte, order_heads}
use Rattle.pointers.specs.Parts.{part_left, name_left, left_at, tilde_left, GlyphAt, Spelled, InCommon, beyond, Goes, Crosses, at_end, at_slash, past, RunTo, no_byte, one_more, Passes, stays, passes}
use Rattle.pointers.specs.declared.parts.Glyph.{Glyph}
use Rattle.pointers.proofs.Laws.Parts.{part_plain, part_tilde, tail_on, ends, goes}

-- ---- places ----

no_conts : (left code : ℕ) → left ≡ 0 → conts left code ≡ []
unfolding conts
no_conts left code e = rw e

pub fresh : (t : List ℕ) (c : Cursor) → c.left ≡ 0 → rest t c ≡ rest t (cursor c.at 0 0)
unfolding conts
fresh t c e = ap (λ (l : List ℕ). l ++ decode_from t c.at) (no_conts c.left c.code e)

left_fresh : (part : Bool) (t : List ℕ) (c : Cursor) → c.left ≡ 0 → name_left part t c ≡ left_at part t c.at
left_fresh true t c e = ap part_left (fresh t c e)
left_fresh false t c e = fresh t c e

pub order_fresh : (key name : List ℕ) (part : Bool) (x y : Cursor) → x.left ≡ 0 → y.left ≡ 0
    → order_of (left_at true key x.at) (left_at part name y.at) ≡ order_of (part_left (rest key x)) (name_left part name y)
order_fresh key name part x y e f =
    rw (left_fresh part name y f) (sym (ap (λ (n : Name). order_of n (left_at part name y.at)) (left_fresh true key x e)))

module _ (t : List ℕ) (at : ℕ) where
  pub rest_over : byte_at t at ≡ 256 → rest t (cursor at 0 0) ≡ []
  unfolding conts
  rest_over e = decode_over t at e

  pub rest_byte : (byte_at t at ≡ 92 → ⊥) → (byte_at t at ≡ 256 → ⊥) → rest t (cursor at 0 0) ≡ byte_at t at ∷ rest t (cursor (at + 1) 0 0)
  unfolding conts
  rest_byte s e = decode_byte t at s e

-- ---- what a byte shows ----

abbrev pub glyph : (value len : ℕ) → Glyph
glyph value len = record { value = value; len = len }

-- a glyph that is a byte
shows : (part : Bool) (t : List ℕ) (at value len : ℕ) → value < 256 → at + len ≤ length t → left_at part t at ≡ value ∷ left_at part t (at + len)
    → GlyphAt part t at (glyph value len)
shows part t at value len small within e =
    record { most = omega arith; over = λ z. absurd (omega arith); byte = λ h. e; within = λ h. within }

module _ (t : List ℕ) (at : ℕ) (most : byte_at t at ≤ 256) (s : byte_at t at ≡ 92 → ⊥) where
  on : byte_at t at < 256 → rest t (cursor at 0 0) ≡ byte_at t at ∷ rest t (cursor (at + 1) 0 0)
  on h = rest_byte t at s (λ z. omega arith)

  within_by : byte_at t at < 256 → at + 1 ≤ length t
  within_by h = let k = inside t at h in omega arith

  pub name_glyph : GlyphAt false t at (glyph (byte_at t at) 1)
  name_glyph = record { most = omega arith; over = rest_over t at; byte = on; within = within_by }

  pub part_glyph : (byte_at t at ≡ 47 → ⊥) → (byte_at t at ≡ 126 → ⊥) → GlyphAt true t at (glyph (byte_at t at) 1)
  part_glyph slash tilde =
      record {
        most = omega arith;
        over = λ e. ap part_left (rest_over t at e);
        byte = λ h. ap part_left (on h) ∙ part_plain (byte_at t at) (rest t (cursor (at + 1) 0 0)) slash tilde;
        within = within_by;
      }

-- where a part is over
part_over : (t : List ℕ) (at : ℕ) → left_at true t at ≡ [] → GlyphAt true t at (glyph 256 1)
part_over t at e = record { most = omega arith; over = λ z. e; byte = λ h. absurd (omega arith); within = λ h. absurd (omega arith) }

pub slash_glyph : (t : List ℕ) (at : ℕ) → byte_at t at ≡ 47 → GlyphAt true t at (glyph 256 1)
slash_glyph t at e = part_over t at (ap part_left (rest_byte t at (λ z. omega arith) (λ z. omega arith)) ∙ rw e)

-- ---- what is read at a backslash ----

pub name_read : (t : List ℕ) (at b : ℕ) (d : Cursor) → rest t (cursor at 0 0) ≡ b ∷ rest t d → b < 256 → d.left ≡ 0 → at ≤ d.at → d.at ≤ length t
    → GlyphAt false t at (glyph b (d.at - at))
name_read t at b d read small alone later long =
    let e : at + (d.at - at) ≡ d.at = omega arith in
    shows false t at b (d.at - at) small (omega arith) (rw (e, ← fresh t d alone) read)

-- as a name's glyph shows what is left, so it does that of a part
module _ (t : List ℕ) (at : ℕ) (g : Glyph) (G : GlyphAt false t at g) where
  pub slash_read : g.value ≡ 47 → GlyphAt true t at (glyph 256 1)
  slash_read e = part_over t at (ap part_left (G.byte (omega arith)) ∙ rw e)

  pub part_read : (g.value ≡ 47 → ⊥) → (g.value ≡ 126 → ⊥) → GlyphAt true t at g
  part_read slash tilde =
      record {
        most = G.most;
        over = λ e. ap part_left (G.over e);
        byte = λ h. ap part_left (G.byte h) ∙ part_plain g.value (rest t (cursor (at + g.len) 0 0)) slash tilde;
        within = G.within;
      }

-- ---- what a `~` shows ----

module _ (t : List ℕ) (at : ℕ) (tilde : byte_at t at ≡ 126) where
  after : left_at true t at ≡ tilde_left (rest t (cursor (at + 1) 0 0))
  after = rw (rest_byte t at (λ z. omega arith) (λ z. omega arith), tilde) (part_tilde (rest t (cursor (at + 1) 0 0)))

  pub tilde_inside : at < length t
  tilde_inside = inside t at (omega arith)

  -- the byte after it, if that begins no escape of JSON's
  next : (b : ℕ) → b < 92 → byte_at t (at + 1) ≡ b → rest t (cursor (at + 1) 0 0) ≡ b ∷ rest t (cursor (at + 2) 0 0)
  next b h e =
      let two : at + 1 + 1 ≡ at + 2 = omega arith in
      rest_byte t (at + 1) (λ z. omega arith) (λ z. omega arith) ∙ rw (e, two)

  -- a digit with which it stands for a byte
  tilde_digit : (d value : ℕ) → d < 92 → value < 256 → ((bs : List ℕ) → tilde_left (d ∷ bs) ≡ value ∷ part_left bs) → byte_at t (at + 1) ≡ d
      → GlyphAt true t at (glyph value 2)
  tilde_digit d value h small stands e =
      let k = inside t (at + 1) (omega arith) in
      shows true t at value 2 small (omega arith) (after ∙ rw (next d h e) (stands (rest t (cursor (at + 2) 0 0))))

  pub tilde_one : byte_at t (at + 1) ≡ 49 → GlyphAt true t at (glyph 47 2)
  unfolding tilde_left
  tilde_one e = tilde_digit 49 47 (omega arith) (omega arith) (λ bs. refl) e

  pub tilde_zero : byte_at t (at + 1) ≡ 48 → GlyphAt true t at (glyph 126 2)
  unfolding tilde_left
  tilde_zero e = tilde_digit 48 126 (omega arith) (omega arith) (λ bs. refl) e

  pub tilde_alone : byte_at t (at + 1) ≤ 256 → (byte_at t (at + 1) ≡ 49 → ⊥) → (byte_at t (at + 1) ≡ 48 → ⊥) → (byte_at t (at + 1) ≡ 92 → ⊥)
      → GlyphAt true t at (glyph 126 1)
  unfolding tilde_left
  tilde_alone most one nought s =
      let k = tilde_inside in
      shows true t at 126 1 (omega arith) (omega arith) (after ∙ elim (ℕ_discrete (byte_at t (at + 1)) 256) [
        | yes e ↦ rw (rest_over t (at + 1) e)
        | no e ↦ rw (rest_byte t (at + 1) s e, ne_eqb (byte_at t (at + 1)) 49 one, ne_eqb (byte_at t (at + 1)) 48 nought)
      ])

-- ---- two glyphs ----

module _ (key name : List ℕ) (own part : Bool) (i j : ℕ) (p q : Glyph) (P : GlyphAt own key i p) (Q : GlyphAt part name j q) where
  pub shown_order : (p.value ≡ q.value → ⊥)
      → order_at p.value q.value ≡ order_of (left_at own key i) (left_at part name j)
  shown_order ne =
      order_heads p.value q.value (left_at own key i) (left_at part name j) P.over (λ o. P.byte (omega (arith, P.most))) Q.over
      (λ o. Q.byte (omega (arith, Q.most))) (λ e. absurd (ne e))

  pub shown_ends : p.value ≡ q.value → p.value ≡ 256 → Equal ≡ order_of (left_at own key i) (left_at part name j)
  unfolding order_of
  shown_ends e o = rw (P.over o, Q.over (sym e ∙ o))

  pub shown_on : p.value ≡ q.value → p.value < 256
      → order_of (left_at own key (i + p.len)) (left_at part name (j + q.len)) ≡ order_of (left_at own key i) (left_at part name j)
  shown_on e h =
      rw (P.byte h, Q.byte (omega arith))
      (sym (order_on p.value q.value (left_at own key (i + p.len)) (left_at part name (j + q.len)) (omega arith) (omega arith)))

-- ---- bytes in common ----

-- a byte that spells itself does so in a part as in a name
plain_glyph : (part : Bool) (t : List ℕ) (at : ℕ) → byte_at t at ≤ 256 → (byte_at t at ≡ 47 → ⊥) → (byte_at t at ≡ 126 → ⊥) → (byte_at t at ≡ 92 → ⊥)
    → GlyphAt part t at (glyph (byte_at t at) 1)
plain_glyph true t at most slash tilde s = part_glyph t at most s slash tilde
plain_glyph false t at most slash tilde s = name_glyph t at most s

module _ (key : List ℕ) (i : ℕ) (name : List ℕ) (j : ℕ) where
  pub common_none : InCommon key i name j 0
  common_none =
      record { ordered = λ part other. rw (add-zero i, add-zero j); fewer = λ part. rw (add-zero i) (omega arith); first = omega arith; second = omega arith }

  pub common_next : (k : ℕ) → InCommon key i name j k → byte_at key (i + k) < 256 → (byte_at key (i + k) ≡ 47 → ⊥) → (byte_at key (i + k) ≡ 126 → ⊥)
      → (byte_at key (i + k) ≡ 92 → ⊥) → byte_at key (i + k) ≡ byte_at name (j + k) → InCommon key i name j (k + 1)
  common_next k c h slash tilde s e =
      let x = inside key (i + k) h in
      let y = inside name (j + k) (omega arith) in
      let m : i + (k + 1) ≡ i + k + 1 = omega arith in
      let n : j + (k + 1) ≡ j + k + 1 = omega arith in
      let p : (part : Bool) → GlyphAt part key (i + k) (glyph (byte_at key (i + k)) 1) = λ part. plain_glyph part key (i + k) (omega arith) slash tilde s in
      let q : (part : Bool) → GlyphAt part name (j + k) (glyph (byte_at name (j + k)) 1) =
      λ part. plain_glyph part name (j + k) (omega arith) (λ z. slash (e ∙ z)) (λ z. tilde (e ∙ z)) (λ z. s (e ∙ z)) in
      record {
        ordered = λ part other. rw (m, n) (shown_on key name part other (i + k) (j + k) _ _ (p part) (q other) e h ∙ c.ordered part other);
        fewer = λ part. rw m (omega (arith, ap length ((p part).byte h), c.fewer part));
        first = omega arith;
        second = omega arith;
      }

  pub common_spelled : (k : ℕ) → ((m : ℕ) → m < k → (byte_at key (i + m) ≡ byte_at name (j + m)) × Spelled (byte_at key (i + m))) → InCommon key i name j k
  common_spelled zero alike = common_none
  common_spelled (suc k) alike =
      let here = alike k (omega arith) in
      let b = here.1 in
      rw (← add-one k) (common_next k (common_spelled k (λ m h. alike m (omega arith))) b.byte b.no_slash b.no_tilde b.no_escape here.0)

pub own_spelled : {b : ℕ} → Own b → Spelled b
own_spelled o = record { byte = omega (arith, o.plain.ascii); no_slash = o.no_part; no_tilde = o.no_tilde; no_escape = o.plain.no_slash }

-- ---- a run ----

-- where a character begins, what is read is told by the place alone
next_fresh : (t : List ℕ) (c : Cursor) → c.left ≡ 0 → next_of t c ≡ next_of t (cursor c.at 0 0)
unfolding next_of
next_fresh t c e = rw e

pub next_byte : (t : List ℕ) (at : ℕ) → (byte_at t at ≡ 92 → ⊥) → (byte_at t at ≡ 256 → ⊥) → next_of t (cursor at 0 0) ≡ Some (byte_at t at, cursor (at + 1) 0 0)
unfolding next_of fresh_of
next_byte t at s e = rw (ne_eqb (byte_at t at) 256 e, ne_eqb (byte_at t at) 92 s)

-- two cursors that read alike
crosses_as : (t : List ℕ) {c d : Cursor} {r : (Option Cursor)} → next_of t c ≡ next_of t d → Crosses t d r → Crosses t c r
crosses_as t e (at_end o) = at_end (e ∙ o)
crosses_as t e (at_slash o) = at_slash (e ∙ o)
crosses_as t e (past o n x) = past (e ∙ o) n x

-- a cursor that stands in the same part as another, no earlier
pub record Later (key : List ℕ) (c d : Cursor) : Type 0 where
  pub follows : beyond (pointer_of (rest key d)) ≡ beyond (pointer_of (rest key c))
  pub fewer : length (rest key d) ≤ length (rest key c)
  pub leads : (r : Option Cursor) → Crosses key d r → Crosses key c r

abbrev beyond_in : List ℕ → Maybe Pointer
beyond_in bs = beyond (pointer_of bs)

later_on_lem : (t : List ℕ) (c : Cursor) (at : ℕ) → byte_at t at < 256 → (byte_at t at ≡ 92 → ⊥) → (byte_at t at ≡ 47 → ⊥) → Later t c (cursor at 0 0)
    → Later t c (cursor (at + 1) 0 0)
later_on_lem t c at h s slash l =
    let e = rest_byte t at s (λ z. omega arith) in
    record {
      follows = sym (ap beyond_in e ∙ tail_on (byte_at t at) (rest t (cursor (at + 1) 0 0)) slash) ∙ l.follows;
      fewer = omega (arith, ap length e, l.fewer);
      leads = λ r x. l.leads r (past (next_byte t at s (λ z. omega arith)) slash x);
    }

pub later_run : (t : List ℕ) (c : Cursor) {to : ℕ} → c.left ≡ 0 → RunTo t 47 c.at to → Later t c (cursor to 0 0)
later_run t c e no_byte =
    record {
      follows = sym (ap beyond_in (fresh t c e));
      fewer = omega (arith, ap length (fresh t c e));
      leads = λ r x. crosses_as t (next_fresh t c e) x;
    }
later_run t c e (one_more {at} r h s n) = later_on_lem t c at h s n (later_run t c e r)

pub later_past : (t : List ℕ) (c : Cursor) {d : Cursor} → Passes t 47 c d → Later t c d
later_past t c stays = record { follows = refl; fewer = omega arith; leads = λ r x. x }
later_past t c (passes e r) = later_run t c e r

-- what follows a part is the same from a later cursor in it on
pub goes_later : (t : List ℕ) {c d : Cursor} {r : (Option Cursor)} → Later t c d → Goes t (pointer_of (rest t d)) r → Crosses t d r
    → Goes t (pointer_of (rest t c)) r × Crosses t c r
goes_later t {c = c} {r = None} l g x = (ends (pointer_of (rest t c)) (sym l.follows ∙ ap beyond g), l.leads None x)
goes_later t {c = c} {r = Some e} l g x = (goes (pointer_of (rest t c)) (pointer_of (rest t e)) (sym l.follows ∙ ap beyond g), l.leads (Some e) x)

-- at a `/`, and at the end
pub slash_next : (t : List ℕ) (at : ℕ) → byte_at t at ≡ 47
    → Goes t (pointer_of (rest t (cursor at 0 0))) (Some (cursor (at + 1) 0 0)) × Crosses t (cursor at 0 0) (Some (cursor (at + 1) 0 0))
slash_next t at e =
    let next : next_of t (cursor at 0 0) ≡ Some (47, cursor (at + 1) 0 0) = next_byte t at (λ z. omega arith) (λ z. omega arith) ∙ rw e in
    let r = rest_byte t at (λ z. omega arith) (λ z. omega arith) in
    (goes (pointer_of (rest t (cursor at 0 0))) (pointer_of (rest t (cursor (at + 1) 0 0))) (rw (r, e)), at_slash next)

pub over_next : (t : List ℕ) (at : ℕ) → byte_at t at ≡ 256 → Goes t (pointer_of (rest t (cursor at 0 0))) None × Crosses t (cursor at 0 0) None
unfolding next_of fresh_of
over_next t at e =
    let next : next_of t (cursor at 0 0) ≡ None = rw e in
    (ends (pointer_of (rest t (cursor at 0 0))) (rw (rest_over t at e)), at_end next)

-- a cursor no earlier than another, from which on a bad `~` stands just if one does from the other on
pub record AsTilded (key : List ℕ) (c d : Cursor) : Type 0 where
  pub follows : bad_tilde (rest key d) ≡ bad_tilde (rest key c)
  pub fewer : length (rest key d) ≤ length (rest key c)

as_tilded_run : (t : List ℕ) (c : Cursor) {to : ℕ} → c.left ≡ 0 → RunTo t 126 c.at to → AsTilded t c (cursor to 0 0)
as_tilded_run t c e no_byte = record { follows = sym (ap bad_tilde (fresh t c e)); fewer = omega (arith, ap length (fresh t c e)) }
as_tilded_run t c e (one_more {at} r h s n) =
    let u = as_tilded_run t c e r in
    let f = rest_byte t at s (λ z. omega arith) in
    record {
      follows = sym (rw (ne_eqb (byte_at t at) 126 n) at (ap bad_tilde f)) ∙ u.follows;
      fewer = omega (arith, ap length f, u.fewer);
    }

pub as_tilded_past : (t : List ℕ) (c : Cursor) {d : Cursor} → Passes t 126 c d → AsTilded t c d
as_tilded_past t c stays = record { follows = refl; fewer = omega arith }
as_tilded_past t c (passes e r) = as_tilded_run t c e r
