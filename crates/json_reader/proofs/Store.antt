-- Laws of the store of names:
--     store-room                  there is room for a name more
--     store_kept                  as much as before
--     under-on                    what is left as it was by two readers
--     added_none, added-one       nothing is put behind the names, or one place
--     added-kept, added_then      names that stay, and more behind them
--     part_slice, part-under      a part of the store that is lent, and what is left as it was then
-- Assumes nothing.
use mathlib.Core.Path.{◌≡◌, refl, sym, ap, ◌∙◌}
use mathlib.Core.Logic.{inl, inr}
use mathlib.Core.List.{List, [], ◌∷◌, ◌++◌}
use Prim.Native.Nat.{ℕ, ◌+◌, ◌*◌, ◌-◌, ◌≤◌, ◌<◌}
use native.Mathlib.Omega.{arith}
use lib.ListN.{length, get_or, drop, set, length-set}
use lib.Seq.{slice, length-slice, get_or-set_other, get_or-take, get_or-drop, ext_get_or}
use borrow.Rule.Slice.PartMut.{mid_of, put_mid, mid_len, take_put}
use Rattle.laws.proofs.Slices.{slice_none, slice_split, slice_set, slice_at, slice_agree}
use Rattle.text.specs.Limits.{base}
use Rattle.json_reader.specs.Readers.{Enough, KeptBelow, Added, RoomFor, StoreAsks, ItemAsks}

-- each name has its own value, but the outermost has none, and four bytes: so the store has room for one more
enough_room : (bytes words end at n : ℕ) → Enough bytes words → n ≤ base.values → end < n → at ≤ bytes → 4 * end < at → end < words
enough_room bytes words end at n (inl h) few fewer inside spread = omega arith
enough_room bytes words end at n (inr h) few fewer inside spread = omega arith

pub store_room : (t names : List ℕ) (end at n : ℕ) → ItemAsks t names end at n → RoomFor names end
store_room t names end at n p =
    record { upto = p.held; more = λ h. enough_room (length t) (length names) end at n (p.store.enough h) p.few p.fewer p.inside p.spread }

pub store_kept : {t names : List ℕ} → StoreAsks t names → (names' : List ℕ) → length names' ≡ length names → StoreAsks t names'
store_kept s names' e = record { short = s.short; enough = rw e s.enough; most = rw e s.most }

pub under_on : (old mid new : List ℕ) {top more : ℕ} → top ≤ more → KeptBelow top old mid → KeptBelow more mid new → KeptBelow top old new
under_on old mid new h u v = λ j l. v j (omega arith) ∙ u j l

pub added_none : (top : ℕ) (old : List ℕ) → top ≤ length old → Added [] top old top old
added_none top old h = record { long = refl; under = λ j l. refl; from = omega arith; room = h; is = slice_none top top old (omega arith) (omega arith) }

pub added_one : (top : ℕ) (old : List ℕ) (p : ℕ) → top < length old → Added (p ∷ []) top old (top + 1) (set old top p)
added_one top old p h =
    record {
      long = length-set old top p;
      under = λ j l. get_or-set_other old top j p 0 (λ e. omega arith);
      from = omega arith;
      room = omega (arith, length-set old top p);
      is = slice_set top top old p (omega arith) h ∙ ap (λ (l : List ℕ). l ++ p ∷ []) (slice_none top top old (omega arith) (omega arith));
    }

module _ {ps : List ℕ} {top : ℕ} {old : List ℕ} {end : ℕ} {mid : List ℕ} (a : Added ps top old end mid) where
  -- what is behind them may change
  pub added_kept : (new : List ℕ) → length new ≡ length mid → KeptBelow end mid new → Added ps top old end new
  added_kept new long u =
      let f = a.from in
      let r = a.room in
      record {
        long = long ∙ a.long;
        under = under_on old mid new a.from a.under u;
        from = a.from;
        room = omega arith;
        is = slice_agree top end new mid (omega arith) r (λ j h l. u j l) ∙ a.is;
      }

  -- more names behind them
  pub added_then : {qs : List ℕ} {more : ℕ} {new : List ℕ} → Added qs end mid more new → Added (ps ++ qs) top old more new
  added_then {qs} {more} {new} b =
      let k = added_kept new b.long b.under in
      let f = a.from in
      let g = b.from in
      record {
        long = b.long ∙ a.long;
        under = k.under;
        from = omega arith;
        room = b.room;
        is = slice_split top end more new f g b.room ∙ rw (k.is, b.is);
      }

-- ---- a part of the store that is lent

pub part_slice : (top end : ℕ) (l : List ℕ) → top ≤ end → end ≤ length l → mid_of top (end - top) l ≡ slice top end l
part_slice top end l h r =
    let a = mid_len top end l r in
    let b = length-slice top end l r in
    ext_get_or 0 (mid_of top (end - top) l) (slice top end l) (omega arith)
    (λ i g. get_or-take (end - top) (drop top l) i 0 (omega arith) ∙ get_or-drop top l i 0 ∙ sym (slice_at top end l i (omega arith)))

pub part_under : (top k : ℕ) (l part : List ℕ) → top ≤ length l → KeptBelow top l (put_mid top k l part)
part_under top k l part h j g =
    sym (get_or-take top (put_mid top k l part) j 0 g) ∙ ap (λ (m : List ℕ). get_or m j 0) (take_put top k l part h) ∙ get_or-take top l j 0 g
