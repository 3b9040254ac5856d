-- The readers of a value, a container, its items and an item meet their contracts. Assumes nothing.
use Rattle.std.specs.Prelude.{Result, Ok, Err}
use native.Mathlib.Omega.{arith}
use Prim.Native.Nat.{ℕ, ◌+◌, ◌-◌}
use mathlib.Core.Path.{◌≡◌, refl, sym, ◌∙◌}
use mathlib.Core.List.{List}
use lib.Dec.{ltb}
use lib.ListN.{length}
use lib.Seq.{slice}
use Rattle.laws.specs.Earliest.{first_repeat}
use Rattle.text.specs.Limits.{base}
use Rattle.text.specs.Text.{byte_at}
use Rattle.text.specs.Tokens.{skip}
use Rattle.text.specs.Tree.{Forest}
use Rattle.text.specs.Grammar.{closing}
use Rattle.text.specs.Reader.{Read, bad, value_at}
use Rattle.text.specs.declared.Refusal.{Refusal}
use Rattle.text.proofs.TokenEnds.{skip_span}
use Rattle.text.proofs.Grammar.Sound.{byte_closing}
use Rattle.repeats.specs.Quoted.{tail_at}
use Rattle.repeats.specs.Closed.{aside_name, settle}
use Rattle.repeats.proofs.Fair.{value_fair}
use Rattle.repeats.proofs.Gathering.{aside_climb}
use Rattle.json_reader.specs.Readers.{limits_in, Added, Took, Gone, ItemTook, ItemsTook, Settles, ItemRead, bracket_of, item_of, items_at, names_at}
use Rattle.json_reader.specs.declared.containers.Container.{Container}
use Rattle.json_reader.specs.declared.members.ItemStart.TheVariants.{At}
use Rattle.json_reader.specs.declared.values.Gathered.{Gathered}
use Rattle.json_reader.proofs.Ways.{scalar_alike, kind_inside, value_none, value_container, value_scalar, value_one, item_one, container_deep, container_open}
use Rattle.json_reader.proofs.Closing.{kind_fits, closable, closed, took_settles, took_from, took_further, took_next, took_stop, further_next}
use Rattle.json_reader.proofs.Store.{under_on, store_kept, added_kept}
use Rattle.json_reader.proofs.Items.{Open, inside_none, names_none, upto_none, upto_stop, stop_names, upto_bad, bad_names, upto_done, done_names, upto_more, more_later}
use Rattle.json_reader.proofs.values.+read_container_read_item_read_items_read_value.Goals as goal

-- ---- a container

-- what its names make of what was read inside it
module _ (at n : ℕ) {of : Container} {t : List ℕ} {depth top : ℕ} {old new names names' : List ℕ} {r : Gathered}
    (g : ItemsTook of t depth top (at + 1) (n + 1) old new names names' r) where
  abbrev aside : List ℕ
  aside = names_at (limits_in names) of t depth (at + 1) (n + 1)

  abbrev within : Read
  within = items_at (limits_in names) of t depth (at + 1) (n + 1)

  abbrev settled_inside : Read
  settled_inside = settle (first_repeat (tail_at t 1) aside) within

  settles : {names'' : List ℕ} {read : (Result (ℕ × ℕ) Refusal)} → Settles t top r names' names'' read → Took n settled_inside t (at + 1) (n + 1) old new read
  settles {names''} {read} s =
      let own : n + 1 - 1 ≡ n = omega arith in
      took_settles n t (slice top r.end names') aside within (at + 1) (n + 1) old new r.read read s.is g.added.is (rw own at g.took)

pub read_container-returns-then-depth-eq0 : goal.read_container-returns-then-depth-eq0
read_container-returns-then-depth-eq0 t c =
    let a = c.args in (container_deep (limits_in a.names.now) a.text.now a.ns a.ne a.at a.count a.of a.depth c.if-depth-eq0.true, λ j h. refl)

pub read_container-read_items-items-requires : goal.read_container-read_items-items-requires
read_container-read_items-items-requires t c = (omega arith, c.requires.0)

-- the names that were put aside climb
pub read_container-settle-settled-requires : goal.read_container-settle-settled-requires
read_container-settle-settled-requires t c =
    let a = c.args in
    let p = c.requires.0 in
    let d = c.read_items-items.ensures.added in
    let L = limits_in a.names.now in
    let value = value_at L a.text.now (a.depth - 1) in
    record {
      short = p.store.short;
      run = (d.from, d.room);
      climbs =
          let fair = value_fair L a.text.now (a.depth - 1) in
          rw d.is (aside_climb base a.text.now value fair (ltb 0 (length a.names.now)) (bracket_of a.of) (a.at + 1) (a.count + 1));
      most = omega (arith, d.long, p.store.most);
    }

-- its own row fits, and it may be closed
pub read_container-close-requires : goal.read_container-close-requires
read_container-close-requires t c =
    let a = c.args in
    let p = c.requires in
    let g = c.read_items-items in
    let z = c.settle-settled in
    let R = settled_inside a.at a.count g.ensures in (
      closable a.count R a.text.now (a.at + 1) a.count a.table.now g.new.table z.result (omega (arith, p.0.store.short))
          (settles a.at a.count g.ensures z.ensures),
      omega (arith, kind_fits (bracket_of a.of), c.kind_in.ensures, p.0.store.short, p.0.few, p.1.starts, p.1.ends),
    )

pub read_container-returns : goal.read_container-returns
read_container-returns t c =
    let e = c.close in
    let z = c.settle-settled in
    let g = c.read_items-items in
    let a = c.args in
    let few = c.requires.0.few in
    let opened =
    container_open (ltb 0 (length a.names.now)) base a.text.now a.ns a.ne a.at a.count a.of a.depth c.if-depth-eq0.false (omega arith) in
    let R = settled_inside a.at a.count g.ensures in
    let inner = settles a.at a.count g.ensures z.ensures in (
      rw opened
          (closed (bracket_of a.of) R a.ns a.ne a.at a.count a.text.now a.table.now g.new.table e.new.table z.result e.result inner
          (rw c.kind_in.ensures at e.ensures)),
      under_on a.names.now g.new.names z.new.names (omega arith) g.ensures.added.under z.ensures.under,
    )

-- ---- an item

pub read_item-read_value-read-requires : goal.read_item-read_value-read-requires
read_item-read_value-read-requires t c =
    let p = c.requires in
    let a = c.args in
    let v = c.in-At in
    let b : ItemRead a.of a.text.now a.end a.at a.names.now c.item_at.new.names (At v.ns v.ne v.from v.last) = v.ensures in
    let i = b.inside in (
      omega arith,
      record {
        store = store_kept p.store c.item_at.new.names b.added.long;
        places = i.places;
        inside = i.inside;
        few = p.few;
        held = omega (arith, b.added.room);
        fewer = omega (arith, p.fewer, i.one);
        spread = omega (arith, p.spread, i.spread);
      },
    )

pub read_item-returns-in-At : goal.read_item-returns-in-At
read_item-returns-in-At t c =
    let v = c.read_value-read in
    let a = c.args in
    let p = c.requires in
    let ns = c.in-At.ns in
    let ne = c.in-At.ne in
    let from = c.in-At.from in
    let top = c.in-At.last in
    let b : ItemRead a.of a.text.now a.end a.at a.names.now c.item_at.new.names (At ns ne from top) = c.in-At.ensures in
    let i = b.inside in
    let L = limits_in a.names.now in
    let R = value_at L a.text.now a.depth ns ne from a.count in
    let took = rw b.added.long at v.ensures.0 in
    record {
      took = λ done. rw (b.is L a.depth a.count done)
          (took_from R a.text.now a.at from a.count a.table.now v.new.table v.result i.later took);
      further =
          took_further R a.text.now from a.count top a.table.now v.new.table v.result (value_one L a.text.now ns ne from a.count a.depth)
          (omega (arith, p.fewer, i.one)) (omega (arith, p.spread, i.spread)) took;
      added = added_kept b.added v.new.names v.auto.names v.ensures.1;
    }

-- ---- the items

-- the place after the first byte, where there is something inside
opening : {t : List ℕ} {from start b shut z : ℕ} → start ≡ skip t from → b ≡ byte_at t start → shut ≡ z → (b ≡ shut → ⊥) → Open t z from start
opening is byte z h = record { is = is; some = λ q. h (byte ∙ q ∙ sym z) }

-- what the item's reader ensures in the loop: the store is as long as at the start, so the limits are the same
module _ {of : Container} {t : List ℕ} {depth end at n : ℕ} {old new names names' : List ℕ} {r : Gathered} (g : ItemTook of t depth end at n old new names names' r)
    (start : List ℕ) (e : length names ≡ length start) where
  took : (done : Forest) → Took 0 (item_of (limits_in start) of t depth done at n) t at n old new r.read
  took = rw e at g.took

  added : Added (aside_name (limits_in start) t (bracket_of of) at) end names r.end names'
  added = rw e at g.added

  -- by the case that was matched
  gone : (done : Forest) {to after : ℕ} → r.read ≡ Ok (to, after) → Gone 0 (item_of (limits_in start) of t depth done at n) t at n old new to after
  gone done is = took_next (item_of (limits_in start) of t depth done at n) t at n old new (took done) is

  refused : (done : Forest) {x : Refusal} → r.read ≡ Err x → item_of (limits_in start) of t depth done at n ≡ bad x
  refused done is = took_stop (item_of (limits_in start) of t depth done at n) t at n old new (took done) is

pub read_items-returns-then-b-z : goal.read_items-returns-then-b-z
read_items-returns-then-b-z t c =
    let a = c.args in
    let p = c.requires in
    let x = c.skip-start in
    let own = aside_name (limits_in a.names.now) a.text.now (bracket_of a.of) in
    let item = item_of (limits_in a.names.now) a.of a.text.now a.depth in
    let empty = sym c.peek-b.ensures.value ∙ c.if-b-z.true ∙ c.closing-z.ensures in
    record {
      took = inside_none a.text.now own item (bracket_of a.of) a.from x.result a.first x.ensures empty a.table.now p.inside p.few (a.first - 1);
      added = names_none a.text.now own item (bracket_of a.of) a.from x.result a.first x.ensures empty a.top a.names.now p.held;
    }

pub read_items-loop-to-init : goal.read_items-loop-to-init
read_items-loop-to-init t c =
    let a = c.args in
    let p = c.requires in
    let x = c.skip-start in
    let k = skip_span a.text.now a.from p.inside in
    upto_none (omega (arith, x.ensures, k.inside)) p.few p.held p.fewer (omega (arith, x.ensures, p.spread))

pub read_items-read_item-item-requires : goal.read_items-read_item-item-requires
read_items-read_item-item-requires t c =
    let l = c.loop-to in
    let u = l.invariant in
    let p = c.requires in (
      omega arith,
      record {
        store = store_kept p.store l.names u.added.long;
        inside = u.within;
        few = u.few;
        held = u.added.room;
        fewer = u.fewer;
        spread = u.spread;
      },
    )

-- an item is refused
pub read_items-returns-in_default : goal.read_items-returns-in_default
read_items-returns-in_default t c =
    let g = c.read_item-item in
    let u = c.loop-to.invariant in
    let o = opening c.skip-start.ensures c.peek-b.ensures.value c.closing-z.ensures c.if-b-z.false in
    let e = refused g.ensures c.args.names.now u.added.long u.done c.in_default.is in
    record { took = rw c.in_default.is (upto_stop u o e); added = stop_names u (added g.ensures c.args.names.now u.added.long) o e }

-- the item's row gets its parent, and no sibling
pub read_items-link-requires : goal.read_items-link-requires
read_items-link-requires t c =
    let u = c.loop-to.invariant in
    omega (arith, u.few, c.requires.few)

-- the closing byte stands after an item
pub read_items-returns-then-b-z-2 : goal.read_items-returns-then-b-z-2
read_items-returns-then-b-z-2 t c =
    let a = c.args in
    let l = c.loop-to in
    let u = l.invariant in
    let g = c.read_item-item.ensures in
    let o = opening c.skip-start.ensures c.peek-b.ensures.value c.closing-z.ensures c.if-b-z.false in
    let k = gone g a.names.now u.added.long u.done c.in-Ok.is in
    let x = c.skip-x in
    let last = sym c.peek-b-in-loop-to.ensures.value ∙ c.if-b-z-2.true ∙ c.closing-z.ensures in
    let alone = item_one (limits_in a.names.now) a.of a.text.now a.depth u.done l.at l.count in
    record {
      took = upto_done u k x.result x.ensures o last alone c.link.ensures c.requires.inside (byte_closing (bracket_of a.of));
      added = done_names u k x.result x.ensures o last (added g a.names.now u.added.long);
    }

-- neither the closing byte nor a comma does
pub read_items-returns-then-b-ne-COMMA : goal.read_items-returns-then-b-ne-COMMA
read_items-returns-then-b-ne-COMMA t c =
    let a = c.args in
    let u = c.loop-to.invariant in
    let g = c.read_item-item.ensures in
    let o = opening c.skip-start.ensures c.peek-b.ensures.value c.closing-z.ensures c.if-b-z.false in
    let k = gone g a.names.now u.added.long u.done c.in-Ok.is in
    let x = c.skip-x in
    let b = c.peek-b-in-loop-to.ensures.value in
    let no_end : byte_at a.text.now x.result ≡ closing (bracket_of a.of) → ⊥ = λ q. c.if-b-z-2.false (b ∙ q ∙ sym c.closing-z.ensures) in
    let no_comma : byte_at a.text.now x.result ≡ 44 → ⊥ = λ q. c.if-b-ne-COMMA.true (b ∙ q) in
    record {
      took = upto_bad u k x.result x.ensures o no_end no_comma;
      added = bad_names u k x.result x.ensures o no_end no_comma (added g a.names.now u.added.long);
    }

-- the item's row gets its parent and its next sibling
pub read_items-link-requires-in-loop-to : goal.read_items-link-requires-in-loop-to
read_items-link-requires-in-loop-to t c =
    let u = c.loop-to.invariant in
    let k = gone c.read_item-item.ensures c.args.names.now u.added.long u.done c.in-Ok.is in
    omega (arith, u.few, c.requires.few, k.few)

-- a comma stands after an item
pub read_items-loop-to-smaller : goal.read_items-loop-to-smaller
read_items-loop-to-smaller t c =
    let a = c.args in
    let u = c.loop-to.invariant in
    let k = gone c.read_item-item.ensures a.names.now u.added.long u.done c.in-Ok.is in
    let x = c.skip-x in
    let b = c.peek-b-in-loop-to.ensures.value in
    let no_end : byte_at a.text.now x.result ≡ closing (bracket_of a.of) → ⊥ = λ q. c.if-b-z-2.false (b ∙ q ∙ sym c.closing-z.ensures) in
    let there : byte_at a.text.now x.result ≡ 44 = omega (arith, c.if-b-ne-COMMA.false, b) in
    let m = more_later u k x.result x.ensures no_end there c.skip-at.result c.skip-at.ensures in
    omega arith

pub read_items-loop-to-preserved : goal.read_items-loop-to-preserved
read_items-loop-to-preserved t c =
    let a = c.args in
    let l = c.loop-to in
    let u = l.invariant in
    let r = c.read_item-item in
    let g = r.ensures in
    let k = gone g a.names.now u.added.long u.done c.in-Ok.is in
    let x = c.skip-x in
    let b = c.peek-b-in-loop-to.ensures.value in
    let no_end : byte_at a.text.now x.result ≡ closing (bracket_of a.of) → ⊥ = λ q. c.if-b-z-2.false (b ∙ q ∙ sym c.closing-z.ensures) in
    let there : byte_at a.text.now x.result ≡ 44 = omega (arith, c.if-b-ne-COMMA.false, b) in
    let alone = item_one (limits_in a.names.now) a.of a.text.now a.depth u.done l.at l.count in
    upto_more u k x.result x.ensures no_end there c.skip-at.result c.skip-at.ensures alone c.link-in-loop-to.ensures (added g a.names.now u.added.long)
    (further_next r.result.end g.further c.in-Ok.is)

-- ---- a value

pub read_value-returns-then-kind-eq0 : goal.read_value-returns-then-kind-eq0
read_value-returns-then-kind-eq0 t c =
    let a = c.args in
    let k = c.kind_at-kind in
    (value_none (limits_in a.names.now) a.text.now a.ns a.ne a.at a.count a.depth k.result k.ensures c.if-kind-eq0.true, λ j h. refl)

pub read_value-read_container-requires : goal.read_value-read_container-requires
read_value-read_container-requires t c =
    let p = c.requires in
    let k = c.kind_at-kind in
    let i = kind_inside c.args.text.now c.args.at k.result k.ensures c.if-kind-eq0.false in (
      omega arith,
      (record { store = p.store; inside = omega arith; few = omega arith; held = p.held; fewer = omega (arith, p.fewer); spread = omega (arith, p.spread) }, p.places),
    )

pub read_value-returns-then-kind-ge-ARRAY : goal.read_value-returns-then-kind-ge-ARRAY
read_value-returns-then-kind-ge-ARRAY t c =
    let a = c.args in
    let k = c.kind_at-kind in
    let is = value_container (limits_in a.names.now) a.text.now a.ns a.ne a.at a.count a.depth k.result k.ensures c.if-kind-ge-ARRAY.true in
    rw (is, ← c.container_of-of.ensures) c.read_container.ensures

pub read_value-returns : goal.read_value-returns
read_value-returns t c =
    let a = c.args in
    let k = c.kind_at-kind in
    let is = value_scalar (limits_in a.names.now) a.text.now a.ns a.ne a.at a.count a.depth k.result k.ensures c.if-kind-eq0.false c.if-kind-ge-ARRAY.false in
    rw (is, scalar_alike (ltb 0 (length a.names.now)) base a.text.now k.result a.ns a.ne a.at a.count) (c.read_scalar.ensures, λ j h. refl)
