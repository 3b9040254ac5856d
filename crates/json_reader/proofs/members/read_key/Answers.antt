-- `json_reader::members::read_key` meets its contract: one law of `member_of` for each return, and the name is in the store once it is closed. Assumes nothing.
use Rattle.std.specs.Prelude.{Ok}
use Prim.Native.Nat.{ℕ, ◌+◌}
use mathlib.Core.Path.{◌≡◌, sym, ◌∙◌}
use mathlib.Core.List.{List, []}
use native.Mathlib.Omega.{arith}
use Rattle.text.specs.Text.{byte_at}
use Rattle.text.specs.Strings.{string_end}
use Rattle.text.specs.Tree.{curly}
use Rattle.text.specs.Reader.{value_at}
use Rattle.text.specs.Sheet.{refusal_of}
use Rattle.text.specs.declared.Refusal.{Refusal}
use Rattle.text.proofs.Laws.{EndInside, end_inside}
use Rattle.repeats.specs.Closed.{aside_name}
use Rattle.json_reader.specs.Readers.{limits_in, Put, NameAsks, Begun, Coloned, ItemRead}
use Rattle.json_reader.specs.declared.containers.Container.TheVariants.{Object}
use Rattle.json_reader.specs.declared.members.ItemStart.{ItemStart}
use Rattle.json_reader.specs.declared.members.ItemStart.TheVariants.{At, Wrong}
use Rattle.json_reader.proofs.Ways.{member_none, member_no, member_closed, own_none, own_no, own_closed}
use Rattle.json_reader.proofs.Store.{added_none}
use Rattle.json_reader.proofs.members.read_key.Goals as goal

module _ (t names : List ℕ) (end at : ℕ) (asks : NameAsks t names end at) where
  -- no name is closed
  unclosed : (r : Refusal) → aside_name (limits_in names) t curly at ≡ [] → Begun Object t at (Wrong r end) → ItemRead Object t end at names names (Wrong r end)
  unclosed r e is = record { inside = tt; is = is; added = rw e (added_none end names asks.room.upto) }

  -- a name is closed, and what follows it
  closed : (to last : ℕ) (names' : List ℕ) (r : ItemStart) → byte_at t at ≡ 34 → string_end t (at + 1) ≡ Ok to → Put names end at names' last
      → Coloned t (at + 1) to last r → ItemRead Object t end at names names' r
  closed to last names' (At ns ne from top) h e q p =
      let i = end_inside t (at + 1) to e in
      rw (p.stays, p.starts)
      (record {
        inside =
            record {
              places = record { starts = omega (arith, p.inside, p.later); ends = omega (arith, p.inside, p.later, p.ends) };
              later = omega (arith, p.later);
              inside = p.inside;
              one = q.one;
              spread = omega (arith, p.later, q.one);
            };
        is = λ L depth n done. member_closed L t (value_at L t depth) done at n h to e ∙ p.is (value_at L t depth) at n;
        added = rw (own_closed t at h to e) q.added;
      })
  closed to last names' (Wrong r top) h e q p =
      rw p.0
      (record {
        inside = tt;
        is = λ L depth n done. member_closed L t (value_at L t depth) done at n h to e ∙ p.1 (value_at L t depth) at n;
        added = rw (own_closed t at h to e) q.added;
      })

pub returns-then-peek-ne-QUOTE : goal.returns-then-peek-ne-QUOTE
returns-then-peek-ne-QUOTE c =
    let s = c in
    let a = s.args in
    let h : byte_at a.text.now a.at ≡ 34 → ⊥ = λ q. c.if-peek-ne-QUOTE.true (c.peek.ensures.value ∙ q) in
    unclosed a.text.now a.names.now a.end a.at s.requires _ (own_none (limits_in a.names.now) a.text.now a.at h)
    (λ L depth n done. member_none L a.text.now (value_at L a.text.now depth) done a.at n h)

pub returns-in-Err : goal.returns-in-Err
returns-in-Err c =
    let s = c in
    let a = s.args in
    let h : byte_at a.text.now a.at ≡ 34 = omega arith in
    let fault = c.in-Err.fault in
    let e = sym c.string_end.ensures ∙ c.in-Err.is in
    rw c.from.ensures
    (unclosed a.text.now a.names.now a.end a.at s.requires (refusal_of fault) (own_no (limits_in a.names.now) a.text.now a.at h fault e)
    (λ L depth n done. member_no L a.text.now (value_at L a.text.now depth) done a.at n h fault e))

-- the place where a name has ended
ended : (c : goal.After-slice_known-in-Ok-1) → EndInside c.args.text.now (c.args.at + 1) c.in-Ok.to
ended c =
    end_inside c.args.text.now (c.args.at + 1) c.in-Ok.to
    (sym c.string_end.ensures ∙ c.in-Ok.is)

pub colon-requires : goal.colon-requires
colon-requires c = omega (arith, ended c)

pub returns-in-Ok : goal.returns-in-Ok
returns-in-Ok c =
    let s = c in
    let a = s.args in
    let e = c in
    let k = c.put_name-last in
    let h : byte_at a.text.now a.at ≡ 34 = omega arith in
    closed a.text.now a.names.now a.end a.at s.requires e.in-Ok.to k.result k.new.names c.colon.result h
    (sym e.string_end.ensures ∙ e.in-Ok.is) k.ensures c.colon.ensures
