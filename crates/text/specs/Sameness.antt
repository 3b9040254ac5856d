-- When two documents are the same, over a relation of tokens and one of labels, and with the order of members counted or not: `Corresponds`. Entries of arrays
-- match in their order. Its uses: `SameValue` here, strings decoded and numbers as written; contact's `Reordered`, all as written.
-- Assumes nothing: these are definitions.
use Rattle.std.specs.Prelude.{ℕ, ◌≡◌, List}
use Rattle.std.proofs.Math.Option.{Option, none, some}
use Rattle.text.specs.Strings.{content_of}
use Rattle.text.specs.Doc.{Name, Doc, scalar, array, object, Members, empty, member, Property}

-- whether the order of an object's members counts
pub data MemberOrder : Type 0 where
  counted free : MemberOrder

-- ns, with one member n taken out, are rest; where the order counts it is the first
pub data Taken (n : Name) (label : List ℕ) (d : Doc) : MemberOrder → Members → Members → Type 0 where
  at_head : {o : MemberOrder} {ns : Members} → Taken n label d o (member n label d ns) ns
  in_tail : {m : Name} {l : List ℕ} {e : Doc} {ns rest : Members} → Taken n label d free ns rest → Taken n label d free (member m l e ns) (member m l e rest)

-- T tells which tokens, each with its kind, are the same, and N which names as written; `inside` whether the order of members counts inside arrays
module _ (T : (kind : ℕ) → (token : List ℕ) → (other-kind : ℕ) → (other : List ℕ) → Type 0) (N : (label other : List ℕ) → Type 0) (inside : MemberOrder) where
  mutual
    -- the same value; the order of members outside arrays counts or not
    pub data Corresponds : MemberOrder → Doc → Doc → Type 0 where
      scalars : {o : MemberOrder} {kind kind' : ℕ} {token token' : List ℕ} → T kind token kind' token' → Corresponds o (scalar kind token) (scalar kind' token')
      arrays : {o : MemberOrder} {ms ns : Members} → Matched counted inside ms ns → Corresponds o (array ms) (array ns)
      objects : {o : MemberOrder} {ms ns : Members} → Matched o o ms ns → Corresponds o (object ms) (object ns)

    -- each member has its match, in order or not, with the same name and a value that is the same; and none is left over
    pub data Matched : (members values : MemberOrder) → Members → Members → Type 0 where
      nothing : {o v : MemberOrder} → Matched o v empty empty
      match : {o v : MemberOrder} {n : Name} {label label' : List ℕ} {d e : Doc} {ms ns rest : Members}
          → Taken n label' e o ns rest → N label label' → Corresponds v d e → Matched o v ms rest → Matched o v (member n label d ms) ns

  -- what is found of a name is the same: nothing in both, or the same value under the same name as written
  pub data CorrespondsAt (o : MemberOrder) : Option Property → Option Property → Type 0 where
    neither : CorrespondsAt o none none
    both : {s t : Property} → N s.label t.label → Corresponds o s.content t.content → CorrespondsAt o (some s) (some t)

-- ---- all as written

-- the same token, of the same kind
pub record EqualToken (kind : ℕ) (token : List ℕ) (kind' : ℕ) (token' : List ℕ) : Type 0 where
  pub kinds : kind ≡ kind'
  pub tokens : token ≡ token'

-- the same name as written
abbrev pub EqualLabel : (label other : List ℕ) → Type 0
EqualLabel label other = label ≡ other

-- ---- strings decoded, all else as written

-- tokens of one kind: strings of the same content, or the same token
pub record EqualContent (kind : ℕ) (token : List ℕ) (kind' : ℕ) (token' : List ℕ) : Type 0 where
  pub kinds : kind ≡ kind'
  pub strings : kind ≡ 5 → content_of token ≡ content_of token'
  pub others : (kind ≡ 5 → ⊥) → token ≡ token'

-- a name may be written in any way: it counts decoded
abbrev pub AnyLabel : (label other : List ℕ) → Type 0
AnyLabel label other = Unit {0}

-- the same value: names and strings decoded, numbers as written, the order of members counted or not, at any depth
abbrev pub SameValue : MemberOrder → Doc → Doc → Type 0
SameValue o = Corresponds EqualContent AnyLabel o o
