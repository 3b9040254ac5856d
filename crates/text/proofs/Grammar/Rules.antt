-- What is wrong with a value, in the words of reading (proofs/Grammar/Wrong.antt) and by the rules (specs/Fault.antt, specs/Meaning.antt), is the same:
--     end-quoted, quoted-end        a string that is read is one that spells
--     wrong-breaks, breaks-wrong    a value has something wrong exactly if it breaks a rule
--     sane-string, sane-name, sane-new     a value that is read has a string and a name that spell, and a new name
-- Assumes nothing.
use Rattle.std.specs.Prelude.{Result, Ok, Err}
use Rattle.text.specs.declared.Fault.{Fault}
use Rattle.text.specs.declared.Fault.TheVariants.{Malformed, Forbidden}
use mathlib.Core.Path.{◌≡◌, sym, subst}
use mathlib.Core.List.{List}
use mathlib.Core.Bool.{true}
use Prim.Native.Nat.{ℕ, ◌+◌, ◌-◌, ◌≤◌, ◌<◌}
use native.Mathlib.Omega.{arith}
use lib.ListN.{length, drop, length-drop}
use Rattle.laws.specs.Lists.{part_of}
use Rattle.laws.proofs.Branches.{if_equal}
use Rattle.text.specs.Limits.{Limits}
use Rattle.text.specs.Text.{byte_at}
use Rattle.text.specs.Strings.{string_end}
use Rattle.text.specs.Spelling.{Spells}
use Rattle.text.specs.Broken.{Aims, Ill}
use Rattle.text.specs.Placed.{Quoted}
use Rattle.text.specs.Seats.{Head, Seat, Named}
use Rattle.text.specs.Fault.{StringAt, ValueBreaks}
use Rattle.text.proofs.TokenBytes.{string_quoted}
use Rattle.text.proofs.Spelling.Ends.{part_spells, spells_part, spells_ended, no3_ill, ill_no3}
use Rattle.text.proofs.Grammar.Stands.{clash}
use Rattle.text.proofs.Grammar.Quotes.{quoted_at, bad_later}
use Rattle.text.proofs.Grammar.Names.{known_named}
use Rattle.text.proofs.Grammar.Wrong.{Wrong, string, name, again, deep, many, Sane}

-- ---- strings ----

module _ (t : List ℕ) (j : ℕ) where
  -- a string that ends, or is refused with 3, has its opening quote
  record Open (k : Result ℕ (Fault ℕ)) : Type 0 where
    quote : byte_at t j ≡ 34
    answer : string_end t (j + 1) ≡ k

  open_quote : (k : Result ℕ (Fault ℕ)) → ((p : ℕ) → Err (Malformed p) ≡ k → ⊥) → quoted_at t j ≡ k → Open k
  open_quote k n =
      if_equal (λ (a : Result ℕ (Fault ℕ)). a ≡ k → Open k) (byte_at t j) 34 (λ b e. record { quote = b; answer = e }) (λ b e. absurd (n j e))

  quoted_open : (k : Result ℕ (Fault ℕ)) → byte_at t j ≡ 34 → string_end t (j + 1) ≡ k → quoted_at t j ≡ k
  quoted_open k b e = rw b e

  open_end : {e : ℕ} → quoted_at t j ≡ Ok e → Open (Ok e)
  open_end {e} = open_quote (Ok e) (λ p z. let o : ◌≡◌ {A = ℕ} 0 1 = cc in omega arith)

  open_three : {x : ℕ} → quoted_at t j ≡ Err (Forbidden x) → Open (Err (Forbidden x))
  open_three {x} = open_quote (Err (Forbidden x)) (λ p z. let o : ◌≡◌ {A = ℕ} 0 1 = cc in omega arith)

  pub end_quoted : {e : ℕ} → quoted_at t j ≡ Ok e → Quoted t (j + 1) (e - 1)
  end_quoted {e} z = let o = open_end z in string_quoted t j e o.quote o.answer

  pub quoted_end : {e : ℕ} → Quoted t (j + 1) e → quoted_at t j ≡ Ok (e + 1)
  quoted_end {e} g =
      let b : j + 1 - 1 ≡ j = omega arith in
      let last : e + 1 - 1 ≡ e = omega arith in
      quoted_open (Ok (e + 1)) (rw b at g.opens)
      (spells_ended t (j + 1) (e + 1) (record {
        after = omega (arith, g.ordered);
        within_text = omega (arith, g.inside);
        quote = rw last g.closes;
        codes = g.codes;
        spelled = rw last g.spells;
      }))

-- ill bytes stand inside the text
some_bytes : {l : List ℕ} → Aims l → 0 < length l
some_bytes (Aims.high lo hi) = omega arith
some_bytes (Aims.escape d r) = omega arith

ill_inside : (t : List ℕ) (p : ℕ) → Ill (drop p t) → p < length t
ill_inside t p i = omega (arith, some_bytes i.aims, length-drop p t)

-- ---- one value ----

module _ (L : Limits) (t : List ℕ) where
  three_breaks : {d : Seat} {h : Head} {j x : ℕ} → StringAt h j → quoted_at t j ≡ Err (Forbidden x) → ValueBreaks L t d h 3 x
  three_breaks {j} {x} o z =
      let k = open_three t j z in
      let r = no3_ill t (j + 1) x k.answer in
      let l = ill_inside t x r.ill in
      ValueBreaks.character o k.quote (bad_later t j x z) (part_spells t (j + 1) x (omega arith) r.spells) r.ill

  pub wrong_breaks : {d : Seat} {h : Head} {m x : ℕ} → Wrong L t d h m x → ValueBreaks L t d h m x
  wrong_breaks (string k z) = three_breaks (StringAt.value k) z
  wrong_breaks (name j k z) = three_breaks (StringAt.name k) z
  wrong_breaks {x} (again u k z n) = ValueBreaks.repeated u k (end_quoted t x z) n.spells n.there
  wrong_breaks (deep o k) = ValueBreaks.deep o k
  wrong_breaks (many k) = ValueBreaks.many k

  opening_wrong : {d : Seat} {h : Head} {j x : ℕ} → StringAt h j → quoted_at t j ≡ Err (Forbidden x) → Wrong L t d h 3 x
  opening_wrong (StringAt.value k) z = string k z
  opening_wrong (StringAt.name {j} k) z = name j k z

  pub breaks_wrong : {d : Seat} {h : Head} {m x : ℕ} → ValueBreaks L t d h m x → Wrong L t d h m x
  breaks_wrong (ValueBreaks.character {j} {p} o b l s i) =
      let n = ill_inside t p i in
      opening_wrong o (quoted_open t j (Err (Forbidden p)) b (ill_no3 t (j + 1) p (record { spells = spells_part t (j + 1) p (omega arith) (omega arith) s; ill = i })))
  breaks_wrong {d} (ValueBreaks.repeated {p} {e} {codes} u k g s n) =
      let last : e + 1 - 1 ≡ e = omega arith in
      again u k (quoted_end t p g) (rw last (record { codes = codes; spells = s; there = n }))
  breaks_wrong (ValueBreaks.deep o k) = deep o k
  breaks_wrong (ValueBreaks.many k) = many k

  -- the numbers are 3 to 6
  pub wrong_number : {d : Seat} {h : Head} {m x : ℕ} → Wrong L t d h m x → (3 ≤ m) × (m ≤ 6)
  wrong_number (string k z) = omega arith
  wrong_number (name j k z) = omega arith
  wrong_number (again u k z n) = omega arith
  wrong_number (deep o k) = omega arith
  wrong_number (many k) = omega arith

  module _ (d : Seat) (h : Head) where
    pub sane_string : Sane L t d h → h.kind ≡ 5 → Quoted t (h.from + 1) (h.to - 1)
    sane_string s k = end_quoted t h.from (s.closed k)

    pub sane_name : Sane L t d h → 0 < h.ns → Quoted t h.ns h.ne
    sane_name s k =
        let e : h.ns ≡ h.ns - 1 + 1 = omega arith in
        let last : h.ne + 1 - 1 ≡ h.ne = omega arith in
        let g : Quoted t (h.ns - 1 + 1) (h.ne + 1 - 1) = end_quoted t (h.ns - 1) (s.names.closed (h.ns - 1) e) in
        subst (λ (i : ℕ). Quoted t i h.ne) (sym e) (rw last at g)

    pub sane_new : Sane L t d h → L.unique ≡ true → 0 < h.ns → (codes : List ℕ) → Spells (part_of t h.ns h.ne) codes → Named t codes d.beside → ⊥
    sane_new s u k codes p n = clash _ (known_named t (record { codes = codes; spells = p; there = n })) (s.names.new u (h.ns - 1) (omega arith))
