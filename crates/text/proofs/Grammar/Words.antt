-- White space, the literals, and the values that hold no others:
--     skip-told, skip-follow       white space is read as its rule says
--     simple-exact                 so is each value that holds no others
--     lead                         what a value's first byte begins
--     simple-first                 the first byte of a value that holds no others
-- Assumes nothing.
use Rattle.std.specs.Prelude.{Result, Ok, Err}
use Rattle.text.specs.declared.Fault.{Fault}
use Rattle.text.specs.declared.Fault.TheVariants.{Malformed, Forbidden}
use mathlib.Core.Path.{◌≡◌, refl, sym}
use mathlib.Core.List.{List, [], ◌∷◌, ◌++◌}
use mathlib.Core.Bool.{Bool, true, false, cond}
use mathlib.Core.Logic.{◌⊎◌, inl}
use Prim.Native.Nat.{ℕ, suc, ◌+◌, ◌≤◌, ◌<◌}
use native.Mathlib.Omega.{arith}
use native.Mathlib.Nat.{add-zero, le_refl}
use lib.ListN.{length}
use lib.Dec.{eqb}
use borrow.Author.Tests.{eqb-true, eqb-false, ne_eqb}
use Rattle.laws.proofs.Branches.{if_true, if_equal}
use Rattle.text.specs.Text.{byte_at, bytes}
use Rattle.text.specs.Tokens.{is_space, skip, is_digit, word_at, number_at, kind_by, token_at}
use Rattle.text.specs.Tree.{Bracket, square, curly, bracket_kind}
use Rattle.text.specs.Abnf.{Byte, Between, Exactly, exactly, seq, Opt, this, that, Star}
use Rattle.text.specs.Grammar.{Blank, Ws, Number, JsonString, quoted, Simple, nothing, falsity, truth, numeral, string, simple_kind, IsSimple, opening, closing}
use Rattle.text.proofs.Grammar.Stands.{BytesStand, Like, stands_to, stands_inside, one_stands, stands_join, like_none, like_tail, like_stuck}
use Rattle.text.proofs.Grammar.Exact.{HasWord, TokenSays, PastPlace, TokenFollows, Exact, TestOf, ends_exact, run_stands, run_exact}
use Rattle.text.proofs.Grammar.Number.{AfterNumber, between, digit_tells, number_exact}
use Rattle.text.proofs.Grammar.Quotes.{quoted_at, string_exact}

-- ---- white space ----

pub blank_tells : TestOf Blank is_space
blank_tells = record { sure = sure; back = back; small = λ x e. small x (sure x e) }
  where
    sure : (x : ℕ) → is_space x ≡ true → Blank x
    sure x =
        if_equal (λ (c : Bool). c ≡ true → Blank x) x 32 (λ k e. rw k Blank.space)
        (λ a. if_equal (λ (c : Bool). c ≡ true → Blank x) x 9 (λ k e. rw k Blank.tab)
        (λ b. if_equal (λ (c : Bool). c ≡ true → Blank x) x 10 (λ k e. rw k Blank.line_feed)
        (λ c e. rw (eqb-true x 13 e) Blank.return)))

    back : (x : ℕ) → Blank x → is_space x ≡ true
    back x Blank.space = refl
    back x Blank.tab = refl
    back x Blank.line_feed = refl
    back x Blank.return = refl

    small : (x : ℕ) → Blank x → x < 256
    small x Blank.space = omega arith
    small x Blank.tab = omega arith
    small x Blank.line_feed = omega arith
    small x Blank.return = omega arith

module _ (t : List ℕ) where
  pub skip_told : (at : ℕ) → HasWord t Ws at (skip t at)
  skip_told at = run_stands t blank_tells at

  pub skip_follow : {q at : ℕ} {w : List ℕ} (s : List ℕ) → at ≤ length t → Ws w → is_space (byte_at s 0) ≡ false → Like t q at (w ++ s)
      → (skip t at ≡ at + length w) ⊎ PastPlace q (at + length w) (skip t at)
  skip_follow {q} {at} {w} s i c o h = (run_exact t blank_tells).follow q at w s i c o h

  pub skip_later : (at : ℕ) → at ≤ skip t at
  skip_later at = omega (arith, stands_to (skip_told at).stands)

  pub skip_inside : (at : ℕ) → at ≤ length t → skip t at ≤ length t
  skip_inside at i = stands_inside (skip_told at).stands i

-- what may stand behind a value
pub data Behind : ℕ → Type 0 where
  blank : {x : ℕ} → Blank x → Behind x
  comma : Behind 44
  close : (b : Bracket) → Behind (closing b)
  ended : Behind 256

behind_ends : {z : ℕ} → Behind z → AfterNumber z
behind_ends (blank Blank.space) = record { digits = refl; dots = refl; powers = refl }
behind_ends (blank Blank.tab) = record { digits = refl; dots = refl; powers = refl }
behind_ends (blank Blank.line_feed) = record { digits = refl; dots = refl; powers = refl }
behind_ends (blank Blank.return) = record { digits = refl; dots = refl; powers = refl }
behind_ends comma = record { digits = refl; dots = refl; powers = refl }
behind_ends (close square) = record { digits = refl; dots = refl; powers = refl }
behind_ends (close curly) = record { digits = refl; dots = refl; powers = refl }
behind_ends ended = record { digits = refl; dots = refl; powers = refl }

-- ---- literals ----

-- each is a byte
abbrev EachByte : List ℕ → Type 0
EachByte [] = Unit {0}
EachByte (x ∷ v) = (x < 256) × EachByte v

the_word : {u v : List ℕ} → Exactly v u → u ≡ v
the_word exactly = refl

module _ (t : List ℕ) where
  word_told : (v : List ℕ) → EachByte v → (at : ℕ) → at ≤ length t → TokenSays t (Exactly v) at (word_at t v at)
  unfolding word_at
  word_told [] b at i = record { word = []; is = exactly; stands = BytesStand.done }
  word_told (x ∷ w) b at i =
      if_equal (TokenSays t (Exactly (x ∷ w)) at) (byte_at t at) x
      (λ e. longer e (word_at t w (at + 1)) (word_told w b.1 (at + 1) (stands_inside (one_stands {t = t} e b.0) i)))
      (λ e. record { word = x ∷ w; is = exactly; like = like_none (x ∷ w) (le_refl at); later = le_refl at; within = i })
    where
      longer : byte_at t at ≡ x → (k : Result ℕ (Fault ℕ)) → TokenSays t (Exactly w) (at + 1) k → TokenSays t (Exactly (x ∷ w)) at k
      longer e (Ok to) s = record { word = x ∷ s.word; is = rw (the_word s.is) exactly; stands = stands_join (one_stands e b.0) s.stands }
      longer e (Err (Malformed q)) s = record { word = x ∷ s.word; is = rw (the_word s.is) exactly; like = Like.next (λ l. e) s.like; later = omega (arith, s.later); within = s.within }
      longer e (Err (Forbidden q)) s = record { word = x ∷ s.word; is = rw (the_word s.is) exactly; like = Like.next (λ l. e) s.like; later = omega (arith, s.later); within = s.within }

  word_follow : (v : List ℕ) (q at : ℕ) (s : List ℕ) → Like t q at (v ++ s) → TokenFollows q (at + length v) (word_at t v at)
  unfolding word_at
  word_follow [] q at s h = inl (sym (add-zero at))
  word_follow (x ∷ v) q at s h =
      let one : at + suc (length v) ≡ at + 1 + length v = omega arith in
      if_equal (TokenFollows q (at + suc (length v))) (byte_at t at) x
      (λ e. rw one (word_follow v q (at + 1) s (like_tail h)))
      (λ e. let l = like_stuck h e in record { word = omega arith; answer = l })

  word_exact : (v : List ℕ) → EachByte v → Exact t (Exactly v) (λ z. Unit {0}) (word_at t v)
  word_exact v b =
      record { some_word = v; has = exactly; told = λ at i. word_told v b at i; follow = λ q at w s i d o h. rw (the_word d) (word_follow v q at s (rw (the_word d) at h)) }

-- ---- the values that hold no others ----

-- the reader of one
abbrev pub simple_of : List ℕ → Simple → ℕ → Result ℕ (Fault ℕ)
simple_of t nothing = word_at t (bytes "null")
simple_of t falsity = word_at t (bytes "false")
simple_of t truth = word_at t (bytes "true")
simple_of t numeral = number_at t
simple_of t string = quoted_at t

pub simple_exact : (t : List ℕ) (k : Simple) → Exact t (IsSimple k) Behind (simple_of t k)
simple_exact t nothing = ends_exact Behind (λ z o. tt) (word_exact t (bytes "null") (omega arith))
simple_exact t falsity = ends_exact Behind (λ z o. tt) (word_exact t (bytes "false") (omega arith))
simple_exact t truth = ends_exact Behind (λ z o. tt) (word_exact t (bytes "true") (omega arith))
simple_exact t numeral = ends_exact Behind (λ z o. behind_ends o) (number_exact t)
simple_exact t string = ends_exact Behind (λ z o. tt) (string_exact t)

-- ---- what a first byte begins ----

pub data Lead (b : ℕ) : (kind : ℕ) → Type 0 where
  no_value : Lead b 0
  a_simple : (k : Simple) (w : List ℕ) → b < 256 → IsSimple k (b ∷ w) → Lead b (simple_kind k)
  a_bracket : (x : Bracket) → b ≡ opening x → Lead b (bracket_kind x)

word_lead : (k : Simple) (v : List ℕ) (b x : ℕ) → x < 256 → IsSimple k (x ∷ v) → b ≡ x → Lead b (simple_kind k)
word_lead k v b x h d e = a_simple k v (omega arith) (rw e d)

digit_lead : (b : ℕ) → is_digit b ≡ true → Lead b 4
digit_lead b e =
    let h = between 48 58 b e in
    go (eqb b 48) refl h
  where
    go : (c : Bool) → eqb b 48 ≡ c → (48 ≤ b) × (b < 58) → Lead b 4
    go true f h = a_simple numeral [] (omega arith) (seq (seq (seq Opt.none (this (Byte.byte (eqb-true b 48 f)))) Opt.none) Opt.none)
    go false f h =
        let n = eqb-false b 48 f in
        let o : Between 49 57 b = omega arith in
        a_simple numeral [] (omega arith) (seq (seq (seq Opt.none (that (seq (Byte.byte o) Star.none))) Opt.none) Opt.none)

pub lead : (b : ℕ) → Lead b (kind_by b)
unfolding kind_by
lead b =
    if_equal (Lead b) b 110 (word_lead nothing _ b 110 (omega arith) exactly)
    (λ e₁. if_equal (Lead b) b 102 (word_lead falsity _ b 102 (omega arith) exactly)
    (λ e₂. if_equal (Lead b) b 116 (word_lead truth _ b 116 (omega arith) exactly)
    (λ e₃. if_equal (Lead b) b 45 (λ e. a_simple numeral (48 ∷ []) (omega arith) (seq (seq (seq (Opt.some (Byte.byte e)) (this (Byte.byte refl))) Opt.none) Opt.none))
    (λ e₄. if_equal (Lead b) b 34 (word_lead string (34 ∷ []) b 34 (omega arith) (quoted Star.none))
    (λ e₅. if_equal (Lead b) b 91 (λ e. a_bracket square e)
    (λ e₆. if_equal (Lead b) b 123 (λ e. a_bracket curly e)
    (λ e₇. if_true (Lead b) (is_digit b) (digit_lead b) (λ e. no_value))))))))

-- ---- the token of a kind ----

-- a string's token starts with its quote
abbrev pub Opens : Simple → ℕ → Type 0
Opens nothing b = Unit {0}
Opens falsity b = Unit {0}
Opens truth b = Unit {0}
Opens numeral b = Unit {0}
Opens string b = b ≡ 34

first_quote : {b : ℕ} {w : List ℕ} → JsonString (b ∷ w) → b ≡ 34
first_quote (quoted d) = refl

pub lead_opens : (k : Simple) (b : ℕ) (w : List ℕ) → IsSimple k (b ∷ w) → Opens k b
lead_opens nothing b w d = tt
lead_opens falsity b w d = tt
lead_opens truth b w d = tt
lead_opens numeral b w d = tt
lead_opens string b w d = first_quote d

pub token_simple : (t : List ℕ) (k : Simple) (at : ℕ) → Opens k (byte_at t at) → token_at t (simple_kind k) at ≡ simple_of t k at
unfolding token_at
token_simple t nothing at o = refl
token_simple t falsity at o = refl
token_simple t truth at o = refl
token_simple t numeral at o = refl
token_simple t string at o = rw o

pub kind_text : (t : List ℕ) (k : Simple) (at : ℕ) → simple_kind k ≡ 5 → simple_of t k at ≡ quoted_at t at
kind_text t nothing at e = absurd (omega arith)
kind_text t falsity at e = absurd (omega arith)
kind_text t truth at e = absurd (omega arith)
kind_text t numeral at e = absurd (omega arith)
kind_text t string at e = refl

-- the kind of a value that holds no others is none of the other kinds
pub kind_way : {A : Type 0} (k : Simple) (x y z s : A) → cond (eqb (simple_kind k) 0) x (cond (eqb (simple_kind k) 6) y (cond (eqb (simple_kind k) 7) z s)) ≡ s
kind_way nothing x y z s = refl
kind_way falsity x y z s = refl
kind_way truth x y z s = refl
kind_way numeral x y z s = refl
kind_way string x y z s = refl

first_number : (w s : List ℕ) → Number w → kind_by (byte_at (w ++ s) 0) ≡ 4
unfolding kind_by
first_number w s (seq (seq (seq (Opt.some (Byte.byte e)) d) f) g) = rw e
first_number w s (seq (seq (seq Opt.none (this (Byte.byte e))) f) g) = rw e
first_number w s (seq (seq (seq Opt.none (that (seq (Byte.byte {x} b) c))) f) g) =
    let lo = b.from in
    let hi = b.up_to in
    rw (
      ne_eqb x 110 (omega arith),
      ne_eqb x 102 (omega arith),
      ne_eqb x 116 (omega arith),
      ne_eqb x 45 (omega arith),
      ne_eqb x 34 (omega arith),
      ne_eqb x 91
          (omega arith),
      ne_eqb x 123 (omega arith),
      digit_tells.back x (omega arith),
    )

pub simple_first : (k : Simple) (w s : List ℕ) → IsSimple k w → kind_by (byte_at (w ++ s) 0) ≡ simple_kind k
unfolding kind_by
simple_first nothing w s exactly = refl
simple_first falsity w s exactly = refl
simple_first truth w s exactly = refl
simple_first numeral w s d = first_number w s d
simple_first string w s (quoted d) = refl

pub simple_opens : (k : Simple) (w s : List ℕ) → IsSimple k w → Opens k (byte_at (w ++ s) 0)
simple_opens nothing w s d = tt
simple_opens falsity w s d = tt
simple_opens truth w s d = tt
simple_opens numeral w s d = tt
simple_opens string w s (quoted d) = refl
