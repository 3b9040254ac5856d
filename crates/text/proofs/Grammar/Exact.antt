-- A token's reader and its language agree, shown once for each way of ABNF to build a rule. `Exact t L Ends f` says of the reader f of a language L:
--     told      where f ends a token, a word of L stands there; where it refuses, the bytes before the refusal's place begin a word of L
--     follow    where the text is like a word of L and what may follow it, as far as a place q, f ends where the word ends; or q is still in the word, and f
--               answers of q or a later place; or it refuses with 3, inside the word unless q is
-- Assumes nothing.
use Rattle.std.specs.Prelude.{Result, Ok, Err}
use Rattle.text.specs.declared.Fault.{Fault}
use Rattle.text.specs.declared.Fault.TheVariants.{Malformed, Forbidden}
use mathlib.Core.Path.{◌≡◌, refl, sym, ◌∙◌}
use mathlib.Core.List.{List, [], ◌∷◌, ◌++◌, append_assoc}
use mathlib.Core.Bool.{Bool, true, false, cond}
use mathlib.Core.Logic.{◌⊎◌, inl, inr}
use Prim.Native.Nat.{ℕ, zero, suc, ◌+◌, ◌-◌, ◌≤◌, ◌<◌}
use native.Mathlib.Omega.{arith}
use native.Mathlib.Nat.{add-zero, le_refl}
use lib.ListN.{length, length-append}
use Rattle.laws.proofs.Places.{inside}
use Rattle.laws.proofs.Branches.{if_true}
use Rattle.text.specs.Text.{byte_at}
use Rattle.text.specs.Tokens.{run_end, then_at}
use Rattle.text.specs.Abnf.{Byte, Seq, seq, Opt, Or, this, that, Star}
use Rattle.text.proofs.TokenEnds.{run_on_lem, run_end_lem}
use Rattle.text.proofs.Grammar.Stands.{clash, by_order, BytesStand, Like, one_stands, stands_join, stands_to, stands_inside, like_none, like_more, like_join, like_tail, like_here, like_skip}

-- a word of the language stands from `at` to `to`
pub record HasWord (t : List ℕ) (L : List ℕ → Type 0) (at to : ℕ) : Type 0 where
  pub word : List ℕ
  pub is : L word
  pub stands : BytesStand t at to word

-- the bytes from `at` to e, which is q or a later place, begin one
pub record Begun (t : List ℕ) (L : List ℕ → Type 0) (at q e : ℕ) : Type 0 where
  pub word : List ℕ
  pub is : L word
  pub like : Like t e at word
  pub later : at ≤ q
  pub within : e ≤ length t

-- where 3 is refused, the byte at hand is still good
abbrev pub TokenSays : List ℕ → (List ℕ → Type 0) → ℕ → Result ℕ (Fault ℕ) → Type 0
TokenSays t L at (Ok end) = HasWord t L at end
TokenSays t L at (Err (Malformed q)) = Begun t L at q q
TokenSays t L at (Err (Forbidden q)) = Begun t L at q (q + 1)

-- the word that is expected up to `to` is not over at q, and neither is the answer of the place p
pub record PastPlace (q to p : ℕ) : Type 0 where
  pub word : q ≤ to
  pub answer : q ≤ p

-- a word that ends at `to` is expected, by a text that is like it as far as q
abbrev pub TokenFollows : ℕ → ℕ → Result ℕ (Fault ℕ) → Type 0
TokenFollows q to (Ok end) = (end ≡ to) ⊎ PastPlace q to end
TokenFollows q to (Err (Malformed p)) = PastPlace q to p
TokenFollows q to (Err (Forbidden p)) = (q ≤ to) ⊎ (p < to)

pub record Exact (t : List ℕ) (L : List ℕ → Type 0) (Ends : ℕ → Type 0) (f : ℕ → Result ℕ (Fault ℕ)) : Type 0 where
  pub some_word : List ℕ
  pub has : L some_word
  pub told : (at : ℕ) → at ≤ length t → TokenSays t L at (f at)
  pub follow : (q at : ℕ) (w s : List ℕ) → at ≤ length t → L w → Ends (byte_at s 0) → Like t q at (w ++ s) → TokenFollows q (at + length w) (f at)

-- a stricter end, and another reader that answers the same
pub ends_exact : {t : List ℕ} {L : List ℕ → Type 0} {E : ℕ → Type 0} {f : ℕ → (Result ℕ (Fault ℕ))} (F : ℕ → Type 0) → ((z : ℕ) → F z → E z) → Exact t L E f → Exact t L F f
ends_exact F h l =
    record { some_word = l.some_word; has = l.has; told = l.told; follow = λ q at w s i c o k. l.follow q at w s i c (h (byte_at s 0) o) k }

pub same_exact : {t : List ℕ} {L : List ℕ → Type 0} {E : ℕ → Type 0} {f : ℕ → (Result ℕ (Fault ℕ))} (g : ℕ → Result ℕ (Fault ℕ)) → ((at : ℕ) → f at ≡ g at) → Exact t L E f → Exact t L E g
same_exact {t} {L} g e l =
    record {
      some_word = l.some_word;
      has = l.has;
      told = λ at i. rw (e at) at (l.told at i);
      follow = λ q at w s i c o k. rw (e at) at (l.follow q at w s i c o k);
    }

-- what is past q stays past it
abbrev pub token_place : Result ℕ (Fault ℕ) → ℕ
token_place (Ok end) = end
token_place (Err (Malformed place)) = place
token_place (Err (Forbidden place)) = place

pub goes_past : (q to : ℕ) (k : Result ℕ (Fault ℕ)) → q ≤ to → q ≤ token_place k → TokenFollows q to k
goes_past q to (Ok end) l h = inr (record { word = l; answer = h })
goes_past q to (Err (Malformed place)) l h = record { word = l; answer = h }
goes_past q to (Err (Forbidden place)) l h = inl l

pub said_later : (t : List ℕ) (L : List ℕ → Type 0) (at : ℕ) (k : Result ℕ (Fault ℕ)) → TokenSays t L at k → at ≤ token_place k
said_later t L at (Ok end) s = omega (arith, stands_to s.stands)
said_later t L at (Err (Malformed place)) s = s.later
said_later t L at (Err (Forbidden place)) s = s.later

-- another language of the same words
said_map : (t : List ℕ) (L M : List ℕ → Type 0) (at : ℕ) → ((w : List ℕ) → L w → M w) → (k : Result ℕ (Fault ℕ)) → TokenSays t L at k → TokenSays t M at k
said_map t L M at g (Ok end) s = record { word = s.word; is = g s.word s.is; stands = s.stands }
said_map t L M at g (Err (Malformed q)) s = record { word = s.word; is = g s.word s.is; like = s.like; later = s.later; within = s.within }
said_map t L M at g (Err (Forbidden q)) s = record { word = s.word; is = g s.word s.is; like = s.like; later = s.later; within = s.within }

-- a test of a byte that tells what it should
pub record TestOf (P : ℕ → Type 0) (is : ℕ → Bool) : Type 0 where
  pub sure : (x : ℕ) → is x ≡ true → P x
  pub back : (x : ℕ) → P x → is x ≡ true
  pub small : (x : ℕ) → is x ≡ true → x < 256

pub not_past : {P : ℕ → Type 0} {is : ℕ → Bool} → TestOf P is → is 256 ≡ false
not_past {P} {is} h = go (is 256) refl
  where
    go : (c : Bool) → is 256 ≡ c → c ≡ false
    go true e = absurd (omega (arith, h.small 256 e))
    go false e = refl

-- readers of a byte, of a run of bytes, and of one, both or either of two rules
abbrev pub byte_of : List ℕ → (ℕ → Bool) → ℕ → Result ℕ (Fault ℕ)
byte_of t is at = cond (is (byte_at t at)) (Ok (at + 1)) (Err (Malformed at))

abbrev pub run_of : List ℕ → (ℕ → Bool) → ℕ → Result ℕ (Fault ℕ)
run_of t is at = Ok (run_end is t at)

abbrev pub seq_of : (ℕ → Result ℕ (Fault ℕ)) → (ℕ → Result ℕ (Fault ℕ)) → ℕ → Result ℕ (Fault ℕ)
seq_of f g at = then_at g (f at)

abbrev pub opt_of : List ℕ → (ℕ → Bool) → (ℕ → Result ℕ (Fault ℕ)) → ℕ → Result ℕ (Fault ℕ)
opt_of t is f at = cond (is (byte_at t at)) (f at) (Ok at)

abbrev pub or_of : List ℕ → (ℕ → Bool) → (ℕ → Result ℕ (Fault ℕ)) → (ℕ → Result ℕ (Fault ℕ)) → ℕ → Result ℕ (Fault ℕ)
or_of t is f g at = cond (is (byte_at t at)) (f at) (g at)

module _ (t : List ℕ) where
  -- a byte
  module _ {P : ℕ → Type 0} {is : ℕ → Bool} (h : TestOf P is) where
    byte_follow : {q at : ℕ} {w : List ℕ} (s : List ℕ) → Byte P w → Like t q at (w ++ s) → TokenFollows q (at + length w) (byte_of t is at)
    byte_follow {q} {at} s (Byte.byte {x} e) l =
        if_true (TokenFollows q (at + 1)) (is (byte_at t at)) (λ b. inl refl)
        (λ b. by_order at q (λ k. clash (is (byte_at t at)) (rw (like_here l k) (h.back x e)) b) (λ k. record { word = omega arith; answer = k }))

    pub byte_exact : (x : ℕ) → P x → Exact t (Byte P) (λ z. Unit {0}) (byte_of t is)
    byte_exact x e =
        record {
          some_word = x ∷ [];
          has = Byte.byte e;
          told = λ at i. if_true (TokenSays t (Byte P) at) (is (byte_at t at))
              (λ b. record { word = byte_at t at ∷ []; is = Byte.byte (h.sure (byte_at t at) b); stands = one_stands refl (h.small (byte_at t at) b) })
              (λ b. record { word = x ∷ []; is = Byte.byte e; like = like_none (x ∷ []) (le_refl at); later = le_refl at; within = i });
          follow = λ q at w s i l o k. byte_follow s l k;
        }

    -- a run of bytes, by the number of bytes that are left
    run_told : (left at : ℕ) → length t - at < left → HasWord t (Star (Byte P)) at (run_end is t at)
    run_told zero at l = absurd (omega arith)
    run_told (suc left) at l = go (is (byte_at t at)) refl (λ k. run_told left (at + 1) k)
      where
        go : (c : Bool) → is (byte_at t at) ≡ c → (length t - (at + 1) < left → HasWord t (Star (Byte P)) (at + 1) (run_end is t (at + 1))) → HasWord t (Star (Byte P)) at (run_end is t at)
        go true e g =
            let b = inside t at (h.small (byte_at t at) e) in
            let s = g (omega arith) in
            rw (run_on_lem is t (not_past h) at e) (record {
              word = byte_at t at ∷ s.word;
              is = Star.more (Byte.byte (h.sure (byte_at t at) e)) s.is;
              stands = BytesStand.next refl b s.stands;
            })
        go false e g = rw (run_end_lem is t (not_past h) at e) (record { word = []; is = Star.none; stands = BytesStand.done })

    pub run_stands : (at : ℕ) → HasWord t (Star (Byte P)) at (run_end is t at)
    run_stands at = run_told (suc (length t - at)) at (omega arith)

    run_follow : {q at : ℕ} {w : List ℕ} (s : List ℕ) → Star (Byte P) w → is (byte_at s 0) ≡ false → Like t q at (w ++ s)
        → (run_end is t at ≡ at + length w) ⊎ PastPlace q (at + length w) (run_end is t at)
    run_follow {q} {at} s Star.none o l =
        by_order at q (λ k. inl (run_end_lem is t (not_past h) at (rw (like_here l k) o) ∙ sym (add-zero at)))
        (λ k. inr (record { word = omega arith; answer = omega (arith, stands_to (run_stands at).stands) }))
    run_follow {q} {at} s (Star.more {v = w} (Byte.byte {x} e) m) o l =
        let one : at + suc (length w) ≡ at + 1 + length w = omega arith in
        by_order at q (λ k. rw (run_on_lem is t (not_past h) at (rw (like_here l k) (h.back x e)), one) (run_follow {at = at + 1} s m o (like_tail l)))
        (λ k. inr (record { word = omega arith; answer = omega (arith, stands_to (run_stands at).stands) }))

    pub run_exact : Exact t (Star (Byte P)) (λ z. is z ≡ false) (run_of t is)
    run_exact =
        record { some_word = []; has = Star.none; told = λ at i. run_stands at; follow = λ q at w s i l o k. run_follow s l o k }

  -- one and then another
  module _ (L M : List ℕ → Type 0) (E F : ℕ → Type 0) (f g : ℕ → Result ℕ (Fault ℕ)) (l : Exact t L E f) (m : Exact t M F g) where
    seq_broken : {at q e : ℕ} → Begun t L at q e → Begun t (Seq L M) at q e
    seq_broken s =
        record { word = s.word ++ m.some_word; is = seq s.is m.has; like = like_more m.some_word s.like; later = s.later; within = s.within }

    seq_later : {at end q e : ℕ} → HasWord t L at end → Begun t M end q e → Begun t (Seq L M) at q e
    seq_later s v =
        record { word = s.word ++ v.word; is = seq s.is v.is; like = like_join s.stands v.like; later = omega (arith, stands_to s.stands, v.later); within = v.within }

    seq_told : (at : ℕ) → at ≤ length t → (k : Result ℕ (Fault ℕ)) → TokenSays t L at k → TokenSays t (Seq L M) at (then_at g k)
    seq_told at i (Err (Malformed q)) s = seq_broken s
    seq_told at i (Err (Forbidden q)) s = seq_broken s
    seq_told at i (Ok end) s = go (g end) (m.told end (stands_inside s.stands i))
      where
        go : (k : Result ℕ (Fault ℕ)) → TokenSays t M end k → TokenSays t (Seq L M) at k
        go (Ok to) v = record { word = s.word ++ v.word; is = seq s.is v.is; stands = stands_join s.stands v.stands }
        go (Err (Malformed q)) v = seq_later s v
        go (Err (Forbidden q)) v = seq_later s v

    after_follow : (q at : ℕ) (u v s : List ℕ) → at ≤ length t → M v → F (byte_at s 0) → Like t q at (u ++ (v ++ s))
        → (k : Result ℕ (Fault ℕ)) → TokenSays t L at k → TokenFollows q (at + length u) k → TokenFollows q (at + length (u ++ v)) (then_at g k)
    after_follow q at u v s i d o h (Err (Malformed p)) c n = record { word = omega (arith, n.word, length-append u v); answer = n.answer }
    after_follow q at u v s i d o h (Err (Forbidden p)) c (inl n) = inl (omega (arith, length-append u v))
    after_follow q at u v s i d o h (Err (Forbidden p)) c (inr n) = inr (omega (arith, length-append u v))
    after_follow q at u v s i d o h (Ok end) c (inr n) =
        let j = stands_inside c.stands i in
        goes_past q (at + length (u ++ v)) (g end) (omega (arith, n.word, length-append u v)) (omega (arith, n.answer, said_later t M end (g end) (m.told end j)))
    after_follow q at u v s i d o h (Ok end) c (inl n) =
        let e : at + length (u ++ v) ≡ end + length v = omega (arith, length-append u v) in
        rw e (m.follow q end v s (stands_inside c.stands i) d o (rw (← n) at (like_skip u h)))

    -- a word of the second, or what follows an empty one, ends a word of the first
    module _ (meet : (v s : List ℕ) → M v → F (byte_at s 0) → E (byte_at (v ++ s) 0)) where
      seq_follow : {q at : ℕ} {w : List ℕ} (s : List ℕ) → at ≤ length t → Seq L M w → F (byte_at s 0) → Like t q at (w ++ s) → TokenFollows q (at + length w) (seq_of f g at)
      seq_follow {q} {at} s i (seq {u} {v} c d) o h =
          let n = rw (append_assoc u v s) at h in
          after_follow q at u v s i d o n (f at) (l.told at i) (l.follow q at u (v ++ s) i c (meet v s d o) n)

      pub seq_exact : Exact t (Seq L M) F (seq_of f g)
      seq_exact =
          record {
            some_word = l.some_word ++ m.some_word;
            has = seq l.has m.has;
            told = λ at i. seq_told at i (f at) (l.told at i);
            follow = λ q at w s i c o h. seq_follow s i c o h;
          }

  -- one or none, by the byte at hand
  module _ (is : ℕ → Bool) (L : List ℕ → Type 0) (E : ℕ → Type 0) (f : ℕ → Result ℕ (Fault ℕ)) (l : Exact t L E f) (first : (w s : List ℕ) → L w → is (byte_at (w ++ s) 0) ≡ true) where
    opt_follow : {q at : ℕ} {w : List ℕ} (s : List ℕ) → at ≤ length t → Opt L w → E (byte_at s 0) × (is (byte_at s 0) ≡ false) → Like t q at (w ++ s) → TokenFollows q (at + length w) (opt_of t is f at)
    opt_follow {q} {at} s i Opt.none o h =
        if_true (TokenFollows q (at + 0)) (is (byte_at t at))
        (λ b. by_order at q (λ k. clash _ b (rw (like_here h k) o.1)) (λ k. goes_past q (at + 0) (f at) (omega arith) (omega (arith, said_later t L at (f at) (l.told at i)))))
        (λ b. inl (sym (add-zero at)))
    opt_follow {q} {at} s i (Opt.some {w} c) o h =
        if_true (TokenFollows q (at + length w)) (is (byte_at t at)) (λ b. l.follow q at w s i c o.0 h)
        (λ b. by_order at q (λ k. clash _ (rw (like_here h k) (first w s c)) b) (λ k. inr (record { word = omega arith; answer = k })))

    pub opt_exact : Exact t (Opt L) (λ z. E z × (is z ≡ false)) (opt_of t is f)
    opt_exact =
        record {
          some_word = [];
          has = Opt.none;
          told = λ at i. if_true (TokenSays t (Opt L) at) (is (byte_at t at)) (λ b. said_map t L (Opt L) at (λ w d. Opt.some d) (f at) (l.told at i)) (λ b. record {
            word = [];
            is = Opt.none;
            stands = BytesStand.done;
          });
          follow = λ q at w s i c o h. opt_follow s i c o h;
        }

  -- one or another, by the byte at hand
  module _ (is : ℕ → Bool) (L M : List ℕ → Type 0) (E F : ℕ → Type 0) (f g : ℕ → Result ℕ (Fault ℕ)) (l : Exact t L E f) (m : Exact t M F g)
      (first : (w s : List ℕ) → L w → is (byte_at (w ++ s) 0) ≡ true) (second : (w s : List ℕ) → M w → is (byte_at (w ++ s) 0) ≡ false) where
    or_follow : {q at : ℕ} {w : List ℕ} (s : List ℕ) → at ≤ length t → Or L M w → E (byte_at s 0) × F (byte_at s 0) → Like t q at (w ++ s) → TokenFollows q (at + length w) (or_of t is f g at)
    or_follow {q} {at} s i (this {w} c) o h =
        if_true (TokenFollows q (at + length w)) (is (byte_at t at)) (λ b. l.follow q at w s i c o.0 h)
        (λ b. by_order at q (λ k. clash _ (rw (like_here h k) (first w s c)) b) (λ k. goes_past q (at + length w) (g at) (omega arith)
        (omega (arith, said_later t M at (g at) (m.told at i)))))
    or_follow {q} {at} s i (that {w} c) o h =
        if_true (TokenFollows q (at + length w)) (is (byte_at t at))
        (λ b. by_order at q (λ k. clash _ b (rw (like_here h k) (second w s c))) (λ k. goes_past q (at + length w) (f at) (omega arith)
        (omega (arith, said_later t L at (f at) (l.told at i)))))
        (λ b. m.follow q at w s i c o.1 h)

    pub or_exact : Exact t (Or L M) (λ z. E z × F z) (or_of t is f g)
    or_exact =
        record {
          some_word = l.some_word;
          has = this l.has;
          told = λ at i. if_true (TokenSays t (Or L M) at) (is (byte_at t at)) (λ b. said_map t L (Or L M) at (λ w d. this d) (f at) (l.told at i))
              (λ b. said_map t M (Or L M) at (λ w d. that d) (g at) (m.told at i));
          follow = λ q at w s i c o h. or_follow s i c o h;
        }
