-- Laws of a string's inner bytes that are decoded:
--     no-content      a token without bytes has none
--     raw-decoded     the bytes before a place stand for themselves, and then what is decoded from there on
-- Assumes nothing.
use Prim.Native.Nat.{ℕ, zero, suc, ◌+◌, ◌-◌}
use mathlib.Core.Path.{◌≡◌, refl, ap, ◌∙◌}
use mathlib.Core.List.{List, [], ◌∷◌, ◌++◌}
use native.Mathlib.Omega.{arith}
use lib.ListN.{length}
use Rattle.laws.specs.Lists.{part_of}
use Rattle.laws.proofs.Places.{inside}
use Rattle.laws.proofs.Parts.{part_here, part_more, part_back}
use Rattle.text.specs.Text.{byte_at}
use Rattle.text.specs.Strings.{decode_from, decode, content_of}
use Rattle.json_reader.proofs.Alike.{decode_byte, decode_over}
use Rattle.vault.specs.Laid.{RawTo}

-- k of them
run_of : (t : List ℕ) (k i e : ℕ) → i + k ≡ e → RawTo t e → decode_from t i ≡ part_of t i e ++ decode_from t e
run_of t zero i e at raw = let here : i ≡ e = omega arith in rw (here, part_here t e)
run_of t (suc k) i e at raw =
    let b = raw i (omega arith) in
    let last-in = inside t (i + k) (raw (i + k) (omega arith)).byte in
    rw (decode_byte t i b.no_slash (λ z. let small = b.byte in omega arith), part_more t i e (omega arith) (omega arith))
    (ap (λ (l : List ℕ). byte_at t i ∷ l) (run_of t k (i + 1) e (omega arith) raw))

pub raw_decoded : (t : List ℕ) {r : ℕ} → RawTo t r → decode t ≡ part_of t 0 r ++ decode_from t r
raw_decoded t {r} raw = run_of t r 0 r (omega arith) raw

-- a token without bytes has no content
pub no_content : (token : List ℕ) → length token ≡ 0 → content_of token ≡ []
no_content token e =
    ap (λ (n : ℕ). decode (part_of token 1 (n - 1))) e
    ∙ ap decode (part_back token 1 0 (omega arith))
    ∙ decode_over [] 0 refl
