-- From a call of the C functions to the demands (specs/Called.antt):
--     each-call      one call leaves what the definitions say, and so of packing and unpacking `each_stored`, `each_restored`
--     called         services that keep the contracts meet the demands
--     one-outcome    two outcomes that a contract allows are equal, and so of the reader in pieces `one_kept`, of packing `one_stored`, of unpacking `one_restored`
-- Assumes nothing.
use mathlib.Core.Path.{◌≡◌, sym, ap, fun_ext, subst, ◌∙◌}
use mathlib.Core.List.{List, []}
use Prim.Native.Nat.{ℕ}
use Rattle.text.specs.Limits.{base}
use Rattle.text.specs.Sheet.{numbers}
use Rattle.text.specs.declared.Paper.{Paper}
use Rattle.wire.specs.Promise.{Kept, Wire}
use Rattle.wire.specs.Service.{wired}
use Rattle.packing.specs.Services.{Vault, packed_by, unpacked_by, vaulted}
use Rattle.contact.specs.Services.{Call, Left, leaves, served}
use Rattle.contact.specs.Demands.{Demands}
use Rattle.contact.proofs.Demands.{base_demands}
use Rattle.bezinkol.specs.Answer.{answer_words, Keeps}
use Rattle.bezinkol.specs.Called.{Called, EachCall, EachStored, EachRestored, OneOutcome, OneKept, OneStored, OneRestored}

-- the three words tell the answer
same_paper : (p q : Paper) → answer_words p ≡ answer_words q → p ≡ q
same_paper p q e =
    let number : p.number ≡ q.number = cc in
    let second : p.second ≡ q.second = cc in
    let written : p.written ≡ q.written = cc in
    λ i. numbers (number i) (second i) (written i)

pub each_call : EachCall
each_call c answer table output s = let paper = same_paper answer (served base c).answer s.answered in λ i. leaves (paper i) (s.rows i) (s.bytes i)

-- a call of the reader in pieces
each_kept : (k l : Kept) → Keeps l (answer_words k.answer) k.words → k ≡ l
each_kept k l s = let paper = same_paper k.answer l.answer s.answered in λ i. record { words = s.kept i; answer = paper i }

pub each_stored : EachStored
each_stored text words room answer table output s =
    let paper = same_paper answer (packed_by base text words room).answer s.answered in λ i. leaves (paper i) (s.rows i) (s.bytes i)

pub each_restored : EachRestored
unfolding unpacked_by
each_restored packing room answer output s =
    let paper = same_paper answer (unpacked_by base packing room).answer s.answered in λ i. leaves (paper i) [] (s.bytes i)

-- call by call they leave what `served` does, so they are the services of which the demands are shown
pub called : Called
called serve wire vault keeps =
    let same : serve ≡ served base = fun_ext (λ c. each_call c (serve c).answer (serve c).table (serve c).output (keeps.serves c)) in
    let taken : wire.take ≡ (wired base).take = fun_ext (λ words. fun_ext (λ piece. each_kept (wire.take words piece) ((wired base).take words piece) (keeps.takes words piece))) in
    let ended : wire.end ≡ (wired base).end = fun_ext (λ words. each_kept (wire.end words) ((wired base).end words) (keeps.ends words)) in
    let alike : wire ≡ wired base = λ i. record { start = keeps.starts i; take = taken i; end = ended i } in
    let stored : vault ≡ vaulted base = λ i. record { pack = packed i; unpack = unpacked i } in
    subst (λ (v : Vault). Demands base serve wire v) (sym stored)
    (subst (λ (w : Wire). Demands base serve w (vaulted base)) (sym alike) (subst (λ (s : Call → Left). Demands base s (wired base) (vaulted base)) (sym same) base_demands))
  where
    pack_is : (text : List ℕ) (words room : ℕ) → vault.pack text words room ≡ packed_by base text words room
    pack_is text words room =
        let l = vault.pack text words room in each_stored text words room l.answer l.table l.output (keeps.packs text words room)

    unpack_is : (packing : List ℕ) (room : ℕ) → vault.unpack packing room ≡ unpacked_by base packing room
    unpack_is packing room =
        let l = vault.unpack packing room in
        ap (λ (table : List ℕ). leaves l.answer table l.output) (keeps.tableless packing room) ∙ each_restored packing room l.answer l.output (keeps.unpacks packing room)

    packed : vault.pack ≡ packed_by base
    packed = fun_ext (λ text. fun_ext (λ words. fun_ext (λ room. pack_is text words room)))

    unpacked : vault.unpack ≡ unpacked_by base
    unpacked = fun_ext (λ packing. fun_ext (λ room. unpack_is packing room))

pub one_outcome : OneOutcome
one_outcome c a b x y o q s r = (s.answered ∙ sym r.answered, s.rows ∙ sym r.rows, s.bytes ∙ sym r.bytes)

pub one_kept : OneKept
one_kept k a b w v s r = (s.answered ∙ sym r.answered, s.kept ∙ sym r.kept)

pub one_stored : OneStored
one_stored text words room a b x y o q s r = (s.answered ∙ sym r.answered, s.rows ∙ sym r.rows, s.bytes ∙ sym r.bytes)

pub one_restored : OneRestored
one_restored packing room a b o q s r = (s.answered ∙ sym r.answered, s.bytes ∙ sym r.bytes)
