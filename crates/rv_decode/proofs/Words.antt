-- An instruction's fields give back its word.
use Rattle.std.proofs.Common.{◌≡◌, ℕ, ◌+◌, ◌*◌, ◌/◌, ◌^◌, ◌<◌, Bool, true, false, Option, Some, None, refl, sym, ap, subst, ◌∙◌, arith}
use Rattle.std.specs.Prelude.{◌==◌, ◌&&◌}
use Rattle.std.proofs.lemmas.Bool.{eqb-true}
use Rattle.std.proofs.lemmas.Bool.Decides.{nat_tests}
use Rattle.std.proofs.Math.Nat.{div-div-eq-div-mul}
use Rattle.word_spec.specs.Words.{bits, sign_extend}
use Rattle.machine_spec.specs.Rv.{imm_i, imm_s, imm_b, imm_u, imm_j}
use Rattle.machine_spec.specs.RvWords.{word_r, word_i, word_s, word_b, word_u, word_j}
use Rattle.rv_decode.specs.declared.plain.Plain.{Plain}
use Rattle.rv_decode.specs.declared.plain.Plain.TheVariants.{Lui, Auipc, Jal, Jalr, Branch, Load, Store, Immediate, Shift, Computation, Fence, Ecall, Ebreak}
use Rattle.rv_decode.specs.Plains.{DecodesPlain}
use Rattle.rv_decode.specs.Encodings.{encoded, encoded_by}
use Rattle.rv_decode.specs.declared.insn.Insn.{Insn}
use Rattle.rv_decode.specs.Insns.{Decodes, DecodesBy, IsDecodable}

-- the quotients by which a word's fields are cut, each from the one before it
quotients : (w : ℕ) →
    (w / 1 ≡ w) × (w / 256 ≡ w / 128 / 2) × (w / 4096 ≡ w / 256 / 16) × (w / 32768 ≡ w / 4096 / 8) × (w / 1048576 ≡ w / 32768 / 32)
    × (w / 2097152 ≡ w / 1048576 / 2) × (w / 33554432 ≡ w / 2097152 / 16) × (w / 2147483648 ≡ w / 33554432 / 64)
quotients w = (
  omega arith,
  sym (div-div-eq-div-mul w 128 2),
  sym (div-div-eq-div-mul w 256 16),
  sym (div-div-eq-div-mul w 4096 8),
  sym (div-div-eq-div-mul w 32768 32),
  sym (div-div-eq-div-mul w 1048576 2),
  sym (div-div-eq-div-mul w 2097152 16),
  sym (div-div-eq-div-mul w 33554432 64),
)

-- the words of the formats, from the fields of a word
back_r : (w : ℕ) → w < 2 ^ 32 → word_r (bits 6 0 w) (bits 14 12 w) (bits 31 25 w) (bits 11 7 w) (bits 19 15 w) (bits 24 20 w) ≡ w
back_r w h = let q = quotients w in omega arith

back_u : (w : ℕ) → w < 2 ^ 32 → word_u (bits 6 0 w) (bits 11 7 w) (imm_u w) ≡ w
back_u w h = let q = quotients w in omega arith

-- what a sign leaves of the lower bits
low_12 : (x : ℕ) → x < 4096 → bits 11 0 (sign_extend 12 32 x) ≡ x
low_12 x h = grind (arith, nat_tests)

back_i : (w : ℕ) → w < 2 ^ 32 → word_i (bits 6 0 w) (bits 14 12 w) (bits 11 7 w) (bits 19 15 w) (imm_i w) ≡ w
back_i w h = let q = quotients w in let e = low_12 (bits 31 20 w) (omega arith) in omega arith

cut_s : (a b : ℕ) → a < 128 → b < 32 →
    let x = sign_extend 12 32 (a * 2 ^ 5 + b) in (bits 4 0 x ≡ b) × (bits 11 5 x ≡ a)
cut_s a b p q = (grind (arith, nat_tests), grind (arith, nat_tests))

back_s : (w : ℕ) → w < 2 ^ 32 → word_s (bits 6 0 w) (bits 14 12 w) (bits 19 15 w) (bits 24 20 w) (imm_s w) ≡ w
back_s w h = let q = quotients w in let e = cut_s (bits 31 25 w) (bits 11 7 w) (omega arith) (omega arith) in omega arith

cut_b : (a b c d : ℕ) → a < 2 → b < 2 → c < 64 → d < 16 →
    let x = sign_extend 13 32 (a * 2 ^ 12 + b * 2 ^ 11 + c * 2 ^ 5 + d * 2) in (bits 12 12 x ≡ a) × (bits 11 11 x ≡ b) × (bits 10 5 x ≡ c) × (bits 4 1 x ≡ d)
cut_b a b c d p q r s = (grind (arith, nat_tests), grind (arith, nat_tests), grind (arith, nat_tests), grind (arith, nat_tests))

back_b : (w : ℕ) → w < 2 ^ 32 → word_b (bits 6 0 w) (bits 14 12 w) (bits 19 15 w) (bits 24 20 w) (imm_b w) ≡ w
back_b w h =
    let q = quotients w in
    let e = cut_b (bits 31 31 w) (bits 7 7 w) (bits 30 25 w) (bits 11 8 w) (omega arith) (omega arith) (omega arith) (omega arith) in omega arith

cut_j : (a b c d : ℕ) → a < 2 → b < 256 → c < 2 → d < 1024 →
    let x = sign_extend 21 32 (a * 2 ^ 20 + b * 2 ^ 12 + c * 2 ^ 11 + d * 2) in (bits 20 20 x ≡ a) × (bits 19 12 x ≡ b) × (bits 11 11 x ≡ c) × (bits 10 1 x ≡ d)
cut_j a b c d p q r s = (grind (arith, nat_tests), grind (arith, nat_tests), grind (arith, nat_tests), grind (arith, nat_tests))

back_j : (w : ℕ) → w < 2 ^ 32 → word_j (bits 6 0 w) (bits 11 7 w) (imm_j w) ≡ w
back_j w h =
    let q = quotients w in let z = div-div-eq-div-mul w 4096 256 in let y = div-div-eq-div-mul w 2097152 1024 in
    let e = cut_j (bits 31 31 w) (bits 19 12 w) (bits 20 20 w) (bits 30 21 w) (omega arith) (omega arith) (omega arith) (omega arith) in omega arith

both : (a b : Bool) → (a && b) ≡ true → (a ≡ true) × (b ≡ true)
both true b h = (refl, h)
both false b h = cc

-- what a line that asks for funct3 and funct7 says of its words
asked : (w o f g : ℕ) → ((((bits 6 0 w == o) && (bits 14 12 w == f)) && (bits 31 25 w == g)) && true) ≡ true →
    (bits 6 0 w ≡ o) × (bits 14 12 w ≡ f) × (bits 31 25 w ≡ g)
asked w o f g h =
    let a = both _ _ h in let b = both _ _ a.0 in let c = both _ _ b.0 in
    (eqb-true _ _ c.0, eqb-true _ _ c.1, eqb-true _ _ b.1)

asked_3 : (w o f : ℕ) → ((((bits 6 0 w == o) && (bits 14 12 w == f)) && true) && true) ≡ true → (bits 6 0 w ≡ o) × (bits 14 12 w ≡ f)
asked_3 w o f h = let a = both _ _ h in let b = both _ _ a.0 in let c = both _ _ b.0 in (eqb-true _ _ c.0, eqb-true _ _ c.1)

asked_opcode : (w o : ℕ) → ((((bits 6 0 w == o) && true) && true) && true) ≡ true → bits 6 0 w ≡ o
asked_opcode w o h = let a = both _ _ h in let b = both _ _ a.0 in let c = both _ _ b.0 in eqb-true _ _ c.0

asked_word : (w o n : ℕ) → ((((bits 6 0 w == o) && true) && true) && (w == n)) ≡ true → w ≡ n
asked_word w o n h = eqb-true _ _ (both _ _ h).1

back_fence : (w : ℕ) → w < 2 ^ 32 → bits 6 0 w ≡ 0b0001111 → bits 14 12 w ≡ 0 → encoded (Fence (bits 31 15 w * 2 ^ 5 + bits 11 7 w)) ≡ w
back_fence w h e f = let q = quotients w in omega arith

-- the word of an instruction is the one that it is of
pub back : (i : Plain) (w : ℕ) → w < 2 ^ 32 → DecodesPlain w i → encoded i ≡ w
back (Lui rd imm) w h d = let o = asked_opcode w _ d.line in let f = d.fields in rw (f.0, f.1, ← o) (back_u w h)
back (Auipc rd imm) w h d = let o = asked_opcode w _ d.line in let f = d.fields in rw (f.0, f.1, ← o) (back_u w h)
back (Jal rd offset) w h d = let o = asked_opcode w _ d.line in let f = d.fields in rw (f.0, f.1, ← o) (back_j w h)
back (Jalr rd rs1 offset) w h d = let o = asked_3 w _ _ d.line in let f = d.fields in cc (back_i w h)
back (Branch op rs1 rs2 offset) w h d = let o = asked_3 w _ _ d.line in let f = d.fields in cc (back_b w h)
back (Load op rd rs1 offset) w h d = let o = asked_3 w _ _ d.line in let f = d.fields in cc (back_i w h)
back (Store op rs1 rs2 offset) w h d = let o = asked_3 w _ _ d.line in let f = d.fields in cc (back_s w h)
back (Immediate op rd rs1 imm) w h d = let o = asked_3 w _ _ d.line in let f = d.fields in cc (back_i w h)
back (Shift op rd rs1 amount) w h d = let o = asked w _ _ _ d.line in let f = d.fields in cc (back_r w h)
back (Computation op rd rs1 rs2) w h d = let o = asked w _ _ _ d.line in let f = d.fields in cc (back_r w h)
back (Fence fields) w h d = let o = asked_3 w _ _ d.line in ap (λ f. encoded (Fence f)) d.fields ∙ back_fence w h o.0 o.1
back Ecall w h d = sym (asked_word w _ _ d.line)
back Ebreak w h d = sym (asked_word w _ _ d.line)

encoded_is : (i : Plain) (half : Option ℕ) (rvc : Bool) (w : ℕ) → w < 2 ^ 32 → DecodesBy rvc w i half → encoded_by i half ≡ w
encoded_is i None rvc w h d = back i w h d
encoded_is i (Some n) rvc w h d = sym d.1

-- what `encode` ensures of the word that it makes
pub word_is : (i : Insn) (n : ℕ) (rvc : Bool) (w : ℕ) → n ≡ encoded_by i.plain i.half → w < 2 ^ 32 → Decodes rvc w i → n ≡ w
word_is i n rvc w e h d = e ∙ encoded_is i.plain i.half rvc w h d

with_rvc : (i : Plain) (half : Option ℕ) (rvc : Bool) (w : ℕ) → DecodesBy rvc w i half → DecodesBy true w i half
with_rvc i None rvc w d = d
with_rvc i (Some n) rvc w d = (refl, d.1)

pub word_decodes : (i : Insn) (n : ℕ) → n ≡ encoded_by i.plain i.half → IsDecodable i → Decodes true n i
word_decodes i n e (rvc, w, small, d) =
    subst (λ m. Decodes true m i) (sym (word_is i n rvc w e small d)) (with_rvc i.plain i.half rvc w d)
