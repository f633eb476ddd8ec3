-- What an instruction of a halfword has of its expansion: its row, and that a jump sets x0 or x1.
use Rattle.std.proofs.Common.{◌≡◌, ℕ, ◌<◌, refl, sym, ap, subst, ◌∙◌, true, Option, Some, None, arith}
use Rattle.std.proofs.lemmas.Bool.Decides.{nat_tests}
use Rattle.word_spec.specs.Words.{bits}
use Rattle.machine_spec.specs.Machine.{Row}
use Rattle.machine_spec.specs.Rv.{rv_row}
use Rattle.machine_spec.specs.RvShort.{expansion, short_row}
use Rattle.machine_spec.proofs.ShortJumps.{is_jump, jumps_low}
use Rattle.rv_decode.specs.declared.register.Register.{Register}
use Rattle.rv_decode.specs.declared.plain.Plain.{Plain}
use Rattle.rv_decode.specs.declared.plain.Plain.TheVariants.{Jal, Jalr}
use Rattle.rv_decode.specs.declared.insn.Insn.{Insn}
use Rattle.rv_decode.specs.Plains.{plain_row, DecodesPlain}
use Rattle.rv_decode.specs.Halves.{IsExpansionOf, IsOfHalf}
use Rattle.rv_decode.specs.Insns.{row_by, row_of}
use Rattle.rv_decode.proofs.Lines.{only_row}

low_of : (i : Plain) (n : ℕ) (o : Option ℕ) → IsExpansionOf i o → ((w : ℕ) → o ≡ Some w → is_jump (bits 6 0 w) ≡ true → bits 11 7 w < 2) →
    ((w : ℕ) → DecodesPlain w i → (is_jump (bits 6 0 w) ≡ true) × (n ≡ bits 11 7 w)) → n < 2
low_of i n None is low jumps = absurd is
low_of i n (Some w) is low jumps = let j = jumps w is in subst (λ m. m < 2) (sym j.1) (low w refl j.0)

pub jal_low : (rd : Register) (offset h : ℕ) → IsOfHalf (Jal rd offset) (Some h) → rd.number < 2
jal_low rd offset h is =
    low_of (Jal rd offset) rd.number (expansion h) is.1 (jumps_low h)
    (λ w d. let line = d.line in let o : bits 6 0 w ≡ 0b1101111 = grind (arith, nat_tests) in (rw o refl, d.fields.0))

pub jalr_low : (rd rs1 : Register) (offset h : ℕ) → IsOfHalf (Jalr rd rs1 offset) (Some h) → rd.number < 2
jalr_low rd rs1 offset h is =
    low_of (Jalr rd rs1 offset) rd.number (expansion h) is.1 (jumps_low h)
    (λ w d. let line = d.line in let o : bits 6 0 w ≡ 0b1100111 = grind (arith, nat_tests) in (rw o refl, d.fields.0))

same_row : (i : Plain) (o : Option ℕ) (w : ℕ) (row : Row) → IsExpansionOf i o → o ≡ Some w → rv_row w ≡ Some row → plain_row i ≡ row
same_row i None w row is x r = cc
same_row i (Some v) w row is x r =
    let word : v ≡ w = cc in let rows : Some (plain_row i) ≡ Some row = sym (only_row v i is) ∙ ap rv_row word ∙ r in cc

of_half : (i : Plain) (half : Option ℕ) (h w : ℕ) (row : Row) → IsOfHalf i half → half ≡ Some h → expansion h ≡ Some w → rv_row w ≡ Some row →
    row_by i half ≡ short_row row
of_half i None h w row is e x r = cc
of_half i (Some n) h w row is e x r =
    let same : n ≡ h = cc in ap short_row (same_row i (expansion n) w row is.1 (ap expansion same ∙ x) r)

-- the row of an instruction of a halfword is its expansion's but for the length
pub is_short_row : (i : Insn) (h w : ℕ) (row : Row) → i.half ≡ Some h → expansion h ≡ Some w → rv_row w ≡ Some row → row_of i ≡ short_row row
is_short_row i h w row e x r = of_half i.plain i.half h w row i.of_half e x r
