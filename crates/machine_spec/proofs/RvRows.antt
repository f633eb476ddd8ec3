-- The row of a word whose opcode and funct3 are known.
use Rattle.std.proofs.Common.{◌≡◌, ◌≢◌, ℕ, ap, sym, ◌∙◌, arith, Some, None, false}
use Rattle.std.specs.Prelude.{◌==◌}
use Rattle.std.proofs.lemmas.Bool.{ne_eqb}
use Rattle.word_spec.specs.Words.{bits, add}
use Rattle.machine_spec.specs.Rv.{reg, rv_row, table, sets, fields, imm_i, branches, imm_b}

other : (w n m : ℕ) → bits 6 0 w ≡ m → bits 6 0 n ≢ m → (w == n) ≡ false
other w n m e ne = ne_eqb w n (λ same. ne (ap (λ x. bits 6 0 x) (sym same) ∙ e))

pub addi_row : (w : ℕ) → bits 6 0 w ≡ 0x13 → bits 14 12 w ≡ 0 → rv_row w ≡ Some (sets (λ x s. add 32 (reg s x.rs1) x.imm) (fields imm_i w))
unfolding table rv_row
addi_row w op f3 =
    let a : (w == 0x73) ≡ false = other w 0x73 0x13 op (λ e. absurd (omega arith)) in
    let b : (w == 0x100073) ≡ false = other w 0x100073 0x13 op (λ e. absurd (omega arith)) in
    simp (a, b, op, f3)

pub beq_row : (w : ℕ) → bits 6 0 w ≡ 0x63 → bits 14 12 w ≡ 0 → rv_row w ≡ Some (branches (λ a b. a == b) (fields imm_b w))
unfolding table rv_row
beq_row w op f3 =
    let a : (w == 0x73) ≡ false = other w 0x73 0x63 op (λ e. absurd (omega arith)) in
    let b : (w == 0x100073) ≡ false = other w 0x100073 0x63 op (λ e. absurd (omega arith)) in
    simp (a, b, op, f3)

-- an opcode that no line has
pub no_row : (w : ℕ) → bits 6 0 w ≡ 0x2f → rv_row w ≡ None
unfolding table rv_row
no_row w op =
    let a : (w == 0x73) ≡ false = other w 0x73 0x2f op (λ e. absurd (omega arith)) in
    let b : (w == 0x100073) ≡ false = other w 0x100073 0x2f op (λ e. absurd (omega arith)) in
    simp (a, b, op)
