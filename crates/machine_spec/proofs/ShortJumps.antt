-- The compressed instructions that jump set x0 or x1.
use Rattle.std.proofs.Common.{◌≡◌, ℕ, ◌<◌, refl, subst, true, false, Bool, arith, Some, List, [], ◌∷◌}
use Rattle.std.specs.Prelude.{◌==◌, ◌||◌, if◌then◌else◌}
use Rattle.word_spec.specs.Words.{bits}
use Rattle.machine_spec.specs.RvShort.{of_two, low, middle, full, back, imm_4spn, imm_w, imm_6, imm_j, imm_16sp, imm_lui, imm_b, imm_lwsp, imm_swsp, shorts, Short, is_short, expansion_in, expansion}
use Rattle.machine_spec.specs.RvWords.{word_r, word_i, word_s, word_b, word_u, word_j}

-- a jump that sets a register, JAL or JALR
abbrev pub is_jump : ℕ → Bool
is_jump opcode = (opcode == 0b1101111) || (opcode == 0b1100111)

-- the opcodes of the formats
opcode_r : (op f3 f7 rd rs1 rs2 : ℕ) → op < 128 → bits 6 0 (word_r op f3 f7 rd rs1 rs2) ≡ op
opcode_r op f3 f7 rd rs1 rs2 a = omega arith

opcode_i : (op f3 rd rs1 imm : ℕ) → op < 128 → bits 6 0 (word_i op f3 rd rs1 imm) ≡ op
opcode_i op f3 rd rs1 imm a = omega arith

opcode_s : (op f3 rs1 rs2 imm : ℕ) → op < 128 → bits 6 0 (word_s op f3 rs1 rs2 imm) ≡ op
opcode_s op f3 rs1 rs2 imm a = omega arith

opcode_b : (op f3 rs1 rs2 imm : ℕ) → op < 128 → bits 6 0 (word_b op f3 rs1 rs2 imm) ≡ op
opcode_b op f3 rs1 rs2 imm a = omega arith

opcode_u : (op rd imm : ℕ) → op < 128 → bits 6 0 (word_u op rd imm) ≡ op
opcode_u op rd imm a = omega arith

target_i : (op f3 rd rs1 imm : ℕ) → op < 128 → rd < 2 → f3 < 8 → bits 11 7 (word_i op f3 rd rs1 imm) < 2
target_i op f3 rd rs1 imm a b c = omega arith

target_j : (op rd imm : ℕ) → op < 128 → rd < 2 → bits 11 7 (word_j op rd imm) < 2
target_j op rd imm a b = omega arith

-- the compressed instructions that jump set x0 or x1
abbrev JumpsLow : Short → Type 0
JumpsLow x = (h : ℕ) → is_jump (bits 6 0 (x.word h)) ≡ true → bits 11 7 (x.word h) < 2

abbrev EachJumpsLow : List Short → Type 0
EachJumpsLow [] = Unit {0}
EachJumpsLow (x ∷ rest) = JumpsLow x × EachJumpsLow rest

no_jump : (op w : ℕ) → bits 6 0 w ≡ op → is_jump op ≡ false → is_jump (bits 6 0 w) ≡ true → bits 11 7 w < 2
no_jump op w e other is = let t : is_jump op ≡ true = subst (λ (z : ℕ). is_jump z ≡ true) e is in cc

of_two_low : (f3 f7 h : ℕ) → is_jump (bits 6 0 (of_two f3 f7 h)) ≡ true → bits 11 7 (of_two f3 f7 h) < 2
of_two_low f3 f7 h = no_jump 0b0110011 _ (opcode_r 0b0110011 f3 f7 (middle h) (middle h) (low h) (omega arith)) refl

shorts_jump_low : EachJumpsLow shorts
unfolding shorts
shorts_jump_low = (
  (λ h. no_jump 0b0010011 _ (opcode_i 0b0010011 0 (low h) 2 (imm_4spn h) (omega arith)) refl),
  (
    (λ h. no_jump 0b0000011 _ (opcode_i 0b0000011 2 (low h) (middle h) (imm_w h) (omega arith)) refl),
    (
      (λ h. no_jump 0b0100011 _ (opcode_s 0b0100011 2 (middle h) (low h) (imm_w h) (omega arith)) refl),
      (
        (λ h. no_jump 0b0010011 _ (opcode_i 0b0010011 0 (full h) (full h) (imm_6 h) (omega arith)) refl),
        (
          (λ h j. target_j 0b1101111 1 (imm_j h) (omega arith) (omega arith)),
          (
            (λ h. no_jump 0b0010011 _ (opcode_i 0b0010011 0 (full h) 0 (imm_6 h) (omega arith)) refl),
            (
              (λ h. no_jump 0b0010011 _ (opcode_i 0b0010011 0 2 2 (imm_16sp h) (omega arith)) refl),
              (
                (λ h. no_jump 0b0110111 _ (opcode_u 0b0110111 (full h) (imm_lui h) (omega arith)) refl),
                (
                  (λ h. no_jump 0b0010011 _ (opcode_r 0b0010011 5 0 (middle h) (middle h) (back h) (omega arith)) refl),
                  (
                    (λ h. no_jump 0b0010011 _ (opcode_r 0b0010011 5 32 (middle h) (middle h) (back h) (omega arith)) refl),
                    (
                      (λ h. no_jump 0b0010011 _ (opcode_i 0b0010011 7 (middle h) (middle h) (imm_6 h) (omega arith)) refl),
                      (
                        of_two_low 0 32,
                        (
                          of_two_low 4 0,
                          (
                            of_two_low 6 0,
                            (
                              of_two_low 7 0,
                              (
                                (λ h j. target_j 0b1101111 0 (imm_j h) (omega arith) (omega arith)),
                                (
                                  (λ h. no_jump 0b1100011 _ (opcode_b 0b1100011 0 (middle h) 0 (imm_b h) (omega arith)) refl),
                                  (
                                    (λ h. no_jump 0b1100011 _ (opcode_b 0b1100011 1 (middle h) 0 (imm_b h) (omega arith)) refl),
                                    (
                                      (λ h. no_jump 0b0010011 _ (opcode_r 0b0010011 1 0 (full h) (full h) (back h) (omega arith)) refl),
                                      (
                                        (λ h. no_jump 0b0000011 _ (opcode_i 0b0000011 2 (full h) 2 (imm_lwsp h) (omega arith)) refl),
                                        (
                                          (λ h j. target_i 0b1100111 0 0 (full h) 0 (omega arith) (omega arith) (omega arith)),
                                          (
                                            (λ h. no_jump 0b0110011 _ (opcode_r 0b0110011 0 0 (full h) 0 (back h) (omega arith)) refl),
                                            (
                                              (λ h. no_jump 0x73 0x100073 refl refl),
                                              (
                                                (λ h j. target_i 0b1100111 0 1 (full h) 0 (omega arith) (omega arith) (omega arith)),
                                                (
                                                  (λ h. no_jump 0b0110011 _ (opcode_r 0b0110011 0 0 (full h) (full h) (back h) (omega arith)) refl),
                                                  (
                                                    (λ h. no_jump 0b0100011 _ (opcode_s 0b0100011 2 2 (back h) (imm_swsp h) (omega arith)) refl),
                                                    tt,
                                                  ),
                                                ),
                                              ),
                                            ),
                                          ),
                                        ),
                                      ),
                                    ),
                                  ),
                                ),
                              ),
                            ),
                          ),
                        ),
                      ),
                    ),
                  ),
                ),
              ),
            ),
          ),
        ),
      ),
    ),
  ),
)

chosen_low : (x : Short) (rest : List Short) (h w : ℕ) (b : Bool) → JumpsLow x → (expansion_in rest h ≡ Some w → is_jump (bits 6 0 w) ≡ true → bits 11 7 w < 2) →
    (if b then Some (x.word h) else expansion_in rest h) ≡ Some w → is_jump (bits 6 0 w) ≡ true → bits 11 7 w < 2
chosen_low x rest h w true low other k = let r : x.word h ≡ w = cc in subst (λ (z : ℕ). is_jump (bits 6 0 z) ≡ true → bits 11 7 z < 2) r (low h)
chosen_low x rest h w false low other k = other k

jumps_low_in : (is : List Short) → EachJumpsLow is → (h w : ℕ) → expansion_in is h ≡ Some w → is_jump (bits 6 0 w) ≡ true → bits 11 7 w < 2
jumps_low_in [] each h w e = cc
jumps_low_in (x ∷ rest) each h w e = chosen_low x rest h w (is_short x h) each.0 (jumps_low_in rest each.1 h w) e

pub jumps_low : (h w : ℕ) → expansion h ≡ Some w → is_jump (bits 6 0 w) ≡ true → bits 11 7 w < 2
unfolding expansion
jumps_low h w e = jumps_low_in shorts shorts_jump_low h w e
