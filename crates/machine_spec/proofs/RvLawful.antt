-- The machine of RV32IM is lawful: each instruction of its table is.
use Rattle.std.proofs.Common.{◌≡◌, ℕ, zero, suc, ◌+◌, ◌-◌, ◌*◌, ◌/◌, ◌%◌, ◌^◌, ◌<◌, refl, sym, ap, subst, ◌∙◌, true, false, Bool, arith, Some, List, [], ◌∷◌, bit_and, bit_or, bit_xor}
use Rattle.std.specs.Prelude.{if◌then◌else◌, Contains, length, slice_index_or, nat_lt, not, ◌==◌}
use Rattle.std.proofs.lemmas.Nat.{mod_below, pow_pos, or_lt, xor_lt}
use Rattle.machine_spec.proofs.WordBounds.{sign_extend_below, and_below, shl_below, shr_below, sar_below, udiv_below, urem_below, sdiv_below, srem_below}
use Rattle.machine_spec.proofs.Lawful.{sets_lawful, with_price, auipc_lawful, branches_lawful, loads_lawful, stores_lawful, jal_lawful, jalr_lawful, fence_lawful, raises_lawful, reg_small, reg_flag, reg_same}
use Rattle.word_spec.specs.Words.{add, sub, mul, bits, bit, sign_extend, signed_lt, shl, shr, sar, udiv, urem, sdiv, srem}
use Rattle.machine_spec.specs.Machine.{Row, EnvironmentCall, Breakpoint}
use Rattle.machine_spec.specs.Rv.{Instruction, table, fits, fields, rv_row, row_in, sets, reg, imm_i, imm_s, imm_b, imm_u, imm_j, immediate, shift, registers, dear_registers, upper, wide, low_five}
use Rattle.machine_spec.specs.MachineLaws.{IsLawful, with_flag, with_memory}
use Rattle.machine_spec.specs.RvMachineLaws.{RowsAreOfTheTable}

-- immediates are words
imm_i_small : (w : ℕ) → imm_i w < 2 ^ 32
imm_i_small w = sign_extend_below 12 32 (bits 31 20 w) (mod_below (w / 2 ^ 20) (2 ^ 12) (pow_pos 12)) (omega arith)

imm_u_small : (w : ℕ) → imm_u w < 2 ^ 32
imm_u_small w = let l = mod_below (w / 2 ^ 12) (2 ^ 20) (pow_pos 20) in omega arith

-- operators on words give words
abbrev GivesWords : (ℕ → ℕ → ℕ) → Type 0
GivesWords f = (a b : ℕ) → a < 2 ^ 32 → b < 2 ^ 32 → f a b < 2 ^ 32

mod_word : (a : ℕ) → a % 2 ^ 32 < 2 ^ 32
mod_word a = omega arith

bit_word : (b : Bool) → bit b < 2 ^ 32
bit_word true = omega arith
bit_word false = omega arith

-- an instruction all whose rows are lawful
abbrev IsLawfulInstruction : Instruction → Type 0
IsLawfulInstruction i = (w : ℕ) → IsLawful (i.row (fields i.imm w))

immediate_lawful : (funct3 : ℕ) (f : ℕ → ℕ → ℕ) → GivesWords f → IsLawfulInstruction (immediate funct3 f)
immediate_lawful funct3 f h w =
    sets_lawful (λ x s. f (reg s x.rs1) x.imm) (fields imm_i w) (λ s is. h _ _ (reg_small s (bits 19 15 w) is) (imm_i_small w))
    (λ s g v. ap (λ z. f z (imm_i w)) (reg_flag s (bits 19 15 w) g v)) (λ s m. ap (λ z. f z (imm_i w)) (reg_same s m (bits 19 15 w)))

shift_lawful : (funct3 funct7 : ℕ) (f : ℕ → ℕ → ℕ) → ((a b : ℕ) → a < 2 ^ 32 → f a b < 2 ^ 32) → IsLawfulInstruction (shift funct3 funct7 f)
shift_lawful funct3 funct7 f h w =
    sets_lawful (λ x s. f (reg s x.rs1) x.rs2) (fields imm_i w) (λ s is. h _ _ (reg_small s (bits 19 15 w) is))
    (λ s g v. ap (λ z. f z (bits 24 20 w)) (reg_flag s (bits 19 15 w) g v)) (λ s m. ap (λ z. f z (bits 24 20 w)) (reg_same s m (bits 19 15 w)))

registers_lawful : (funct3 funct7 : ℕ) (f : ℕ → ℕ → ℕ) → GivesWords f → IsLawfulInstruction (registers funct3 funct7 f)
registers_lawful funct3 funct7 f h w =
    sets_lawful (λ x s. f (reg s x.rs1) (reg s x.rs2)) (fields imm_i w) (λ s is. h _ _ (reg_small s (bits 19 15 w) is) (reg_small s (bits 24 20 w) is))
    (λ s g v. ap (λ z. f z (reg s (bits 24 20 w))) (reg_flag s (bits 19 15 w) g v)
    ∙ ap (λ z. f (reg (with_flag s g v) (bits 19 15 w)) z) (reg_flag s (bits 24 20 w) g v))
    (λ s m. ap (λ z. f z (reg s (bits 24 20 w))) (reg_same s m (bits 19 15 w))
    ∙ ap (λ z. f (reg (with_memory s m) (bits 19 15 w)) z) (reg_same s m (bits 24 20 w)))

dear_lawful : (funct3 : ℕ) (f : ℕ → ℕ → ℕ) → GivesWords f → IsLawfulInstruction (dear_registers funct3 f)
dear_lawful funct3 f h w = with_price (sets (λ y s. f (reg s y.rs1) (reg s y.rs2)) (fields imm_i w)) (record { row = 20000; loads = 0; stores = 0 })
    (record { least = omega arith; most = omega arith; loads = omega arith; stores = omega arith }) (λ s. omega arith) (registers_lawful funct3 1 f h w)

-- the whole table
abbrev AreLawful : List Instruction → Type 0
AreLawful [] = Unit {0}
AreLawful (i ∷ rest) = IsLawfulInstruction i × AreLawful rest

table_lawful : AreLawful table
unfolding table
table_lawful = (
  λ w. sets_lawful (λ x s. x.imm) (fields imm_u w) (λ s is. imm_u_small w) (λ s g v. refl) (λ s m. refl),
  (
    λ w. auipc_lawful (fields imm_u w),
    (
      λ w. jal_lawful (fields imm_j w),
      (
        λ w. jalr_lawful (fields imm_i w),
        (
          λ w. branches_lawful (λ a b. a == b) (fields imm_b w),
          (
            λ w. branches_lawful (λ a b. not (a == b)) (fields imm_b w),
            (
              λ w. branches_lawful (signed_lt 32) (fields imm_b w),
              (
                λ w. branches_lawful (λ a b. not (signed_lt 32 a b)) (fields imm_b w),
                (
                  λ w. branches_lawful nat_lt (fields imm_b w),
                  (
                    λ w. branches_lawful (λ a b. not (nat_lt a b)) (fields imm_b w),
                    (
                      λ w. loads_lawful 1 (sign_extend 8 32) (fields imm_i w) (omega arith) (λ v l. sign_extend_below 8 32 v l (omega arith)),
                      (
                        λ w. loads_lawful 2 (sign_extend 16 32) (fields imm_i w) (omega arith) (λ v l. sign_extend_below 16 32 v l (omega arith)),
                        (
                          λ w. loads_lawful 4 (λ v. v) (fields imm_i w) (omega arith) (λ v l. l),
                          (
                            λ w. loads_lawful 1 (λ v. v) (fields imm_i w) (omega arith) (λ v l. omega arith),
                            (
                              λ w. loads_lawful 2 (λ v. v) (fields imm_i w) (omega arith) (λ v l. omega arith),
                              (
                                λ w. stores_lawful 1 (fields imm_s w) (omega arith),
                                (
                                  λ w. stores_lawful 2 (fields imm_s w) (omega arith),
                                  (
                                    λ w. stores_lawful 4 (fields imm_s w) (omega arith),
                                    (
                                      immediate_lawful 0 (add 32) (λ a b p q. mod_word (a + b)),
                                      (
                                        immediate_lawful 2 (λ a b. bit (signed_lt 32 a b)) (λ a b p q. bit_word (signed_lt 32 a b)),
                                        (
                                          immediate_lawful 3 (λ a b. bit (nat_lt a b)) (λ a b p q. bit_word (nat_lt a b)),
                                          (
                                            immediate_lawful 4 bit_xor (xor_lt 32),
                                            (
                                              immediate_lawful 6 bit_or (or_lt 32),
                                              (
                                                immediate_lawful 7 bit_and (λ a b p q. and_below 32 a b p),
                                                (
                                                  shift_lawful 1 0 (shl 32) (λ a b p. shl_below 32 a b),
                                                  (
                                                    shift_lawful 5 0 (shr 32) (shr_below 32),
                                                    (
                                                      shift_lawful 5 32 (sar 32) (sar_below 32),
                                                      (
                                                        registers_lawful 0 0 (add 32) (λ a b p q. mod_word (a + b)),
                                                        (
                                                          registers_lawful 0 32 (sub 32) (λ a b p q. mod_word (a + (2 ^ 32 - b))),
                                                          (
                                                            registers_lawful 1 0 (λ a b. shl 32 a (low_five b)) (λ a b p q. shl_below 32 a (low_five b)),
                                                            (
                                                              registers_lawful 2 0 (λ a b. bit (signed_lt 32 a b)) (λ a b p q. bit_word (signed_lt 32 a b)),
                                                              (
                                                                registers_lawful 3 0 (λ a b. bit (nat_lt a b)) (λ a b p q. bit_word (nat_lt a b)),
                                                                (
                                                                  registers_lawful 4 0 bit_xor (xor_lt 32),
                                                                  (
                                                                    registers_lawful 5 0 (λ a b. shr 32 a (low_five b))
                                                                        (λ a b p q. shr_below 32 a (low_five b) p),
                                                                    (
                                                                      registers_lawful 5 32 (λ a b. sar 32 a (low_five b))
                                                                          (λ a b p q. sar_below 32 a (low_five b) p),
                                                                      (
                                                                        registers_lawful 6 0 bit_or (or_lt 32),
                                                                        (
                                                                          registers_lawful 7 0 bit_and (λ a b p q. and_below 32 a b p),
                                                                          (
                                                                            dear_lawful 0 (mul 32) (λ a b p q. mod_word (a * b)),
                                                                            (
                                                                              dear_lawful 1 (λ a b. upper (wide a * wide b))
                                                                                  (λ a b p q. mod_word (wide a * wide b / 2 ^ 32)),
                                                                              (
                                                                                dear_lawful 2 (λ a b. upper (wide a * b))
                                                                                    (λ a b p q. mod_word (wide a * b / 2 ^ 32)),
                                                                                (
                                                                                  dear_lawful 3 (λ a b. upper (a * b)) (λ a b p q. mod_word (a * b / 2 ^ 32)),
                                                                                  (
                                                                                    dear_lawful 4 (sdiv 32) (λ a b p q. sdiv_below 32 a b),
                                                                                    (
                                                                                      dear_lawful 5 (udiv 32) (λ a b p q. udiv_below 32 a b p),
                                                                                      (
                                                                                        dear_lawful 6 (srem 32) (λ a b p q. srem_below 32 a b p),
                                                                                        (
                                                                                          dear_lawful 7 (urem 32) (λ a b p q. urem_below 32 a b p),
                                                                                          (
                                                                                            λ w. fence_lawful (fields imm_i w),
                                                                                            (
                                                                                              λ w. raises_lawful EnvironmentCall (fields imm_i w),
                                                                                              (
                                                                                                λ w. raises_lawful Breakpoint (fields imm_i w),
                                                                                                tt,
                                                                                              ),
                                                                                            ),
                                                                                          ),
                                                                                        ),
                                                                                      ),
                                                                                    ),
                                                                                  ),
                                                                                ),
                                                                              ),
                                                                            ),
                                                                          ),
                                                                        ),
                                                                      ),
                                                                    ),
                                                                  ),
                                                                ),
                                                              ),
                                                            ),
                                                          ),
                                                        ),
                                                      ),
                                                    ),
                                                  ),
                                                ),
                                              ),
                                            ),
                                          ),
                                        ),
                                      ),
                                    ),
                                  ),
                                ),
                              ),
                            ),
                          ),
                        ),
                      ),
                    ),
                  ),
                ),
              ),
            ),
          ),
        ),
      ),
    ),
  ),
)

-- the row of a word by a table
abbrev IsOf : List Instruction → ℕ → Row → Type 0
IsOf is w row = (i : Instruction) × Contains is i × (fits i w ≡ true) × (row ≡ i.row (fields i.imm w))

of_rest : (x : Instruction) (rest : List Instruction) (w : ℕ) (row : Row) → IsOf rest w row → IsOf (x ∷ rest) w row
of_rest x rest w row (i, (k, l, e), f, r) = (i, (suc k, omega arith, e), f, r)

of_first : (x : Instruction) (rest : List Instruction) (w : ℕ) (row : Row) (b : Bool) → fits x w ≡ b →
    (if b then Some (x.row (fields x.imm w)) else row_in rest w) ≡ Some row → (row_in rest w ≡ Some row → IsOf rest w row) → IsOf (x ∷ rest) w row
of_first x rest w row true f e other = (x, (0, omega arith, refl), f, cc)
of_first x rest w row false f e other = of_rest x rest w row (other e)

of_table : (is : List Instruction) (w : ℕ) (row : Row) → row_in is w ≡ Some row → IsOf is w row
of_table [] w row e = cc
of_table (x ∷ rest) w row e = of_first x rest w row (fits x w) refl e (of_table rest w row)

pub rows_are_of_the_table : RowsAreOfTheTable
unfolding rv_row
rows_are_of_the_table w row e = of_table table w row e

lawful_in : (is : List Instruction) → AreLawful is → (i : Instruction) (k : ℕ) → k < length is → slice_index_or is k i ≡ i → IsLawfulInstruction i
lawful_in [] h i k l e = absurd (omega arith)
lawful_in (x ∷ rest) h i zero l e = subst IsLawfulInstruction e h.0
lawful_in (x ∷ rest) h i (suc k) l e = lawful_in rest h.1 i k (omega arith) e

pub row_lawful : (w : ℕ) (row : Row) → rv_row w ≡ Some row → IsLawful row
row_lawful w row e = lawful w row (rows_are_of_the_table w row e)
  where
    lawful : (w : ℕ) (row : Row) → IsOf table w row → IsLawful row
    lawful w row (i, (k, l, at), f, r) = subst IsLawful (sym r) (lawful_in table table_lawful i k l at w)
