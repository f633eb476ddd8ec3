-- An instruction is its line with the fields of a word: two that a word has on one line are the same.
use Rattle.std.proofs.Common.{◌≡◌, ℕ, ◌+◌, ◌*◌, ◌%◌, ◌^◌, ◌<◌, refl, sym, ap, subst, ◌∙◌, arith}
use denote.Struct.Props.{props}
use Rattle.word_spec.specs.Words.{bits}
use Rattle.machine_spec.specs.Rv.{imm_i, imm_s, imm_b, imm_u, imm_j}
use Rattle.rv_decode.specs.declared.register.Register.{Register}
use Rattle.rv_decode.specs.declared.shift_amount.ShiftAmount.{ShiftAmount}
use Rattle.rv_decode.specs.declared.plain.Plain.{Plain}
use Rattle.rv_decode.specs.declared.plain.Plain.TheVariants.{Lui, Auipc, Jal, Jalr, Branch, Load, Store, Immediate, Shift, Computation, Fence, Ecall, Ebreak}
use Rattle.rv_decode.specs.Plains.{line_of, HasFields}

below : (n : ℕ) → n % 32 < 32
below n = omega arith

pub register_at : ℕ → Register
register_at n = record { number = n % 32; in_range = below n }

pub amount_at : ℕ → ShiftAmount
amount_at n = record { bits = n % 32; in_range = below n }

bound_prop : (n : ℕ) → IsProp (n < 32)
bound_prop n = hlevel props

registers : (n m : ℕ) → n ≡ m → (p : n < 32) (q : m < 32) → let a : Register = record { number = n; in_range = p } in
    let b : Register = record { number = m; in_range = q } in a ≡ b
registers n m e =
    subst (λ (k : ℕ). (p : n < 32) (q : k < 32) → let a : Register = record { number = n; in_range = p } in
    let b : Register = record { number = k; in_range = q } in a ≡ b) e
    (λ p q. ap (λ (r : n < 32). let a : Register = record { number = n; in_range = r } in a) (bound_prop n p q))

amounts : (n m : ℕ) → n ≡ m → (p : n < 32) (q : m < 32) → let a : ShiftAmount = record { bits = n; in_range = p } in
    let b : ShiftAmount = record { bits = m; in_range = q } in a ≡ b
amounts n m e =
    subst (λ (k : ℕ). (p : n < 32) (q : k < 32) → let a : ShiftAmount = record { bits = n; in_range = p } in
    let b : ShiftAmount = record { bits = k; in_range = q } in a ≡ b) e
    (λ p q. ap (λ (r : n < 32). let a : ShiftAmount = record { bits = n; in_range = r } in a) (bound_prop n p q))

-- the register that has a number
is_register : (a : Register) (n : ℕ) → a.number ≡ n → a ≡ register_at n
unfolding register_at
is_register a n h = registers a.number (n % 32) (let b = a.in_range in omega arith) a.in_range (below n)

is_amount : (a : ShiftAmount) (n : ℕ) → a.bits ≡ n → a ≡ amount_at n
unfolding amount_at
is_amount a n h = amounts a.bits (n % 32) (let b = a.in_range in omega arith) a.in_range (below n)

-- the instruction of the same line with the fields of a word
abbrev pub with_fields : Plain → ℕ → Plain
with_fields (Lui rd imm) w = Lui (register_at (bits 11 7 w)) (imm_u w)
with_fields (Auipc rd imm) w = Auipc (register_at (bits 11 7 w)) (imm_u w)
with_fields (Jal rd offset) w = Jal (register_at (bits 11 7 w)) (imm_j w)
with_fields (Jalr rd rs1 offset) w = Jalr (register_at (bits 11 7 w)) (register_at (bits 19 15 w)) (imm_i w)
with_fields (Branch op rs1 rs2 offset) w = Branch op (register_at (bits 19 15 w)) (register_at (bits 24 20 w)) (imm_b w)
with_fields (Load op rd rs1 offset) w = Load op (register_at (bits 11 7 w)) (register_at (bits 19 15 w)) (imm_i w)
with_fields (Store op rs1 rs2 offset) w = Store op (register_at (bits 19 15 w)) (register_at (bits 24 20 w)) (imm_s w)
with_fields (Immediate op rd rs1 imm) w = Immediate op (register_at (bits 11 7 w)) (register_at (bits 19 15 w)) (imm_i w)
with_fields (Shift op rd rs1 amount) w = Shift op (register_at (bits 11 7 w)) (register_at (bits 19 15 w)) (amount_at (bits 24 20 w))
with_fields (Computation op rd rs1 rs2) w = Computation op (register_at (bits 11 7 w)) (register_at (bits 19 15 w)) (register_at (bits 24 20 w))
with_fields (Fence fields) w = Fence (bits 31 15 w * 2 ^ 5 + bits 11 7 w)
with_fields Ecall w = Ecall
with_fields Ebreak w = Ebreak

pub is_with_fields : (i : Plain) (w : ℕ) → HasFields i w → i ≡ with_fields i w
is_with_fields (Lui rd imm) w h = let a = is_register rd _ h.0 in let b = h.1 in cc
is_with_fields (Auipc rd imm) w h = let a = is_register rd _ h.0 in let b = h.1 in cc
is_with_fields (Jal rd offset) w h = let a = is_register rd _ h.0 in let b = h.1 in cc
is_with_fields (Jalr rd rs1 offset) w h = let a = is_register rd _ h.0 in let b = is_register rs1 _ h.1 in let c = h.2 in cc
is_with_fields (Branch op rs1 rs2 offset) w h = let a = is_register rs1 _ h.0 in let b = is_register rs2 _ h.1 in let c = h.2 in cc
is_with_fields (Load op rd rs1 offset) w h = let a = is_register rd _ h.0 in let b = is_register rs1 _ h.1 in let c = h.2 in cc
is_with_fields (Store op rs1 rs2 offset) w h = let a = is_register rs1 _ h.0 in let b = is_register rs2 _ h.1 in let c = h.2 in cc
is_with_fields (Immediate op rd rs1 imm) w h = let a = is_register rd _ h.0 in let b = is_register rs1 _ h.1 in let c = h.2 in cc
is_with_fields (Shift op rd rs1 amount) w h = let a = is_register rd _ h.0 in let b = is_register rs1 _ h.1 in let c = is_amount amount _ h.2 in cc
is_with_fields (Computation op rd rs1 rs2) w h = let a = is_register rd _ h.0 in let b = is_register rs1 _ h.1 in let c = is_register rs2 _ h.2 in cc
is_with_fields (Fence fields) w h = ap Fence h
is_with_fields Ecall w h = refl
is_with_fields Ebreak w h = refl

-- an instruction with all fields 0, which stands for its line
abbrev pub blank : Plain → Plain
blank i = with_fields i 0

pub refilled : (i : Plain) (w : ℕ) → with_fields (blank i) w ≡ with_fields i w
refilled (Lui rd imm) w = refl
refilled i w = refl

pub line_of-blank : (i : Plain) → line_of (blank i) ≡ line_of i
line_of-blank (Lui rd imm) = refl
line_of-blank i = refl

-- two instructions of one line with the fields of one word
pub same_insn : (i j : Plain) (w : ℕ) → blank i ≡ blank j → HasFields i w → HasFields j w → i ≡ j
same_insn i j w e h k =
    is_with_fields i w h ∙ sym (refilled i w) ∙ ap (λ x. with_fields x w) e ∙ refilled j w ∙ sym (is_with_fields j w k)
