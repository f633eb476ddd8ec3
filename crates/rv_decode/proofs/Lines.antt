-- Each instruction stands at its place in the table, so a word is of one line at most.
use Rattle.std.proofs.Common.{◌≡◌, ◌⊎◌, inl, inr, ℕ, zero, suc, ◌+◌, refl, sym, ap, ◌∙◌, Bool, true, false, List, [], ◌∷◌, Some, map}
use denote.Enum.Declared.{tag_of}
use Rattle.std.specs.Prelude.{slice_get}
use Rattle.std.specs.Option.{option_map}
use Rattle.std.proofs.lemmas.Option.{slice_get-map}
use Rattle.machine_spec.specs.Rv.{Instruction, table, fits, fields, row_in, rv_row}
use Rattle.machine_spec.proofs.RvTable.{one_row}
use Rattle.rv_decode.specs.declared.plain.BranchOp.TheVariants.{Beq, Bne, Blt, Bge, Bltu, Bgeu}
use Rattle.rv_decode.specs.declared.plain.LoadOp.TheVariants.{Lb, Lh, Lw, Lbu, Lhu}
use Rattle.rv_decode.specs.declared.plain.StoreOp.TheVariants.{Sb, Sh, Sw}
use Rattle.rv_decode.specs.declared.plain.ImmediateOp.TheVariants.{Addi, Slti, Sltiu, Xori, Ori, Andi}
use Rattle.rv_decode.specs.declared.plain.ShiftOp.TheVariants.{Slli, Srli, Srai}
use Rattle.rv_decode.specs.declared.plain.RegisterOp.TheVariants.{Add, Sub, Sll, Slt, Sltu, Xor, Srl, Sra, Or, And, Mul, Mulh, Mulhsu, Mulhu, Div, Divu, Rem, Remu}
use Rattle.rv_decode.specs.contracts.plain.BranchOp as branches
use Rattle.rv_decode.specs.contracts.plain.LoadOp as loads
use Rattle.rv_decode.specs.contracts.plain.StoreOp as stores
use Rattle.rv_decode.specs.contracts.plain.ImmediateOp as immediates
use Rattle.rv_decode.specs.contracts.plain.ShiftOp as shifts
use Rattle.rv_decode.specs.contracts.plain.RegisterOp as registers
use Rattle.rv_decode.specs.declared.plain.Plain.{Plain}
use Rattle.rv_decode.specs.declared.plain.Plain.TheVariants.{Lui, Auipc, Jal, Jalr, Branch, Load, Store, Immediate, Shift, Computation, Fence, Ecall, Ebreak}
use Rattle.rv_decode.specs.Plains.{line_of, plain_row, HasFields, DecodesPlain}
use Rattle.rv_decode.proofs.Shapes.{register_at, amount_at, blank, line_of-blank, same_insn}

-- an instruction of each line, in the order of the table
lines : List Plain
lines =
    let r = register_at 0 in
    Lui r 0 ∷
    Auipc r 0 ∷
    Jal r 0 ∷
    Jalr r r 0 ∷
    Branch Beq r r 0 ∷ Branch Bne r r 0 ∷ Branch Blt r r 0 ∷ Branch Bge r r 0 ∷ Branch Bltu r r 0 ∷ Branch Bgeu r r 0 ∷
    Load Lb r r 0 ∷ Load Lh r r 0 ∷ Load Lw r r 0 ∷ Load Lbu r r 0 ∷ Load Lhu r r 0 ∷
    Store Sb r r 0 ∷ Store Sh r r 0 ∷ Store Sw r r 0 ∷
    Immediate Addi r r 0 ∷ Immediate Slti r r 0 ∷ Immediate Sltiu r r 0 ∷ Immediate Xori r r 0 ∷ Immediate Ori r r 0 ∷ Immediate Andi r r 0 ∷
    Shift Slli r r (amount_at 0) ∷ Shift Srli r r (amount_at 0) ∷ Shift Srai r r (amount_at 0) ∷
    Computation Add r r r ∷ Computation Sub r r r ∷ Computation Sll r r r ∷ Computation Slt r r r ∷ Computation Sltu r r r ∷ Computation Xor r r r
    ∷ Computation Srl r r r ∷ Computation Sra r r r ∷ Computation Or r r r ∷ Computation And r r r ∷ Computation Mul r r r ∷ Computation Mulh r r r
    ∷ Computation Mulhsu r r r ∷ Computation Mulhu r r r ∷ Computation Div r r r ∷ Computation Divu r r r ∷ Computation Rem r r r ∷ Computation Remu r r r ∷
    Fence 0 ∷
    Ecall ∷
    Ebreak ∷ []

-- the place of its line
abbrev place : Plain → ℕ
place (Lui rd imm) = 0
place (Auipc rd imm) = 1
place (Jal rd offset) = 2
place (Jalr rd rs1 offset) = 3
place (Branch op rs1 rs2 offset) = 4 + tag_of branches.the_type op
place (Load op rd rs1 offset) = 10 + tag_of loads.the_type op
place (Store op rs1 rs2 offset) = 15 + tag_of stores.the_type op
place (Immediate op rd rs1 imm) = 18 + tag_of immediates.the_type op
place (Shift op rd rs1 amount) = 24 + tag_of shifts.the_type op
place (Computation op rd rs1 rs2) = 27 + tag_of registers.the_type op
place (Fence fields) = 45
place Ecall = 46
place Ebreak = 47

at_place : (i : Plain) → slice_get lines (place i) ≡ Some (blank i)
unfolding lines
at_place (Lui rd imm) = refl
at_place (Branch Beq rs1 rs2 offset) = refl
at_place (Branch op rs1 rs2 offset) = refl
at_place (Load Lb rd rs1 offset) = refl
at_place (Load op rd rs1 offset) = refl
at_place (Store Sb rs1 rs2 offset) = refl
at_place (Store op rs1 rs2 offset) = refl
at_place (Immediate Addi rd rs1 imm) = refl
at_place (Immediate op rd rs1 imm) = refl
at_place (Shift Slli rd rs1 amount) = refl
at_place (Shift op rd rs1 amount) = refl
at_place (Computation Add rd rs1 rs2) = refl
at_place (Computation op rd rs1 rs2) = refl
at_place i = refl

table_of_lines : map line_of lines ≡ table
unfolding lines table
table_of_lines = refl

line_at : (i : Plain) → slice_get table (place i) ≡ Some (line_of i)
line_at i =
    ap (λ t. slice_get t (place i)) (sym table_of_lines) ∙ slice_get-map line_of lines (place i)
    ∙ ap (option_map line_of) (at_place i) ∙ ap Some (line_of-blank i)

-- a word is of one instruction at most
pub one_insn : (w : ℕ) (i j : Plain) → DecodesPlain w i → DecodesPlain w j → i ≡ j
one_insn w i j h k =
    let e = one_row w (place i) (place j) (line_of i) (line_of j) (line_at i) (line_at j) h.line k.line in
    let same : Some (blank i) ≡ Some (blank j) = sym (at_place i) ∙ ap (slice_get lines) e ∙ at_place j in
    same_insn i j w (cc) h.fields k.fields

truth : (b : Bool) → (b ≡ true) ⊎ (b ≡ false)
truth true = inl refl
truth false = inr refl

record One (is : List Instruction) (w : ℕ) : Type 0 where
  same : (i j : ℕ) (a b : Instruction) → slice_get is i ≡ Some a → slice_get is j ≡ Some b → fits a w ≡ true → fits b w ≡ true → i ≡ j

behind : (x : Instruction) (xs : List Instruction) (w : ℕ) → One (x ∷ xs) w → One xs w
behind x xs w one = record { same = λ i j a b p q r s. let e = one.same (suc i) (suc j) a b p q r s in cc }

-- the row of a word is that of the line which it fits
row_at : (is : List Instruction) (w k : ℕ) (a : Instruction) → One is w → slice_get is k ≡ Some a → fits a w ≡ true →
    row_in is w ≡ Some (a.row (fields a.imm w))
row_at [] w k a one at h = cc
row_at (x ∷ xs) w zero a one at h =
    let e : x ≡ a = cc in let t : fits x w ≡ true = ap (λ y. fits y w) e ∙ h in rw t (ap (λ y. Some (y.row (fields y.imm w))) e)
row_at (x ∷ xs) w (suc k) a one at h =
    elim (truth (fits x w)) [
      | inl t ↦ let e : zero ≡ suc k = one.same zero (suc k) x a refl at t h in cc
      | inr f ↦ rw f (row_at xs w k a (behind x xs w one) at h)
    ]

-- a line's row reads the fields that its instruction has
same_row : (i : Plain) (w : ℕ) → HasFields i w → (line_of i).row (fields (line_of i).imm w) ≡ plain_row i
same_row (Lui rd imm) w h = rw (← h.0, ← h.1) refl
same_row (Auipc rd imm) w h = rw (← h.0, ← h.1) refl
same_row (Jal rd offset) w h = rw (← h.0, ← h.1) refl
same_row (Jalr rd rs1 offset) w h = rw (← h.0, ← h.1, ← h.2) refl
same_row (Branch op rs1 rs2 offset) w h = rw (← h.0, ← h.1, ← h.2) refl
same_row (Load op rd rs1 offset) w h = rw (← h.0, ← h.1, ← h.2) refl
same_row (Store op rs1 rs2 offset) w h = rw (← h.0, ← h.1, ← h.2) refl
same_row (Immediate op rd rs1 imm) w h = rw (← h.0, ← h.1, ← h.2) refl
same_row (Shift op rd rs1 amount) w h = rw (← h.0, ← h.1, ← h.2) refl
same_row (Computation op rd rs1 rs2) w h = rw (← h.0, ← h.1, ← h.2) refl
same_row (Fence fields) w h = refl
same_row Ecall w h = refl
same_row Ebreak w h = refl

pub only_row : (w : ℕ) (i : Plain) → DecodesPlain w i → rv_row w ≡ Some (plain_row i)
unfolding rv_row
only_row w i h =
    row_at table w (place i) (line_of i) (record { same = one_row w }) (line_at i) h.line ∙ ap Some (same_row i w h.fields)
