-- Worked lists: what they do is what their rows do, and the liftings of four rows.
use Rattle.std.proofs.Common.{◌≡◌, ℕ, zero, suc, refl, sym, subst, true, false, None, Some, ◌↔◌, List, [], arith, ◌<◌}
use Rattle.std.specs.Prelude.{Contains, not}
use Rattle.word_spec.specs.Words.{add}
use Rattle.word_spec.specs.Memory.{Little, Big}
use Rattle.word_spec.specs.State.{State}
use Rattle.machine_spec.specs.MachineLaws.{IsLifting}
use Rattle.machine_spec.specs.Rv.{rv_row, table, fields, imm_i, Fields, sets, reg, loads, stores, raises}
use Rattle.machine_spec.specs.RvMachine.{rv32}
use Rattle.machine_spec.specs.Machine.{Row, EnvironmentCall}
use Rattle.machine_spec.specs.Bil.{BilVariable, Register, Flag, XRegisters, RRegisters, Mem, Statements, Assign, Raise, If, Empty, Expression, Var, Constant, Binary, Plus, Load, Store, Choose}
use Rattle.machine_spec.specs.BilStores.{list_stored}
use Rattle.machine_spec.specs.BilCounts.{reads_within, other_loads, memory_choices}
use Rattle.machine_spec.specs.Simulation.{Simulates, Locals, position, of_list, of_row}
use Rattle.machine_spec.specs.BilMeaning.{execute}
use Rattle.machine_spec.specs.Arm.{computing, arm}
use Rattle.word_spec.specs.Profiles.{V4}

abbrev x : ℕ → BilVariable
x r = Register XRegisters r

abbrev address : ℕ → ℕ → Expression
address r imm = Binary Plus (Var (x r)) (Constant 32 imm)

-- addi, lw and sw between registers that aren't x0
addi : (d a imm at : ℕ) → Simulates (sets (λ y s. add 32 (reg s y.rs1) y.imm) (record { rd = suc d; rs1 = suc a; rs2 = 0; imm = imm })).effect at
    (Assign (x (suc d)) (address (suc a) imm) Empty)
addi d a imm at s is e choice turns small l = refl

lw : (d a imm at : ℕ) → Simulates (loads 4 (λ v. v) (record { rd = suc d; rs1 = suc a; rs2 = 0; imm = imm })).effect at
    (Assign (x (suc d)) (Load (Var Mem) (address (suc a) imm) Little 32) Empty)
lw d a imm at s is e choice turns small l = refl

sw : (a b imm at : ℕ) → Simulates (stores 4 (record { rd = 0; rs1 = suc a; rs2 = suc b; imm = imm })).effect at
    (Assign Mem (Store (Var Mem) (address (suc a) imm) Little 32 (Var (x (suc b)))) Empty)
sw a b imm at s is e choice turns small l = refl

ecall : (at : ℕ) (x : Fields) → Simulates (raises EnvironmentCall x).effect at (Raise 1 Empty)
ecall at x s is e choice turns small l = refl

-- moveq r0,r1 of ARM: the condition is an if on the flag Z
abbrev moveq : Statements
moveq = If (Var (Flag 2)) (Assign (Register RRegisters 0) (Var (Register RRegisters 1)) Empty) Empty Empty

by_flag : (s : State) (choice turns : ℕ) (l : Locals) (z : ℕ) → s.flags 2 ≡ z → z < 2 →
    of_list (execute moveq choice (position l turns None s)) ≡ of_row l turns ((computing 0x01a00001).effect s choice)
by_flag s choice turns l zero e small = rw e refl
by_flag s choice turns l (suc zero) e small = rw e refl
by_flag s choice turns l (suc (suc n)) e small = absurd (omega arith)

moveq_simulates : (at : ℕ) → Simulates (computing 0x01a00001).effect at moveq
moveq_simulates at s is e choice turns small l = by_flag s choice turns l (s.flags 2) refl (is.flags 2)

-- the same list of statements is what is stored
stays : {P : Type 0} → P ↔ P
stays = (λ h. h, λ h. h)

-- addi a0, a0, 1 of RISC-V
abbrev addi_row : Row
addi_row = sets (λ y s. add 32 (reg s y.rs1) y.imm) (fields imm_i 0x00150513)

addi_row_is : rv_row 0x00150513 ≡ Some addi_row
unfolding rv_row table
addi_row_is = refl

addi_lifting : (at : ℕ) → IsLifting (rv32 false) XRegisters addi_row at (Assign (x 10) (address 10 1) Empty)
addi_lifting at = record {
  simulates = addi 9 9 1 at;
  stored = λ s is e choice turns small l a. stays;
  typed = refl;
  no_loop = refl;
  no_special = refl;
  nests = omega arith;
  names = refl;
  assigns = λ f small e. cc;
  surely = λ f small e. cc;
  reads = λ f small. refl;
  reads_first = λ f small. refl;
  draws = λ e. refl;
  picks = refl;
  steady = refl;
  literal = λ a e. cc;
  weight = omega arith;
  loads = omega arith;
  stores = omega arith;
}

-- sw a1, 4(a0) of RISC-V stores the four bytes that its row says
abbrev sw_row : Row
sw_row = stores 4 (record { rd = 4; rs1 = 10; rs2 = 11; imm = 4 })

sw_lifting : (at : ℕ) → IsLifting (rv32 false) XRegisters sw_row at (Assign Mem (Store (Var Mem) (address 10 4) Little 32 (Var (x 11))) Empty)
sw_lifting at = record {
  simulates = sw 9 10 4 at;
  stored = λ s is e choice turns small l a. stays;
  typed = refl;
  no_loop = refl;
  no_special = refl;
  nests = omega arith;
  names = refl;
  assigns = λ f small e. cc;
  surely = λ f small e. cc;
  reads = λ f small. refl;
  reads_first = λ f small. refl;
  draws = λ e. refl;
  picks = refl;
  steady = refl;
  literal = λ a e. cc;
  weight = omega arith;
  loads = omega arith;
  stores = omega arith;
}

-- ecall of RISC-V
ecall_lifting : (at : ℕ) (y : Fields) → IsLifting (rv32 false) XRegisters (raises EnvironmentCall y) at (Raise 1 Empty)
ecall_lifting at y = record {
  simulates = ecall at y;
  stored = λ s is e choice turns small l a. stays;
  typed = refl;
  no_loop = refl;
  no_special = refl;
  nests = omega arith;
  names = refl;
  assigns = λ f small e. cc;
  surely = λ f small e. cc;
  reads = λ f small. refl;
  reads_first = λ f small. refl;
  draws = λ e. refl;
  picks = refl;
  steady = refl;
  literal = λ a e. cc;
  weight = omega arith;
  loads = omega arith;
  stores = omega arith;
}

-- moveq r0, r1 of ARM: it reads the flag Z, and assigns none
moveq_stored : (s : State) (choice turns : ℕ) (l : Locals) (z : ℕ) → s.flags 2 ≡ z → z < 2 → list_stored moveq choice (position l turns None s) ≡ []
moveq_stored s choice turns l zero e small = rw e refl
moveq_stored s choice turns l (suc zero) e small = rw e refl
moveq_stored s choice turns l (suc (suc n)) e small = absurd (omega arith)

nothing : (xs : List ℕ) (a : ℕ) → xs ≡ [] → Contains xs a ↔ Contains [] a
nothing xs a e = (subst (λ (ys : List ℕ). Contains ys a) e, subst (λ (ys : List ℕ). Contains ys a) (sym e))

moveq_reads : (f : ℕ) → f < 4 → reads_within f ((computing 0x01a00001).flags.reads f) (not ((computing 0x01a00001).flags.surely f)) moveq ≡ true
moveq_reads zero small = refl
moveq_reads (suc zero) small = refl
moveq_reads (suc (suc zero)) small = refl
moveq_reads (suc (suc (suc zero))) small = refl
moveq_reads (suc (suc (suc (suc f)))) small = absurd (omega arith)

moveq_lifting : (at : ℕ) → IsLifting (arm Little V4) RRegisters (computing 0x01a00001) at moveq
moveq_lifting at = record {
  simulates = moveq_simulates at;
  stored = λ s is e choice turns small l a. nothing _ a (moveq_stored s choice turns l (s.flags 2) refl (is.flags 2));
  typed = refl;
  no_loop = refl;
  no_special = refl;
  nests = omega arith;
  names = refl;
  assigns = λ f small e. cc;
  surely = λ f small e. cc;
  reads = moveq_reads;
  reads_first = λ f small. refl;
  draws = λ e. refl;
  picks = refl;
  steady = refl;
  literal = λ a e. cc;
  weight = omega arith;
  loads = omega arith;
  stores = omega arith;
}

-- a literal's load is of the word at its address, in the machine's byte order, and of no other
abbrev literal_load : ℕ → Statements
literal_load a = Assign (Register RRegisters 0) (Load (Var Mem) (Constant 32 a) Little 32) Empty

of_literal : other_loads Little 0x10008 (literal_load 0x10008) ≡ 0
of_literal = refl

of_other_address : other_loads Little 0x10008 (literal_load 0x1000c) ≡ 1
of_other_address = refl

of_other_order : other_loads Big 0x10008 (literal_load 0x10008) ≡ 1
of_other_order = refl

-- a choice between memories is told from one between words
memory_choice : memory_choices (Assign Mem (Choose (Constant 1 1) (Var Mem) (Var Mem)) Empty) ≡ 1
memory_choice = refl

word_choice : memory_choices (Assign (Register RRegisters 0) (Choose (Constant 1 1) (Constant 32 1) (Constant 32 2)) Empty) ≡ 0
word_choice = refl
