-- The list of each instruction is a lifting of its row.
use Rattle.std.proofs.Common.{◌≡◌, ℕ, ◌^◌, ◌<◌, [], Bool, true, false, refl, sym, ap, subst, arith, Option, Some, None, IfOk, Result, Ok, Err, Vec, Global}
use Rattle.std.specs.declared.alloc.AllocError.{AllocError}
use Rattle.std.proofs.Math.Path.{fun_ext}
use Rattle.bil_ast.specs.Views.{statements}
use Rattle.bil_ast.specs.declared.statements.Stmt.{Stmt}
use Rattle.word_spec.specs.Words.{add}
use Rattle.word_spec.specs.Memory.{Little, load}
use Rattle.word_spec.specs.State.{State, with_pc}
use Rattle.machine_spec.specs.Machine.{Outcome, Goes, EnvironmentCall, Breakpoint, Exception, exception_number, even}
use Rattle.machine_spec.specs.Rv.{plain_cost, reg, with_reg, branch_by, links, direct_by, indirect_by, raises, Fields, stores}
use Rattle.machine_spec.specs.RvMachine.{rv32}
use Rattle.machine_spec.specs.Bil.{XRegisters, Mem, Low, Assign, Binary, Cast, Raise, Empty, Statements}
use Rattle.machine_spec.specs.Bil as bil
use Rattle.machine_spec.specs.BilMeaning.{Word}
use Rattle.machine_spec.specs.Simulation.{env_of, jump_of}
use Rattle.machine_spec.specs.MachineLaws.{IfGoes, IsLifting}
use Rattle.machine_spec.proofs.ShortLifted.{IsNoCall, CallsNever, short_lifting}
use Rattle.rv_decode.specs.declared.plain.StoreOp.{StoreOp}
use Rattle.rv_decode.specs.declared.plain.StoreOp.TheVariants.{Sb, Sh, Sw}
use Rattle.rv_decode.specs.declared.plain.Plain.{Plain}
use Rattle.rv_decode.specs.declared.plain.Plain.TheVariants.{Lui, Auipc, Jal, Jalr, Branch, Load, Store, Immediate, Shift, Computation, Fence, Ecall, Ebreak}
use Rattle.rv_decode.specs.declared.insn.Insn.{Insn}
use Rattle.rv_decode.specs.Halves.{IsOfHalf}
use Rattle.rv_decode.specs.Insns.{length_by, outcome_by, row_by, row_of}
use Rattle.rv_step.proofs.Shortened.{jal_outcome, jalr_outcome}
use Rattle.rv_decode.specs.Operations.{immediate_line, shift_line, register_line}
use Rattle.rv_decode.specs.Plains.{plain_row, fields_of, test_of, loaded_bytes, extended, stored_bytes}
use Rattle.rv_lift.specs.Lifted as lifts
use Rattle.rv_lift.specs.Lifted.{number, register, address, lifted}
use Rattle.rv_lift.specs.Fits.{HasWords}
use Rattle.rv_lift.proofs.Values.{register_value_is, address_is, test_is, load_is, store_is, even_is}
use Rattle.rv_lift.proofs.Plain.{number_plain, register_plain, address_plain, binary_plain, cast_plain, immediate_priced, shift_priced, register_priced, test_plain, loaded_plain}
use Rattle.rv_lift.proofs.Shapes.{same, assigned_lifting, computed_lifting, branch_lifting, jump_lifting, store_lifting}

-- a jump ends at its target
direct_jumps : (b : Bool) (s : State) → jump_of (direct_by b) s ≡ Some s.pc
direct_jumps true s = refl
direct_jumps false s = refl

indirect_jumps : (b : Bool) (s : State) → jump_of (indirect_by b) s ≡ Some s.pc
indirect_jumps true s = refl
indirect_jumps false s = refl

stores_lifting : (rvc : Bool) (o : StoreOp) (x : Fields) (at : ℕ) → x.rs1 < 32 → x.rs2 < 32 → x.imm < 2 ^ 32 →
    IsLifting (rv32 rvc) XRegisters (stores (stored_bytes o) x) at (Assign Mem (lifts.stored o (address x.rs1 x.imm) (register x.rs2)) Empty)
stores_lifting rvc Sb x at p q h =
    store_lifting rvc 8 64 0 (address x.rs1 x.imm) (Cast Low 8 (register x.rs2)) (λ s. add 32 (reg s x.rs1) x.imm) (λ s. reg s x.rs2) at
    (address_plain x.rs1 x.imm p h) (cast_plain Low 8 32 0 0 _ (register_plain x.rs2 q) refl) (λ s here c l. address_is x.rs1 x.imm c l s)
    (λ s here c l. store_is Sb (address x.rs1 x.imm) (register x.rs2) _ _ c l s (address_is x.rs1 x.imm c l s) (register_value_is x.rs2 c l s))
    (omega arith) refl refl
stores_lifting rvc Sh x at p q h =
    store_lifting rvc 16 64 0 (address x.rs1 x.imm) (Cast Low 16 (register x.rs2)) (λ s. add 32 (reg s x.rs1) x.imm) (λ s. reg s x.rs2) at
    (address_plain x.rs1 x.imm p h) (cast_plain Low 16 32 0 0 _ (register_plain x.rs2 q) refl) (λ s here c l. address_is x.rs1 x.imm c l s)
    (λ s here c l. store_is Sh (address x.rs1 x.imm) (register x.rs2) _ _ c l s (address_is x.rs1 x.imm c l s) (register_value_is x.rs2 c l s))
    (omega arith) refl refl
stores_lifting rvc Sw x at p q h =
    store_lifting rvc 32 64 0 (address x.rs1 x.imm) (register x.rs2) (λ s. add 32 (reg s x.rs1) x.imm) (λ s. reg s x.rs2) at
    (address_plain x.rs1 x.imm p h) (register_plain x.rs2 q) (λ s here c l. address_is x.rs1 x.imm c l s)
    (λ s here c l. store_is Sw (address x.rs1 x.imm) (register x.rs2) _ _ c l s (address_is x.rs1 x.imm c l s) (register_value_is x.rs2 c l s))
    (omega arith) refl refl

raise_lifting : (rvc : Bool) (e : Exception) (x : Fields) (at : ℕ) → IsLifting (rv32 rvc) XRegisters (raises e x) at (Raise (exception_number e) Empty)
raise_lifting rvc e x at = record {
  simulates = λ s is here c turns few locals. refl;
  stored = λ s is here c turns few locals a. same [] [] a refl;
  typed = refl;
  no_loop = refl;
  no_special = refl;
  nests = omega arith;
  names = refl;
  assigns = λ g few t. cc;
  surely = λ g few t. cc;
  reads = λ g few. refl;
  reads_first = λ g few. refl;
  draws = λ t. refl;
  picks = refl;
  steady = refl;
  literal = λ a t. cc;
  weight = omega arith;
  loads = omega arith;
  stores = omega arith;
}

-- a row that is no call is lifted by its list with either length
by_half : (rvc : Bool) (i : Plain) (half : Option ℕ) (at : ℕ) (list : Statements) → CallsNever (plain_row i) →
    IsLifting (rv32 rvc) XRegisters (plain_row i) at list → IsLifting (rv32 rvc) XRegisters (row_by i half) at list
by_half rvc i None at list never is = is
by_half rvc i (Some h) at list never is = short_lifting (rv32 rvc) XRegisters (plain_row i) at list never is

branch_calls_never : (b : Bool) (s : State) (to : ℕ) → IfGoes (branch_by b s to) (λ how new. IsNoCall how)
branch_calls_never true s to = tt
branch_calls_never false s to = tt

-- a row with another effect that is the same
by_effect : (rvc : Bool) (i : Plain) (half : Option ℕ) (at : ℕ) (list : Statements) (f : State → Outcome) →
    ((s : State) (c : ℕ) → outcome_by half s ((plain_row i).effect s c) ≡ f s) →
    IsLifting (rv32 rvc) XRegisters (record (plain_row i) { length = length_by half (plain_row i).length; effect = λ s c. f s }) at list →
    IsLifting (rv32 rvc) XRegisters (row_by i half) at list
by_effect rvc i half at list f same is =
    subst (λ (g : State → ℕ → Outcome).
    IsLifting (rv32 rvc) XRegisters (record (plain_row i) { length = length_by half (plain_row i).length; effect = g }) at list)
    (fun_ext (λ s. fun_ext (λ c. sym (same s c)))) is

lifted_is_lifting : (rvc : Bool) (i : Plain) (half : Option ℕ) (n at : ℕ) → n ≡ length_by half 4 → IsOfHalf i half → HasWords i →
    IsLifting (rv32 rvc) XRegisters (row_by i half) at (lifted i n at)
lifted_is_lifting rvc (Lui rd imm) half n at e is h =
    by_half rvc (Lui rd imm) half at _ (λ s c. tt)
    (assigned_lifting rvc rd.number 0 0 (number imm) (λ s. imm) plain_cost None (λ s. None) at rd.in_range (number_plain imm h)
    (λ s here c l. refl) (omega arith) (omega arith))
lifted_is_lifting rvc (Auipc rd imm) half n at e is h =
    by_half rvc (Auipc rd imm) half at _ (λ s c. tt)
    (assigned_lifting rvc rd.number 0 0 (number (add 32 at imm)) (λ s. add 32 s.pc imm) plain_cost (plain_row (Auipc rd imm)).adds_pc (λ s. None) at rd.in_range
    (number_plain _ (omega arith)) (λ s here c l. rw here refl) (omega arith) (omega arith))
lifted_is_lifting rvc (Jal rd offset) half n at e is h =
    by_effect rvc (Jal rd offset) half at _ (λ s. Goes (direct_by (links rd.number)) (with_pc (with_reg s rd.number (add 32 s.pc n)) (add 32 s.pc offset)))
    (λ s c. jal_outcome rd offset half n s (add 32 s.pc offset) is e)
    (jump_lifting rvc (length_by half 4) n (number (add 32 at offset)) (λ s. add 32 s.pc offset) rd.number 0 (direct_by (links rd.number))
    (plain_row (Jal rd offset)).successors None (plain_row (Jal rd offset)).links at rd.in_range (number_plain _ (omega arith))
    (λ s here c l. rw here refl) (omega arith) (direct_jumps (links rd.number)))
lifted_is_lifting rvc (Jalr rd rs1 offset) half n at e is h =
    by_effect rvc (Jalr rd rs1 offset) half at _
    (λ s. Goes (indirect_by (links rd.number)) (with_pc (with_reg s rd.number (add 32 s.pc n)) (even (add 32 (reg s rs1.number) offset))))
    (λ s c. jalr_outcome rd rs1 offset half n s (even (add 32 (reg s rs1.number) offset)) is e)
    (jump_lifting rvc (length_by half 4) n (Binary bil.And (address rs1.number offset) (number 0xfffffffe))
    (λ s. even (add 32 (reg s rs1.number) offset)) rd.number 96 (indirect_by (links rd.number)) (plain_row (Jalr rd rs1 offset)).successors
    (plain_row (Jalr rd rs1 offset)).jumps_to (plain_row (Jalr rd rs1 offset)).links at rd.in_range
    (binary_plain bil.And 32 64 0 96 (address rs1.number offset) (number 0xfffffffe) (address_plain rs1.number offset rs1.in_range h)
    (number_plain _ (omega arith)) refl refl)
    (λ s here c l. rw (address_is rs1.number offset c l s) (ap (λ z. Word 32 z) (even_is (reg s rs1.number) offset)))
    (omega arith) (indirect_jumps (links rd.number)))
lifted_is_lifting rvc (Branch op rs1 rs2 offset) half n at e is h =
    by_half rvc (Branch op rs1 rs2 offset) half at _ (λ s c. branch_calls_never (test_of op (reg s rs1.number) (reg s rs2.number)) s offset)
    (branch_lifting rvc (lifts.test op (register rs1.number) (register rs2.number)) (λ s. test_of op (reg s rs1.number) (reg s rs2.number)) 32 offset
    (plain_row (Branch op rs1 rs2 offset)).successors at (test_plain op _ _ (register_plain rs1.number rs1.in_range) (register_plain rs2.number rs2.in_range))
    (λ s here c l. test_is op (register rs1.number) (register rs2.number) c (env_of l s) _ _ (register_value_is rs1.number c l s)
    (register_value_is rs2.number c l s)) (omega arith))
lifted_is_lifting rvc (Load op rd rs1 offset) half n at e is h =
    by_half rvc (Load op rd rs1 offset) half at _ (λ s c. tt)
    (assigned_lifting rvc rd.number 64 (loaded_bytes op) (lifts.loaded op (address rs1.number offset))
    (λ s. extended op (load Little (loaded_bytes op) s.mem (add 32 (reg s rs1.number) offset))) (plain_row (Load op rd rs1 offset)).cost None
    (plain_row (Load op rd rs1 offset)).loaded at rd.in_range
    (loaded_plain op _ (address_plain rs1.number offset rs1.in_range h))
    (λ s here c l. load_is op (address rs1.number offset) _ c l s (address_is rs1.number offset c l s))
    (omega arith) (omega arith))
lifted_is_lifting rvc (Store op rs1 rs2 offset) half n at e is h =
    by_half rvc (Store op rs1 rs2 offset) half at _ (λ s c. tt)
    (stores_lifting rvc op (fields_of (Store op rs1 rs2 offset)) at rs1.in_range rs2.in_range h)
lifted_is_lifting rvc (Immediate op rd rs1 imm) half n at e is h =
    by_half rvc (Immediate op rd rs1 imm) half at _ (λ s c. tt)
    (computed_lifting rvc rd.number (immediate_line op) (register rs1.number) (number imm) (λ s. reg s rs1.number) (λ s. imm) at rd.in_range
    (immediate_priced op) (register_plain rs1.number rs1.in_range) (number_plain imm h) (λ s here c l. register_value_is rs1.number c l s)
    (λ s here c l. refl))
lifted_is_lifting rvc (Shift op rd rs1 amount) half n at e is h =
    by_half rvc (Shift op rd rs1 amount) half at _ (λ s c. tt)
    (computed_lifting rvc rd.number (shift_line op) (register rs1.number) (number amount.bits) (λ s. reg s rs1.number) (λ s. amount.bits) at rd.in_range
    (shift_priced op) (register_plain rs1.number rs1.in_range) (let k = amount.in_range in number_plain amount.bits (omega arith))
    (λ s here c l. register_value_is rs1.number c l s) (λ s here c l. refl))
lifted_is_lifting rvc (Computation op rd rs1 rs2) half n at e is h =
    by_half rvc (Computation op rd rs1 rs2) half at _ (λ s c. tt)
    (computed_lifting rvc rd.number (register_line op) (register rs1.number) (register rs2.number) (λ s. reg s rs1.number) (λ s. reg s rs2.number) at rd.in_range
    (register_priced op) (register_plain rs1.number rs1.in_range) (register_plain rs2.number rs2.in_range)
    (λ s here c l. register_value_is rs1.number c l s) (λ s here c l. register_value_is rs2.number c l s))
lifted_is_lifting rvc (Fence fields) half n at e is h =
    by_half rvc (Fence fields) half at _ (λ s c. tt)
    (assigned_lifting rvc 0 0 0 (number 0) (λ s. 0) plain_cost None (λ s. None) at (omega arith) (number_plain 0 (omega arith)) (λ s here c l. refl)
    (omega arith) (omega arith))
lifted_is_lifting rvc Ecall half n at e is h =
    by_half rvc Ecall half at _ (λ s c. tt)
    (raise_lifting rvc EnvironmentCall (fields_of Ecall) at)
lifted_is_lifting rvc Ebreak half n at e is h =
    by_half rvc Ebreak half at _ (λ s c. tt)
    (raise_lifting rvc Breakpoint (fields_of Ebreak) at)

-- an answer of that list
pub answer_is_lifting : (rvc : Bool) (i : Insn) (n at : ℕ) (r : Result (Vec Stmt Global) AllocError) → n ≡ length_by i.half 4 →
    IfOk r (λ list. statements list.items ≡ lifted i.plain n at) → HasWords i.plain →
    IfOk r (λ list. IsLifting (rv32 rvc) XRegisters (row_of i) at (statements list.items))
answer_is_lifting rvc i n at (Ok list) k e h =
    subst (λ (z : Statements). IsLifting (rv32 rvc) XRegisters (row_of i) at z) (sym e) (lifted_is_lifting rvc i.plain i.half n at k i.of_half h)
answer_is_lifting rvc i n at (Err x) k e h = tt
