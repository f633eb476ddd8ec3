-- Branches and SWI.
use Rattle.std.proofs.Common.{◌≡◌, ℕ, ◌^◌, ◌<◌, Bool, true, false, refl, sym, subst, ap, ◌∙◌, arith, None}
use Rattle.word_spec.specs.Words.{add}
use Rattle.word_spec.specs.Memory.{Endian}
use Rattle.word_spec.specs.State.{State, with_pc}
use Rattle.machine_spec.specs.Machine.{Indirect, Goes, Raises, SoftwareInterrupt}
use Rattle.word_spec.specs.Profiles.{V4}
use Rattle.machine_spec.specs.Arm.{arm, branch, branched, branch_target, is_linked, software_interrupt, exchange, reg, field_m, condition_code, none}
use Rattle.machine_spec.specs.Bil.{RRegisters, Statements}
use Rattle.machine_spec.specs.Bil as bil
use Rattle.machine_spec.specs.BilMeaning.{execute}
use Rattle.machine_spec.specs.Simulation.{Locals, position, of_list, of_row}
use Rattle.machine_spec.specs.MachineLaws.{IsLifting}
use Rattle.arm_lift_alu.proofs.LiftedAlike.{lifting_alike}
use Rattle.arm_decode.specs.declared.parts.Condition.{Condition}
use Rattle.arm_decode.specs.Parts.{condition_number}
use Rattle.arm_decode.specs.declared.register.Register.{Register}
use Rattle.arm_lift_alu.specs.Lifted as lifts
use Rattle.arm_lift_alu.proofs.Plain.{number_plain, own_register}
use Rattle.arm_lift_alu.proofs.Lists.{IsListed, IsUsing, empty_listed, shallow, raise_listed, assign_listed, jump_listed}
use Rattle.arm_lift_alu.proofs.Rows.{conditional_lifting}
use Rattle.arm_lift_alu.proofs.Products.{own_reg}

branch_listed : (b : Bool) (to behind : ℕ) → to < 2 ^ 32 → behind < 2 ^ 32 → IsListed 128 1 0 (lifts.branch b to behind)
branch_listed true to behind h k =
    jump_listed 64 0 1 0 128 none _ _ (number_plain to none h)
    (assign_listed 32 0 0 1 0 64 none (bil.Register RRegisters 14) _ _ (number_plain behind none k) (shallow 1 empty_listed) refl (λ m. refl) refl
    (omega arith)) (omega arith)
branch_listed false to behind h k = jump_listed 0 0 1 0 128 none _ _ (number_plain to none h) (shallow 1 empty_listed) (omega arith)

branch_using : (b : Bool) (to behind : ℕ) → IsUsing none none none (lifts.branch b to behind)
branch_using true to behind = record {
  assigns = λ f few h. cc;
  surely = λ f few h. cc;
  reads = λ f a i few h k. refl;
  reads_first = λ f few. refl;
}
branch_using false to behind = record {
  assigns = λ f few h. cc;
  surely = λ f few h. cc;
  reads = λ f a i few h k. refl;
  reads_first = λ f few. refl;
}

branch_runs : (b : Bool) (w c turns : ℕ) (l : Locals) (s : State) →
    of_list (execute (lifts.branch b (branch_target w s.pc) (add 32 s.pc 4)) c (position l turns None s)) ≡ of_row l turns (branched b w s)
branch_runs true w c turns l s = refl
branch_runs false w c turns l s = refl

pub branch_lifting : (m : Endian) (w at : ℕ) (k : Condition) (b : Bool) (to behind : ℕ) → condition_number k ≡ condition_code w → b ≡ is_linked w →
    to ≡ branch_target w at →
    behind ≡ add 32 at 4 → IsLifting (arm m V4) RRegisters (branch w) at (lifts.conditional k (lifts.branch b to behind))
branch_lifting m w at k b to behind code linked target next =
    let same : lifts.branch b to behind ≡ lifts.branch (is_linked w) (branch_target w at) (add 32 at 4)
    = ap (λ b. lifts.branch b to behind) linked ∙ ap (λ to. lifts.branch (is_linked w) to behind) target
    ∙ ap (lifts.branch (is_linked w) (branch_target w at)) next in
    subst (λ (z : Statements). IsLifting (arm m V4) RRegisters (branch w) at (lifts.conditional k z)) (sym same)
    (lifting_alike (arm m V4) RRegisters (record (branch w) { links = false }) at
    (lifts.conditional k (lifts.branch (is_linked w) (branch_target w at) (add 32 at 4))) (is_linked w) (λ s. None)
    (conditional_lifting m w at 128 4096 0 (λ s c. branched (is_linked w) w s) none none none false (branch w).successors
    (lifts.branch (is_linked w) (branch_target w at) (add 32 at 4)) (λ s is here c turns few l. rw (← here) (branch_runs (is_linked w) w c turns l s))
    (branch_listed (is_linked w) (branch_target w at) (add 32 at 4) (omega arith) (omega arith)) (branch_using (is_linked w) _ _) (λ t. refl)
    (omega arith) k code))

raise_using : IsUsing none none none lifts.software_interrupt
raise_using = record {
  assigns = λ f few h. cc;
  surely = λ f few h. cc;
  reads = λ f a i few h k. refl;
  reads_first = λ f few. refl;
}

pub software_interrupt_lifting : (m : Endian) (w at : ℕ) (k : Condition) → condition_number k ≡ condition_code w →
    IsLifting (arm m V4) RRegisters (software_interrupt w) at (lifts.conditional k lifts.software_interrupt)
software_interrupt_lifting m w at k code =
    conditional_lifting m w at 4 4096 0 (λ s c. Raises SoftwareInterrupt) none none none false (software_interrupt w).successors lifts.software_interrupt
    (λ s is here c turns few l. refl) (shallow 1 (raise_listed 3)) raise_using (λ t. refl) (omega arith) k code

exchange_using : (r : ℕ) → IsUsing none none none (lifts.exchange r)
exchange_using r = record {
  assigns = λ f few h. cc;
  surely = λ f few h. cc;
  reads = λ f a i few h k. refl;
  reads_first = λ f few. refl;
}

-- the register of BX is not r15, and its value the next address
pub exchange_lifting : (m : Endian) (w at : ℕ) (k : Condition) (r : Register) → condition_number k ≡ condition_code w → r.number ≡ field_m w →
    IsLifting (arm m V4) RRegisters (exchange w) at (lifts.conditional k (lifts.exchange r.number))
exchange_lifting m w at k r code same =
    conditional_lifting m w at 64 4096 0 (λ s c. Goes Indirect (with_pc s (reg s (field_m w)))) none none none false (exchange w).successors
    (lifts.exchange r.number)
    (λ s is here c turns few l. ap (λ a. of_row l turns (Goes Indirect (with_pc s a))) (own_reg s r.number r.in_range ∙ ap (reg s) same))
    (jump_listed 0 0 1 0 64 none _ _ (own_register r.number none r.in_range) (shallow 1 empty_listed) (omega arith)) (exchange_using r.number) (λ t. refl)
    (omega arith) k code
