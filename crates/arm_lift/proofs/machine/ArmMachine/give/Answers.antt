use Rattle.std.proofs.Common.{ℕ, ap, ◌∙◌}
use Rattle.word_spec.specs.Memory.{memory_of}
use Rattle.word_spec.specs.State.{State}
use Rattle.machine_spec.specs.Arm.{profile_of}
use Rattle.word_spec.specs.Words.{bit_at}
use Rattle.arm_step.specs.RegisterFile.{registers_of}
use Rattle.arm_lift.specs.Orders.{order_of}
use Rattle.arm_lift.proofs.Starts.{registers_are}
use Rattle.arm_lift.proofs.machine.ArmMachine.give.Goals as goal

pub returns-clause-view : goal.returns-clause-view
returns-clause-view g c =
    let with_registers : (ℕ → ℕ) → State = λ regs. record {
      pc = c.args.pc;
      regs = regs;
      flags = λ f. bit_at f c.args.start.now.flags;
      mem = memory_of c.args.state.now.memory.entries;
    } in
    c.give.ensures.state
    ∙ ap with_registers (ap registers_of c.deref.ensures.value ∙ registers_are (order_of g.row.BIG) (profile_of g.row.PROFILE) c.args.start.now.regs.items)
