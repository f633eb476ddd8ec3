use Rattle.std.proofs.Common.{◌∙◌, Bool, ap, sym}
use Rattle.std.specs.Prelude.{if◌then◌else◌}
use Rattle.word_spec.specs.Words.{bit}
use Rattle.word_spec.specs.State.{State}
use Rattle.machine_spec.specs.Arm.{with_flags}
use Rattle.arm_step.specs.States.{state_of}
use Rattle.arm_step.proofs.data.set_flags_if.Goals as goal

pub returns-then-sets_flags-clause-state : goal.returns-then-sets_flags-clause-state
returns-then-sets_flags-clause-state c =
    let s = state_of c.args.state.now in
    let x = c.args.flags in
    let made : Bool → State = λ b. record s { flags = (if b then with_flags s.flags (bit x.n) (bit x.z) (bit x.c) (bit x.v) else s.flags) } in
    c.set_flags.ensures.state ∙ ap made (sym c.if-sets_flags.true)
