use Rattle.std.proofs.Common.{◌∙◌, ap, subst}
use Rattle.word_spec.specs.State.{flag_c}
use Rattle.word_spec.specs.Words.{bit}
use Rattle.machine_spec.specs.Arm.{reg}
use Rattle.arm_decode.specs.declared.parts.Offset.{Offset}
use Rattle.arm_decode.specs.Parts.{HasOffset, kind_number}
use Rattle.arm_step.specs.Parts.{shifted_of}
use Rattle.arm_step.specs.States.{state_of}
use Rattle.arm_step.proofs.Operands.{shifted_offset}
use Rattle.arm_step.proofs.access.offset_of.Goals as goal

pub returns-in-Shifted : goal.returns-in-Shifted
returns-in-Shifted c = λ w h.
    let s = state_of c.args.state.now in
    let k = subst (λ (o : Offset). HasOffset w o) c.in-Shifted.is h in
    shifted_offset w s (shifted_of c.by_number.result) (kind_number c.in-Shifted.kind) c.in-Shifted.amount.bits c.read.result (bit c.flags.result.c)
    k.0 k.2 k.3 (c.read.ensures.reg ∙ ap (reg s) k.1) (ap (λ f. f flag_c) c.flags.ensures) c.by_number.ensures
