use Rattle.std.proofs.Common.{IfOk, sym, subst}
use Rattle.word_spec.specs.Profiles.{Profile}
use Rattle.machine_spec.specs.Arm.{arm}
use Rattle.machine_spec.specs.Bil.{RRegisters}
use Rattle.machine_spec.specs.MachineLaws.{IsLifting}
use Rattle.byte_mem.specs.Views.{endian_of}
use Rattle.bil_ast.specs.Views.{statements}
use Rattle.arm_decode.specs.declared.insn.Insn.{Insn}
use Rattle.arm_decode.specs.Insns.{row_of}
use Rattle.arm_lift.proofs.lifting.lift_of.Goals as goal

pub returns : goal.returns
returns g c =
    let o = endian_of c.args.order in
    subst (λ (i : Insn). IfOk c.lift.result (λ list. (profile : Profile) → IsLifting (arm o profile) RRegisters (row_of o i) c.args.at (statements list.items)))
    (sym c.requires) c.lift.ensures
