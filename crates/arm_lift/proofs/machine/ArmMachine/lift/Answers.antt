use Rattle.std.proofs.Common.{IfOk, subst}
use Rattle.machine_spec.specs.Arm.{arm, profile_of}
use Rattle.word_spec.specs.Memory.{Endian}
use Rattle.machine_spec.specs.Bil.{RRegisters}
use Rattle.machine_spec.specs.MachineLaws.{IsLifting}
use Rattle.bil_ast.specs.Views.{statements}
use Rattle.arm_decode.specs.Insns.{row_of}
use Rattle.byte_mem.specs.Views.{endian_of}
use Rattle.arm_lift.proofs.Lists.{in_one}
use Rattle.arm_lift.proofs.machine.ArmMachine.lift.Goals as goal

pub returns : goal.returns
returns g c =
    let e : Endian = endian_of c.order.result in
    subst (λ (e : Endian). IfOk c.list_of.result
    (λ list. IsLifting (arm e (profile_of g.row.PROFILE)) RRegisters (row_of e c.args.insn.now) c.args.at (statements list.items)))
    c.order.ensures
    (in_one c.list_of.result (λ profile list. IsLifting (arm e profile) RRegisters (row_of e c.args.insn.now) c.args.at (statements list.items))
    (profile_of g.row.PROFILE) c.list_of.ensures)
