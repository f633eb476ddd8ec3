use Rattle.std.proofs.Common.{refl}
use Rattle.rv_decode.specs.Insns.{length_by}
use Rattle.rv_lift.specs.Flags.{is_on}
use Rattle.rv_lift.proofs.Rows.{answer_is_lifting}
use Rattle.rv_lift.proofs.machine.Rv32Machine.lift.Goals as goal

pub returns : goal.returns
returns g c =
    answer_is_lifting (is_on g.row.RVC) c.args.insn.now (length_by c.args.insn.now.half 4) c.args.at c.list_of.result refl c.list_of.ensures.list
    c.list_of.ensures.words
