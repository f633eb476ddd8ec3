use Rattle.std.proofs.Common.{refl, arith}
use Rattle.flow_graph.proofs.FlagSets.{flag_only}
use Rattle.flow_graph.proofs.flags.only.Goals as goal

pub returns-in-0 : goal.returns-in-0
returns-in-0 c = flag_only 0 c.args.flag 1 c.in-0.is refl (omega arith)

pub returns-in-1 : goal.returns-in-1
returns-in-1 c = flag_only 1 c.args.flag 2 c.in-1.is refl (omega arith)

pub returns-in-2 : goal.returns-in-2
returns-in-2 c = flag_only 2 c.args.flag 4 c.in-2.is refl (omega arith)

pub returns-in-3 : goal.returns-in-3
returns-in-3 c = flag_only 3 c.args.flag 8 c.in-3.is refl (omega arith)
