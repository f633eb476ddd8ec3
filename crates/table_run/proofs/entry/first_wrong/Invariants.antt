use Rattle.std.proofs.Common.{◌-◌, ◌^◌}
use Rattle.program_value.specs.Programs.{program_at}
use Rattle.table_run.specs.Known.{IsRightTo}
use Rattle.table_run.proofs.entry.first_wrong.Given as goal

abbrev pub invariant-loop-part : goal.invariant-loop-part
invariant-loop-part g l = IsRightTo (program_at l.p (g.M.State.View.view l.state).pc) (g.M.State.View.view l.state) l.at

abbrev pub decreases-loop-part : goal.decreases-loop-part
decreases-loop-part g l = 2 ^ 32 - l.at
