use Rattle.std.proofs.Common.{◌-◌}
use Rattle.start_value.specs.Starts.{written_of}
use Rattle.frame_verdict.specs.FrameFunctions.{program_of_framed}
use Rattle.frame_verdict.proofs.HeadStates.{end}
use Rattle.frame_verdict.proofs.shown.ending.Goals as goal

pub returns : goal.returns
returns g c =
    end (program_of_framed c.args.framed.now) c.args.framed.now.invariants.now g.M.Machine.form c.args.budget.now.unroll
    (c.args.budget.now.points - 1) (written_of c.args.shown.now.start) c.as_ref-head.result c.args.shown.now.head c.as_ref-head.ensures.value
    (g.M.State.View.view c.in_ok-state.state) c.in_ok-state.ensures c.in_ok-ending.ending (c.in_ok-is_head_for.ensures.yes c.if-not-branch.false) c.in_ok-ending.ensures
