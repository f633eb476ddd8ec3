use Rattle.std.proofs.Common.{ap, map}
use Rattle.seen_step.specs.Views.{seen_of}
use Rattle.table_run.proofs.runs.watch_frame.Goals as goal

pub returns-clause-steps : goal.returns-clause-steps
returns-clause-steps g c = c.steps_of-steps.ensures _ (c.in_ok-found.ensures.seen (ap (map seen_of) c.new-list.ensures.items)).seen

pub returns-clause-state : goal.returns-clause-state
returns-clause-state g c = (c.in_ok-found.ensures.seen (ap (map seen_of) c.new-list.ensures.items)).left
