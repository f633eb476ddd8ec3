use Rattle.std.proofs.Common.{take, ap, ◌∙◌}
use Rattle.term_dag.specs.Nodes.{nodes_of}
use Rattle.term_dag.proofs.Refusals.{nodes_first, typed_left}
use Rattle.term_dag.proofs.dag.Dag.keep_or_leave.Goals as goal

pub invariant_of-self : goal.invariant_of-self
invariant_of-self c = typed_left c.args.stood _ c.truncate.new.self.keys c.truncate.ensures.keys c.self.invariant

pub returns-in-Err : goal.returns-in-Err
returns-in-Err c =
    ap nodes_of c.truncate.ensures.keys ∙ nodes_first c.args.stood _ ∙ ap (take c.args.stood) (c.self.view_is ∙ c.in-Err.ensures)
