use Rattle.sat_core.specs.Tables.{true_in}
use Rattle.sat_core.proofs.Trials.{tested-needed}
use Rattle.sat_core.proofs.needed.is_least.Goals as goal

pub returns-in-None-clause-needed : goal.returns-in-None-clause-needed
returns-in-None-clause-needed c = λ e.
    tested-needed c.args.propagator.now.clauses.items (true_in c.propagate.new.self.trail.table.items) c.args.lits.now
    (rw c.propagate.ensures.clauses at (c.are_needed-is_needed.ensures.tested e))
