use Rattle.std.proofs.Common.{ℕ}
use Rattle.std.specs.Prelude.{Bool}
use Rattle.bilv_spec.specs.Notes.{Notes}
use Rattle.graph_nodes.specs.Graphs.{IsGraph}
use Rattle.unroller.specs.Asking.{program_asking}
use Rattle.unroller.specs.Rows.{AreLiterals}
use Rattle.unroller.proofs.codes.literals_at.Given as goal

abbrev pub invariant-loop-at : goal.invariant-loop-at
invariant-loop-at g l = (n : Notes) (e : ℕ) (o : ℕ → Bool) → IsGraph (program_asking g.M.Machine.machine l.image n e o) l.graph →
    AreLiterals (program_asking g.M.Machine.machine l.image n e o) l.addresses l.at-index l.found.items
