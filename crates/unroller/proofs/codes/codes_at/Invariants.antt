use Rattle.std.proofs.Common.{ℕ}
use Rattle.std.specs.Prelude.{Bool, List}
use Rattle.frame_spec.specs.Frames.{Contract}
use Rattle.bilv_spec.specs.Notes.{Notes}
use Rattle.flag_live.specs.Contracted.{LiveStayWith}
use Rattle.graph_nodes.specs.Graphs.{IsGraph}
use Rattle.unroller.specs.Asking.{program_asking}
use Rattle.unroller.specs.Places.{AreCodes}
use Rattle.unroller.proofs.codes.codes_at.Given as goal

abbrev pub invariant-loop-at : goal.invariant-loop-at
invariant-loop-at g l = (n : Notes) (e : ℕ) (o : ℕ → Bool) (noted : List Contract) → IsGraph (program_asking g.M.Machine.machine l.program.image.now n e o) l.graph →
    LiveStayWith (program_asking g.M.Machine.machine l.program.image.now n e o) noted l.graph →
    AreCodes (program_asking g.M.Machine.machine l.program.image.now n e o) g.M.Machine.bank noted l.addresses l.asserts l.at-index l.codes.items
