use Rattle.std.proofs.Common.{◌≡◌}
use Rattle.mem_cells.specs.Lowering.{Lowers}
use Rattle.mem_cells.proofs.lowering.lower_all.Given as goal

abbrev pub invariant-loop-place : goal.invariant-loop-place
invariant-loop-place l = record {
  question : l.build.question ≡ l.fn.build.question;
  lowered : Lowers l.place l.build l.lowered;
}
