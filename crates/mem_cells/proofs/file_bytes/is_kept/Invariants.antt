use Rattle.std.proofs.Common.{◌≡◌}
use Rattle.mem_cells.proofs.FileBytes.{kept_from}
use Rattle.mem_cells.proofs.file_bytes.is_kept.Given as goal

abbrev pub invariant-loop-place : goal.invariant-loop-place
invariant-loop-place l = kept_from l.kept l.place l.at ≡ kept_from l.kept 0 l.at
