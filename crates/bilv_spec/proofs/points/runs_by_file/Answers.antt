use Rattle.bilv_spec.proofs.FileWords.{runs_by_file}
use Rattle.bilv_spec.proofs.points.runs_by_file.Goals as goal

pub returns : goal.returns
returns c = runs_by_file
