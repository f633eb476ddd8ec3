use Rattle.frame_laws.proofs.HeadlessInputs.{headless_clauses}
use Rattle.frame_laws.proofs.headless.headless_clauses.Goals as goal

pub returns : goal.returns
returns c = headless_clauses
