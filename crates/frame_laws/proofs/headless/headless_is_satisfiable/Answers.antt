use Rattle.frame_laws.proofs.HeadlessReads.{headless_is_satisfiable}
use Rattle.frame_laws.proofs.headless.headless_is_satisfiable.Goals as goal

pub returns : goal.returns
returns c = headless_is_satisfiable
