use Rattle.frame_laws.proofs.HeadlessUnrolled.{headless_unrolling}
use Rattle.frame_laws.proofs.headless.headless_unrolling.Goals as goal

pub returns : goal.returns
returns c = headless_unrolling
