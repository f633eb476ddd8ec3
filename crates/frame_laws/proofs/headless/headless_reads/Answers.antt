use Rattle.frame_laws.proofs.HeadlessReads.{headless_reads}
use Rattle.frame_laws.proofs.headless.headless_reads.Goals as goal

pub returns : goal.returns
returns c = headless_reads
