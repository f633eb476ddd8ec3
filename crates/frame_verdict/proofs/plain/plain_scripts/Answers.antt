use Rattle.frame_verdict.proofs.PlainScripts.{plain_scripts}
use Rattle.frame_verdict.proofs.plain.plain_scripts.Goals as goal

pub returns : goal.returns
returns c = plain_scripts
