use Rattle.frame_texts_spec.proofs.PlainPrinted.{plain_printed}
use Rattle.frame_texts_spec.proofs.laws.plain_printed.Goals as goal

pub returns : goal.returns
returns c = plain_printed
