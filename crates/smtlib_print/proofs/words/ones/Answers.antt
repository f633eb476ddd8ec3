use Rattle.bv_word.proofs.Bits.{ones_at}
use Rattle.smtlib_print.proofs.words.ones.Goals as goal

pub returns : goal.returns
returns c = ones_at c.args.width c.requires.few
