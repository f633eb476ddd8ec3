use Rattle.model_text.proofs.FlagBits.{flags_step}
use Rattle.model_text.proofs.read.flags.Goals as goal

pub loop-word-preserved : goal.loop-word-preserved
loop-word-preserved c = flags_step c.args.words.now c.loop-word.word-index c.loop-word.flags c.or_zero.result c.loop-word-test.true c.or_zero.ensures
    c.loop-word.invariant
