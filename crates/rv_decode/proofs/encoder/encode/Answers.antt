use Rattle.rv_decode.proofs.Words.{word_is}
use Rattle.rv_decode.proofs.encoder.encode.Goals as goal

pub returns-clause-only : goal.returns-clause-only
returns-clause-only c rvc w h d = word_is c.args.insn.now c.word_by.result rvc w c.word_by.ensures h d
