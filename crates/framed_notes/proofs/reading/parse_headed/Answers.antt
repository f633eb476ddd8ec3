use Rattle.answer_spec.proofs.Wholes.{invariants_rise}
use Rattle.notes_lang.specs.Framed.{frame_notes_of}
use Rattle.notes_lang.specs.Parsing.{layout_vocabulary}
use Rattle.framed_notes.proofs.Headings.{headed}
use Rattle.framed_notes.proofs.reading.parse_headed.Goals as goal

pub returns-in-Ok-parse-clause-said : goal.returns-in-Ok-parse-clause-said
returns-in-Ok-parse-clause-said c d =
    headed c.args.layout c.in-Ok.dialect d c.args.bytes.now c.in-Ok.ensures c.in-Ok-parse.read c.in-Ok-parse.ensures.framed

pub returns-in-Ok-parse-clause-rising : goal.returns-in-Ok-parse-clause-rising
returns-in-Ok-parse-clause-rising c =
    invariants_rise (layout_vocabulary c.args.layout c.in-Ok.dialect) c.args.bytes.now (frame_notes_of c.in-Ok-parse.read) c.in-Ok-parse.ensures.framed
