use Rattle.machine_spec.specs.StateText.{state_of}
use Rattle.start_value.specs.Starts.{layout_of}
use Rattle.state_text.specs.Starts.{text_of}
use Rattle.frame_text.specs.Texts.{framed_ending_of}
use Rattle.frame_text.proofs.Behind.{plain_read}
use Rattle.frame_text.proofs.reader.read_plain.Goals as goal

pub returns-in-Err-clause-refused : goal.returns-in-Err-clause-refused
returns-in-Err-clause-refused c tests =
    c.entry_fault.ensures.plain (layout_of c.args.layout) tests (framed_ending_of c.args.named)
    (state_of (layout_of c.args.layout) tests.known c.args.part.now) (c.in-Err.ensures.refused_known tests.known)

pub returns-in-Ok-clause-told : goal.returns-in-Ok-clause-told
returns-in-Ok-clause-told c tests =
    plain_read (layout_of c.args.layout) tests (framed_ending_of c.args.named) (state_of (layout_of c.args.layout) tests.known c.args.part.now)
    (text_of c.in-Ok.text) (c.in-Ok.ensures.told_known tests.known)
