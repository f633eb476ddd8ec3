use Rattle.std.proofs.Common.{sym, ◌∙◌, subst}
use Rattle.frame_texts_spec.specs.FrameTexts.{FramedTold}
use Rattle.start_value.specs.Starts.{layout_of}
use Rattle.frame_text.specs.Readings.{IsRefusedAs}
use Rattle.call_text.proofs.Before.{before_is}
use Rattle.call_text.proofs.reader.read_before.Goals as goal

pub returns-in-Ok-clause-told : goal.returns-in-Ok-clause-told
returns-in-Ok-clause-told c checks closed text e =
    sym (before_is (layout_of c.args.layout) checks closed text c.args.part.now e) ∙ c.in-Ok.ensures.told checks

pub returns-in-Err-clause-refused : goal.returns-in-Err-clause-refused
returns-in-Err-clause-refused c checks closed text e =
    subst (λ (told : FramedTold). IsRefusedAs (layout_of c.args.layout) checks told c.in-Err.fault)
    (before_is (layout_of c.args.layout) checks closed text c.args.part.now e) (c.in-Err.ensures.refused checks)
