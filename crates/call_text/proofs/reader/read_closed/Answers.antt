use Rattle.std.proofs.Common.{ap, sym, ◌∙◌, subst, []}
use Rattle.word_spec.specs.Texts.{split_lines}
use Rattle.frame_texts_spec.specs.CallTexts.{BlocksTold, CallEnding, CallTold, InBlocks, blocks_told, told_by_both}
use Rattle.start_value.specs.Starts.{layout_of}
use Rattle.call_text.specs.Readings.{IsCalledAs}
use Rattle.call_text.specs.Texts.{called_ending_of, changes_at}
use Rattle.call_text.proofs.Reading.{whole_both}
use Rattle.call_text.proofs.reader.read_closed.Goals as goal

pub returns-in-Ok-clause-told : goal.returns-in-Ok-clause-told
returns-in-Ok-clause-told c frames told h =
    let n : CallEnding = called_ending_of c.args.named in
    let blocks : BlocksTold =
    blocks_told (layout_of c.args.layout) (changes_at c.args.contracts.now) (InBlocks 0 [] 0) c.args.line (split_lines c.args.blocks.now) in
    subst (λ (t : CallTold). IsCalledAs (layout_of c.args.layout) frames t c.called_text.result)
    (ap (told_by_both n told) (sym c.in-Ok.ensures.told) ∙ whole_both n told blocks) (c.called_text.ensures (layout_of c.args.layout) frames told h)

pub returns-in-Err-clause-refused : goal.returns-in-Err-clause-refused
returns-in-Err-clause-refused c frames told h =
    c.block_fault.ensures (layout_of c.args.layout) frames (called_ending_of c.args.named) told
    (blocks_told (layout_of c.args.layout) (changes_at c.args.contracts.now) (InBlocks 0 [] 0) c.args.line (split_lines c.args.blocks.now))
    c.frame.ensures h c.in-Err.ensures.refused
