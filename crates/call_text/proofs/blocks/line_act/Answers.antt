use Rattle.std.proofs.Common.{◌≡◌, ap, sym, ◌∙◌, subst, Option, Some, IfOk, IfErr}
use Rattle.std.specs.Option.{option_map}
use Rattle.frame_texts_spec.specs.CallTexts.{BlocksRefused, told_in_blocks}
use Rattle.call_text.specs.Lines.{block_said}
use Rattle.call_text.specs.Blocks.{acted, call_fault_of}
use Rattle.call_text.specs.declared.lines.BlockLine.{BlockLine}
use Rattle.call_text.proofs.blocks.line_act.Goals as goal

pub returns-in-OfStart-clause-acts : goal.returns-in-OfStart-clause-acts
returns-in-OfStart-clause-acts c layout changes n step later =
    subst
    (λ (o : Option BlockLine). IfOk c.start_act.result (λ act. told_in_blocks layout changes n step c.args.due.now c.args.byte (option_map block_said o) later
    ≡ acted layout changes n step c.args.due.now c.args.byte act later))
    (sym (c.in-Some.is ∙ ap Some c.in-OfStart.is)) (c.start_act.ensures.acts layout changes n step later)

pub returns-in-OfStart-clause-refused : goal.returns-in-OfStart-clause-refused
returns-in-OfStart-clause-refused c layout changes n step later =
    subst
    (λ (o : Option BlockLine). IfErr c.start_act.result (λ f. told_in_blocks layout changes n step c.args.due.now c.args.byte (option_map block_said o) later
    ≡ BlocksRefused n (call_fault_of f))) (sym (c.in-Some.is ∙ ap Some c.in-OfStart.is)) (c.start_act.ensures.refused layout changes n step later)
