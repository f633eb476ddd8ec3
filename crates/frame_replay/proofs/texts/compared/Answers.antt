use Rattle.std.proofs.Common.{◌≡◌, IfOk, sym, subst, ◌∙◌}
use Rattle.std.specs.Prelude.{Bool, false}
use Rattle.call_spec.specs.Calls.{plain_answer}
use Rattle.call_text.specs.Texts.{called_ending_of}
use Rattle.frame_texts_spec.specs.CallReplays.{call_ending_answer}
use Rattle.table_run.specs.FrameEnds.{frame_found_of}
use Rattle.frame_replay.proofs.texts.compared.Goals as goal

pub returns-then-is_named : goal.returns-then-is_named
returns-then-is_named c =
    subst (λ (b : Bool). IfOk c.named_so.result (λ r. plain_answer r.status r.text.items
    ≡ call_ending_answer b (called_ending_of c.args.named) false c.args.from_head (frame_found_of c.args.ending)))
    (sym c.if-is_named.true ∙ c.is_named.ensures) c.named_so.ensures

pub returns : goal.returns
returns c =
    subst (λ (b : Bool). IfOk c.found_other.result (λ r. plain_answer r.status r.text.items
    ≡ call_ending_answer b (called_ending_of c.args.named) false c.args.from_head (frame_found_of c.args.ending)))
    (sym c.if-is_named.false ∙ c.is_named.ensures) c.found_other.ensures
