use Rattle.std.proofs.Common.{ap, ◌∙◌, map}
use Rattle.start_value.specs.Starts.{layout_of}
use Rattle.frame_text.proofs.Marks.{has_marks, mark_by}
use Rattle.frame_text.proofs.parts.mark_of.Goals as goal

pub returns : goal.returns
returns c =
    c.mark_in.ensures
    ∙ mark_by (layout_of c.args.layout) (has_marks c.args.layout) c.args.text.now (map (λ word. word.now) c.deref.result.now)
    (ap (λ ws. map (λ word. word.now) ws) c.deref.ensures.value ∙ c.in_ok-words.ensures)
