use Rattle.std.proofs.Common.{ap, ◌∙◌, ◌++◌, codes}
use Rattle.machine_spec.specs.Endings.{named_line}
use Rattle.frame_texts_spec.specs.FrameTexts.{some_ending}
use Rattle.frame_text.proofs.reader.opening.Goals as goal

pub returns : goal.returns
returns c =
    c.in_ok-push_text.ensures ∙ ap (λ l. l ++ codes "\n") (c.in_ok-push_ending.ensures ∙ ap (λ l. l ++ named_line some_ending) c.new-out.ensures.items)
