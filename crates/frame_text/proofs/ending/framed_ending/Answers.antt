use Rattle.std.proofs.Common.{◌≡◌, ◌∙◌, ◌∷◌, [], false}
use Rattle.machine_spec.specs.StateText.{StateLineFault, StateRefused, line_of, told_of}
use Rattle.start_value.specs.Starts.{layout_of}
use Rattle.state_text.proofs.Keeping.{of_none}
use Rattle.frame_text.proofs.FirstLines.{no_named}
use Rattle.frame_text.proofs.ending.framed_ending.Goals as goal

pub returns : goal.returns
returns c =
    c.in_ok-ending.ensures
    ∙ no_named (layout_of c.args.layout) c.args.text.now
    (of_none (told_of (layout_of c.args.layout) (λ a. false) (line_of (layout_of c.args.layout) c.args.text.now ∷ []) ≡ StateRefused 1 StateLineFault)
    c.in_ok-named.field-0 c.in_default.is (c.in_ok-named.ensures.other (λ a. false) []))
