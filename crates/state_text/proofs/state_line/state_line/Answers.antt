use Rattle.std.proofs.Common.{ap, ◌∙◌, map}
use Rattle.std.specs.Option.{option_map}
use Rattle.word_spec.specs.Texts.{words_in}
use Rattle.machine_spec.specs.StateText.{line_of_words}
use Rattle.start_value.specs.Starts.{layout_of}
use Rattle.state_text.specs.Lines.{capped_line}
use Rattle.state_text.proofs.SaidLines.{first_eight}
use Rattle.state_text.proofs.state_line.state_line.Goals as goal

pub returns : goal.returns
returns c =
    c.line_of_words.ensures ∙ ap (λ ws. option_map capped_line (line_of_words (layout_of c.args.layout) (map (λ word. word.now) ws))) c.deref.ensures.value
    ∙ ap (λ ws. option_map capped_line (line_of_words (layout_of c.args.layout) ws)) c.in_ok-words.ensures
    ∙ ap (option_map capped_line) (first_eight (layout_of c.args.layout) (words_in c.args.text.now))
