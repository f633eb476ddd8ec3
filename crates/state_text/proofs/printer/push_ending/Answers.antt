use Rattle.std.proofs.Common.{ap, sym, ◌∙◌, ◌++◌, codes}
use Rattle.word_spec.specs.Texts.{joined, number_text}
use Rattle.machine_spec.specs.Endings.{event_words, place_words, named_line}
use Rattle.state_text.specs.Starts.{event_of, named_of}
use Rattle.state_text.specs.declared.start.NamedEnding.{NamedEnding}
use Rattle.state_text.proofs.Appends.{four, fails_line}
use Rattle.state_text.proofs.printer.push_ending.Goals as goal

pub returns-in_ok-push_step-in-FailsBy : goal.returns-in_ok-push_step-in-FailsBy
returns-in_ok-push_step-in-FailsBy c =
    four c.args.out.now.items c.push_text.new.out.items c.push_event.new.out.items c.push_text-in-FailsBy.new.out.items c.push_step.new.out.items
    (codes "fails ") (joined (event_words (event_of c.in-FailsBy.event))) (codes " ") (joined (place_words c.in-FailsBy.at c.in-FailsBy.step))
    c.in_ok-push_text-in-FailsBy.ensures c.in_ok-push_event-in-FailsBy.ensures c.in_ok-push_text-in-FailsBy-2.ensures c.in_ok-push_step-in-FailsBy.ensures
    ∙ ap (λ l. c.args.out.now.items ++ l) (fails_line (event_of c.in-FailsBy.event) c.in-FailsBy.at c.in-FailsBy.step)
    ∙ ap (λ (n : NamedEnding). c.args.out.now.items ++ named_line (named_of n)) (sym c.in-FailsBy.is)

pub returns-in_ok-push_step-in-UnknownBy : goal.returns-in_ok-push_step-in-UnknownBy
returns-in_ok-push_step-in-UnknownBy c =
    four c.args.out.now.items c.push_text-in-UnknownBy.new.out.items c.push_number.new.out.items c.push_text-in-UnknownBy-2.new.out.items
    c.push_step-in-UnknownBy.new.out.items
    (codes "unknown unroll ") (number_text c.in-UnknownBy.k) (codes " ") (joined (place_words c.in-UnknownBy.at c.in-UnknownBy.step))
    c.in_ok-push_text-in-UnknownBy.ensures c.in_ok-push_number-in-UnknownBy.ensures c.in_ok-push_text-in-UnknownBy-2.ensures
    c.in_ok-push_step-in-UnknownBy.ensures
    ∙ ap (λ (n : NamedEnding). c.args.out.now.items ++ named_line (named_of n)) (sym c.in-UnknownBy.is)
