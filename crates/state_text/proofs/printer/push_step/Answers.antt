use Rattle.std.proofs.Common.{ap, sym, ◌∙◌, ◌++◌, codes, append-nil}
use Rattle.word_spec.specs.Texts.{word_text, number_text}
use Rattle.state_text.proofs.Appends.{four}
use Rattle.state_text.proofs.printer.push_step.Goals as goal

pub returns : goal.returns
returns c =
    four c.args.out.now.items c.push_text.new.out.items c.push_word.new.out.items c.push_text-2.new.out.items c.push_number.new.out.items
    (codes "at ") (word_text c.args.at) (codes " step ") (number_text c.args.step)
    c.in_ok-push_text.ensures c.in_ok-push_word.ensures c.in_ok-push_text-2.ensures c.in_ok-push_number.ensures
    ∙ ap (λ l. c.args.out.now.items ++ (codes "at " ++ (word_text c.args.at ++ (codes " step " ++ l)))) (sym (append-nil (number_text c.args.step)))
