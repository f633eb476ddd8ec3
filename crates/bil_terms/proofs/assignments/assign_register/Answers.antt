use Rattle.std.proofs.Common.{[], ◌-◌, refl, arith}
use Rattle.bil_ast.specs.Views.{expression}
use Rattle.bil_terms.proofs.Calls.{word_at}
use Rattle.bil_terms.proofs.Steps.{led_register, word_without}
use Rattle.bil_terms.proofs.assignments.assign_register.Goals as goal

pub word_term-requires-clause-checked : goal.word_term-requires-clause-checked
word_term-requires-clause-checked c =
    word_without c.args.run.now.names c.new-locals.result.items (expression c.args.value.now) c.new-locals.ensures.items c.requires.checked.0

pub returns : goal.returns
returns c b =
    led_register _ _ _ _ _ _ _ b c.args.number (c.args.number - c.args.run.now.names.first) (expression c.args.value.now) c.in_ok-term.term c.requires.run
    (omega (arith, c.requires.low)) (omega (arith, c.requires.low, c.requires.high)) refl c.requires.checked.1
    (word_at _ _ _ [] c.new-locals.result.items _ _ _ _ c.args.value.now c.args.value.now _ c.new-locals.ensures.items refl c.in_ok-term.ensures.term)
