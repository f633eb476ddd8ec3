use Rattle.std.proofs.Common.{[], refl}
use Rattle.bil_ast.specs.Views.{expression}
use Rattle.bil_terms.proofs.Calls.{word_at}
use Rattle.bil_terms.proofs.Flags.{led_flag}
use Rattle.bil_terms.proofs.Steps.{word_without}
use Rattle.bil_terms.proofs.assignments.assign_flag.Goals as goal

pub word_term-requires-clause-checked : goal.word_term-requires-clause-checked
word_term-requires-clause-checked c =
    word_without c.args.run.now.names c.new-locals.result.items (expression c.args.value.now) c.new-locals.ensures.items c.requires.checked.0

pub returns : goal.returns
returns c =
    led_flag _ _ _ _ _ _ _ c.args.number (expression c.args.value.now) c.in_ok-term.term c.requires.run c.requires.within refl c.requires.checked.1
    (word_at _ _ _ [] c.new-locals.result.items _ _ _ _ c.args.value.now c.args.value.now _ c.new-locals.ensures.items refl c.in_ok-term.ensures.term)
