use Rattle.std.proofs.Common.{[], refl}
use Rattle.bil_ast.specs.Views.{expression}
use Rattle.bil_terms.proofs.Calls.{word_at}
use Rattle.bil_terms.proofs.Flags.{led_jump}
use Rattle.bil_terms.proofs.Steps.{word_without}
use Rattle.bil_terms.proofs.jumps.jump.Goals as goal

pub word_term-requires-clause-checked : goal.word_term-requires-clause-checked
word_term-requires-clause-checked c =
    word_without c.args.run.now.names c.new-locals.result.items (expression c.args.target.now) c.new-locals.ensures.items c.requires.checked.0

pub returns : goal.returns
returns c =
    led_jump _ _ _ _ c.args.bits _ _ (expression c.args.target.now) c.in_ok-term.term c.requires.run c.requires.bits c.requires.checked.1
    (word_at _ _ _ [] c.new-locals.result.items _ _ _ _ c.args.target.now c.args.target.now _ c.new-locals.ensures.items refl c.in_ok-term.ensures.term)
