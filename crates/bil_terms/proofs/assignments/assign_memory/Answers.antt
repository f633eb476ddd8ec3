use Rattle.std.proofs.Common.{[], refl}
use Rattle.bil_ast.specs.Views.{expression}
use Rattle.bil_terms.proofs.Calls.{memory_at}
use Rattle.bil_terms.proofs.Flags.{led_memory}
use Rattle.bil_terms.proofs.Steps.{memory_without}
use Rattle.bil_terms.proofs.assignments.assign_memory.Goals as goal

pub memory_term-requires-clause-checked : goal.memory_term-requires-clause-checked
memory_term-requires-clause-checked c =
    memory_without c.args.run.now.names c.new-locals.result.items (expression c.args.value.now) c.new-locals.ensures.items c.requires.checked

pub returns : goal.returns
returns c =
    led_memory _ _ _ _ _ _ (expression c.args.value.now) _ c.requires.run
    (memory_at _ _ _ [] c.new-locals.result.items _ _ _ _ c.args.value.now c.args.value.now _ c.new-locals.ensures.items refl c.in_ok-term.ensures.term)
