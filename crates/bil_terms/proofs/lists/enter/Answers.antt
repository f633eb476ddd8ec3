use Rattle.std.proofs.Common.{[], refl}
use Rattle.bil_ast.specs.Views.{expression}
use Rattle.bil_terms.proofs.Calls.{word_at}
use Rattle.bil_terms.proofs.Leads.{bits_kept}
use Rattle.bil_terms.proofs.Sides.{sides_entered}
use Rattle.bil_terms.proofs.Steps.{word_without}
use Rattle.bil_terms.proofs.lists.enter.Goals as goal

pub word_term-requires-clause-checked : goal.word_term-requires-clause-checked
word_term-requires-clause-checked c =
    word_without c.args.run.now.names c.new-locals.result.items (expression c.args.condition.now) c.new-locals.ensures.items c.requires.checked.0

pub split-requires-clause-bits : goal.split-requires-clause-bits
split-requires-clause-bits c = bits_kept c.args.dag.now c.word_term.new.dag _ _ _ _ _ c.args.bits c.in_ok-term.ensures.term.gathered.grew c.requires.bits

pub returns : goal.returns
returns c =
    sides_entered c.args.dag.now c.word_term.new.dag c.split.new.dag c.args.place c.args.run.now c.args.stored.now.items c.word_term.new.stored.items _
    (record { condition = c.in_ok-term.term; first = c.in_ok-first.first; second = c.in_ok-second.second }) c.in_ok-one.one.0 c.in_ok-one.other.0
    (word_at _ _ _ [] c.new-locals.result.items _ _ _ _ c.args.condition.now c.args.condition.now _ c.new-locals.ensures.items refl c.in_ok-term.ensures.term)
    c.in_ok-one.ensures c.in_ok-first.ensures c.in_ok-second.ensures
