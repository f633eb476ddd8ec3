use Rattle.std.proofs.Common.{arith}
use Rattle.term_dag.proofs.Growth.{grew_width}
use Rattle.term_names.proofs.Choices.{step_chosen, wide_at}
use Rattle.term_names.proofs.rows.selected_words.Goals as goal

pub selected_word-requires-clause-when_true : goal.selected_word-requires-clause-when_true
selected_word-requires-clause-when_true c =
    grew_width _ _ _ _ _ _ _ _ _ c.loop-i.invariant.grew (wide_at _ _ c.args.when_true.now c.loop-i.i (omega arith) c.requires.when_true)

pub selected_word-requires-clause-when_false : goal.selected_word-requires-clause-when_false
selected_word-requires-clause-when_false c =
    grew_width _ _ _ _ _ _ _ _ _ c.loop-i.invariant.grew (wide_at _ _ c.args.when_false.now c.loop-i.i (omega (arith, c.requires.same)) c.requires.when_false)

pub loop-i-preserved : goal.loop-i-preserved
loop-i-preserved c =
    step_chosen c.args.dag.now c.loop-i.dag _ c.args.width c.args.condition.0 c.args.when_true.now c.args.when_false.now c.loop-i.terms.items _ c.loop-i.i _
    c.loop-i-test.true c.requires.same c.in_ok-push.ensures.items c.requires.condition c.requires.when_true c.requires.when_false c.loop-i.invariant
    c.in_ok-term.ensures
