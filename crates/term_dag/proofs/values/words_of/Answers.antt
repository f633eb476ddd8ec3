use Rattle.std.proofs.Common.{◌+◌, take, sym, subst}
use Rattle.term_dag.specs.Nodes.{nodes_of}
use Rattle.term_dag.specs.Readings.{AreWords, reading_of_parts}
use Rattle.term_dag.proofs.Prefixes.{typed_take, over_take, words_more}
use Rattle.term_dag.proofs.values.words_of.Goals as goal

pub invariant_of-before : goal.invariant_of-before
invariant_of-before c = record {
  typed = typed_take c.args.nodes.now.list.now c.loop-i.i c.args.nodes.now.typed;
}

pub word_of-word-requires-clause-over : goal.word_of-word-requires-clause-over
word_of-word-requires-clause-over c = over_take c.args.nodes.now.list.now c.loop-i.i _ c.args.nodes.now.typed c.loop-i-test.true

pub loop-i-preserved : goal.loop-i-preserved
loop-i-preserved c =
    subst (λ l. AreWords (reading_of_parts c.args.parts.now) (nodes_of (take (c.loop-i.i + 1) c.args.nodes.now.list.now)) l) (sym c.in_ok-push.ensures.items)
    (words_more (reading_of_parts c.args.parts.now) c.args.nodes.now.list.now c.loop-i.i _ _ _ c.loop-i-test.true c.loop-i.invariant c.word_of-word.ensures)
