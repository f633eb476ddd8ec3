use Rattle.std.proofs.Common.{◌<◌, length, arith}
use Rattle.word_gates.proofs.Words.{within_more}
use Rattle.bit_blast.proofs.NextNode.{typed_next, blasted_more, blasted_none, blasted_all, node_in}
use Rattle.bit_blast.proofs.words.words_of.Goals as goal

pub loop-i-init : goal.loop-i-init
loop-i-init c = blasted_none c.args.places.now c.args.inputs.now _ c.args.dag.now _ c.in_ok-words.ensures.items

pub word_of-requires-clause-typed : goal.word_of-requires-clause-typed
word_of-requires-clause-typed c =
    rw c.deref.ensures.value
    (typed_next c.args.places.now c.args.inputs.now _ _ c.args.dag.now c.loop-i.i _ _ c.nodes-count.ensures.typed
    (omega (arith, c.nodes-count.ensures.count)) c.node-node.ensures c.loop-i.invariant)

pub word_of-requires-clause-of_words : goal.word_of-requires-clause-of_words
word_of-requires-clause-of_words c = c.requires.of_words _ (node_in c.args.dag.now c.loop-i.i _
    (omega (arith, c.nodes-count.ensures.count)) c.node-node.ensures)

pub word_of-requires-clause-named : goal.word_of-requires-clause-named
word_of-requires-clause-named c = c.requires.named _ (node_in c.args.dag.now c.loop-i.i _ (omega (arith, c.nodes-count.ensures.count)) c.node-node.ensures)

pub word_of-requires-clause-inputs_within : goal.word_of-requires-clause-inputs_within
word_of-requires-clause-inputs_within c = within_more _ c.requires.within c.loop-i.invariant.grows.more

pub word_of-requires-clause-within : goal.word_of-requires-clause-within
word_of-requires-clause-within c = rw c.deref.ensures.value c.loop-i.invariant.within

pub loop-i-preserved : goal.loop-i-preserved
loop-i-preserved c =
    let q = rw c.deref.ensures.value at c.in_ok-word.ensures in
    let l : c.loop-i.i < length c.args.dag.now = omega (arith, c.nodes-count.ensures.count) in
    rw c.in_ok-push.ensures.items
    (blasted_more c.args.places.now c.args.inputs.now _ _ _ c.args.dag.now c.loop-i.i _ _ _ c.nodes-count.ensures.typed l c.node-node.ensures
    (c.requires.of_words _ (node_in c.args.dag.now c.loop-i.i _ l c.node-node.ensures)) c.loop-i.invariant q.made q.value)

pub returns : goal.returns
returns c = blasted_all c.args.places.now c.args.inputs.now _ _ c.args.dag.now c.loop-i.i _ (omega (arith, c.nodes-count.ensures.count)) c.loop-i.invariant
