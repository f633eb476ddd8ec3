use Rattle.std.proofs.Common.{◌<◌, ◌∙◌, length, get_or, ap, sym, arith}
use Rattle.term_spec.specs.Terms.{width_of}
use Rattle.term_dag.specs.Nodes.{node_of}
use Rattle.bit_blast.proofs.NextNode.{node_in}
use Rattle.pair_blast.proofs.EqualWords.{no_term}
use Rattle.pair_blast.proofs.StandIns.{input_word, same_at}
use Rattle.pair_blast.proofs.linked.stand_in_all.Goals as goal

pub operand-word-requires : goal.operand-word-requires
operand-word-requires c = c.requires.alike.first c.loop-i.i no_term (omega arith)

pub node-node-requires : goal.node-node-requires
node-node-requires c = c.requires.alike.second c.loop-i.i no_term (omega (arith, c.requires.alike.count))

pub stand_in-requires-clause-named : goal.stand_in-requires-clause-named
stand_in-requires-clause-named c =
    c.requires.named _ (node_in c.args.dag.now _ _ (c.requires.alike.second c.loop-i.i no_term (omega (arith, c.requires.alike.count))) c.node-node.ensures)

pub stand_in-requires-clause-all : goal.stand_in-requires-clause-all
stand_in-requires-clause-all c = c.loop-i.invariant.len ∙ c.requires.all

pub stand_in-requires-clause-width : goal.stand_in-requires-clause-width
stand_in-requires-clause-width c =
    c.operand-word.ensures.len ∙ c.requires.alike.widths c.loop-i.i no_term no_term (omega arith) ∙ ap width_of (sym c.node-node.ensures)

pub loop-i-preserved : goal.loop-i-preserved
loop-i-preserved c =
    let i = c.loop-i.i in
    let k : i < length c.args.entries.now = omega arith in
    let l : i < length c.args.others.now = omega (arith, c.requires.alike.count) in
    record {
      len = c.stand_in.ensures.len ∙ c.loop-i.invariant.len;
      within = λ n a b. c.stand_in.ensures.within n (c.loop-i.invariant.within n a b) (c.operand-word.ensures.within n b);
      value = λ v x r s.
          c.stand_in.ensures.value v _ x (c.loop-i.invariant.value v x r s) r
          (λ h. c.operand-word.ensures.value v ∙ same_at v c.args.words.now x c.args.dag.now c.args.entries.now c.args.others.now i s k l
          ∙ input_word x c.args.dag.now (get_or c.args.others.now i no_term).0 (node_of c.node-node.result) c.nodes-typed.ensures.typed
          (c.requires.alike.second i no_term l) c.node-node.ensures h);
    }
