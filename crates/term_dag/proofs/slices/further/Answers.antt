use Rattle.term_dag.proofs.Shapes.{extended_zeros, extended_signs, signed_zeros}
use Rattle.term_dag.proofs.slices.further.Goals as goal

pub returns-then-not-signed : goal.returns-then-not-signed
returns-then-not-signed c = extended_zeros _ _ _ _ c.args.signed c.in-Extend.before _ _ _ c.args.nodes.now.typed c.requires.place c.requires.few c.requires.more
    c.in-Extend.ensures c.if-not-signed.true c.if-before.false

pub returns-then-before-2 : goal.returns-then-before-2
returns-then-before-2 c = extended_signs _ _ _ _ c.args.signed c.in-Extend.before _ _ _ c.args.nodes.now.typed c.requires.place c.requires.few c.requires.more
    c.in-Extend.ensures c.if-not-signed.false c.if-before-2.true

pub returns-then-first-from : goal.returns-then-first-from
returns-then-first-from c = signed_zeros _ _ _ _ c.args.signed c.in-Extend.before _ _ _ c.args.nodes.now.typed c.requires.place c.requires.few c.requires.more
    c.in-Extend.ensures c.if-not-signed.false c.if-before-2.false c.if-first-from.true
