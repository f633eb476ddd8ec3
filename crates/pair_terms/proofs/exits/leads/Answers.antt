use Rattle.std.proofs.Common.{sym, ◌∙◌}
use Rattle.pair_terms.proofs.Led.{edges_here, edges_next}
use Rattle.pair_terms.proofs.exits.leads.Goals as goal

pub returns-then-is_onto : goal.returns-then-is_onto
returns-then-is_onto c =
    sym (edges_here c.args.place c.args.edges.now c.loop-i.i _ c.loop-i-test.true c.loop-i.invariant (sym c.is_onto.ensures ∙ c.if-is_onto.true))

pub loop-i-preserved : goal.loop-i-preserved
loop-i-preserved c =
    edges_next c.args.place c.args.edges.now c.loop-i.i _ c.loop-i-test.true c.loop-i.invariant (sym c.is_onto.ensures ∙ c.if-is_onto.false)
