use Rattle.std.proofs.Common.{ap, set, ◌∙◌}
use Rattle.pair_terms.proofs.Placed.{led_more, led_all}
use Rattle.pair_terms.proofs.places.lead_out.Goals as goal

pub loop-i-preserved : goal.loop-i-preserved
loop-i-preserved c =
    ap (set c.loop-i.edges c.loop-i.i) c.led.ensures
    ∙ led_more c.args.place c.args.edges.now c.loop-i.edges c.loop-i.i _ c.loop-i-test.true c.loop-i.auto.edges c.loop-i.invariant

pub returns : goal.returns
returns c = led_all c.args.place c.args.edges.now c.loop-i.edges c.loop-i.i c.loop-i-test.false c.loop-i.invariant
