use Rattle.std.proofs.Common.{sym, arith}
use Rattle.std.specs.List.{list_any}
use Rattle.question_form.specs.Views.{unrolled_of}
use Rattle.passify.proofs.Standing.{points_length}
use Rattle.pair_terms.specs.Exits.{leads_to}
use Rattle.pair_terms.proofs.Led.{any_none}
use Rattle.pair_terms.proofs.exits.is_led_to.Goals as goal

pub returns : goal.returns
returns c =
    let u = c.args.unrolled.now in
    let long = points_length u u.points.items in
    sym (any_none (λ q. list_any (leads_to c.args.place) q.exits) (unrolled_of u).points c.loop-at.at
    (omega (arith, long, c.loop-at-test.false, c.len-at-end.ensures, u.points.ok.0)) c.loop-at.invariant)
