use Rattle.std.proofs.Common.{◌≡◌, ◌<◌, sym, ◌∙◌, subst, ℕ, arith, length}
use Rattle.frame_start.proofs.ChangedSets.{no_gift_at, place_inside, steps_next}
use Rattle.frame_start.proofs.changed.steps_over.Goals as goal

pub loop-i-preserved : goal.loop-i-preserved
loop-i-preserved c =
    steps_next c.args.unrolled.now.points.items c.loop-i.i c.index.result.now (omega (arith, c.args.unrolled.now.points.ok.0)) c.index.ensures
    (sym c.is_contract_step.ensures ∙ c.if-is_contract_step.false) c.loop-i.invariant

pub returns : goal.returns
returns c none i g at =
    let u = c.args.unrolled.now in
    let l : i < length u.points.items = place_inside u i g at in
    let all : c.loop-i.i ≡ length u.points.items
    = (let past = c.loop-i-test.false in let most = c.loop-i.auto.i-end in let long = c.len-i-end.ensures in let is = u.points.ok.0 in omega arith) in
    no_gift_at u i l (c.loop-i.invariant i (subst (λ (n : ℕ). i < n) (sym all) l)) g at
