use Rattle.std.proofs.Common.{sym, subst, ◌-◌, ℕ}
use Rattle.question_form.specs.Views.{unrolled_of}
use Rattle.passify.specs.Lasts.{AreCarriedTo}
use Rattle.passify.proofs.Headless.{carried_of_frame, frame_walkable, steps_of, is_headed, passive_of_frame}
use Rattle.passify.proofs.Standing.{points_length}
use Rattle.passify.proofs.sweeping.passive_to_last.Goals as goal

pub swept-requires-clause-walkable : goal.swept-requires-clause-walkable
swept-requires-clause-walkable c = frame_walkable c.args.unrolled.now c.requires.headless c.requires.walkable

pub swept-requires-clause-headed : goal.swept-requires-clause-headed
swept-requires-clause-headed c = is_headed c.args.unrolled.now c.requires.headless

pub returns-clause-passive : goal.returns-clause-passive
returns-clause-passive c = passive_of_frame c.args.unrolled.now c.requires.headless c.in_ok-all.all.passive c.in_ok-all.ensures.passive

pub returns-clause-last : goal.returns-clause-last
returns-clause-last c =
    subst (λ (n : ℕ). AreCarriedTo (unrolled_of c.args.unrolled.now) (n - 1) c.in_ok-all.all.passive.dag c.in_ok-all.all.last)
    (sym (points_length c.args.unrolled.now c.args.unrolled.now.points.items))
    (carried_of_frame c.args.unrolled.now c.requires.headless _ c.in_ok-all.all.passive.dag c.in_ok-all.all.last c.in_ok-all.ensures.last)

pub swept-requires-clause-steps : goal.swept-requires-clause-steps
swept-requires-clause-steps c = steps_of c.args.unrolled.now c.requires.headless
