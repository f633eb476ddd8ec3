use Rattle.std.proofs.Common.{subst, sym, length}
use Rattle.question_form.specs.declared.unrolled.Aim.{Aim}
use Rattle.passify.specs.Sweeps.{Hands}
use Rattle.passify.specs.Edges.{CanGo, Follows}
use Rattle.passify.proofs.Followed.{follow_on, follow_over}
use Rattle.passify.proofs.edges.follow.Goals as goal

pub arrive-requires-clause-place : goal.arrive-requires-clause-place
arrive-requires-clause-place c =
    (subst (λ (a : Aim). CanGo c.args.unrolled.now (length c.args.sweep.now.met.items) c.args.next.now.names.now a) c.in-OnTo.is c.requires.goes).place

pub outward-requires-clause-goes : goal.outward-requires-clause-goes
outward-requires-clause-goes c =
    subst (λ (a : Aim). CanGo c.args.unrolled.now (length c.args.sweep.now.met.items) c.args.next.now.names.now a) c.in-Outward.is c.requires.goes

pub into_head-requires-clause-goes : goal.into_head-requires-clause-goes
into_head-requires-clause-goes c =
    subst (λ (a : Aim). CanGo c.args.unrolled.now (length c.args.sweep.now.met.items) c.args.next.now.names.now a) c.in-IntoHead.is c.requires.goes

pub returns-in_ok-arrive-in-OnTo-clause-hands : goal.returns-in_ok-arrive-in-OnTo-clause-hands
returns-in_ok-arrive-in-OnTo-clause-hands c =
    subst (λ (a : Aim). Hands c.args.dag.now c.arrive.new.dag c.args.sweep.now c.arrive.new.sweep c.args.hit.0
    (Follows c.args.unrolled.now c.args.dag.now c.args.sweep.now c.args.next.now a)) (sym c.in-OnTo.is)
    (follow_on c.args.unrolled.now c.args.dag.now c.arrive.new.dag c.args.sweep.now c.arrive.new.sweep c.args.hit.0 c.args.next.now c.in-OnTo.place
    c.in_ok-arrive-in-OnTo.ensures.hands)

pub returns-in_ok-outward-in-Outward-clause-hands : goal.returns-in_ok-outward-in-Outward-clause-hands
returns-in_ok-outward-in-Outward-clause-hands c =
    subst (λ (a : Aim). Hands c.args.dag.now c.outward.new.dag c.args.sweep.now c.outward.new.sweep c.args.hit.0
    (Follows c.args.unrolled.now c.args.dag.now c.args.sweep.now c.args.next.now a)) (sym c.in-Outward.is) c.in_ok-outward-in-Outward.ensures.hands

pub returns-in_ok-into_head-in-IntoHead-clause-hands : goal.returns-in_ok-into_head-in-IntoHead-clause-hands
returns-in_ok-into_head-in-IntoHead-clause-hands c =
    subst (λ (a : Aim). Hands c.args.dag.now c.into_head.new.dag c.args.sweep.now c.into_head.new.sweep c.args.hit.0
    (Follows c.args.unrolled.now c.args.dag.now c.args.sweep.now c.args.next.now a)) (sym c.in-IntoHead.is) c.in_ok-into_head-in-IntoHead.ensures.hands

pub returns-in_ok-turn-in-OverLast-clause-hands : goal.returns-in_ok-turn-in-OverLast-clause-hands
returns-in_ok-turn-in-OverLast-clause-hands c =
    subst (λ (a : Aim). Hands c.args.dag.now c.turn.new.dag c.args.sweep.now c.turn.new.sweep c.args.hit.0
    (Follows c.args.unrolled.now c.args.dag.now c.args.sweep.now c.args.next.now a)) (sym c.in-OverLast.is)
    (follow_over c.args.unrolled.now c.args.dag.now c.turn.new.dag c.args.sweep.now c.turn.new.sweep c.args.hit.0 c.args.next.now
    c.in_ok-turn-in-OverLast.ensures.hands)
