use Rattle.std.proofs.Common.{◌≡◌, ◌+◌, ◌-◌, ◌<◌, ℕ, suc, refl, length, subst, arith}
use Rattle.question_form.specs.FrameViews.{frame_unrolled_of}
use Rattle.passify.specs.Lasts.{AreCarriedIn}
use Rattle.passify.proofs.Visited.{states_on, swept_passive}
use Rattle.passify.proofs.Standing.{framed_length}
use Rattle.passify.proofs.sweeping.swept.Goals as goal

pub loop-place-init : goal.loop-place-init
loop-place-init c = record { swept = c.in_ok-sweep.ensures; states = λ i l. absurd (omega (arith, l)); last = λ i e. absurd (omega arith) }

pub loop-place-preserved : goal.loop-place-preserved
loop-place-preserved c = record {
  swept = c.in_ok-last.ensures.swept;
  states = λ i l.
      let within : i < c.loop-place.place + 1 = omega (arith, l) in
      states_on (frame_unrolled_of c.args.unrolled.now) c.loop-place.dag c.visit.new.dag c.loop-place.place c.in_ok-last.last c.loop-place.invariant.states
      c.in_ok-last.ensures.kept c.in_ok-last.ensures.carried i within;
  last = λ i e.
      let same : c.loop-place.place ≡ i = omega arith in
      subst (λ (n : ℕ). AreCarriedIn (frame_unrolled_of c.args.unrolled.now) n c.visit.new.dag c.in_ok-last.last) same c.in_ok-last.ensures.carried;
}

pub returns-clause-passive : goal.returns-clause-passive
returns-clause-passive c =
    swept_passive c.args.unrolled.now c.loop-place.place _ c.loop-place.sweep refl refl refl refl refl
    (omega (arith, c.loop-place-test.false, c.len-place-end.ensures, c.args.unrolled.now.points.ok.0))
    (omega (arith, c.loop-place.auto.place-end, c.len-place-end.ensures, c.args.unrolled.now.points.ok.0)) c.loop-place.invariant.swept
    c.loop-place.invariant.states

pub returns-clause-last : goal.returns-clause-last
returns-clause-last c =
    let u = c.args.unrolled.now in
    let begins = c.requires.walkable.begins in
    let some = c.requires.walkable.rooted.places begins.0 begins.1 in
    let count = framed_length u u.points.items in
    let last : suc (length u.points.items - 1) ≡ c.loop-place.place =
    omega (arith, c.loop-place-test.false, c.loop-place.auto.place-end, c.len-place-end.ensures, u.points.ok.0, some, count) in
    c.loop-place.invariant.last (length u.points.items - 1) last
