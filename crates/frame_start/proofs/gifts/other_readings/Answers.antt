use Rattle.std.proofs.Common.{◌≡◌, ◌∙◌, ℕ, ap, subst, ◌++◌, ◌∷◌, [], arith, length}
use Rattle.question_form.specs.FrameViews.{frame_unrolled_of}
use Rattle.frame_start.specs.Changes.{AreOthers}
use Rattle.frame_start.proofs.GiftInputs.{no_others, others_more}
use Rattle.frame_start.proofs.gifts.other_readings.Goals as goal

pub loop-place-init : goal.loop-place-init
loop-place-init c =
    no_others (frame_unrolled_of c.args.unrolled.now) c.args.places.now c.args.values.now c.args.addresses c.args.head c.args.gifts.now
    c.push.new.self.items (c.in_ok-push.ensures.items ∙ ap (λ z. z ++ c.args.head ∷ []) c.new-others.ensures.items)

pub loop-place-preserved : goal.loop-place-preserved
loop-place-preserved c =
    others_more (frame_unrolled_of c.args.unrolled.now) c.args.places.now c.args.values.now c.args.addresses c.args.head c.args.gifts.now
    c.loop-place.place c.loop-place.others.items c.push-in-loop-place.new.self.items c.in_ok-gift_reading.field-0 c.loop-place.invariant (c.in_ok-push-2).ensures.items
    c.in_ok-gift_reading.ensures

pub returns : goal.returns
returns c =
    let u = c.args.unrolled.now in
    let all : c.loop-place.place ≡ length u.points.items
    = (let past = c.loop-place-test.false in let most = c.loop-place.auto.place-end in let long = c.len-place-end.ensures in let is = u.points.ok.0 in
    omega arith) in
    subst (λ (n : ℕ). AreOthers (frame_unrolled_of u) c.args.places.now c.args.values.now c.args.addresses n c.args.head c.args.gifts.now
    c.loop-place.others.items) all c.loop-place.invariant
