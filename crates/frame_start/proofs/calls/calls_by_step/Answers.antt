use Rattle.std.proofs.Common.{◌≡◌, ◌<◌, true, false, ap, sym, ◌∙◌, arith, length}
use Rattle.question_form.specs.declared.unrolled.Point.{Point}
use Rattle.question_form.specs.FrameViews.{is_contract}
use Rattle.unroller.specs.RootPoints.{no_point}
use Rattle.bit_blast.proofs.StepChoices.{any_default}
use Rattle.frame_start.specs.Met.{is_gift, is_met_of}
use Rattle.frame_start.proofs.CallSteps.{count_called, count_uncalled, next_called, next_uncalled}
use Rattle.frame_start.proofs.calls.calls_by_step.Goals as goal
use Rattle.frame_start.proofs.calls.calls_by_step.Goals.{then-is_met+in_ok-list_call, else-is_met}

pub loop-i-preserved : goal.loop-i-preserved
loop-i-preserved c =
    let met = is_met_of c.args.points.now c.args.root c.args.met.now c.args.words.now in
    let gift = is_gift c.args.points.now in
    let i = c.loop-i.i in
    let inv = c.loop-i.invariant in
    let inside : i < length c.args.points.now = (let m = c.requires.points in let t = c.loop-i-test.true in omega arith) in
    elim c.if-is_met.branch [
      | then-is_met+in_ok-list_call w ↦ (
          let t : met i ≡ true = sym c.is_met.ensures ∙ w.if-is_met.true in
          record {
            listed = rw (w.listed-is)
                (next_called met gift i c.loop-i.step _ c.loop-i.listed.items w.list_call.new.calls.items inv.listed inv.step t
                (ap (λ (q : Point). is_contract q.deed) (any_default c.args.points.now i _ no_point inside)) w.in_ok-list_call.ensures);
            step = rw (w.step-is) (count_called met gift i c.loop-i.step inv.step t);
            few = let s = w.step-is in let k = inv.few in omega arith;
          })
      | else-is_met w ↦ (
          let f : met i ≡ false = sym c.is_met.ensures ∙ w.if-is_met.false in
          record {
            listed = rw (w.listed-is) (next_uncalled met gift i c.loop-i.listed.items inv.listed f);
            step = rw (w.step-is) (count_uncalled met gift i c.loop-i.step inv.step f);
            few = let s = w.step-is in let k = inv.few in omega arith;
          })
    ]
