use Rattle.std.proofs.Common.{length, sym, subst, ℕ}
use Rattle.std.proofs.lemmas.List.{length-map}
use Rattle.call_form.specs.Views.{budget_of}
use Rattle.frame_spec.specs.FrameReports.{HasMore}
use Rattle.notes_value.specs.FrameViews.{contract_of}
use Rattle.frame_verdict.specs.FrameFunctions.{whole_of_framed}
use Rattle.frame_verdict.specs.FrameMeasures.{AreContractsMeasured, AreUnrolledTo, IsMeasuredTo}
use Rattle.frame_verdict.proofs.Measured.{match_some, measured_last}
use Rattle.frame_verdict.proofs.measuring.measure.Goals as goal

pub returns : goal.returns
returns g c =
    let w = whole_of_framed c.args.framed.now in
    let b = c.args.budget.now in
    let n = length c.args.framed.now.contracts.now in
    c.in_ok-weighed-in-Some-2.ensures w g.M.Machine.form
    (subst (λ (r : ℕ). AreUnrolledTo w b.unroll r g.M.Machine.form c.in-Some.contracts.frames.items)
    (sym (length-map c.args.framed.now.contracts.now contract_of))
    (match_some c.in_ok-contracts.field-0 c.in-Some.contracts (HasMore w b.unroll b.points) (AreContractsMeasured w n g.M.Machine.form (budget_of b))
    c.in_ok-contracts.ensures c.in-Some.is).unrolled)
    (measured_last c.args.framed.now g.M.Machine.form (budget_of b) c.in-Some-2.measured
    (match_some c.in_ok-measure_frame.field-0 c.in-Some-2.measured (HasMore w b.unroll b.points)
    (IsMeasuredTo w n g.M.Machine.form (budget_of b)) c.in_ok-measure_frame.ensures c.in-Some-2.is))
