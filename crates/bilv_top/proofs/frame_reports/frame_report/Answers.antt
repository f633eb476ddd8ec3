use Rattle.std.proofs.Common.{map, refl}
use Rattle.std.proofs.lemmas.Result.{IfOk-weaker}
use Rattle.call_text.specs.Texts.{called_ending_of, frame_name_of}
use Rattle.command_line.specs.Commands.{budget_of}
use Rattle.frame_spec.specs.FrameReports.{last_rank}
use Rattle.frame_verdict.specs.FrameVerdicts.{named_of}
use Rattle.start_value.specs.Starts.{layout_of, written_of}
use Rattle.state_text.specs.Starts.{written_call_of}
use Rattle.bilv_top.specs.Answers.{answer_of}
use Rattle.bilv_top.proofs.Verdicts.{exceeded_over_frames, unproved_reported}
use Rattle.bilv_top.proofs.frame_reports.frame_report.Goals as goal

pub returns-in-Fails : goal.returns-in-Fails
returns-in-Fails c = IfOk-weaker c.segment.result _ _ (λ a said w same. rw c.in-Fails.is (said (last_rank w))) c.segment.ensures

pub returns-in-NotInductive : goal.returns-in-NotInductive
returns-in-NotInductive c =
    IfOk-weaker c.segment-in-NotInductive.result _ _ (λ a said w same. rw c.in-NotInductive.is (said (last_rank w))) c.segment-in-NotInductive.ensures

pub returns-in-Unroll : goal.returns-in-Unroll
returns-in-Unroll c =
    IfOk-weaker c.segment-in-Unroll.result _ _ (λ a said w same. rw c.in-Unroll.is (said (last_rank w))) c.segment-in-Unroll.ensures

pub returns-in-Unproved : goal.returns-in-Unproved
returns-in-Unproved c =
    let v = c.in-Unproved in
    IfOk-weaker c.not_proved.result _ _
    (λ a said w same. rw c.in-Unproved.is
    (unproved_reported w (layout_of c.args.form) (budget_of c.args.budget) (answer_of a) v.rank (named_of v.ending) c.status_of.result
    (frame_name_of c.name_of.result) (called_ending_of c.unproved-named.result) (written_of v.start) (map written_call_of v.calls.items)
    (c.status_of.ensures v.rank) (c.name_of.ensures w same) (c.unproved-named.ensures (budget_of c.args.budget) refl) (said w same refl)))
    c.not_proved.ensures

pub returns-in-Exceeded : goal.returns-in-Exceeded
returns-in-Exceeded c =
    IfOk-weaker c.beyond.result _ _
    (λ a is w same. exceeded_over_frames w (layout_of c.args.form) (budget_of c.args.budget) (answer_of a) c.args.verdict c.in-Exceeded.past c.in-Exceeded.is is)
    c.beyond.ensures
