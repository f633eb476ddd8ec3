use Rattle.std.proofs.Common.{ℕ, ◌<◌}
use Rattle.question_form.specs.Asked.{frame_question}
use Rattle.frame_verdict.specs.FrameFunctions.{whole_of_framed}
use Rattle.frame_verdict.specs.ShownEnds.{EndsAsAsked}
use Rattle.frame_verdict.proofs.shown.first_ended.Given as goal

abbrev pub invariant-loop-root : goal.invariant-loop-root
invariant-loop-root g l =
    (i : ℕ) → i < l.root → ¬ EndsAsAsked (whole_of_framed l.framed) l.rank l.budget.unroll g.M.Machine.form
    (frame_question l.asked) l.unrolled l.segments i
