use Rattle.std.proofs.Common.{◌∙◌, sym}
use Rattle.frame_spec.specs.FrameQuestions.{StepQuestion}
use Rattle.start_value.specs.Starts.{written_of}
use Rattle.frame_rounds.specs.declared.answers.FrameAnswered.TheVariants.{Sat, Refuted, Spent}
use Rattle.frame_verdict.specs.FrameFunctions.{contracts_of, frame_at}
use Rattle.frame_verdict.proofs.Judging.{answered, step_due}
use Rattle.frame_verdict.proofs.verifying.judge_heads.Goals as goal

pub shows-requires-clause-segments : goal.shows-requires-clause-segments
shows-requires-clause-segments g c =
    answered c.args.passive.now.unrolled.now StepQuestion c.args.budget.now.conflicts c.in_ok-segments.field-0 (Sat c.in-Sat.segments) c.in_ok-segments.ensures
    c.in-Sat.is (frame_at c.args.framed.now c.args.rank) (contracts_of c.args.framed.now) c.args.budget.now.unroll g.M.Machine.form
    c.requires.ready.unrolled.ground

pub shows-requires-clause-due : goal.shows-requires-clause-due
shows-requires-clause-due g c =
    let ground = c.requires.ready.unrolled.ground in
    step_due (frame_at c.args.framed.now c.args.rank) ground.lawful ground.reads c.args.budget.now.unroll g.M.Machine.form
    (written_of c.args.start) c.requires.entered c.args.fail c.requires.fail

pub judge_turns-requires-in-Refuted-clause-step : goal.judge_turns-requires-in-Refuted-clause-step
judge_turns-requires-in-Refuted-clause-step g c =
    let ground = c.requires.ready.unrolled.ground in (
      sym ground.heads ∙ c.if-not-passive.false,
      answered c.args.passive.now.unrolled.now StepQuestion c.args.budget.now.conflicts c.in_ok-segments.field-0 (Refuted c.in-Refuted.step)
          c.in_ok-segments.ensures c.in-Refuted.is (frame_at c.args.framed.now c.args.rank) (contracts_of c.args.framed.now)
          c.args.budget.now.unroll g.M.Machine.form ground,
    )

pub returns-in-Spent : goal.returns-in-Spent
returns-in-Spent g c =
    let f = frame_at c.args.framed.now c.args.rank in
    let ground = c.requires.ready.unrolled.ground in (
      step_due f ground.lawful ground.reads c.args.budget.now.unroll g.M.Machine.form (written_of c.args.start) c.requires.entered c.args.fail c.requires.fail,
      answered c.args.passive.now.unrolled.now StepQuestion c.args.budget.now.conflicts c.in_ok-segments.field-0 (Spent c.in-Spent.proof)
          c.in_ok-segments.ensures c.in-Spent.is f (contracts_of c.args.framed.now) c.args.budget.now.unroll g.M.Machine.form ground,
      λ s. sym ground.heads ∙ c.if-not-passive.false,
    )
