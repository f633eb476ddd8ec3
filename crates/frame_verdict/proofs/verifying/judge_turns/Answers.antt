use Rattle.std.proofs.Common.{None, Some}
use Rattle.frame_spec.specs.FrameQuestions.{TurnQuestion}
use Rattle.start_value.specs.Starts.{written_of}
use Rattle.frame_rounds.specs.declared.answers.FrameAnswered.TheVariants.{Sat, Refuted, Spent}
use Rattle.frame_verdict.specs.FrameFunctions.{contracts_of, frame_at}
use Rattle.frame_verdict.proofs.Judging.{answered, holds, partial, stepped, turn_due}
use Rattle.frame_verdict.proofs.verifying.judge_turns.Goals as goal

pub shows-requires-clause-segments : goal.shows-requires-clause-segments
shows-requires-clause-segments g c =
    answered c.args.passive.now.unrolled.now TurnQuestion c.args.budget.now.conflicts c.in_ok-segments.field-0 (Sat c.in-Sat.segments) c.in_ok-segments.ensures
    c.in-Sat.is (frame_at c.args.framed.now c.args.rank) (contracts_of c.args.framed.now) c.args.budget.now.unroll g.M.Machine.form
    c.requires.ready.unrolled.ground

pub shows-requires-clause-due : goal.shows-requires-clause-due
shows-requires-clause-due g c =
    let ground = c.requires.ready.unrolled.ground in
    turn_due (frame_at c.args.framed.now c.args.rank) ground.lawful ground.reads c.args.budget.now.unroll g.M.Machine.form
    (written_of c.args.start) c.requires.entered c.args.fail c.requires.fail c.args.step c.requires.step

pub returns-in-None : goal.returns-in-None
returns-in-None g c =
    let f = frame_at c.args.framed.now c.args.rank in
    let ground = c.requires.ready.unrolled.ground in
    let k = c.args.budget.now.unroll in
    holds f ground.lawful ground.reads k g.M.Machine.form (written_of c.args.start) c.requires.entered c.args.fail c.requires.fail
    (stepped f k c.args.step None c.requires.step c.in-None.is) c.in-Refuted.turn
    (answered c.args.passive.now.unrolled.now TurnQuestion c.args.budget.now.conflicts c.in_ok-segments.field-0 (Refuted c.in-Refuted.turn)
    c.in_ok-segments.ensures c.in-Refuted.is f (contracts_of c.args.framed.now) k g.M.Machine.form ground)

pub returns-in-Some : goal.returns-in-Some
returns-in-Some g c =
    let f = frame_at c.args.framed.now c.args.rank in
    let ground = c.requires.ready.unrolled.ground in
    let k = c.args.budget.now.unroll in
    partial f ground.lawful ground.reads k g.M.Machine.form (written_of c.args.start) c.requires.entered c.args.fail c.requires.fail c.in-Some.step
    (stepped f k c.args.step (Some c.in-Some.step) c.requires.step c.in-Some.is) c.in-Refuted.turn
    (answered c.args.passive.now.unrolled.now TurnQuestion c.args.budget.now.conflicts c.in_ok-segments.field-0 (Refuted c.in-Refuted.turn)
    c.in_ok-segments.ensures c.in-Refuted.is f (contracts_of c.args.framed.now) k g.M.Machine.form ground)

pub returns-in-Spent : goal.returns-in-Spent
returns-in-Spent g c =
    let f = frame_at c.args.framed.now c.args.rank in
    let ground = c.requires.ready.unrolled.ground in
    let k = c.args.budget.now.unroll in (
      turn_due f ground.lawful ground.reads k g.M.Machine.form (written_of c.args.start) c.requires.entered c.args.fail c.requires.fail c.args.step
          c.requires.step,
      answered c.args.passive.now.unrolled.now TurnQuestion c.args.budget.now.conflicts c.in_ok-segments.field-0 (Spent c.in-Spent.proof)
          c.in_ok-segments.ensures c.in-Spent.is f (contracts_of c.args.framed.now) k g.M.Machine.form ground,
      λ s. absurd (cc),
    )
