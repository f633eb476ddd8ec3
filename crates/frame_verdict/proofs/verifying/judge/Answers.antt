use Rattle.frame_spec.specs.FrameQuestions.{EntryQuestion, FailQuestion}
use Rattle.start_value.specs.Starts.{written_of}
use Rattle.frame_rounds.specs.declared.answers.FrameAnswered.TheVariants.{Sat, Refuted, Spent}
use Rattle.frame_verdict.specs.FrameFunctions.{contracts_of, frame_at}
use Rattle.frame_verdict.proofs.Judging.{answered, fail_due, vacuous}
use Rattle.frame_verdict.proofs.verifying.judge.Goals as goal

pub returns-in-Refuted : goal.returns-in-Refuted
returns-in-Refuted g c =
    let f = frame_at c.args.framed.now c.args.rank in
    let ground = c.requires.ready.unrolled.ground in
    vacuous f ground.lawful ground.reads c.args.budget.now.unroll g.M.Machine.form c.in-Refuted.proof
    (answered c.args.passive.now.unrolled.now EntryQuestion c.args.budget.now.conflicts c.in_ok-segments.field-0 (Refuted c.in-Refuted.proof)
    c.in_ok-segments.ensures c.in-Refuted.is f (contracts_of c.args.framed.now) c.args.budget.now.unroll g.M.Machine.form ground)

pub returns-in-Spent : goal.returns-in-Spent
returns-in-Spent g c = (
  tt,
  answered c.args.passive.now.unrolled.now EntryQuestion c.args.budget.now.conflicts c.in_ok-segments.field-0 (Spent c.in-Spent.proof)
      c.in_ok-segments.ensures c.in-Spent.is (frame_at c.args.framed.now c.args.rank) (contracts_of c.args.framed.now)
      c.args.budget.now.unroll g.M.Machine.form c.requires.ready.unrolled.ground,
  λ s. absurd (cc),
)

pub shows-requires-clause-segments : goal.shows-requires-clause-segments
shows-requires-clause-segments g c =
    answered c.args.passive.now.unrolled.now FailQuestion c.args.budget.now.conflicts c.in_ok-segments-2.field-0 (Sat c.in-Sat-2.segments)
    c.in_ok-segments-2.ensures c.in-Sat-2.is (frame_at c.args.framed.now c.args.rank) (contracts_of c.args.framed.now)
    c.args.budget.now.unroll g.M.Machine.form c.requires.ready.unrolled.ground

pub shows-requires-clause-due : goal.shows-requires-clause-due
shows-requires-clause-due g c =
    let f = frame_at c.args.framed.now c.args.rank in
    let ground = c.requires.ready.unrolled.ground in
    fail_due f ground.lawful ground.reads c.args.budget.now.unroll g.M.Machine.form (written_of c.in-Sat.segments.parts.entry)
    (answered c.args.passive.now.unrolled.now EntryQuestion c.args.budget.now.conflicts c.in_ok-segments.field-0 (Sat c.in-Sat.segments)
    c.in_ok-segments.ensures c.in-Sat.is f (contracts_of c.args.framed.now) c.args.budget.now.unroll g.M.Machine.form ground).shows

pub judge_heads-requires-clause-entered : goal.judge_heads-requires-clause-entered
judge_heads-requires-clause-entered g c =
    (answered c.args.passive.now.unrolled.now EntryQuestion c.args.budget.now.conflicts c.in_ok-segments.field-0 (Sat c.in-Sat.segments)
    c.in_ok-segments.ensures c.in-Sat.is (frame_at c.args.framed.now c.args.rank) (contracts_of c.args.framed.now)
    c.args.budget.now.unroll g.M.Machine.form c.requires.ready.unrolled.ground).shows

pub judge_heads-requires-clause-fail : goal.judge_heads-requires-clause-fail
judge_heads-requires-clause-fail g c =
    answered c.args.passive.now.unrolled.now FailQuestion c.args.budget.now.conflicts c.in_ok-segments-2.field-0 (Refuted c.in-Refuted-2.fail)
    c.in_ok-segments-2.ensures c.in-Refuted-2.is (frame_at c.args.framed.now c.args.rank) (contracts_of c.args.framed.now)
    c.args.budget.now.unroll g.M.Machine.form c.requires.ready.unrolled.ground

pub returns-in-Spent-2 : goal.returns-in-Spent-2
returns-in-Spent-2 g c =
    let f = frame_at c.args.framed.now c.args.rank in
    let ground = c.requires.ready.unrolled.ground in (
      fail_due f ground.lawful ground.reads c.args.budget.now.unroll g.M.Machine.form (written_of c.in-Sat.segments.parts.entry)
          (answered c.args.passive.now.unrolled.now EntryQuestion c.args.budget.now.conflicts c.in_ok-segments.field-0 (Sat c.in-Sat.segments)
          c.in_ok-segments.ensures c.in-Sat.is f (contracts_of c.args.framed.now) c.args.budget.now.unroll g.M.Machine.form ground).shows,
      answered c.args.passive.now.unrolled.now FailQuestion c.args.budget.now.conflicts c.in_ok-segments-2.field-0 (Spent c.in-Spent-2.proof)
          c.in_ok-segments-2.ensures c.in-Spent-2.is f (contracts_of c.args.framed.now) c.args.budget.now.unroll g.M.Machine.form ground,
      λ s. absurd (cc),
    )
