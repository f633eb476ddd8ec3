use Rattle.std.proofs.Common.{◌∙◌, length}
use Rattle.call_spec.specs.Calls.{EntryQuestion, FailQuestion, TurnQuestion}
use Rattle.question_form.specs.Views.{unrolled_of}
use Rattle.start_value.specs.Starts.{written_of}
use Rattle.term_dag.specs.Readings.{reading_of}
use Rattle.program_value.specs.Programs.{program_of}
use Rattle.model_verdict.proofs.Findings.{fits, run_by, start_by}
use Rattle.model_verdict.proofs.accepting.accept.Goals as goal

-- ---- entry states

pub entered-requires-clause-fit : goal.entered-requires-clause-fit
entered-requires-clause-fit g c =
    let u = unrolled_of c.args.passive.now.unrolled.now in
    fits (program_of c.args.program.now) c.args.budget.now.unroll g.M.Machine.form EntryQuestion u c.requires.ground
    c.args.model.now (length u.points) c.requires.sound (written_of c.in_ok-start-in-Entry.start) c.in_ok-start-in-Entry.ensures.model

pub entered-requires-clause-none : goal.entered-requires-clause-none
entered-requires-clause-none g c = c.in_ok-start-in-Entry.ensures.choices ∙ c.new.ensures.items

pub returns-in_ok-judged-in-Entry : goal.returns-in_ok-judged-in-Entry
returns-in_ok-judged-in-Entry g c =
    let p = program_of c.args.program.now in
    let k = c.args.budget.now.unroll in
    let u = unrolled_of c.args.passive.now.unrolled.now in
    rw c.in-Entry.is (λ r truly. c.in_ok-judged-in-Entry.ensures k r (start_by p k g.M.Machine.form EntryQuestion u c.requires.ground c.args.model.now
    (length u.points) c.requires.sound (written_of c.in_ok-start-in-Entry.start) c.in_ok-start-in-Entry.ensures.model (reading_of c.args.reading.now) r truly))

-- ---- events

pub failed-requires-clause-fit : goal.failed-requires-clause-fit
failed-requires-clause-fit g c =
    let u = unrolled_of c.args.passive.now.unrolled.now in
    fits (program_of c.args.program.now) c.args.budget.now.unroll g.M.Machine.form FailQuestion u c.requires.ground
    c.args.model.now (length u.points) c.requires.sound (written_of c.in_ok-start-in-Fail.start) c.in_ok-start-in-Fail.ensures.state

pub failed-requires-clause-choices : goal.failed-requires-clause-choices
failed-requires-clause-choices g c =
    let p = program_of c.args.program.now in
    let some = rw c.in-Fail.is at c.requires.some in
    (c.in_ok-start-in-Fail.ensures.choices p c.args.budget.now.unroll g.M.Machine.form FailQuestion some.0 c.requires.ground some.1.stands some.1.is_true).rise

pub failed-requires-clause-some : goal.failed-requires-clause-some
failed-requires-clause-some g c =
    let p = program_of c.args.program.now in
    let k = c.args.budget.now.unroll in
    let u = unrolled_of c.args.passive.now.unrolled.now in
    let some = rw c.in-Fail.is at c.requires.some in (
      some.0,
      run_by p k g.M.Machine.form FailQuestion u c.requires.ground c.args.model.now (length u.points) c.requires.sound
          (written_of c.in_ok-start-in-Fail.start) c.in_ok-start-in-Fail.ensures.state (reading_of c.args.reading.now) some.0 some.1 c.args.budget.now.points
          c.requires.points (c.in_ok-start-in-Fail.ensures.choices p k g.M.Machine.form FailQuestion some.0 c.requires.ground some.1.stands some.1.is_true),
    )

pub returns-in_ok-judged-in-Fail : goal.returns-in_ok-judged-in-Fail
returns-in_ok-judged-in-Fail g c =
    let p = program_of c.args.program.now in
    let k = c.args.budget.now.unroll in
    let u = unrolled_of c.args.passive.now.unrolled.now in
    rw c.in-Fail.is (λ r truly. c.in_ok-judged-in-Fail.ensures r (run_by p k g.M.Machine.form FailQuestion u c.requires.ground c.args.model.now
    (length u.points) c.requires.sound (written_of c.in_ok-start-in-Fail.start) c.in_ok-start-in-Fail.ensures.state (reading_of c.args.reading.now) r truly
    c.args.budget.now.points c.requires.points
    (c.in_ok-start-in-Fail.ensures.choices p k g.M.Machine.form FailQuestion r c.requires.ground truly.stands truly.is_true)))

-- ---- backward transfers

pub turned-requires-clause-fit : goal.turned-requires-clause-fit
turned-requires-clause-fit g c =
    let u = unrolled_of c.args.passive.now.unrolled.now in
    fits (program_of c.args.program.now) c.args.budget.now.unroll g.M.Machine.form TurnQuestion u c.requires.ground
    c.args.model.now (length u.points) c.requires.sound (written_of c.in_ok-start-in-Turn.start) c.in_ok-start-in-Turn.ensures.state

pub turned-requires-clause-choices : goal.turned-requires-clause-choices
turned-requires-clause-choices g c =
    let p = program_of c.args.program.now in
    let some = rw c.in-Turn.is at c.requires.some in
    (c.in_ok-start-in-Turn.ensures.choices p c.args.budget.now.unroll g.M.Machine.form TurnQuestion some.0 c.requires.ground some.1.stands some.1.is_true).rise

pub turned-requires-clause-some : goal.turned-requires-clause-some
turned-requires-clause-some g c =
    let p = program_of c.args.program.now in
    let k = c.args.budget.now.unroll in
    let u = unrolled_of c.args.passive.now.unrolled.now in
    let some = rw c.in-Turn.is at c.requires.some in (
      some.0,
      run_by p k g.M.Machine.form TurnQuestion u c.requires.ground c.args.model.now (length u.points) c.requires.sound
          (written_of c.in_ok-start-in-Turn.start) c.in_ok-start-in-Turn.ensures.state (reading_of c.args.reading.now) some.0 some.1 c.args.budget.now.points
          c.requires.points (c.in_ok-start-in-Turn.ensures.choices p k g.M.Machine.form TurnQuestion some.0 c.requires.ground some.1.stands some.1.is_true),
    )

pub returns-in_ok-judged-in-Turn : goal.returns-in_ok-judged-in-Turn
returns-in_ok-judged-in-Turn g c =
    let p = program_of c.args.program.now in
    let k = c.args.budget.now.unroll in
    let u = unrolled_of c.args.passive.now.unrolled.now in
    rw c.in-Turn.is (λ r truly. c.in_ok-judged-in-Turn.ensures r (run_by p k g.M.Machine.form TurnQuestion u c.requires.ground c.args.model.now
    (length u.points) c.requires.sound (written_of c.in_ok-start-in-Turn.start) c.in_ok-start-in-Turn.ensures.state (reading_of c.args.reading.now) r truly
    c.args.budget.now.points c.requires.points
    (c.in_ok-start-in-Turn.ensures.choices p k g.M.Machine.form TurnQuestion r c.requires.ground truly.stands truly.is_true)))
