use Rattle.std.proofs.Common.{◌≡◌, ℕ, Bool, List, subst, sym}
use Rattle.program_value.specs.Programs.{program_of}
use Rattle.call_spec.specs.Calls.{plain_answer}
use Rattle.frame_texts_spec.specs.CallReplays.{call_replay_answer}
use Rattle.frame_texts_spec.specs.FrameReplays.{TellsReturns}
use Rattle.table_run.specs.FrameEnds.{whole_of}
use Rattle.frame_replay.specs.Readings.{is_among}
use Rattle.frame_replay.proofs.Returned.{one_test}
use Rattle.frame_replay.proofs.reports.replay_report.Goals as goal

pub returns-clause-told : goal.returns-clause-told
returns-clause-told g c =
    let p = program_of c.args.program.now in
    (is_among c.in_ok-returns.returns.items, c.in_ok-returns.ensures.returns p c.in_ok-graph.ensures.graph)

pub returns-clause-answer : goal.returns-clause-answer
returns-clause-answer g c = λ returns tells.
    let p = program_of c.args.program.now in
    let w = whole_of (program_of c.args.program.now) c.args.invariants.now in
    let listed = subst (λ (l : List ℕ). TellsReturns p (is_among l)) (sym c.deref.ensures.value)
    (c.in_ok-returns.ensures.returns p c.in_ok-graph.ensures.graph) in
    subst (λ (f : ℕ → Bool). plain_answer c.in_ok-replay.replay.status c.in_ok-replay.replay.text.items
    ≡ call_replay_answer w f g.M.Machine.form c.args.text.now) (one_test p (is_among c.deref.result.now) returns listed tells) c.in_ok-replay.ensures
