use Rattle.std.proofs.Common.{◌≡◌, ◌+◌, ◌-◌, ◌∙◌, map, ap, arith}
use Rattle.bilv_spec.specs.Reports.{turns_within}
use Rattle.frame_texts_spec.specs.CallReplays.{has_called}
use Rattle.start_value.specs.Starts.{written_of}
use Rattle.state_text.specs.Starts.{written_call_of}
use Rattle.table_run.specs.CalledRuns.{frame_of_rank, start_called, whole_in}
use Rattle.table_run.proofs.Ranks.{blocks_are, loaded_by, start_kept}
use Rattle.table_run.proofs.WholeRuns.{whole_run}
use Rattle.table_run.proofs.called.run_called.Goals as goal

pub run_ranked-requires-clause-kept : goal.run_ranked-requires-clause-kept
run_ranked-requires-clause-kept g c =
    start_kept (whole_in c.args.frame.now).program (frame_of_rank c.args.frame.now).program g.M.Machine.form
    (written_of c.args.start.now) (g.M.State.View.view c.in_ok-state.state) (loaded_by (whole_in c.args.frame.now) c.args.frame.now.rank)
    (c.in_ok-state.ensures (map written_call_of c.args.calls.now))

pub run_ranked-requires-clause-blocks : goal.run_ranked-requires-clause-blocks
run_ranked-requires-clause-blocks g c = blocks_are (whole_in c.args.frame.now) g.M.Machine.form c.args.calls.now c.requires.blocks

pub returns : goal.returns
returns g c =
    let some = c.requires.some in
    let full : c.args.limit - 1 + 1 ≡ c.args.limit = omega (arith, some) in
    let r = whole_run g.M.Machine.form c.args.frame.now (g.M.State.View.view c.in_ok-state.state) (written_of c.args.start.now)
    c.deref.result.now (map written_call_of c.args.calls.now) c.turns_within.result (turns_within (c.args.limit - 1) c.args.k)
    (c.args.limit - 1) c.in_ok-found.found.0
    c.args.frame.now.ranked (c.in_ok-state.ensures (map written_call_of c.args.calls.now)) c.deref.ensures.value c.turns_within.ensures c.in_ok-found.ensures.run in
    record {
      cause = r.cause;
      found = r.found;
      called = λ none. r.called none ∙ ap (has_called (frame_of_rank c.args.frame.now) (turns_within (c.args.limit - 1) c.args.k)
          (start_called g.M.Machine.form c.args.frame.now (written_of c.args.start.now) (map written_call_of c.args.calls.now))) full;
    }
