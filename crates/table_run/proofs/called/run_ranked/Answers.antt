use Rattle.std.proofs.Common.{◌∙◌, ◌-◌, ap, take, map, sym, subst}
use Rattle.std.proofs.lemmas.List.Elements.{All-take}
use Rattle.word_spec.specs.Memory.{endian}
use Rattle.word_spec.specs.State.{State}
use Rattle.program_value.specs.Programs.{program_of}
use Rattle.notes_value.specs.FrameViews.{contract_of}
use Rattle.notes_value.specs.NoteViews.{notes_of}
use Rattle.notes_value.specs.Reads.{IsReadableContract}
use Rattle.state_text.specs.Starts.{written_call_of}
use Rattle.table_run.specs.FrameEnds.{HasKept}
use Rattle.table_run.specs.CalledFrames.{called_frame, own_of}
use Rattle.table_run.specs.Spans.{bytes_of}
use Rattle.table_run.specs.CalledRuns.{IsRun, called_start}
use Rattle.table_run.specs.WatchedRuns.{IsWatched}
use Rattle.table_run.proofs.Ranks.{own_at, own_readable, rows_of_file}
use Rattle.table_run.proofs.called.run_ranked.Goals as goal

pub follow-requires-clause-frame : goal.follow-requires-clause-frame
follow-requires-clause-frame g c = record {
  index = c.in_ok-index.ensures;
  stepped = All-take (λ x. IsReadableContract g.M.State.View.has_register (contract_of x)) c.args.frame.now.rank c.args.frame.now.contracts.now
      c.args.frame.now.readable;
  own = own_readable g.M.State.View.has_register c.args.frame.now.contracts.now c.args.frame.now.rank c.deref.result.now c.own.result c.args.frame.now.readable
      c.own.ensures.parts;
}

pub follow-requires-clause-lawful : goal.follow-requires-clause-lawful
follow-requires-clause-lawful g c =
    rows_of_file g.M.Machine.machine c.args.frame.now.program.image.now (notes_of c.args.frame.now.program.notes.now) c.args.frame.now.program.entry g.met.M.Machine.lawful
    c.bytes.ensures

pub follow-requires-clause-kept : goal.follow-requires-clause-kept
follow-requires-clause-kept g c =
    subst (λ (s : State). HasKept (program_of c.args.frame.now.program) s)
    (sym c.in_ok-entry.ensures) c.requires.kept

pub follow-requires-clause-own : goal.follow-requires-clause-own
follow-requires-clause-own g c =
    own_at (endian c.args.frame.now.program.big) g.M.Machine.machine.endian c.args.frame.now.contracts.now c.args.frame.now.rank c.deref.result.now
    (g.M.State.View.view c.in_ok-entry.entry) c.own.result (c.args.frame.now.program.big_is)
    (λ x is. ap bytes_of c.deref.ensures.value ∙ c.in_ok-spans.ensures x is) c.own.ensures.parts

pub returns-clause-run : goal.returns-clause-run
returns-clause-run g c registers changed =
    let p = program_of c.args.frame.now.program in
    let stepped = map contract_of (take c.args.frame.now.rank c.args.frame.now.contracts.now) in
    let calls = map written_call_of c.args.calls.now in
    let last = c.args.limits.steps - 1 in
    subst (λ o. IsRun (called_frame p stepped o) c.args.limits.turns (called_start
    (g.M.State.View.view c.args.state) c.args.choices.now registers calls) calls last
    c.in_ok-run.run'.0) c.own.ensures.own
    (subst (λ (s : State). IsRun (called_frame p stepped (own_of c.own.result)) c.args.limits.turns
    (called_start s c.args.choices.now registers calls) calls last
    c.in_ok-run.run'.0) c.in_ok-entry.ensures (c.in_ok-run.ensures.run registers changed))

pub returns-clause-seen : goal.returns-clause-seen
returns-clause-seen g c registers changed fresh =
    let p = program_of c.args.frame.now.program in
    let stepped = map contract_of (take c.args.frame.now.rank c.args.frame.now.contracts.now) in
    let calls = map written_call_of c.args.calls.now in
    let end = c.in_ok-run.run'.0.ending in
    let new = g.M.State.View.view c.in_ok-run.run'.1 in
    subst (λ o. IsWatched (called_frame p stepped o) g.M.Machine.form c.args.limits.turns (called_start
    (g.M.State.View.view c.args.state) c.args.choices.now registers calls) c.args.limits.steps end c.follow.new.seen new) c.own.ensures.own
    (subst (λ (s : State). IsWatched (called_frame p stepped (own_of c.own.result)) g.M.Machine.form c.args.limits.turns
    (called_start s c.args.choices.now registers calls) c.args.limits.steps end c.follow.new.seen new) c.in_ok-entry.ensures
    (c.in_ok-run.ensures.seen registers changed fresh))
