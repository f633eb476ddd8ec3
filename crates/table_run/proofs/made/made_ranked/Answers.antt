use Rattle.std.proofs.Common.{◌≡◌, ◌∙◌, List, ap, take, map, refl, sym, subst}
use Rattle.std.specs.Prelude.{slice_get}
use Rattle.std.proofs.lemmas.List.Elements.{All-map, All-take}
use Rattle.word_spec.specs.Memory.{endian}
use Rattle.word_spec.specs.State.{State}
use Rattle.program_value.specs.Programs.{program_of}
use Rattle.bilv_spec.specs.PointLaws.{ReadsMemory}
use Rattle.bilv_spec.specs.Run.{Program}
use Rattle.frame_spec.specs.Frames as frames
use Rattle.notes_value.specs.FrameViews.{contract_of}
use Rattle.notes_value.specs.NoteViews.{notes_of}
use Rattle.notes_value.specs.Reads.{IsReadableContract}
use Rattle.state_text.specs.Starts.{written_call_of}
use Rattle.table_run.specs.FrameEnds.{HasKept}
use Rattle.table_run.specs.CalledFrames.{IsBlock, called_frame, own_of, program_in}
use Rattle.table_run.specs.Spans.{bytes_of}
use Rattle.table_run.specs.CalledRuns.{called_start}
use Rattle.table_run.specs.MadeCalls.{AreListed, shown_in}
use Rattle.table_run.proofs.Ranks.{own_at, own_readable, rows_of_file}
use Rattle.table_run.proofs.ShownLists.{rising_calls}
use Rattle.table_run.proofs.ShownRuns.{is_shown}
use Rattle.table_run.proofs.made.made_ranked.Goals as goal

pub follow-requires-clause-frame : goal.follow-requires-clause-frame
follow-requires-clause-frame g c = record {
  index = c.in_ok-index.ensures;
  stepped = All-take (λ x. IsReadableContract g.M.State.View.has_register (contract_of x)) c.args.frame.now.rank c.args.frame.now.contracts.now
      c.args.frame.now.readable;
  own = own_readable g.M.State.View.has_register c.args.frame.now.contracts.now c.args.frame.now.rank c.deref.result.now c.own.result c.args.frame.now.readable
      c.own.ensures.parts;
}

pub follow-requires-clause-lawful : goal.follow-requires-clause-lawful
follow-requires-clause-lawful g c =
    rows_of_file g.M.Machine.machine c.args.frame.now.program.image.now (notes_of c.args.frame.now.program.notes.now) c.args.frame.now.program.entry g.met.M.Machine.lawful
    c.bytes.ensures

pub follow-requires-clause-kept : goal.follow-requires-clause-kept
follow-requires-clause-kept g c =
    subst (λ (s : State). HasKept (program_of c.args.frame.now.program) s)
    (sym c.in_ok-entry.ensures) c.requires.kept

pub follow-requires-clause-own : goal.follow-requires-clause-own
follow-requires-clause-own g c =
    own_at (endian c.args.frame.now.program.big) g.M.Machine.machine.endian c.args.frame.now.contracts.now c.args.frame.now.rank c.deref.result.now
    (g.M.State.View.view c.in_ok-entry.entry) c.own.result (c.args.frame.now.program.big_is)
    (λ x is. ap bytes_of c.deref.ensures.value ∙ c.in_ok-spans.ensures x is) c.own.ensures.parts

pub returns : goal.returns
returns g c registers changed listed =
    let p : Program = program_of c.args.frame.now.program in
    let stepped : List frames.Contract = map contract_of (take c.args.frame.now.rank c.args.frame.now.contracts.now) in
    let own = slice_get (map contract_of c.args.frame.now.contracts.now) c.args.frame.now.rank in
    let entry : State = g.M.State.View.view c.args.state in
    let calls = map written_call_of c.args.calls.now in
    let k = c.args.limits.turns in
    let count = c.args.limits.steps in
    let choices = c.args.choices.now in
    let memory : ReadsMemory (program_in p own) = record { word = λ s a. refl; little = g.met.M.Machine.lawful.little } in
    let list = map written_call_of c.in_ok-made.made.items in
    let same : own_of c.own.result ≡ own = c.own.ensures.own in
    let here : g.M.State.View.view c.in_ok-entry.entry ≡ entry = c.in_ok-entry.ensures in
    let listed_there : AreListed (called_frame p stepped (own_of c.own.result)) k (called_start (g.M.State.View.view c.in_ok-entry.entry) choices registers calls)
    calls count =
    subst (λ o. AreListed (called_frame p stepped o) k (called_start (g.M.State.View.view c.in_ok-entry.entry) choices registers calls) calls count) (sym same)
    (subst (λ s. AreListed (called_frame p stepped own) k (called_start s choices registers calls) calls count) (sym here) listed) in
    is_shown p stepped own k entry choices registers g.M.Machine.form
    (rows_of_file g.M.Machine.machine c.args.frame.now.program.image.now (notes_of c.args.frame.now.program.notes.now) c.args.frame.now.program.entry g.met.M.Machine.lawful
    c.bytes.ensures)
    memory (g.met.M.Machine.states c.args.state) c.requires.kept calls
    (All-map (IsBlock g.M.Machine.form) written_call_of c.args.calls.now c.requires.blocks) (rising_calls c.args.calls.now c.requires.calls) count listed list
    (subst (λ o. list ≡ shown_in (called_frame p stepped o) k (called_start entry choices registers calls) calls count) same
    (subst (λ s. list ≡ shown_in (called_frame p stepped (own_of c.own.result)) k (called_start s choices registers calls) calls count) here
    (c.in_ok-made.ensures registers changed listed_there)))
