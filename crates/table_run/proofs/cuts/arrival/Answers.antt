use Rattle.std.proofs.Common.{List, map, ap, ◌∙◌}
use Rattle.word_spec.specs.Memory.{Endian}
use Rattle.word_spec.specs.State.{State}
use Rattle.bilv_spec.specs.Run.{Program, false_assert}
use Rattle.notes_value.specs.Reads.{IsReadable}
use Rattle.notes_value.specs.NoteViews.{assert_of, notes_of}
use Rattle.notes_value.specs.declared.notes.Assert.{Assert}
use Rattle.program_value.specs.Programs.{program_of}
use Rattle.state_text.specs.Starts.{frame_event_of}
use Rattle.table_run.specs.FrameEnds.{frame_of}
use Rattle.table_run.proofs.Lists.{unmapped}
use Rattle.table_run.proofs.FrameFounds.{arrival_fails}
use Rattle.table_run.proofs.cuts.arrival.Goals as goal

pub false_assert-requires-clause-readable : goal.false_assert-requires-clause-readable
false_assert-requires-clause-readable g c =
    unmapped (λ l. IsReadable g.M.State.View.has_register l.says) assert_of c.args.p.now.notes.now.asserts.items c.deref.result.now c.deref.ensures.value
    c.args.p.now.readable.asserts

pub returns-in-Some-clause-found : goal.returns-in-Some-clause-found
returns-in-Some-clause-found g c before =
    let p : Program = program_of c.args.p.now in
    let now : State = g.M.State.View.view c.args.state.now in
    let entry : State = g.M.State.View.view c.args.entry.now in
    arrival_fails (frame_of p c.args.invariants.now) before (frame_event_of c.frame_event.result) c.in-Some.line c.args.step c.pc-at.result now.pc
    (false_assert g.M.Machine.machine.endian (notes_of c.args.p.now.notes.now).asserts now entry) (c.frame_event.ensures p) c.pc-at.ensures
    (c.in-Some.ensures ∙ ap (λ (e : Endian). false_assert e (map assert_of c.deref.result.now) now entry) c.args.p.now.big_is
    ∙ ap (λ (xs : List Assert). false_assert g.M.Machine.machine.endian (map assert_of xs) now entry) c.deref.ensures.value)
