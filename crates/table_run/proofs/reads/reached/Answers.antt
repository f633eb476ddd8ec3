use Rattle.std.proofs.Common.{ap, ◌∙◌, map, List}
use Rattle.word_spec.specs.State.{State}
use Rattle.bilv_spec.specs.Run.{false_assert}
use Rattle.notes_value.specs.Reads.{IsReadable}
use Rattle.notes_value.specs.NoteViews.{assert_of}
use Rattle.notes_value.specs.declared.notes.Assert.{Assert}
use Rattle.program_value.specs.Programs.{program_of}
use Rattle.table_run.proofs.Lists.{unmapped}
use Rattle.table_run.proofs.Reached.{reached_none}
use Rattle.table_run.proofs.reads.reached.Goals as goal

pub false_assert-requires-clause-readable : goal.false_assert-requires-clause-readable
false_assert-requires-clause-readable g c =
    unmapped (λ l. IsReadable g.M.State.View.has_register l.says) assert_of c.args.p.now.notes.now.asserts.items c.deref.result.now c.deref.ensures.value
    c.args.p.now.readable.asserts

pub returns-in-Some : goal.returns-in-Some
returns-in-Some g c =
    let p = program_of c.args.p.now in
    let now : State = g.M.State.View.view c.args.state.now in
    let entry : State = g.M.State.View.view c.args.entry.now in
    reached_none p entry now c.false_assert.result
    (c.false_assert.ensures ∙ ap (λ e. false_assert e (map assert_of c.deref.result.now) now entry) c.args.p.now.big_is
    ∙ ap (λ (ls : List Assert). false_assert g.M.Machine.machine.endian (map assert_of ls) now entry) c.deref.ensures.value) _ c.in-Some.is
