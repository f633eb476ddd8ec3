use Rattle.std.proofs.Common.{ap, ◌∙◌, map, List, ◌++◌}
use Rattle.notes_value.specs.Reads.{IsReadable}
use Rattle.word_spec.specs.State.{State}
use Rattle.std.specs.Option.{option_map}
use Rattle.machine_spec.specs.Machine.{Row, addresses}
use Rattle.model_spec.specs.Reads.{assert_reads}
use Rattle.program_value.specs.Programs.{program_of}
use Rattle.table_run.proofs.Reached.{early_none, early_some}
use Rattle.notes_value.specs.declared.notes.Assert.{Assert}
use Rattle.notes_value.specs.NoteViews.{assert_of}
use Rattle.table_run.proofs.Lists.{unmapped}
use Rattle.table_run.proofs.reads.add_step_reads.Goals as goal

pub add_assert_reads-requires-clause-readable : goal.add_assert_reads-requires-clause-readable
add_assert_reads-requires-clause-readable g c =
    unmapped (λ l. IsReadable g.M.State.View.has_register l.says) assert_of c.args.p.now.notes.now.asserts.items c.deref.result.now c.deref.ensures.value
    c.args.p.now.readable.asserts

pub returns-in-None : goal.returns-in-None
returns-in-None g c =
    let now : State = g.M.State.View.view c.args.state.now in
    let entry : State = g.M.State.View.view c.args.entry.now in
    early_none (program_of c.args.p.now) entry now (option_map g.M.Machine.row c.reached.result) c.args.places.now.items
    c.add_assert_reads.new.places.items c.reached.ensures (ap (option_map g.M.Machine.row) c.in-None.is)
    (c.in_ok-add_assert_reads.ensures
    ∙ ap (λ e. c.args.places.now.items ++ assert_reads e (map assert_of c.deref.result.now) now entry) c.args.p.now.big_is
    ∙ ap (λ (ls : List Assert). c.args.places.now.items ++ assert_reads g.M.Machine.machine.endian (map assert_of ls) now entry) c.deref.ensures.value)

pub returns-in_ok-add_bytes-in-Some : goal.returns-in_ok-add_bytes-in-Some
returns-in_ok-add_bytes-in-Some g c =
    let now : State = g.M.State.View.view c.args.state.now in
    let entry : State = g.M.State.View.view c.args.entry.now in
    let row : Row = g.M.Machine.row c.in-Some.insn in
    early_some (program_of c.args.p.now) entry now (option_map g.M.Machine.row c.reached.result) row c.args.places.now.items
    c.add_assert_reads.new.places.items c.add_bytes.new.places.items c.reached.ensures (ap (option_map g.M.Machine.row) c.in-Some.is)
    (c.in_ok-add_assert_reads.ensures
    ∙ ap (λ e. c.args.places.now.items ++ assert_reads e (map assert_of c.deref.result.now) now entry) c.args.p.now.big_is
    ∙ ap (λ (ls : List Assert). c.args.places.now.items ++ assert_reads g.M.Machine.machine.endian (map assert_of ls) now entry) c.deref.ensures.value)
    (c.in_ok-add_bytes-in-Some.ensures ∙ ap (λ z. c.add_assert_reads.new.places.items ++ addresses z) c.loaded.ensures)
