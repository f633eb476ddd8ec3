use Rattle.std.proofs.Common.{refl, ap, ◌∙◌, map, List}
use Rattle.word_spec.specs.Memory.{endian}
use Rattle.word_spec.specs.State.{State}
use Rattle.model_spec.specs.Reads.{line_reads}
use Rattle.notes_value.specs.Reads.{IsReadable}
use Rattle.notes_value.specs.NoteViews.{note_line_of}
use Rattle.notes_value.specs.declared.notes.NoteLine.{NoteLine}
use Rattle.program_value.specs.Programs.{program_of}
use Rattle.table_run.specs.Traces.{early_reads}
use Rattle.table_run.specs.declared.reads.Stage.TheVariants as stage
use Rattle.table_run.proofs.Lists.{unmapped}
use Rattle.table_run.proofs.Reached.{reads_at}
use Rattle.table_run.proofs.reads.places_read.Goals as goal

pub add_line_reads-requires : goal.add_line_reads-requires
add_line_reads-requires g c =
    unmapped (λ l. IsReadable g.M.State.View.has_register l.says) note_line_of c.args.p.now.notes.now.required.items c.deref.result.now c.deref.ensures.value
    c.args.p.now.readable.requires

pub add_line_reads-requires-in-Exit : goal.add_line_reads-requires-in-Exit
add_line_reads-requires-in-Exit g c =
    unmapped (λ l. IsReadable g.M.State.View.has_register l.says) note_line_of c.args.p.now.notes.now.ensured.items c.deref-in-Exit.result.now
    c.deref-in-Exit.ensures.value c.args.p.now.readable.ensures

pub returns-in_ok-add_line_reads-in-Entry : goal.returns-in_ok-add_line_reads-in-Entry
returns-in_ok-add_line_reads-in-Entry g c =
    let now : State = g.M.State.View.view c.args.state.now in
    let entry : State = g.M.State.View.view c.args.entry.now in
    reads_at (program_of c.args.p.now) entry now c.args.stage stage.Entry
    (line_reads (endian c.args.p.now.big) (map note_line_of c.deref.result.now) now entry) c.new-places.result.items c.add_line_reads.new.places.items
    c.in-Entry.is c.new-places.ensures.items c.in_ok-add_line_reads-in-Entry.ensures
    (ap (λ e. line_reads e (map note_line_of c.deref.result.now) now entry) c.args.p.now.big_is
    ∙ ap (λ (ls : List NoteLine). line_reads g.M.Machine.machine.endian (map note_line_of ls) now entry) c.deref.ensures.value)

pub returns-in_ok-add_step_reads-in-Step : goal.returns-in_ok-add_step_reads-in-Step
returns-in_ok-add_step_reads-in-Step g c =
    let p = program_of c.args.p.now in
    let now : State = g.M.State.View.view c.args.state.now in
    let entry : State = g.M.State.View.view c.args.entry.now in
    reads_at p entry now c.args.stage (stage.Step c.in-Step.index) (early_reads p entry now) c.new-places.result.items c.add_step_reads.new.places.items
    c.in-Step.is c.new-places.ensures.items c.in_ok-add_step_reads-in-Step.ensures refl

pub returns-in_ok-add_line_reads-in-Exit : goal.returns-in_ok-add_line_reads-in-Exit
returns-in_ok-add_line_reads-in-Exit g c =
    let now : State = g.M.State.View.view c.args.state.now in
    let entry : State = g.M.State.View.view c.args.entry.now in
    reads_at (program_of c.args.p.now) entry now c.args.stage stage.Exit
    (line_reads (endian c.args.p.now.big) (map note_line_of c.deref-in-Exit.result.now) now entry) c.new-places.result.items
    c.add_line_reads-in-Exit.new.places.items c.in-Exit.is c.new-places.ensures.items c.in_ok-add_line_reads-in-Exit.ensures
    (ap (λ e. line_reads e (map note_line_of c.deref-in-Exit.result.now) now entry) c.args.p.now.big_is
    ∙ ap (λ (ls : List NoteLine). line_reads g.M.Machine.machine.endian (map note_line_of ls) now entry) c.deref-in-Exit.ensures.value)
