use Rattle.std.proofs.Common.{List, refl, map, arith}
use Rattle.word_spec.specs.Memory.{endian}
use Rattle.word_spec.specs.State.{State}
use Rattle.bilv_spec.specs.Notes.{value, is_true}
use Rattle.model_spec.specs.Reads.{expression_reads, line_reads}
use Rattle.notes_value.specs.Views.{expr_of}
use Rattle.notes_value.specs.NoteViews.{note_line_of}
use Rattle.notes_value.specs.declared.notes.NoteLine.{NoteLine}
use Rattle.table_run.proofs.AssertGroups.{line_true, line_false, goes_on, stops_there}
use Rattle.table_run.proofs.reads.add_line_reads.Goals as goal

pub loop-line-preserved : goal.loop-line-preserved
loop-line-preserved g c =
    let e = endian c.args.big in
    let now : State = g.V.View.view c.args.now.now in
    let entry : State = g.V.View.view c.args.entry.now in
    line_true (λ (l : NoteLine). expression_reads e (expr_of l.says) now entry) (λ (l : NoteLine). is_true (value e (expr_of l.says) now entry))
    (λ (ls : List NoteLine). line_reads e (map note_line_of ls) now entry) (λ x xs. refl) c.args.lines.now c.loop-line.line-index c.line-item.result
    c.loop-line.places.items c.add_reads.new.places.items _ (omega arith) c.line-item.is c.in_ok-add_reads.ensures
    (goes_on _ _ c.value.ensures c.if-value-eq0.false) c.loop-line.invariant

pub returns-then-value-eq0 : goal.returns-then-value-eq0
returns-then-value-eq0 g c =
    let e = endian c.args.big in
    let now : State = g.V.View.view c.args.now.now in
    let entry : State = g.V.View.view c.args.entry.now in
    line_false (λ (l : NoteLine). expression_reads e (expr_of l.says) now entry) (λ (l : NoteLine). is_true (value e (expr_of l.says) now entry))
    (λ (ls : List NoteLine). line_reads e (map note_line_of ls) now entry) (λ x xs. refl) c.args.lines.now c.loop-line.line-index c.line-item.result
    c.loop-line.places.items c.add_reads.new.places.items _ (omega arith) c.line-item.is c.in_ok-add_reads.ensures
    (stops_there _ _ c.value.ensures c.if-value-eq0.true) c.loop-line.invariant
