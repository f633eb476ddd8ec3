use Rattle.std.proofs.Common.{List, false, subst, map, get_or, ap}
use Rattle.notes_value.specs.declared.notes.NoteLine.{NoteLine}
use Rattle.notes_value.specs.NoteViews.{note_line_of}
use Rattle.bilv_spec.specs.Notes as notes
use Rattle.bilv_spec.specs.Notes.{Expr}
use Rattle.walk_spec.specs.Unrolling.{IsReadable}
use Rattle.term_names.specs.Views.{form_of}
use Rattle.passify.specs.Situations.{LinesTried, no_line, goes_out_by}
use Rattle.passify.proofs.Lines.{at_map, drop_all, judged_on, tried_none, tried_names, tried_pc}
use Rattle.passify.proofs.exits.judged.Goals as goal

pub denied-requires-clause-reads : goal.denied-requires-clause-reads
denied-requires-clause-reads c =
    subst (λ (q : notes.NoteLine). IsReadable (form_of c.args.next.now.names.now) q.says)
    (at_map note_line_of c.args.lines.now c.loop-i.i (get_or c.args.lines.now c.loop-i.i c.index-lines-i.result) no_line c.loop-i-test.true (ap
    (λ z. get_or c.args.lines.now c.loop-i.i z) c.index-lines-i.is))
    (c.requires.reads c.loop-i.i c.loop-i-test.true)

pub loop-i-preserved : goal.loop-i-preserved
loop-i-preserved c changed =
    let e = c.in_ok-left.ensures in
    judged_on changed c.args.dag.now c.loop-i.dag c.denied.new.dag c.args.sweep.now c.loop-i.sweep c.denied.new.sweep c.args.out.0 c.loop-i.left.0 c.in_ok-left.left.0
    c.args.big c.args.next.now c.args.lines.now c.loop-i.i (get_or c.args.lines.now c.loop-i.i c.index-lines-i.result)
    c.loop-i-test.true (ap (λ z. get_or c.args.lines.now c.loop-i.i z) c.index-lines-i.is) c.requires.well c.requires.next c.requires.pc (c.loop-i.invariant changed)
    e.steps e.bit e.tries e.narrows

pub returns : goal.returns
returns c changed =
    subst (λ (q : List NoteLine). LinesTried c.args.dag.now c.loop-i.dag c.args.sweep.now c.loop-i.sweep c.args.out.0 c.loop-i.left.0 c.args.big c.args.next.now
    (λ S. S.next) (map (λ k. k.says) (map note_line_of c.args.lines.now))
    (map (λ k. k.says) (map note_line_of q)) (goes_out_by changed (map note_line_of c.args.lines.now)) (goes_out_by changed (map note_line_of q)))
    (drop_all c.args.lines.now c.loop-i.i c.loop-i-test.false) (c.loop-i.invariant changed)

pub loop-i-init : goal.loop-i-init
loop-i-init c changed = tried_none c.args.dag.now c.args.sweep.now c.args.out.0 c.args.big c.args.next.now
    (λ S. S.next) (map (λ k. k.says) (map note_line_of c.args.lines.now)) (goes_out_by changed (map note_line_of c.args.lines.now)) c.requires.well c.requires.out

pub denied-requires-clause-now : goal.denied-requires-clause-now
denied-requires-clause-now c = tried_names c.args.dag.now c.loop-i.dag c.args.sweep.now c.loop-i.sweep _ _ _ c.args.next.now _ _ _ _ _ (c.loop-i.invariant (λ S. false))
    c.requires.next

pub denied-requires-clause-pc : goal.denied-requires-clause-pc
denied-requires-clause-pc c = tried_pc c.args.dag.now c.loop-i.dag c.args.sweep.now c.loop-i.sweep _ _ _ c.args.next.now _ _ _ _ _
    (c.loop-i.invariant (λ S. false)) c.requires.pc

pub denied-requires-clause-rest : goal.denied-requires-clause-rest
denied-requires-clause-rest c = (c.loop-i.invariant (λ S. false)).bit

pub denied-requires-clause-well : goal.denied-requires-clause-well
denied-requires-clause-well c = (c.loop-i.invariant (λ S. false)).lines.steps.well
