use Rattle.std.proofs.Common.{◌+◌, List, refl, ap, subst, drop, get_or, map}
use Rattle.std.proofs.lemmas.List.Elements.{Contains-get_or}
use Rattle.frame_spec.specs.FramePoints.{says_of}
use Rattle.notes_value.specs.declared.notes.NoteLine.{NoteLine}
use Rattle.notes_value.specs.NoteViews.{note_line_of}
use Rattle.term_dag.proofs.Growth.{grew_width}
use Rattle.passify.specs.Calls.{NeedsTried, goes_needs}
use Rattle.passify.proofs.Kept.{names_keep, well_keeps}
use Rattle.passify.proofs.Lines.{drop_all, drop_here, tried_none}
use Rattle.passify.proofs.Needed.{need_tried}
use Rattle.passify.proofs.calls.needs.Goals as goal

pub loop-i-init : goal.loop-i-init
loop-i-init c =
    tried_none c.args.dag.now c.args.sweep.now c.args.rest.0 c.args.big c.args.now.now (λ S. S.now) (says_of (map note_line_of c.args.lines.now))
    (goes_needs (map note_line_of c.args.lines.now)) c.requires.well c.requires.rest

pub line-requires-clause-reads : goal.line-requires-clause-reads
line-requires-clause-reads c =
    c.requires.reads (get_or c.args.lines.now c.loop-i.i c.index-lines-i.result)
    (Contains-get_or c.args.lines.now c.loop-i.i c.index-lines-i.result c.loop-i-test.true)

pub line-requires-clause-same : goal.line-requires-clause-same
line-requires-clause-same c = record { first = refl; registers = refl; flags = refl }

pub line-requires-clause-now : goal.line-requires-clause-now
line-requires-clause-now c = names_keep c.loop-i.invariant.lines.steps.grew c.args.now.now.names.now c.requires.now.names

pub line-requires-clause-entry : goal.line-requires-clause-entry
line-requires-clause-entry c = names_keep c.loop-i.invariant.lines.steps.grew c.args.now.now.names.now c.requires.now.names

pub line-requires-clause-pc : goal.line-requires-clause-pc
line-requires-clause-pc c = grew_width c.args.dag.now c.loop-i.dag _ _ _ _ _ 32 c.args.now.now.pc.0 c.loop-i.invariant.lines.steps.grew c.requires.pc

pub line-requires-clause-entry_pc : goal.line-requires-clause-entry_pc
line-requires-clause-entry_pc c = grew_width c.args.dag.now c.loop-i.dag _ _ _ _ _ 32 c.args.now.now.pc.0 c.loop-i.invariant.lines.steps.grew c.requires.pc

pub unless-requires-clause-well : goal.unless-requires-clause-well
unless-requires-clause-well c = well_keeps c.in_ok-bit.ensures.grew c.loop-i.sweep c.nodes-typed.ensures.typed c.loop-i.invariant.lines.steps.well

pub unless-requires-clause-rest : goal.unless-requires-clause-rest
unless-requires-clause-rest c = grew_width c.loop-i.dag c.line.new.dag _ _ _ _ _ 1 c.loop-i.left.0 c.in_ok-bit.ensures.grew c.loop-i.invariant.bit

pub loop-i-preserved : goal.loop-i-preserved
loop-i-preserved c =
    let l = get_or c.args.lines.now c.loop-i.i c.index-lines-i.result in
    let e = c.in_ok-left.ensures in
    need_tried c.args.dag.now c.loop-i.dag c.line.new.dag c.unless.new.dag c.args.sweep.now c.loop-i.sweep c.unless.new.sweep c.args.rest.0 c.loop-i.left.0
    c.in_ok-left.left.0 c.args.big c.args.now.now (map note_line_of c.args.lines.now) (map note_line_of (drop (c.loop-i.i + 1) c.args.lines.now))
    (note_line_of l) c.in_ok-bit.bit.0 c.loop-i.invariant.lines.steps.well c.loop-i.invariant.bit
    (record { names = c.requires.now.names; pc = c.requires.pc })
    (subst (λ (q : List NoteLine). NeedsTried c.args.dag.now c.loop-i.dag c.args.sweep.now c.loop-i.sweep c.args.rest.0 c.loop-i.left.0 c.args.big
    c.args.now.now (map note_line_of c.args.lines.now) (map note_line_of q))
    (drop_here c.args.lines.now c.loop-i.i l c.loop-i-test.true (ap (λ z. get_or c.args.lines.now c.loop-i.i z) c.index-lines-i.is)) c.loop-i.invariant)
    c.in_ok-bit.ensures e.steps e.bit e.tries e.narrows

pub returns : goal.returns
returns c =
    subst (λ (q : List NoteLine). NeedsTried c.args.dag.now c.loop-i.dag c.args.sweep.now c.loop-i.sweep c.args.rest.0 c.loop-i.left.0 c.args.big
    c.args.now.now (map note_line_of c.args.lines.now) (map note_line_of q)) (drop_all c.args.lines.now c.loop-i.i c.loop-i-test.false) c.loop-i.invariant
