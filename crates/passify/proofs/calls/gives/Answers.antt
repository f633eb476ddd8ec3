use Rattle.std.proofs.Common.{List, ap, sym, subst, get_or, map, take}
use Rattle.std.proofs.lemmas.List.Elements.{Contains-get_or}
use Rattle.bilv_spec.specs.Notes as notes
use Rattle.notes_value.specs.declared.notes.NoteLine.{NoteLine}
use Rattle.notes_value.specs.NoteViews.{note_line_of}
use Rattle.term_dag.proofs.Growth.{grew_width}
use Rattle.passify.specs.Calls.{AreGiven}
use Rattle.passify.proofs.Kept.{names_keep}
use Rattle.passify.proofs.Lines.{map_more}
use Rattle.passify.proofs.Needed.{given_more, given_none}
use Rattle.passify.proofs.Planted.{take_whole}
use Rattle.passify.proofs.Tried.{typed_before}
use Rattle.passify.proofs.calls.gives.Goals as goal

pub loop-i-init : goal.loop-i-init
loop-i-init c = given_none c.args.dag.now c.args.rest.0 c.args.big c.args.next.now c.args.now.now c.nodes-typed.ensures.typed c.requires.rest

pub line-requires-clause-reads : goal.line-requires-clause-reads
line-requires-clause-reads c =
    c.requires.reads (get_or c.args.lines.now c.loop-i.i c.index-lines-i.result)
    (Contains-get_or c.args.lines.now c.loop-i.i c.index-lines-i.result c.loop-i-test.true)

pub line-requires-clause-now : goal.line-requires-clause-now
line-requires-clause-now c = names_keep c.loop-i.invariant.grew c.args.next.now.names.now c.requires.next.names

pub line-requires-clause-entry : goal.line-requires-clause-entry
line-requires-clause-entry c = names_keep c.loop-i.invariant.grew c.args.now.now.names.now c.requires.now.names

pub line-requires-clause-pc : goal.line-requires-clause-pc
line-requires-clause-pc c = grew_width c.args.dag.now c.loop-i.dag _ _ _ _ _ 32 c.args.next.now.pc.0 c.loop-i.invariant.grew c.requires.next.pc

pub line-requires-clause-entry_pc : goal.line-requires-clause-entry_pc
line-requires-clause-entry_pc c = grew_width c.args.dag.now c.loop-i.dag _ _ _ _ _ 32 c.args.now.now.pc.0 c.loop-i.invariant.grew c.requires.now.pc

pub both-requires-clause-left : goal.both-requires-clause-left
both-requires-clause-left c = grew_width c.loop-i.dag c.line.new.dag _ _ _ _ _ 1 c.loop-i.left.0 c.in_ok-bit.ensures.grew c.loop-i.invariant.bit

pub loop-i-preserved : goal.loop-i-preserved
loop-i-preserved c =
    let l = get_or c.args.lines.now c.loop-i.i c.index-lines-i.result in
    let b = c.in_ok-left.ensures in
    subst (λ (q : List notes.NoteLine). AreGiven c.args.dag.now c.both.new.dag c.args.rest.0 c.in_ok-left.left.0 c.args.big c.args.next.now c.args.now.now q)
    (sym (map_more note_line_of c.args.lines.now c.loop-i.i l c.loop-i-test.true (ap (λ z. get_or c.args.lines.now c.loop-i.i z) c.index-lines-i.is)))
    (given_more c.args.dag.now c.loop-i.dag c.line.new.dag c.both.new.dag c.args.rest.0 c.loop-i.left.0 c.in_ok-bit.bit.0 c.in_ok-left.left.0 c.args.big
    c.args.next.now c.args.now.now (map note_line_of (take c.loop-i.i c.args.lines.now)) (note_line_of l) c.requires.next c.requires.now c.loop-i.invariant
    (typed_before c.line.new.dag c.both.new.dag b.grew.extends b.typed) c.in_ok-bit.ensures b)

pub returns : goal.returns
returns c =
    subst (λ (q : List NoteLine). AreGiven c.args.dag.now c.loop-i.dag c.args.rest.0 c.loop-i.left.0 c.args.big c.args.next.now c.args.now.now
    (map note_line_of q)) (take_whole c.args.lines.now c.loop-i.i c.loop-i-test.false) c.loop-i.invariant
