use Rattle.std.proofs.Common.{◌∙◌, ℕ, List, refl, sym, subst, get_or, take}
use Rattle.bilv_spec.specs.Notes.{Expr}
use Rattle.notes_value.specs.Views.{expr_of}
use Rattle.passify.specs.Planted.{AreAssumed, assumed_lines}
use Rattle.term_dag.proofs.Growth.{grew_width}
use Rattle.passify.proofs.Kept.{names_keep}
use Rattle.passify.proofs.Pushed.{other_default}
use Rattle.passify.proofs.Planted.{assumed_among, assumed_first, assumed_none, assumed_on, passed_first, take_whole}
use Rattle.passify.proofs.roots.assumed.Goals as goal

pub loop-i-init : goal.loop-i-init
loop-i-init c = assumed_none c.args.dag.now c.args.unrolled.now.big c.args.now.now c.args.entry.now c.args.yes.0 c.nodes-typed.ensures.typed c.requires.yes

pub returns : goal.returns
returns c =
    subst (λ (q : List (ℕ × ℕ)). AreAssumed c.args.dag.now c.loop-i.dag c.args.unrolled.now.big (assumed_lines c.args.unrolled.now q) c.args.now.now
    c.args.entry.now c.args.yes.0 c.loop-i.all.0) (take_whole c.args.index.now c.loop-i.i c.loop-i-test.false) c.loop-i.invariant

pub loop-i-preserved-then-not-is_invariant : goal.loop-i-preserved-then-not-is_invariant
loop-i-preserved-then-not-is_invariant c =
    let u = c.args.unrolled.now in
    let x = get_or c.args.index.now c.loop-i.i (0, 0) in
    subst (λ (q : List Expr). AreAssumed c.args.dag.now c.loop-i.dag u.big q c.args.now.now c.args.entry.now c.args.yes.0 c.loop-i.all.0)
    (sym (passed_first u c.args.index.now c.loop-i.i x c.index-assert.result.now c.loop-i-test.true
    (other_default c.args.index.now c.loop-i.i (0, 0) x c.loop-i-test.true) (c.requires.places c.loop-i.i c.loop-i-test.true) c.index-assert.ensures
    (sym c.is_invariant.ensures ∙ c.if-not-is_invariant.true))) c.loop-i.invariant

pub line-requires-clause-reads : goal.line-requires-clause-reads
line-requires-clause-reads c =
    let x = get_or c.args.index.now c.loop-i.i (0, 0) in
    c.requires.reads (expr_of c.index-assert.result.now.says)
    (assumed_among c.args.unrolled.now c.args.index.now c.loop-i.i x c.index-assert.result.now c.loop-i-test.true
    (other_default c.args.index.now c.loop-i.i (0, 0) x c.loop-i-test.true) (c.requires.places c.loop-i.i c.loop-i-test.true) c.index-assert.ensures
    (sym c.is_invariant.ensures ∙ c.if-not-is_invariant.false))

pub line-requires-clause-now : goal.line-requires-clause-now
line-requires-clause-now c = names_keep c.loop-i.invariant.grew c.args.now.now.names.now c.requires.now

pub line-requires-clause-entry : goal.line-requires-clause-entry
line-requires-clause-entry c = names_keep c.loop-i.invariant.grew c.args.entry.now.names.now c.requires.entry

pub line-requires-clause-pc : goal.line-requires-clause-pc
line-requires-clause-pc c = grew_width c.args.dag.now c.loop-i.dag _ _ _ _ _ 32 c.args.now.now.pc.0 c.loop-i.invariant.grew c.requires.pc

pub line-requires-clause-entry_pc : goal.line-requires-clause-entry_pc
line-requires-clause-entry_pc c = grew_width c.args.dag.now c.loop-i.dag _ _ _ _ _ 32 c.args.entry.now.pc.0 c.loop-i.invariant.grew c.requires.entry_pc

pub both-requires-clause-left : goal.both-requires-clause-left
both-requires-clause-left c = grew_width c.loop-i.dag c.line.new.dag _ _ _ _ _ 1 c.loop-i.all.0 c.in_ok-bit.ensures.grew c.loop-i.invariant.width

pub loop-i-preserved : goal.loop-i-preserved
loop-i-preserved c =
    let u = c.args.unrolled.now in
    let x = get_or c.args.index.now c.loop-i.i (0, 0) in
    subst (λ (q : List Expr). AreAssumed c.args.dag.now c.both.new.dag u.big q c.args.now.now c.args.entry.now c.args.yes.0 c.in_ok-all.all.0)
    (sym (assumed_first u c.args.index.now c.loop-i.i x c.index-assert.result.now c.loop-i-test.true
    (other_default c.args.index.now c.loop-i.i (0, 0) x c.loop-i-test.true) (c.requires.places c.loop-i.i c.loop-i-test.true) c.index-assert.ensures
    (sym c.is_invariant.ensures ∙ c.if-not-is_invariant.false)))
    (assumed_on c.args.dag.now c.loop-i.dag c.line.new.dag c.both.new.dag u.big (assumed_lines u (take c.loop-i.i c.args.index.now)) c.args.now.now
    c.args.entry.now _ _ c.args.yes.0 c.loop-i.all.0 c.in_ok-bit.bit.0 c.in_ok-all.all.0 (expr_of c.index-assert.result.now.says) c.requires.yes
    c.requires.now c.requires.entry c.requires.pc c.requires.entry_pc refl refl refl refl c.loop-i.invariant c.in_ok-bit.ensures c.in_ok-all.ensures)
