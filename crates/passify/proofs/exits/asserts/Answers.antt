use Rattle.std.proofs.Common.{◌∙◌, ◌+◌, ℕ, List, refl, sym, ap, subst, get_or, drop}
use Rattle.frame_spec.specs.FrameWalk.{Check}
use Rattle.passify.specs.Situations.{ChecksTried, checks_of}
use Rattle.notes_value.specs.Views.{expr_of}
use Rattle.passify.proofs.Checks.{check_of, judged_among, judged_first, skipped_first}
use Rattle.passify.proofs.Pushed.{other_default}
use Rattle.passify.proofs.Lines.{at_point, checks_none, checks_on, drop_all, drop_here, tried_names, tried_pc}
use Rattle.passify.proofs.exits.asserts.Goals as goal

pub loop-i-init : goal.loop-i-init
loop-i-init c J =
    checks_none c.args.dag.now c.args.sweep.now c.args.rest.0 c.args.unrolled.now.big c.args.now.now
    (checks_of c.args.unrolled.now c.args.skips c.args.index.now)
    c.requires.well c.requires.rest J

pub returns : goal.returns
returns c J =
    subst (λ (q : List (ℕ × ℕ)). ChecksTried c.args.dag.now c.loop-i.dag c.args.sweep.now c.loop-i.sweep c.args.rest.0 c.loop-i.left.0 c.args.unrolled.now.big
    c.args.now.now (checks_of c.args.unrolled.now c.args.skips c.args.index.now) (checks_of c.args.unrolled.now c.args.skips q))
    (drop_all c.args.index.now c.loop-i.i c.loop-i-test.false) c.loop-i.invariant J

pub loop-i-preserved-then-not-is_judged : goal.loop-i-preserved-then-not-is_judged
loop-i-preserved-then-not-is_judged c J =
    let u = c.args.unrolled.now in
    let x = get_or c.args.index.now c.loop-i.i (0, 0) in
    let same = drop_here c.args.index.now c.loop-i.i x c.loop-i-test.true (other_default c.args.index.now c.loop-i.i (0, 0) x c.loop-i-test.true) in
    subst (λ (q : List Check). ChecksTried c.args.dag.now c.loop-i.dag c.args.sweep.now c.loop-i.sweep c.args.rest.0 c.loop-i.left.0 u.big c.args.now.now
    (checks_of u c.args.skips c.args.index.now) q)
    (ap (checks_of u c.args.skips) same
    ∙ skipped_first u x c.index-assert.result.now (c.requires.places c.loop-i.i c.loop-i-test.true) c.index-assert.ensures c.args.skips
    (drop (c.loop-i.i + 1) c.args.index.now) (sym c.is_judged.ensures ∙ c.if-not-is_judged.true)) c.loop-i.invariant J

pub denied-requires-clause-well : goal.denied-requires-clause-well
denied-requires-clause-well c = (c.loop-i.invariant at_point).lines.steps.well

pub denied-requires-clause-now : goal.denied-requires-clause-now
denied-requires-clause-now c = tried_names c.args.dag.now c.loop-i.dag c.args.sweep.now c.loop-i.sweep _ _ _ c.args.now.now _ _ _ _ _
    (c.loop-i.invariant at_point) c.requires.now

pub denied-requires-clause-pc : goal.denied-requires-clause-pc
denied-requires-clause-pc c = tried_pc c.args.dag.now c.loop-i.dag c.args.sweep.now c.loop-i.sweep _ _ _ c.args.now.now _ _ _ _ _
    (c.loop-i.invariant at_point) c.requires.pc

pub denied-requires-clause-rest : goal.denied-requires-clause-rest
denied-requires-clause-rest c = (c.loop-i.invariant at_point).bit

pub denied-requires-clause-reads : goal.denied-requires-clause-reads
denied-requires-clause-reads c =
    let x = get_or c.args.index.now c.loop-i.i (0, 0) in
    c.requires.reads (expr_of c.index-assert.result.now.says)
    (judged_among c.args.unrolled.now c.args.skips c.args.index.now c.loop-i.i x c.index-assert.result.now c.loop-i-test.true
    (other_default c.args.index.now c.loop-i.i (0, 0) x c.loop-i-test.true) (c.requires.places c.loop-i.i c.loop-i-test.true) c.index-assert.ensures
    (sym c.is_judged.ensures ∙ c.if-not-is_judged.false))

pub loop-i-preserved : goal.loop-i-preserved
loop-i-preserved c J =
    let u = c.args.unrolled.now in
    let x = get_or c.args.index.now c.loop-i.i (0, 0) in
    let e = c.in_ok-left.ensures in
    let same = drop_here c.args.index.now c.loop-i.i x c.loop-i-test.true (other_default c.args.index.now c.loop-i.i (0, 0) x c.loop-i-test.true) in
    checks_on c.args.dag.now c.loop-i.dag c.denied.new.dag c.args.sweep.now c.loop-i.sweep c.denied.new.sweep c.args.rest.0 c.loop-i.left.0
    c.in_ok-left.left.0 u.big c.args.now.now (checks_of u c.args.skips c.args.index.now) (checks_of u c.args.skips (drop (c.loop-i.i + 1) c.args.index.now))
    (check_of u c.index-assert.result.now) (expr_of c.index-assert.result.now.says) refl c.requires.well c.requires.now c.requires.pc
    (subst (λ (q : List Check). ChecksTried c.args.dag.now c.loop-i.dag c.args.sweep.now c.loop-i.sweep c.args.rest.0 c.loop-i.left.0 u.big c.args.now.now
    (checks_of u c.args.skips c.args.index.now) q)
    (ap (checks_of u c.args.skips) same
    ∙ judged_first u x c.index-assert.result.now (c.requires.places c.loop-i.i c.loop-i-test.true) c.index-assert.ensures c.args.skips
    (drop (c.loop-i.i + 1) c.args.index.now) (sym c.is_judged.ensures ∙ c.if-not-is_judged.false)) c.loop-i.invariant)
    e.steps e.bit e.tries e.narrows J
