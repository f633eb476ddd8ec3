use Rattle.std.proofs.Common.{◌≡◌, ◌<◌, ◌∙◌, ◌++◌, ℕ, length, ap, sym, subst, arith}
use Rattle.std.specs.List.{AllWithin}
use Rattle.word_spec.specs.Memory.{endian}
use Rattle.word_spec.specs.State.{State}
use Rattle.bilv_spec.specs.Notes.{value}
use Rattle.model_spec.specs.Reads.{expression_reads}
use Rattle.notes_value.specs.Views.{expr_of}
use Rattle.notes_value.specs.declared.notes.Assert.{Assert}
use Rattle.notes_value.specs.NoteViews.{assert_of}
use Rattle.table_run.proofs.AssertGroups.{left_begins, left_more, left_stops, left_ends, not_zero, is_zero}
use Rattle.table_run.proofs.reads.add_assert_reads.Goals as goal

pub loop-i-init : goal.loop-i-init
loop-i-init g c =
    let now : State = g.V.View.view c.args.now.now in
    let index = c.args.index.now in
    let low = c.group-low.result.0 in
    let high = c.group-low.result.1 in
    left_begins assert_of (endian c.args.big) now (g.V.View.view c.args.entry.now) c.args.asserts.now index low high c.args.places.now.items
    c.group-low.ensures.ordered c.group-low.ensures.within
    (subst (λ at. AllWithin (λ (x : ℕ × ℕ). x.0 < at) index 0 low) c.pc.ensures c.group-low.ensures.before)
    (subst (λ at. AllWithin (λ (x : ℕ × ℕ). x.0 ≡ at) index low high) c.pc.ensures c.group-low.ensures.here)
    (subst (λ at. AllWithin (λ (x : ℕ × ℕ). at < x.0) index high (length index)) c.pc.ensures c.group-low.ensures.behind) (c.requires.index.order now.pc)

pub loop-i-preserved : goal.loop-i-preserved
loop-i-preserved g c =
    let e = endian c.args.big in
    let now : State = g.V.View.view c.args.now.now in
    let entry : State = g.V.View.view c.args.entry.now in
    left_more assert_of e now entry c.args.asserts.now c.args.index.now
    c.group-low.result.1 c.loop-i.i c.loop-i.places.items c.add_reads.new.places.items _ (0, 0) c.index-asserts-index.result (omega arith)
    c.group-low.ensures.within c.index-asserts-index.is
    (c.in_ok-add_reads.ensures ∙ ap (λ (z : Assert). c.loop-i.places.items ++ expression_reads e (expr_of z.says) now entry) (sym c.index-asserts-index.is))
    c.loop-i.invariant
    (not_zero _ _ (c.value.ensures ∙ ap (λ (z : Assert). value e (expr_of z.says) now entry) (sym c.index-asserts-index.is)) c.if-value-eq0.false)

pub returns-then-value-eq0 : goal.returns-then-value-eq0
returns-then-value-eq0 g c =
    let e = endian c.args.big in
    let now : State = g.V.View.view c.args.now.now in
    let entry : State = g.V.View.view c.args.entry.now in
    left_stops assert_of e now entry c.args.asserts.now c.args.index.now
    c.group-low.result.1 c.loop-i.i c.loop-i.places.items c.add_reads.new.places.items _ (0, 0) c.index-asserts-index.result (omega arith)
    c.group-low.ensures.within c.index-asserts-index.is
    (c.in_ok-add_reads.ensures ∙ ap (λ (z : Assert). c.loop-i.places.items ++ expression_reads e (expr_of z.says) now entry) (sym c.index-asserts-index.is))
    c.loop-i.invariant
    (is_zero _ _ (c.value.ensures ∙ ap (λ (z : Assert). value e (expr_of z.says) now entry) (sym c.index-asserts-index.is)) c.if-value-eq0.true)

pub returns : goal.returns
returns g c =
    left_ends assert_of (endian c.args.big) (g.V.View.view c.args.now.now) (g.V.View.view c.args.entry.now) c.args.asserts.now c.args.index.now
    c.group-low.result.1 c.loop-i.i c.loop-i.places.items _ (omega arith) c.loop-i.invariant
