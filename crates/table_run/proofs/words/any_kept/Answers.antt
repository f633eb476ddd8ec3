use Rattle.std.proofs.Common.{ℕ, ◌<◌, refl, ap, sym, ◌∙◌, arith}
use Rattle.std.specs.List.{list_any}
use Rattle.bilv_spec.specs.Elf.{loaded, is_kept}
use Rattle.table_run.proofs.Lists.{span_more}
use Rattle.table_run.proofs.words.any_kept.Goals as goal

pub returns-then-kept : goal.returns-then-kept
returns-then-kept c =
    let less : c.loop.counter < c.args.count = omega arith in
    let next = ap (list_any (λ (x : ℕ). is_kept (loaded c.args.image.now x))) (span_more c.loop.at c.args.count c.loop.counter less) in
    let here = c.if-kept.ensures in
    sym (c.loop.invariant ∙ next ∙ rw (← here) refl)

pub loop-preserved : goal.loop-preserved
loop-preserved c =
    let less : c.loop.counter < c.args.count = omega arith in
    let next = ap (list_any (λ (x : ℕ). is_kept (loaded c.args.image.now x))) (span_more c.loop.at c.args.count c.loop.counter less) in
    let here = c.if-kept.ensures in
    c.loop.invariant ∙ next ∙ rw (← here) refl
