use Rattle.std.proofs.Common.{◌∙◌, refl, sym, arith}
use Rattle.mem_cells.specs.Parts.{has_part}
use Rattle.mem_cells.proofs.PartReads.{skipped_on}
use Rattle.mem_cells.proofs.ties.is_shared.Goals as goal

pub loop-place-preserved : goal.loop-place-preserved
loop-place-preserved c =
    c.loop-place.invariant
    ∙ skipped_on (has_part c.args.others.now) c.args.parts.now c.loop-place.place _ 0 (omega (arith, c.loop-place-test.true)) refl
    (sym c.has_part.ensures ∙ c.if-has_part.false)
