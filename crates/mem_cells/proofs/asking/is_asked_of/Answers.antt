use Rattle.std.proofs.Common.{◌∙◌, refl, sym, arith}
use Rattle.mem_cells.specs.Asked.{is_of_part}
use Rattle.mem_cells.proofs.PartReads.{skipped_on}
use Rattle.mem_cells.proofs.asking.is_asked_of.Goals as goal

pub loop-place-preserved : goal.loop-place-preserved
loop-place-preserved c =
    c.loop-place.invariant
    ∙ skipped_on (is_of_part c.args.byte) c.args.parts.now c.loop-place.place _ 0 (omega (arith, c.loop-place-test.true)) refl
    (sym c.is_of_part.ensures ∙ c.if-is_of_part.false)
