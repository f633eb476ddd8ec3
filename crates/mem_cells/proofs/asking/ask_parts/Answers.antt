use Rattle.std.proofs.Common.{◌++◌, ap, refl, ◌∙◌, arith, ℕ}
use Rattle.std.specs.Prelude.{slice_index}
use Rattle.mem_cells.specs.declared.cells.AskedByte.{AskedByte}
use Rattle.mem_cells.specs.Parts.{one_if}
use Rattle.mem_cells.specs.Asked.{asked, is_of_part}
use Rattle.mem_cells.proofs.PartReads.{passed_on}
use Rattle.mem_cells.proofs.asking.ask_parts.Goals as goal

pub loop-place-preserved : goal.loop-place-preserved
loop-place-preserved c =
    let f : ℕ → AskedByte = λ p. asked c.args.condition p c.args.read c.args.byte.byte in
    passed_on f (is_of_part c.args.byte) c.args.parts.now c.loop-place.place (slice_index c.args.parts.now c.loop-place.place) 0 c.loop-place.asked.items
    c.and_asked.new.asked.items _ (omega (arith, c.loop-place-test.true)) refl
    (c.in_ok-and_asked.ensures ∙ ap (λ z. c.loop-place.asked.items ++ one_if z (f (slice_index c.args.parts.now c.loop-place.place))) c.is_of_part-is_asked.ensures) c.loop-place.invariant
