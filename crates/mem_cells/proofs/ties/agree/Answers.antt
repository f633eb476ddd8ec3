use Rattle.std.proofs.Common.{◌++◌, ap, refl, ◌∙◌, arith, ℕ}
use Rattle.std.specs.Prelude.{slice_index}
use Rattle.mem_cells.specs.declared.cells.Agreement.{Agreement}
use Rattle.mem_cells.specs.Parts.{has_part, one_if}
use Rattle.mem_cells.specs.Ties.{agreement}
use Rattle.mem_cells.proofs.PartReads.{passed_on}
use Rattle.mem_cells.proofs.ties.agree.Goals as goal

pub loop-place-preserved : goal.loop-place-preserved
loop-place-preserved c =
    let f : ℕ → Agreement = λ p. agreement c.args.condition p c.args.read c.args.other in
    passed_on f (has_part c.args.others.now) c.args.parts.now c.loop-place.place (slice_index c.args.parts.now c.loop-place.place) 0 c.loop-place.agrees.items
    c.and_agreement.new.agrees.items _ (omega (arith, c.loop-place-test.true)) refl
    (c.in_ok-and_agreement.ensures ∙ ap (λ z. c.loop-place.agrees.items ++ one_if z (f (slice_index c.args.parts.now c.loop-place.place))) c.has_part-is_both.ensures) c.loop-place.invariant
