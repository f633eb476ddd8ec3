use Rattle.std.proofs.Common.{◌≡◌, true, false, refl, slice_index, sym, ◌∙◌, arith}
use Rattle.frame_start.specs.Met.{is_met_of}
use Rattle.bit_blast.proofs.StepChoices.{next_met, next_unmet}
use Rattle.frame_start.proofs.choices.choices_by_step.Goals as goal
use Rattle.frame_start.proofs.choices.choices_by_step.Goals.{then-is_met+in_ok-list_choice, else-is_met}

pub loop-i-preserved : goal.loop-i-preserved
loop-i-preserved c =
    let met = is_met_of c.args.points.now c.args.root c.args.met.now c.args.words.now in
    let choice = slice_index c.args.choices.now in
    let i = c.loop-i.i in
    let inv = c.loop-i.invariant in
    elim c.if-is_met.branch [
      | then-is_met+in_ok-list_choice w ↦ (
          let t : met i ≡ true = sym c.is_met.ensures ∙ w.if-is_met.true in
          record {
            chosen =
                rw (w.listed-is, w.step-is, w.in_ok-list_choice.ensures, w.choice_of.ensures)
                (next_met met choice i c.loop-i.step (choice i) c.loop-i.listed.items inv.chosen t refl (c.requires.few i));
            few = let s = w.step-is in let k = inv.few in omega arith;
          })
      | else-is_met w ↦ (
          let f : met i ≡ false = sym c.is_met.ensures ∙ w.if-is_met.false in
          record {
            chosen = rw (w.listed-is, w.step-is) (next_unmet met choice i c.loop-i.step c.loop-i.listed.items inv.chosen f);
            few = let s = w.step-is in let k = inv.few in omega arith;
          })
    ]
