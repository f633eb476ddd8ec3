use Rattle.std.proofs.Common.{◌≡◌, true, false, refl, slice_index, arith}
use Rattle.std.proofs.lemmas.Bool.Decides.{nat_tests}
use Rattle.bit_blast.specs.Steps.{is_met_by}
use Rattle.bit_blast.proofs.StepChoices.{next_met, next_unmet}
use Rattle.bit_blast.proofs.steps.choices_by_step.Goals as goal
use Rattle.bit_blast.proofs.steps.choices_by_step.Goals.{then-words-met-eq1+in_ok-list_choice, else-words-met-eq1}

pub loop-i-preserved : goal.loop-i-preserved
loop-i-preserved c =
    let met = is_met_by c.args.met.now c.args.words.now in
    let choice = slice_index c.args.choices.now in
    let i = c.loop-i.i in
    let inv = c.loop-i.invariant in
    elim c.if-words-met-eq1.branch [
      | then-words-met-eq1+in_ok-list_choice w ↦ (
          let t : met i ≡ true = (let h = w.if-words-met-eq1.true in grind (arith, nat_tests)) in
          record {
            chosen =
                rw (w.listed-is, w.step-is, w.in_ok-list_choice.ensures)
                (next_met met choice i c.loop-i.step (choice i) c.loop-i.listed.items inv.chosen t refl (c.requires.few i));
            few = let s = w.step-is in let k = inv.few in omega arith;
          })
      | else-words-met-eq1 w ↦ (
          let f : met i ≡ false = (let h = w.if-words-met-eq1.false in grind (arith, nat_tests)) in
          record {
            chosen = rw (w.listed-is, w.step-is) (next_unmet met choice i c.loop-i.step c.loop-i.listed.items inv.chosen f);
            few = let s = w.step-is in let k = inv.few in omega arith;
          })
    ]
