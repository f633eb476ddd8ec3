use Rattle.std.proofs.Common.{◌≡◌, ◌^◌, subst, sym, arith}
use Rattle.lift_text.specs.Progress.{IsTextTo}
use Rattle.lift_text.proofs.Places.{zero_place}
use Rattle.lift_text.proofs.Texts.{empty, done}
use Rattle.lift_text.proofs.words.text_by.Goals as goal

pub loop-at-init : goal.loop-at-init
loop-at-init g c = record {
  within = omega arith;
  aligned = zero_place g.M.Machine.machine.narrow;
  text =
      subst (IsTextTo g.M.Machine.machine g.M.Machine.bank c.args.image.now 0) (sym c.new-out.ensures.items)
      (empty g.M.Machine.machine g.M.Machine.bank c.args.image.now);
}

pub returns : goal.returns
returns g c =
    let end : c.loop-at.at ≡ 2 ^ 32 = omega arith in
    done g.M.Machine.machine g.M.Machine.bank c.args.image.now c.loop-at.out.items
    (subst (λ at. IsTextTo g.M.Machine.machine g.M.Machine.bank c.args.image.now at c.loop-at.out.items) end c.loop-at.invariant.text)
