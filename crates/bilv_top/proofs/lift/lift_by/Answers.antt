use Rattle.std.proofs.Common.{refl, sym, subst}
use Rattle.machine_spec.specs.Bil.{Bank}
use Rattle.bilv_spec.specs.Files.{machine_of}
use Rattle.bilv_spec.specs.LiftText.{IsLiftTextBy}
use Rattle.machine_spec.specs.Machine.{Machine}
use Rattle.command_line.specs.Commands.{options_of}
use Rattle.bilv_top.proofs.Founds.{machine_order}
use Rattle.bilv_top.proofs.lift.lift_by.Goals as goal

pub lift_text-requires : goal.lift_text-requires
lift_text-requires g c = machine_order c.args.image.now g.M.Machine.machine (options_of c.args.options, c.requires.machine)

pub returns : goal.returns
returns g c =
    let file = c.args.image.now in
    let text = c.in_ok-text.text.items in
    let by_machine = subst (λ (m : Machine). IsLiftTextBy m g.M.Machine.bank file text) (sym c.requires.machine) c.in_ok-text.ensures in
    (text, subst (λ (b : Bank). IsLiftTextBy (machine_of (options_of c.args.options) file) b file text) (sym c.requires.bank) by_machine, refl)
