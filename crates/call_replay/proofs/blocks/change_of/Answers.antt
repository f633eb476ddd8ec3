use Rattle.std.proofs.Common.{refl}
use Rattle.call_text.specs.declared.text.ContractChanges.{ContractChanges}
use Rattle.call_replay.proofs.Changes.{change_is}
use Rattle.call_replay.proofs.blocks.change_of.Goals as goal

pub returns : goal.returns
returns c =
    let made : ContractChanges =
    record { at = c.args.contract.now.at; registers = c.in_ok-registers.registers; flags = c.in_ok-flags.flags } in
    change_is c.args.contract.now made refl c.in_ok-registers.ensures c.in_ok-flags.ensures
