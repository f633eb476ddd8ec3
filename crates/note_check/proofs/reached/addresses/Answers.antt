use Rattle.std.proofs.Common.{◌∙◌, map, ap, arith}
use Rattle.std.proofs.lemmas.List.{take_all}
use Rattle.notes_value.specs.declared.notes.Contract.{Contract}
use Rattle.note_check.proofs.Listing.{taken_more}
use Rattle.note_check.proofs.reached.addresses.Goals as goal

pub loop-contract-preserved : goal.loop-contract-preserved
loop-contract-preserved c =
    taken_more (λ (x : Contract). x.at) c.args.contracts.now c.loop-contract.contract-index c.contract-item.result c.loop-contract.found.items
    c.push.new.self.items c.loop-contract-test.true c.contract-item.is c.in_ok-push.ensures.items c.loop-contract.invariant

pub returns : goal.returns
returns c =
    c.loop-contract.invariant
    ∙ ap (map (λ (x : Contract). x.at)) (take_all c.loop-contract.contract-index c.args.contracts.now (omega arith))
