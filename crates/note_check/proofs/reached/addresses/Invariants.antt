use Rattle.std.proofs.Common.{◌≡◌, map, take}
use Rattle.note_check.proofs.reached.addresses.Given as goal

abbrev pub invariant-loop-contract : goal.invariant-loop-contract
invariant-loop-contract l = l.found.items ≡ map (λ x. x.at) (take l.contract-index l.contracts)
