use Rattle.std.proofs.Common.{◌≡◌, ◌++◌, drop, map}
use Rattle.unroller.proofs.steps.contract_addresses.Given as goal

abbrev pub invariant-loop-contract : goal.invariant-loop-contract
invariant-loop-contract l = l.found.items ++ map (λ x. x.at) (drop l.contract-index l.contracts) ≡ map (λ x. x.at) l.contracts
