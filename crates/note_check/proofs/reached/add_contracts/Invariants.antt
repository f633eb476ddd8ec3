use Rattle.std.proofs.Common.{◌≡◌, ◌++◌}
use Rattle.std.specs.Prelude.{not}
use Rattle.notes_value.specs.FrameViews.{contract_of}
use Rattle.note_check.specs.Reached.{stands_in}
use Rattle.note_check.specs.declared.warning.Warning.TheVariants.{UncalledContract}
use Rattle.note_check.proofs.Listing.{listed}
use Rattle.note_check.proofs.reached.add_contracts.Given as goal

abbrev pub invariant-loop-contract : goal.invariant-loop-contract
invariant-loop-contract l =
    l.found.items ≡ l.initial.found.items ++ listed (λ x. UncalledContract x.at) (λ x. not (stands_in l.graph x.at)) contract_of l.contracts l.contract-index
