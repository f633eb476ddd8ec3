use Rattle.std.proofs.Common.{◌≡◌, ◌++◌, take}
use Rattle.unroller.specs.Steps.{step_codes}
use Rattle.unroller.proofs.steps.add_codes.Given as goal

abbrev pub invariant-loop-at : goal.invariant-loop-at
invariant-loop-at l = l.codes.items ≡ l.fn.codes.items ++ step_codes l.contracts l.stepped (take l.at-index l.steps)
