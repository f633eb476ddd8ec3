use Rattle.std.proofs.Common.{◌≡◌, ◌+◌, drop}
use Rattle.unroller.specs.Keys.{place_in}
use Rattle.unroller.proofs.steps.contract_place.Given as goal

abbrev pub invariant-loop-place : goal.invariant-loop-place
invariant-loop-place l = place_in l.stepped l.at ≡ l.place + place_in (drop l.place l.stepped) l.at
