use Rattle.std.proofs.Common.{◌≡◌, ◌==◌, ◌-◌, length, drop}
use Rattle.std.specs.List.{list_any}
use Rattle.notes_lang.proofs.contracts.place_of.Given as goal

-- no contract before is of the address
abbrev pub invariant-loop-place : goal.invariant-loop-place
invariant-loop-place l = list_any (λ c. c.at == l.at) (drop l.place l.contracts) ≡ list_any (λ c. c.at == l.at) l.contracts

abbrev pub decreases-loop-place : goal.decreases-loop-place
decreases-loop-place l = length l.contracts - l.place
