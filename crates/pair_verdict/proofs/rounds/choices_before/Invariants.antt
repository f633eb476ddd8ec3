use Rattle.std.proofs.Common.{◌≡◌, take}
use Rattle.std.specs.Prelude.{filter, nat_lt}
use Rattle.pair_verdict.proofs.rounds.choices_before.Given as goal

abbrev pub invariant-loop-choice : goal.invariant-loop-choice
invariant-loop-choice l = l.before.items ≡ filter (λ x. nat_lt x.0 l.end) (take l.choice-index l.choices)
