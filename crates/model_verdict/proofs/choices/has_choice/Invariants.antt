use Rattle.std.proofs.Common.{◌≡◌, ℕ, ◌<◌, get_or}
use Rattle.model_verdict.proofs.choices.has_choice.Given as goal

abbrev pub invariant-loop-choice : goal.invariant-loop-choice
invariant-loop-choice l = (i : ℕ) → i < l.choice-index → get_or l.choices i 0 ≡ 0
