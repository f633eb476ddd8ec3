use Rattle.std.proofs.Common.{ap, ◌∙◌, ℕ, ◌*◌}
use Rattle.unroller.proofs.prices.pairs.Goals as goal
use Rattle.unroller.specs.LineCosts.{capped}
use Rattle.unroller.proofs.Capped.{pairs_is}

pub returns : goal.returns
returns c = λ x p. pairs_is _ x _ p (c.saturating_mul.ensures ∙ ap (λ (z : ℕ). capped (c.args.a * z)) c.saturating_sub.ensures)
