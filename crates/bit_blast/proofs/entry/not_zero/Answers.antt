use Rattle.std.proofs.Common.{ℕ, rules}
use Rattle.std.specs.Prelude.{nat_lt}
use Rattle.std.proofs.lemmas.List.Elements.{filter_from_retain}
use Rattle.bit_blast.proofs.entry.not_zero.Goals as goal

pub returns : goal.returns
returns c = filter_from_retain _ (λ (x : ℕ × ℕ). nat_lt 0 x.1) (λ p x b q k. search rules) _ _ _ c.retain.ensures.filtered
