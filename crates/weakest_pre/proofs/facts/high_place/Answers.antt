use Rattle.std.proofs.Common.{◌≡◌, ℕ, ◌/◌, ◌-◌, ◌^◌, sym, subst}
use Rattle.weakest_pre.proofs.KnownWords.{leading_high}
use Rattle.weakest_pre.proofs.facts.high_place.Goals as goal

pub returns-clause-ones : goal.returns-clause-ones
returns-clause-ones c =
    subst (λ (z : ℕ). c.args.mask / 2 ^ (32 - z) ≡ 2 ^ (32 - (32 - z)) - 1) (sym c.leading_ones.ensures) (leading_high c.args.mask c.ranges.mask.fits)
