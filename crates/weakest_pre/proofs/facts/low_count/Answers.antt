use Rattle.std.proofs.Common.{inl, inr, ◌≡◌, ℕ, ◌%◌, ◌-◌, ◌^◌, ◌<◌, sym, subst, refl, w32, arith}
use Rattle.std.specs.Int.{trailing_ones}
use Rattle.std.specs.Int.Count.{trailing_of_zero}
use Rattle.std.proofs.lemmas.Nat.Bits.{bit_at-trailing_ones}
use Rattle.std.proofs.lemmas.Bool.Decides.{eqb_tells}
use Rattle.weakest_pre.proofs.KnownWords.{low_ones}
use Rattle.weakest_pre.proofs.facts.low_count.Goals as goal

-- the bits of a mask below its lowest 0
trailing_low : (m : ℕ) → m < 2 ^ 32 → m % 2 ^ trailing_ones w32 m ≡ 2 ^ trailing_ones w32 m - 1
trailing_low m h =
    elim (eqb_tells m 4294967295) [
      | inl e ↦ subst (λ (n : ℕ). n % 2 ^ trailing_ones w32 n ≡ 2 ^ trailing_ones w32 n - 1) (sym e.1)
          (subst (λ (k : ℕ). 4294967295 % 2 ^ k ≡ 2 ^ k - 1) (sym (trailing_of_zero 32)) refl)
      | inr e ↦ let differs = e.1 in low_ones m (trailing_ones w32 m) (bit_at-trailing_ones w32 m (omega arith)).2
    ]

pub returns-clause-ones : goal.returns-clause-ones
returns-clause-ones c = subst (λ (z : ℕ). c.args.mask % 2 ^ z ≡ 2 ^ z - 1) (sym c.trailing_ones.ensures) (trailing_low c.args.mask c.ranges.mask.fits)
