-- Constants that stand for the reciprocals of divisors.
use Rattle.std.specs.Prelude.{ℕ, ◌-◌, ◌*◌, ◌^◌, ◌<◌, ◌≤◌}

-- For numbers of at most 2 ^ n a factor stands for the reciprocal of a divisor: the bits of a product with it are the quotient's from a place on.
pub record IsReciprocal (factor divisor n place : ℕ) : Type 0 where
  pub order : n ≤ place
  pub least : 2 ^ place < factor * divisor
  pub most : factor * divisor - 2 ^ place < 2 ^ (place - n)
  pub below : divisor < 2 ^ n
