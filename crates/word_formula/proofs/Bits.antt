-- Words of one bit.
use Rattle.std.proofs.Common.{◌≡◌, Bool, true, false, refl}
use Rattle.std.specs.Prelude.{not}
use Rattle.word_spec.specs.Words.{bit, complement}

-- the complement of a bit is the bit of the negation
pub turned : (b : Bool) → complement 1 (bit b) ≡ bit (not b)
turned true = refl
turned false = refl
