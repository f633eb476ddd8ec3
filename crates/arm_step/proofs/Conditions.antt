-- Conditions.
use Rattle.std.proofs.Common.{◌≡◌, Bool, true, false, refl}
use Rattle.std.specs.Prelude.{◌==◌}
use Rattle.word_spec.specs.Words.{bit}

pub held : (b : Bool) → (bit b == 1) ≡ b
held true = refl
held false = refl
