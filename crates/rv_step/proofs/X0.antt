-- Registers that are read and written.
use Rattle.std.proofs.Common.{◌≡◌, ℕ, zero, suc, List, refl, sym, replicate, ap}
use Rattle.word_spec.specs.State.{State}
use Rattle.machine_spec.specs.Rv.{reg}
use Rattle.rv_step.specs.RegisterFile.{registers_of}

-- x0 reads 0
pub reads : (words : List ℕ) (s : State) (r : ℕ) → s.regs ≡ registers_of words → registers_of words 0 ≡ 0 → reg s r ≡ registers_of words r
reads words s zero e z = sym z
reads words s (suc r) e z = ap (λ f. f (suc r)) e

pub all_zero : (n r : ℕ) → registers_of (replicate n 0) r ≡ 0
all_zero zero r = refl
all_zero (suc n) zero = refl
all_zero (suc n) (suc r) = all_zero n r
