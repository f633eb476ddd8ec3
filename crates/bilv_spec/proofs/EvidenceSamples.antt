-- The registers that the machines have, and the inputs of a question, by computation alone.
use Rattle.std.proofs.Common.{◌≡◌, ℕ, refl, [], ◌∷◌, true, false, map, arith}
use Rattle.word_spec.specs.Memory.{Big}
use Rattle.machine_spec.specs.RvMachine.{rv32}
use Rattle.machine_spec.specs.Arm.{arm}
use Rattle.word_spec.specs.Profiles.{V4}
use Rattle.bilv_spec.specs.Run.{Program}
use Rattle.bilv_spec.specs.Evidence.{OfRegister, AreInputs}

-- the registers that the machines have
has_rv : map (rv32 false).has_register (0 ∷ 1 ∷ 31 ∷ 32 ∷ []) ≡ false ∷ true ∷ true ∷ false ∷ []
has_rv = refl

has_arm : map (arm Big V4).has_register (0 ∷ 14 ∷ 15 ∷ []) ≡ true ∷ true ∷ false ∷ []
has_arm = refl

has_flags : map (arm Big V4).has_flag (0 ∷ 3 ∷ 4 ∷ []) ≡ true ∷ true ∷ false ∷ []
has_flags = refl

-- a question's list of inputs is not empty
not_empty : (p : Program) (k loads : ℕ) → p.machine.has_register 1 ≡ true → AreInputs p k loads [] → ⊥
not_empty p k loads h is = let c = is.all (OfRegister 1 0) (h, omega arith) refl in omega arith
