-- What registers read, and the flags that are written.
use Rattle.std.proofs.Common.{◌≡◌, ℕ, ◌/◌, ◌%◌, ◌<◌, Bool, true, false, refl, sym, ap, arith}
use Rattle.std.specs.Prelude.{◌==◌, if◌then◌else◌}
use Rattle.std.proofs.lemmas.Bool.{ne_eqb}
use Rattle.std.proofs.Math.Path.{fun_ext}
use Rattle.word_spec.specs.Words.{bit}
use Rattle.word_spec.specs.State.{State}
use Rattle.machine_spec.specs.Arm.{reg, has_bit, with_flags}
use Rattle.arm_step.specs.declared.flags.Flags.{Flags}
use Rattle.arm_step.specs.Parts.{flags_of}

-- a register that is not the program counter
pub plain : (s : State) (r : ℕ) → r < 15 → reg s r ≡ s.regs r
plain s r l = rw (ne_eqb r 15 (λ e. omega arith)) refl

pub has_low_bit : (c : ℕ) → has_bit 0 c ≡ (c % 2 == 1)
has_low_bit c = ap (λ x. x % 2 == 1) (let e : c / 1 ≡ c = omega arith in e)

-- four flags that are written twice
twice : (g i j k : Bool) (n z c v m y d u x : ℕ) →
    (if g then v else if i then c else if j then z else if k then n else if g then u else if i then d else if j then y else if k then m else x)
    ≡ (if g then v else if i then c else if j then z else if k then n else x)
twice true i j k n z c v m y d u x = refl
twice false true j k n z c v m y d u x = refl
twice false false true k n z c v m y d u x = refl
twice false false false true n z c v m y d u x = refl
twice false false false false n z c v m y d u x = refl

pub all_flags : (old new : Flags) → flags_of new ≡ with_flags (flags_of old) (bit new.n) (bit new.z) (bit new.c) (bit new.v)
all_flags old new =
    fun_ext (λ f. sym (twice (f == 0) (f == 1) (f == 2) (f == 3) (bit new.n) (bit new.z) (bit new.c) (bit new.v) (bit old.n) (bit old.z) (bit old.c)
    (bit old.v) 0))
