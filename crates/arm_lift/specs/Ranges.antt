-- What is kept is in range.
use Rattle.std.proofs.Common.{ℕ, ◌<◌, Bool, true, false, lit<}
use Rattle.std.specs.Prelude.{◌==◌, if◌then◌else◌}
use Rattle.word_spec.specs.State.{IsState}
use Rattle.word_spec.specs.Words.{bit}
use Rattle.arm_step.specs.Parts.{flags_of}
use Rattle.arm_step.specs.States.{state_of}
use Rattle.arm_step.specs.declared.flags.Flags.{Flags}
use Rattle.arm_step.specs.declared.state.State.{State}

bit_small : (b : Bool) → bit b < 2
bit_small true = lit< tt
bit_small false = lit< tt

chosen_small : (b : Bool) (x y : ℕ) → x < 2 → y < 2 → (if b then x else y) < 2
chosen_small true x y p q = p
chosen_small false x y p q = q

flag_small : (x : Flags) (f : ℕ) → flags_of x f < 2
flag_small x f =
    chosen_small (f == 0) (bit x.v) _ (bit_small x.v)
    (chosen_small (f == 1) (bit x.c) _ (bit_small x.c)
    (chosen_small (f == 2) (bit x.z) _ (bit_small x.z) (chosen_small (f == 3) (bit x.n) 0 (bit_small x.n) (lit< tt))))

-- a state
pub in_range : (s : State) → IsState (state_of s)
in_range s = record { pc = s.pc_in_range; regs = s.registers.in_range; flags = flag_small s.flags; mem = s.bytes_in_range }
