-- The parts of a state and of a result, as the table has them.
use Rattle.std.specs.Prelude.{ℕ, ◌≡◌, ◌+◌, ◌*◌, ◌^◌, if◌then◌else◌}
use Rattle.word_spec.specs.Words.{bit, add, mul, sign_extend}
use Rattle.word_spec.specs.State.{State}
use Rattle.machine_spec.specs.Arm as rows
use Rattle.machine_spec.specs.Arm.{with_flags, reg, has_bit, accumulates, field_n, field_d, field_s, field_m}
use Rattle.arm_decode.specs.declared.parts.Condition.{Condition}
use Rattle.arm_decode.specs.Parts.{condition_number}
use Rattle.arm_step.specs.declared.flags.Flags.{Flags}
use Rattle.arm_step.specs.declared.shifter.Shifted.{Shifted}
use Rattle.arm_step.specs.declared.sums.Computed.{Computed}

-- the flags by number; there are no others
abbrev pub flags_of : Flags → ℕ → ℕ
flags_of x = with_flags (λ f. 0) (bit x.n) (bit x.z) (bit x.c) (bit x.v)

-- an operand with the carry out of the shifter
abbrev pub shifted_of : Shifted → rows.Shifted
shifted_of x = record { value = x.value; carry = bit x.carry }

-- a result with its flags C and V
abbrev pub computed_of : Computed → rows.Result
computed_of x = record { value = x.value; carry = bit x.carry; overflow = bit x.overflow }

-- what UMULL, UMLAL, SMULL and SMLAL make: a product of 64 bits, with what it is added to
abbrev pub long_product : ℕ → State → ℕ
long_product w s =
    let wide = λ (x : ℕ). if has_bit 22 w then sign_extend 32 64 x else x in
    add 64 (mul 64 (wide (reg s (field_m w))) (wide (reg s (field_s w)))) (if accumulates w then reg s (field_n w) * 2 ^ 32 + reg s (field_d w) else 0)

-- what MUL and MLA make: a product of 32 bits, with what is added
abbrev pub short_product : ℕ → State → ℕ
short_product w s = add 32 (mul 32 (reg s (field_m w)) (reg s (field_s w))) (if accumulates w then reg s (field_d w) else 0)

-- flags are those that a condition names
abbrev pub flags_named : Condition → Flags → Type 0
flags_named condition x =
    let named = rows.condition_reads rows.condition_flags (condition_number condition) in
    (x.v ≡ named 0) × (x.c ≡ named 1) × (x.z ≡ named 2) × (x.n ≡ named 3)
