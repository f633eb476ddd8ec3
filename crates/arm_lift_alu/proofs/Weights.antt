-- What is said of operands and opcodes without their values.
use Rattle.std.proofs.Common.{◌≡◌, ℕ, zero, suc, ◌+◌, ◌-◌, ◌*◌, ◌^◌, ◌<◌, ◌==◌, nat_le, nat_lt, Bool, true, false, ◌&&◌, refl, subst, arith, ◌/◌, ◌%◌}
use Rattle.std.proofs.lemmas.Bool.Decides.{nat_tests}
use Rattle.word_spec.specs.Words.{add, bit_at}
use Rattle.machine_spec.specs.Bil.{Expression, Constant}
use Rattle.machine_spec.specs.Bil as bil
use Rattle.machine_spec.proofs.ArmRanges.{ror_small}
use Rattle.arm_decode.specs.declared.parts.ShiftKind.{ShiftKind}
use Rattle.arm_decode.specs.declared.parts.ShiftKind.TheVariants.{Lsl, Lsr, Asr, Ror}
use Rattle.arm_decode.specs.declared.parts.Operand as operands
use Rattle.arm_decode.specs.declared.parts.Operand.TheVariants as kinds
use Rattle.arm_decode.specs.declared.parts.Opcode.{Opcode}
use Rattle.arm_decode.specs.declared.parts.Opcode.TheVariants.{And, Eor, Sub, Rsb, Add, Adc, Sbc, Rsc, Tst, Teq, Cmp, Cmn, Orr, Mov, Bic, Mvn}
use Rattle.arm_lift_alu.specs.declared.shifter.CarryIn.{CarryIn}
use Rattle.arm_lift_alu.specs.declared.shifter.CarryIn.TheVariants.{Clear, Set, Flag}
use Rattle.arm_lift_alu.specs.Lifted.{flag}
use Rattle.arm_decode.specs.Parts.{is_by_register}
use Rattle.arm_lift_alu.specs.Operands as lifts
use Rattle.arm_lift_alu.specs.Computing as lists
use Rattle.arm_lift_alu.proofs.Plain.{IsPlain, constant_plain, number_plain, flag_plain, own_register, not_plain, binary_plain, cast_plain, extract_plain, concat_plain, choose_plain, lighter}

-- the flags that the carry that comes in is read from
abbrev pub carry_reads : CarryIn → ℕ → Bool
carry_reads Clear f = false
carry_reads Set f = false
carry_reads Flag f = 1 == f

-- a set has the flags of the carry that comes in
abbrev pub HasCarry : CarryIn → (ℕ → Bool) → Type 0
HasCarry k r = (f : ℕ) → r f ≡ false → carry_reads k f ≡ false

pub carry_plain : (k : CarryIn) (r : ℕ → Bool) → HasCarry k r → IsPlain 1 0 r (lifts.carry_bit k)
carry_plain Clear r h = constant_plain 1 0 r refl
carry_plain Set r h = constant_plain 1 1 r refl
carry_plain Flag r h = flag_plain 1 r refl h

pub register_plain : (q at : ℕ) (r : ℕ → Bool) → q < 16 → IsPlain 32 0 r (lifts.register q at)
register_plain q at r small = by (q == 15) (λ e. grind (arith, nat_tests))
  where
    by : (b : Bool) → (b ≡ false → q < 15) → IsPlain 32 0 r (lifts.register_by b q at)
    by true h = number_plain (add 32 at 8) r (omega arith)
    by false h = own_register q r (h refl)

rotated_plain : (r : ℕ → Bool) (e n : Expression) → IsPlain 32 0 r e → IsPlain 64 0 r n → IsPlain 32 512 r (lifts.rotated e n)
rotated_plain r e n p q =
    cast_plain bil.Low 32 64 512 r _ (binary_plain bil.ShiftRight 64 0 0 512 r _ n (concat_plain 32 32 0 0 r e e p p refl) q refl (omega arith)) refl

shifted_plain : (kind : ShiftKind) (r : ℕ → Bool) (e : Expression) (n : ℕ) → IsPlain 32 0 r e → n < 33 → IsPlain 32 512 r (lifts.shifted kind e n)
shifted_plain Lsl r e n p h = binary_plain bil.ShiftLeft 32 0 0 512 r e _ p (number_plain n r (omega arith)) refl (omega arith)
shifted_plain Lsr r e n p h = binary_plain bil.ShiftRight 32 0 0 512 r e _ p (number_plain n r (omega arith)) refl (omega arith)
shifted_plain Asr r e n p h = binary_plain bil.ShiftSigned 32 0 0 512 r e _ p (number_plain n r (omega arith)) refl (omega arith)
shifted_plain Ror r e n p h = rotated_plain r e _ p (constant_plain 64 n r (let t : nat_lt n (2 ^ 64) ≡ true = grind (arith, nat_tests) in t))

by_0_plain : (kind : ShiftKind) (k : CarryIn) (r : ℕ → Bool) (e : Expression) → IsPlain 32 0 r e → (lifts.through_carry kind 0 ≡ true → HasCarry k r) →
    IsPlain 32 512 r (lifts.by_0 kind k e)
by_0_plain Lsl k r e p h = lighter 32 0 512 r e p (omega arith)
by_0_plain Lsr k r e p h = lighter 32 0 512 r _ (number_plain 0 r (omega arith)) (omega arith)
by_0_plain Asr k r e p h = shifted_plain Asr r e 32 p (omega arith)
by_0_plain Ror k r e p h =
    lighter 32 0 512 r _ (concat_plain 1 31 0 0 r _ _ (carry_plain k r (h refl)) (extract_plain 31 1 32 0 r e p refl refl) refl) (omega arith)

number_shift_plain : (kind : ShiftKind) (k : CarryIn) (r : ℕ → Bool) (e : Expression) (n : ℕ) → IsPlain 32 0 r e → n < 32 →
    (lifts.through_carry kind n ≡ true → HasCarry k r) → IsPlain 32 512 r (lifts.by_number kind k e n)
number_shift_plain kind k r e zero p i h = by_0_plain kind k r e p h
number_shift_plain kind k r e (suc n) p i h = shifted_plain kind r e (suc n) p (omega arith)

byte_plain : (width : ℕ) (r : ℕ → Bool) (e : Expression) → IsPlain 32 0 r e → (nat_le 8 width && (nat_lt 0 width && nat_le width 64)) ≡ true →
    IsPlain width 0 r (lifts.low_byte width e)
byte_plain width r e p h = cast_plain bil.Unsigned width 8 0 r _ (cast_plain bil.Low 8 32 0 r e p refl) h

register_shift_plain : (kind : ShiftKind) (r : ℕ → Bool) (e n : Expression) → IsPlain 32 0 r e → IsPlain 32 0 r n →
    IsPlain 32 512 r (lifts.by_register kind e n)
register_shift_plain Lsl r e n p q = binary_plain bil.ShiftLeft 32 0 0 512 r e _ p (byte_plain 32 r n q refl) refl (omega arith)
register_shift_plain Lsr r e n p q = binary_plain bil.ShiftRight 32 0 0 512 r e _ p (byte_plain 32 r n q refl) refl (omega arith)
register_shift_plain Asr r e n p q = binary_plain bil.ShiftSigned 32 0 0 512 r e _ p (byte_plain 32 r n q refl) refl (omega arith)
register_shift_plain Ror r e n p q =
    rotated_plain r e _ p (cast_plain bil.Unsigned 64 5 0 r _ (cast_plain bil.Low 5 32 0 r n q refl) refl)

-- a number of 8 bits is one
abbrev pub Fits : operands.Operand → Type 0
Fits (kinds.Number byte rotation) = byte < 2 ^ 8
Fits (kinds.ByNumber q kind amount) = Unit {0}
Fits (kinds.ByRegister q kind amount) = Unit {0}

-- an operand
pub operand_plain : (o : operands.Operand) (k : CarryIn) (at : ℕ) (r : ℕ → Bool) → (lifts.is_rrx o ≡ true → HasCarry k r) → Fits o →
    IsPlain 32 512 r (lifts.operand o k at)
operand_plain (kinds.Number byte rotation) k at r h small =
    lighter 32 0 512 r _ (number_plain (lifts.immediate byte rotation) r (ror_small byte (2 * rotation) (omega arith))) (omega arith)
operand_plain (kinds.ByNumber q kind amount) k at r h small =
    number_shift_plain kind k r (lifts.register q.number at) amount.bits (register_plain q.number at r q.in_range) amount.in_range h
operand_plain (kinds.ByRegister q kind amount) k at r h small =
    register_shift_plain kind r (lifts.own q.number) (lifts.own amount.number) (own_register q.number r q.in_range)
    (own_register amount.number r amount.in_range)

with_carry_plain : (k : CarryIn) (w v : ℕ) (r : ℕ → Bool) (x y : Expression) → IsPlain 32 w r x → IsPlain 32 v r y → HasCarry k r →
    IsPlain 32 (w + v + 128) r (lists.with_carry k x y)
with_carry_plain k w v r x y p q h =
    binary_plain bil.Plus 32 (w + v + 64) 0 (w + v + 128) r _ _ (binary_plain bil.Plus 32 w v (w + v + 64) r x y p q refl (omega arith))
    (cast_plain bil.Unsigned 32 1 0 r _ (carry_plain k r h) refl) refl (omega arith)

-- the value of an opcode
pub value_plain : (o : Opcode) (k : CarryIn) (r : ℕ → Bool) (x y : Expression) → IsPlain 32 0 r x → IsPlain 32 512 r y →
    (lists.adds_carry o ≡ true → HasCarry k r) →
    IsPlain 32 640 r (lists.value o k x y)
value_plain And k r x y p q h = binary_plain bil.And 32 0 512 640 r x y p q refl (omega arith)
value_plain Eor k r x y p q h = binary_plain bil.Xor 32 0 512 640 r x y p q refl (omega arith)
value_plain Sub k r x y p q h = binary_plain bil.Minus 32 0 512 640 r x y p q refl (omega arith)
value_plain Rsb k r x y p q h = binary_plain bil.Minus 32 512 0 640 r y x q p refl (omega arith)
value_plain Add k r x y p q h = binary_plain bil.Plus 32 0 512 640 r x y p q refl (omega arith)
value_plain Adc k r x y p q h = with_carry_plain k 0 512 r x y p q (h refl)
value_plain Sbc k r x y p q h = with_carry_plain k 0 512 r x _ p (not_plain 32 512 r y q) (h refl)
value_plain Rsc k r x y p q h = with_carry_plain k 512 0 r y _ q (not_plain 32 0 r x p) (h refl)
value_plain Tst k r x y p q h = binary_plain bil.And 32 0 512 640 r x y p q refl (omega arith)
value_plain Teq k r x y p q h = binary_plain bil.Xor 32 0 512 640 r x y p q refl (omega arith)
value_plain Cmp k r x y p q h = binary_plain bil.Minus 32 0 512 640 r x y p q refl (omega arith)
value_plain Cmn k r x y p q h = binary_plain bil.Plus 32 0 512 640 r x y p q refl (omega arith)
value_plain Orr k r x y p q h = binary_plain bil.Or 32 0 512 640 r x y p q refl (omega arith)
value_plain Mov k r x y p q h = lighter 32 512 640 r y q (omega arith)
value_plain Bic k r x y p q h = binary_plain bil.And 32 0 512 640 r x _ p (not_plain 32 512 r y q) refl (omega arith)
value_plain Mvn k r x y p q h = lighter 32 512 640 r _ (not_plain 32 512 r y q) (omega arith)

long_plain : (n w : ℕ) (r : ℕ → Bool) (x : Expression) → IsPlain n w r x → nat_le n 33 ≡ true → IsPlain 33 w r (lists.long x)
long_plain n w r x p h = cast_plain bil.Unsigned 33 n w r x p (rw h refl)

carry_out_plain : (k : CarryIn) (w v : ℕ) (r : ℕ → Bool) (x y : Expression) → IsPlain 32 w r x → IsPlain 32 v r y → HasCarry k r →
    IsPlain 1 (w + v + 132) r (lists.carry_out k x y)
carry_out_plain k w v r x y p q h =
    extract_plain 32 32 33 (w + v + 132) r _
    (binary_plain bil.Plus 33 (w + v + 66) 0 (w + v + 132) r _ _
    (binary_plain bil.Plus 33 w v (w + v + 66) r _ _ (long_plain 32 w r x p refl) (long_plain 32 v r y q refl) refl (omega arith))
    (long_plain 1 0 r _ (carry_plain k r h) refl) refl (omega arith)) refl refl

overflow_out_plain : (k : CarryIn) (w v : ℕ) (r : ℕ → Bool) (x y : Expression) → IsPlain 32 w r x → IsPlain 32 v r y → HasCarry k r →
    IsPlain 1 (w + v + 198) r (lists.overflow_out k x y)
overflow_out_plain k w v r x y p q h =
    extract_plain 32 32 33 (w + v + 198) r _
    (binary_plain bil.Plus 33 (w + v + 132) 0 (w + v + 198) r _ _
    (binary_plain bil.Plus 33 (w + v + 66) 0 (w + v + 132) r _ _
    (binary_plain bil.Plus 33 w v (w + v + 66) r _ _ (cast_plain bil.Signed 33 32 w r x p refl) (cast_plain bil.Signed 33 32 v r y q refl) refl (omega arith))
    (long_plain 1 0 r _ (carry_plain k r h) refl) refl (omega arith))
    (constant_plain 33 0x80000000 r refl) refl (omega arith)) refl refl

-- the carry of an opcode
pub opcode_carry_plain : (o : Opcode) (k : CarryIn) (r : ℕ → Bool) (x y z : Expression) → IsPlain 32 0 r x → IsPlain 32 512 r y →
    (lists.adds_carry o ≡ true → HasCarry k r) →
    (lists.is_logical o ≡ true → IsPlain 1 644 r z) → IsPlain 1 644 r (lists.carry o k x y z)
opcode_carry_plain Sub k r x y z p q h c = binary_plain bil.LessEqual 32 512 0 644 r y x q p refl (omega arith)
opcode_carry_plain Rsb k r x y z p q h c = binary_plain bil.LessEqual 32 0 512 644 r x y p q refl (omega arith)
opcode_carry_plain Add k r x y z p q h c =
    binary_plain bil.Less 32 576 0 644 r _ x (binary_plain bil.Plus 32 0 512 576 r x y p q refl (omega arith)) p refl (omega arith)
opcode_carry_plain Adc k r x y z p q h c = carry_out_plain k 0 512 r x y p q (h refl)
opcode_carry_plain Sbc k r x y z p q h c = carry_out_plain k 0 512 r x _ p (not_plain 32 512 r y q) (h refl)
opcode_carry_plain Rsc k r x y z p q h c = carry_out_plain k 512 0 r y _ q (not_plain 32 0 r x p) (h refl)
opcode_carry_plain Cmp k r x y z p q h c = binary_plain bil.LessEqual 32 512 0 644 r y x q p refl (omega arith)
opcode_carry_plain Cmn k r x y z p q h c =
    binary_plain bil.Less 32 576 0 644 r _ x (binary_plain bil.Plus 32 0 512 576 r x y p q refl (omega arith)) p refl (omega arith)
opcode_carry_plain And k r x y z p q h c = c refl
opcode_carry_plain Eor k r x y z p q h c = c refl
opcode_carry_plain Tst k r x y z p q h c = c refl
opcode_carry_plain Teq k r x y z p q h c = c refl
opcode_carry_plain Orr k r x y z p q h c = c refl
opcode_carry_plain Mov k r x y z p q h c = c refl
opcode_carry_plain Bic k r x y z p q h c = c refl
opcode_carry_plain Mvn k r x y z p q h c = c refl

known_set : (r : ℕ → Bool) → HasCarry Set r
known_set r f h = refl

known_clear : (r : ℕ → Bool) → HasCarry Clear r
known_clear r f h = refl

-- the overflow of an opcode that is not logical
pub overflow_plain : (o : Opcode) (k : CarryIn) (r : ℕ → Bool) (x y : Expression) → IsPlain 32 0 r x → IsPlain 32 512 r y →
    (lists.adds_carry o ≡ true → HasCarry k r) →
    lists.is_logical o ≡ false → IsPlain 1 710 r (lists.overflow o k x y)
overflow_plain Sub k r x y p q h n = overflow_out_plain Set 0 512 r x _ p (not_plain 32 512 r y q) (known_set r)
overflow_plain Rsb k r x y p q h n = overflow_out_plain Set 512 0 r y _ q (not_plain 32 0 r x p) (known_set r)
overflow_plain Add k r x y p q h n = overflow_out_plain Clear 0 512 r x y p q (known_clear r)
overflow_plain Adc k r x y p q h n = overflow_out_plain k 0 512 r x y p q (h refl)
overflow_plain Sbc k r x y p q h n = overflow_out_plain k 0 512 r x _ p (not_plain 32 512 r y q) (h refl)
overflow_plain Rsc k r x y p q h n = overflow_out_plain k 512 0 r y _ q (not_plain 32 0 r x p) (h refl)
overflow_plain Cmp k r x y p q h n = overflow_out_plain Set 0 512 r x _ p (not_plain 32 512 r y q) (known_set r)
overflow_plain Cmn k r x y p q h n = overflow_out_plain Clear 0 512 r x y p q (known_clear r)
overflow_plain And k r x y p q h n = cc
overflow_plain Eor k r x y p q h n = cc
overflow_plain Tst k r x y p q h n = cc
overflow_plain Teq k r x y p q h n = cc
overflow_plain Orr k r x y p q h n = cc
overflow_plain Mov k r x y p q h n = cc
overflow_plain Bic k r x y p q h n = cc
overflow_plain Mvn k r x y p q h n = cc

bit_plain : (i n w : ℕ) (r : ℕ → Bool) (e : Expression) → i < n → IsPlain n w r e → IsPlain 1 w r (lifts.bit_of i e)
bit_plain i n w r e h p =
    let a : nat_le i i ≡ true = grind (arith, nat_tests) in
    let b : nat_lt i n ≡ true = grind (arith, nat_tests) in
    let one : i - i + 1 ≡ 1 = omega arith in
    subst (λ (z : ℕ). IsPlain z w r (lifts.bit_of i e)) one (extract_plain i i n w r e p (rw (a, b) refl) (omega arith))

-- the carry of a shift by a number, where it is not the flag
fixed_carry_plain : (kind : ShiftKind) (r : ℕ → Bool) (e : Expression) (n : ℕ) → n < 32 → lifts.keeps_by_number kind n ≡ false → IsPlain 32 0 r e →
    IsPlain 1 0 r (lifts.number_carry kind e n)
fixed_carry_plain Lsl r e zero h k p = cc
fixed_carry_plain Lsr r e zero h k p = bit_plain 31 32 0 r e (omega arith) p
fixed_carry_plain Asr r e zero h k p = bit_plain 31 32 0 r e (omega arith) p
fixed_carry_plain Ror r e zero h k p = bit_plain 0 32 0 r e (omega arith) p
fixed_carry_plain Lsl r e (suc n) h k p = bit_plain (31 - n) 32 0 r e (omega arith) p
fixed_carry_plain Lsr r e (suc n) h k p = bit_plain n 32 0 r e (omega arith) p
fixed_carry_plain Asr r e (suc n) h k p = bit_plain n 32 0 r e (omega arith) p
fixed_carry_plain Ror r e (suc n) h k p = bit_plain n 32 0 r e (omega arith) p

bit_constant : (x : ℕ) (r : ℕ → Bool) → IsPlain 1 0 r (Constant 1 (bit_at 31 x))
bit_constant x r = constant_plain 1 (bit_at 31 x) r (let t : nat_lt (x / 2 ^ 31 % 2) 2 ≡ true = grind (arith, nat_tests) in t)

abbrev c_alone : ℕ → Bool
c_alone f = 1 == f

c_plain : IsPlain 1 0 c_alone (flag 1)
c_plain = flag_plain 1 c_alone refl (λ f h. h)

number_carry_plain : (kind : ShiftKind) (e : Expression) (n : ℕ) → n < 32 → IsPlain 32 0 c_alone e → IsPlain 1 0 c_alone (lifts.number_carry kind e n)
number_carry_plain Lsl e zero h p = c_plain
number_carry_plain Lsr e zero h p = fixed_carry_plain Lsr c_alone e 0 h refl p
number_carry_plain Asr e zero h p = fixed_carry_plain Asr c_alone e 0 h refl p
number_carry_plain Ror e zero h p = fixed_carry_plain Ror c_alone e 0 h refl p
number_carry_plain Lsl e (suc n) h p = bit_plain (31 - n) 32 0 c_alone e (omega arith) p
number_carry_plain Lsr e (suc n) h p = fixed_carry_plain Lsr c_alone e (suc n) h refl p
number_carry_plain Asr e (suc n) h p = fixed_carry_plain Asr c_alone e (suc n) h refl p
number_carry_plain Ror e (suc n) h p = fixed_carry_plain Ror c_alone e (suc n) h refl p

register_carry_plain : (kind : ShiftKind) (e n : Expression) → IsPlain 32 0 c_alone e → IsPlain 32 0 c_alone n →
    IsPlain 1 644 c_alone (lifts.register_carry kind e n)
register_carry_plain Lsl e n p q =
    extract_plain 32 32 33 644 c_alone _
    (binary_plain bil.ShiftLeft 33 0 0 644 c_alone _ _ (concat_plain 1 32 0 0 c_alone _ e c_plain p refl) (byte_plain 33 c_alone n q refl) refl (omega arith))
    refl refl
register_carry_plain Lsr e n p q =
    cast_plain bil.Low 1 33 644 c_alone _
    (binary_plain bil.ShiftRight 33 0 0 644 c_alone _ _ (concat_plain 32 1 0 0 c_alone e _ p c_plain refl) (byte_plain 33 c_alone n q refl) refl
    (omega arith)) refl
register_carry_plain Asr e n p q =
    cast_plain bil.Low 1 33 644 c_alone _
    (binary_plain bil.ShiftSigned 33 0 0 644 c_alone _ _ (concat_plain 32 1 0 0 c_alone e _ p c_plain refl) (byte_plain 33 c_alone n q refl) refl
    (omega arith)) refl
register_carry_plain Ror e n p q =
    lighter 1 521 644 c_alone _
    (choose_plain 8 0 512 c_alone _ _ _
    (binary_plain bil.Equal 8 0 0 8 c_alone _ _ (cast_plain bil.Low 8 32 0 c_alone n q refl) (constant_plain 8 0 c_alone refl) refl (omega arith)) c_plain
    (bit_plain 31 32 512 c_alone _ (omega arith) (register_shift_plain Ror c_alone e n p q))) (omega arith)

immediate_carry_plain : (byte rotation : ℕ) → IsPlain 1 0 c_alone (lifts.immediate_carry byte rotation)
immediate_carry_plain byte zero = c_plain
immediate_carry_plain byte (suc n) = bit_constant (lifts.immediate byte (suc n)) c_alone

-- the carry out of an operand's shift
pub shifter_carry_plain : (o : operands.Operand) (at : ℕ) → IsPlain 1 644 c_alone (lifts.shifter_carry o at)
shifter_carry_plain (kinds.Number byte rotation) at = lighter 1 0 644 c_alone _ (immediate_carry_plain byte rotation) (omega arith)
shifter_carry_plain (kinds.ByNumber q kind amount) at =
    lighter 1 0 644 c_alone _ (number_carry_plain kind (lifts.register q.number at) amount.bits amount.in_range
    (register_plain q.number at c_alone q.in_range)) (omega arith)
shifter_carry_plain (kinds.ByRegister q kind amount) at =
    register_carry_plain kind (lifts.own q.number) (lifts.own amount.number) (own_register q.number c_alone q.in_range)
    (own_register amount.number c_alone amount.in_range)

-- it reads no flag, unless it is kept or the shift is by a register
pub fixed_shifter_plain : (o : operands.Operand) (at : ℕ) (r : ℕ → Bool) → lifts.keeps_carry o ≡ false → is_by_register o ≡ false →
    IsPlain 1 644 r (lifts.shifter_carry o at)
fixed_shifter_plain (kinds.Number byte rotation) at r h k = lighter 1 0 644 r _ (by rotation h) (omega arith)
  where
    by : (n : ℕ) → (n == 0) ≡ false → IsPlain 1 0 r (lifts.immediate_carry byte n)
    by zero h = cc
    by (suc n) h = bit_constant (lifts.immediate byte (suc n)) r
fixed_shifter_plain (kinds.ByNumber q kind amount) at r h k =
    lighter 1 0 644 r _ (fixed_carry_plain kind r (lifts.register q.number at) amount.bits amount.in_range h (register_plain q.number at r q.in_range))
    (omega arith)
fixed_shifter_plain (kinds.ByRegister q kind amount) at r h k = cc
