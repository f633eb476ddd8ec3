-- What the carries out of shifts evaluate to.
use Rattle.std.proofs.Common.{◌≡◌, ℕ, zero, suc, ◌+◌, ◌-◌, ◌*◌, ◌/◌, ◌%◌, ◌^◌, ◌<◌, nat_le, Bool, true, false, refl, sym, ap, ◌∙◌, arith, min, if◌then◌else◌}
use Rattle.std.specs.Prelude.{◌==◌}
use Rattle.std.proofs.lemmas.Bool.{ne_eqb}
use Rattle.std.proofs.lemmas.Bool.Decides.{nat_tests}
use Rattle.word_spec.specs.Words.{bit, bit_at}
use Rattle.word_spec.specs.State.{State, IsState, flag_c}
use Rattle.machine_spec.specs.Arm as rows
use Rattle.machine_spec.specs.Arm.{reg}
use Rattle.machine_spec.specs.Bil.{Expression}
use Rattle.machine_spec.specs.BilMeaning.{Word, choose}
use Rattle.machine_spec.proofs.ArmRanges.{reg_small}
use Rattle.arm_decode.specs.declared.parts.ShiftKind.{ShiftKind}
use Rattle.arm_decode.specs.declared.parts.ShiftKind.TheVariants.{Lsl, Lsr, Asr, Ror}
use Rattle.arm_decode.specs.declared.parts.Operand as operands
use Rattle.arm_decode.specs.declared.parts.Operand.TheVariants as kinds
use Rattle.arm_decode.specs.Parts.{kind_number}
use Rattle.arm_lift_alu.specs.declared.shifter.CarryIn.{CarryIn}
use Rattle.arm_lift_alu.specs.declared.shifter.CarryIn.TheVariants.{Flag}
use Rattle.arm_lift_alu.specs.Operands as lifts
use Rattle.arm_lift_alu.proofs.Values.{Gives, carry_gives, register_gives, own_gives, operand_in}
use Rattle.arm_lift_alu.proofs.Shifts.{turned_by, rotation}
use Rattle.arm_lift_alu.proofs.CarryNumbers.{bit_is, left_carry, right_carry, signed_carry, around_bit}

word_is : (x y : ℕ) → x ≡ y → Word 1 x ≡ Word 1 y
word_is x y h = ap (λ z. Word 1 z) h

bit_gives : (i : ℕ) (k : CarryIn) (s : State) (e : Expression) (x : ℕ) → i < 32 → Gives k s 32 e x → Gives k s 1 (lifts.bit_of i e) (bit_at i x)
bit_gives i k s e x h p = record { is = λ f g c l. rw (p.is f g c l) (bit_is i x h) }

given : (k : CarryIn) (s : State) (e : Expression) (x y : ℕ) → x ≡ y → Gives k s 1 e x → Gives k s 1 e y
given k s e x y h p = record { is = λ f g c l. p.is f g c l ∙ word_is x y h }

-- the carry out of a shift by a number
number_carry_gives : (kind : ShiftKind) (s : State) (e : Expression) (x n : ℕ) → n < 32 → Gives Flag s 32 e x →
    Gives Flag s 1 (lifts.number_carry kind e n) (rows.by_number (kind_number kind) n x (s.flags flag_c)).carry
number_carry_gives Lsl s e x zero h p = carry_gives Flag s
number_carry_gives Lsr s e x zero h p = bit_gives 31 Flag s e x (omega arith) p
number_carry_gives Asr s e x zero h p = bit_gives 31 Flag s e x (omega arith) p
number_carry_gives Ror s e x zero h p = bit_gives 0 Flag s e x (omega arith) p
number_carry_gives Lsl s e x (suc n) h p =
    let t : nat_le (suc n) 32 ≡ true = grind (arith, nat_tests) in
    let m : 31 - n ≡ 32 - suc n = omega arith in
    given Flag s _ _ _ (rw t (ap (λ i. bit_at i x) m)) (bit_gives (31 - n) Flag s e x (omega arith) p)
number_carry_gives Lsr s e x (suc n) h p =
    let t : nat_le (suc n) 32 ≡ true = grind (arith, nat_tests) in
    let m : n ≡ suc n - 1 = omega arith in
    given Flag s _ _ _ (rw t (ap (λ i. bit_at i x) m)) (bit_gives n Flag s e x (omega arith) p)
number_carry_gives Asr s e x (suc n) h p =
    let t : nat_le (suc n) 32 ≡ true = grind (arith, nat_tests) in
    let m : n ≡ suc n - 1 = omega arith in
    given Flag s _ _ _ (rw t (ap (λ i. bit_at i x) m)) (bit_gives n Flag s e x (omega arith) p)
number_carry_gives Ror s e x (suc n) h p =
    let t : (suc n % 32 == 0) ≡ false = ne_eqb (suc n % 32) 0 (λ e. omega arith) in
    let m : n ≡ suc n % 32 - 1 = omega arith in
    given Flag s _ _ _ (rw t (ap (λ i. bit_at i x) m)) (bit_gives n Flag s e x (omega arith) p)

-- the carry out of a rotation by a register
around : (x d a k : ℕ) → x < 2 ^ 32 → a % 32 ≡ k → k < 32 → choose (Word 1 (bit (a == 0))) (Word 1 d) (Word 1 (bit_at 31 (turned_by x k)))
    ≡ Word 1 (rows.by_register 3 a x d).carry
around x d zero k h e l = refl
around x d (suc n) k h e l =
    rw (ne_eqb (suc n) 0 (λ z. omega arith))
    (word_is _ _ (around_bit x k h l ∙ ap (λ z. if z == 0 then bit_at 31 x else bit_at (z - 1) x) (sym e)))

register_carry_gives : (kind : ShiftKind) (s : State) (e n : Expression) (x m : ℕ) → x < 2 ^ 32 → s.flags flag_c < 2 → Gives Flag s 32 e x →
    Gives Flag s 32 n m →
    Gives Flag s 1 (lifts.register_carry kind e n) (rows.by_register (kind_number kind) (m % 256) x (s.flags flag_c)).carry
register_carry_gives Lsl s e n x m h i p q =
    record { is = λ f g c l. rw (p.is f g c l, q.is f g c l, g) (word_is _ _ (left_carry (s.flags flag_c) x (m % 256) i h)) }
register_carry_gives Lsr s e n x m h i p q =
    record { is = λ f g c l. rw (p.is f g c l, q.is f g c l, g) (word_is _ _ (right_carry (s.flags flag_c) x (m % 256) i h)) }
register_carry_gives Asr s e n x m h i p q =
    record { is = λ f g c l. rw (p.is f g c l, q.is f g c l, g) (word_is _ _ (signed_carry (s.flags flag_c) x (m % 256) i h)) }
register_carry_gives Ror s e n x m h i p q =
    record { is = λ f g c l. rw (p.is f g c l, q.is f g c l, g, turns m) (around x (s.flags flag_c) (m % 256) (m % 32) h (omega arith) (omega arith)) }
  where
    turns : (m : ℕ) → (x * 2 ^ 32 + x) / 2 ^ min (m % 32) 64 % 2 ^ 32 ≡ turned_by x (m % 32)
    turns m = let t : min (m % 32) 64 ≡ m % 32 = omega arith in rw t (rotation x (m % 32) h (omega arith))

-- the carry out of an operand's shift
pub shifter_carry_gives : (o : operands.Operand) (s : State) (at : ℕ) → IsState s → s.pc ≡ at → Gives Flag s 1 (lifts.shifter_carry o at) (operand_in o s).carry
shifter_carry_gives (kinds.Number byte rotation) s at is here = by rotation
  where
    by : (rotation : ℕ) → Gives Flag s 1 (lifts.immediate_carry byte rotation)
        (if rotation == 0 then s.flags flag_c else bit_at 31 (lifts.immediate byte rotation))
    by zero = carry_gives Flag s
    by (suc n) = record { is = λ f g c l. rw (ne_eqb (suc n) 0 (λ z. omega arith)) refl }
shifter_carry_gives (kinds.ByNumber r kind amount) s at is here =
    number_carry_gives kind s (lifts.register r.number at) (reg s r.number) amount.bits amount.in_range (register_gives Flag s r.number at here)
shifter_carry_gives (kinds.ByRegister r kind amount) s at is here =
    register_carry_gives kind s (lifts.own r.number) (lifts.own amount.number) (reg s r.number) (reg s amount.number) (reg_small s r.number is)
    (is.flags flag_c)
    (own_gives Flag s r.number r.in_range) (own_gives Flag s amount.number amount.in_range)

-- what keeps the carry
pub keeps : (o : operands.Operand) (s : State) → lifts.keeps_carry o ≡ true → (operand_in o s).carry ≡ s.flags flag_c
keeps (kinds.Number byte rotation) s h = rw h refl
keeps (kinds.ByNumber r kind amount) s h = by kind amount.bits h
  where
    both : (b : Bool) → b ≡ true → b ≡ false → ⊥
    both true h k = cc
    both false h k = cc

    clash : (n : ℕ) → (suc n == 0) ≡ true → ⊥
    clash n h = let e : (suc n == 0) ≡ false = ne_eqb (suc n) 0 (λ z. omega arith) in both (suc n == 0) h e

    by : (kind : ShiftKind) (n : ℕ) → lifts.keeps_by_number kind n ≡ true →
        (rows.by_number (kind_number kind) n (reg s r.number) (s.flags flag_c)).carry ≡ s.flags flag_c
    by Lsl zero h = refl
    by Lsl (suc n) h = absurd (clash n h)
    by Lsr n h = cc
    by Asr n h = cc
    by Ror n h = cc
keeps (kinds.ByRegister r kind amount) s h = cc
