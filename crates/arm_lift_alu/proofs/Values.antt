-- What the operands evaluate to.
use Rattle.std.proofs.Common.{◌≡◌, ℕ, zero, suc, ◌+◌, ◌*◌, ◌/◌, ◌%◌, ◌^◌, ◌<◌, Bool, true, false, refl, ap, sym, subst, ◌∙◌, arith, min, if◌then◌else◌}
use Rattle.std.specs.Prelude.{◌==◌}
use Rattle.std.proofs.lemmas.Bool.{ne_eqb}
use Rattle.word_spec.specs.Words.{add, bits, bit_at}
use Rattle.word_spec.specs.Memory.{Little}
use Rattle.word_spec.specs.State.{State, IsState, flag_c}
use Rattle.machine_spec.specs.Arm as rows
use Rattle.machine_spec.specs.Arm.{Shifted, reg}
use Rattle.machine_spec.specs.Bil.{Bits, BilVariable, Register, Mem, Local, Expression, type_of}
use Rattle.machine_spec.specs.Bil as bil
use Rattle.machine_spec.specs.BilMeaning.{Value, Word, Stuck, get, evaluate, HoldsVariables, IsOfType}
use Rattle.machine_spec.specs.Simulation.{Locals, env_of}
use Rattle.machine_spec.proofs.BilSound.{sound}
use Rattle.machine_spec.proofs.ArmRanges.{reg_small}
use Rattle.arm_decode.specs.declared.parts.ShiftKind.{ShiftKind}
use Rattle.arm_decode.specs.declared.parts.ShiftKind.TheVariants.{Lsl, Lsr, Asr, Ror}
use Rattle.arm_decode.specs.declared.parts.Operand as operands
use Rattle.arm_decode.specs.declared.parts.Operand.TheVariants as kinds
use Rattle.arm_decode.specs.Parts.{kind_number, HasOperand}
use Rattle.arm_lift_alu.specs.declared.shifter.CarryIn.{CarryIn}
use Rattle.arm_lift_alu.specs.declared.shifter.CarryIn.TheVariants.{Clear, Set, Flag}
use Rattle.arm_lift_alu.specs.Operands as lifts
use Rattle.arm_lift_alu.proofs.Plain.{IsPlain, own}
use Rattle.arm_lift_alu.proofs.Shifts.{turned_by, rotation, left_by, right_by, signed_by, around_by}

-- the carry that comes in, by the flags
abbrev pub carry_in : CarryIn → (ℕ → ℕ) → ℕ
carry_in Clear f = 0
carry_in Set f = 1
carry_in Flag f = f flag_c

-- an expression's value in a state with any flags, if what is known of the carry that comes in is so
pub record Gives (k : CarryIn) (s : State) (n : ℕ) (e : Expression) (a : ℕ) : Type 0 where
  pub is : (f : ℕ → ℕ) → carry_in k f ≡ s.flags flag_c → (c : ℕ) (l : Locals) → evaluate e c (env_of l (record s { flags = f })) ≡ Word n a

-- the same where also the flag C is what it was
pub record Carries (k : CarryIn) (s : State) (e : Expression) (a : ℕ) : Type 0 where
  pub is : (f : ℕ → ℕ) → f flag_c ≡ s.flags flag_c → carry_in k f ≡ s.flags flag_c →
      (c : ℕ) (l : Locals) → evaluate e c (env_of l (record s { flags = f })) ≡ Word 1 a

pub carries : (k : CarryIn) (s : State) (e : Expression) (a : ℕ) → Gives k s 1 e a → Carries k s e a
carries k s e a p = record { is = λ f h g c l. p.is f g c l }

pub flag_carries : (k : CarryIn) (s : State) (e : Expression) (a : ℕ) → Gives Flag s 1 e a → Carries k s e a
flag_carries k s e a p = record { is = λ f h g c l. p.is f h c l }

pub carry_gives : (k : CarryIn) (s : State) → Gives k s 1 (lifts.carry_bit k) (s.flags flag_c)
carry_gives Clear s = record { is = λ f h c l. ap (λ z. Word 1 z) h }
carry_gives Set s = record { is = λ f h c l. ap (λ z. Word 1 z) h }
carry_gives Flag s = record { is = λ f h c l. ap (λ z. Word 1 z) h }

register_is : (b : Bool) (r at c : ℕ) (l : Locals) (s : State) → s.pc ≡ at →
    evaluate (lifts.register_by b r at) c (env_of l s) ≡ Word 32 (if b then add 32 s.pc 8 else s.regs r)
register_is true r at c l s h = ap (λ a. Word 32 (add 32 a 8)) (sym h)
register_is false r at c l s h = refl

pub register_gives : (k : CarryIn) (s : State) (r at : ℕ) → s.pc ≡ at → Gives k s 32 (lifts.register r at) (reg s r)
register_gives k s r at here = record { is = λ f h c l. register_is (r == 15) r at c l (record s { flags = f }) here }

pub own_gives : (k : CarryIn) (s : State) (r : ℕ) → r < 15 → Gives k s 32 (lifts.own r) (reg s r)
own_gives k s r small = record { is = λ f h c l. rw (ne_eqb r 15 (λ x. omega arith)) refl }

-- the variables of a state
holds : (l : Locals) (s : State) → IsState s → HoldsVariables (own Little) (env_of l s)
holds l s is = record { variable = by }
  where
    by : (x : BilVariable) → own Little x ≡ true → IsOfType (type_of x) (get x (env_of l s))
    by (Register b r) h = (refl, is.regs r)
    by (bil.Flag f) h = (refl, is.flags f)
    by Mem h = is.mem
    by (Local x n) h = cc

-- what is given fits its width
pub small : (n w : ℕ) (r : ℕ → Bool) (e : Expression) (a : ℕ) (k : CarryIn) (s : State) → IsState s → IsPlain n w r e → carry_in k s.flags ≡ s.flags flag_c →
    Gives k s n e a →
    a < 2 ^ n
small n w r e a k s is p h g =
    let l : Locals = λ x n. Stuck in
    let t : IsOfType (Bits n) (Word n a)
    = subst (λ (v : Value). IsOfType (Bits n) v) (g.is s.flags h 0 l)
    (sound e 0 (Bits n) (own Little) (env_of l s) 0 (p.typed 0) (p.names Little) (holds l s is)) in
    t.1

word_is : (n x y : ℕ) → x ≡ y → Word n x ≡ Word n y
word_is n x y h = ap (λ z. Word n z) h

-- a word rotated by an amount of 64 bits
rotated_gives : (k : CarryIn) (s : State) (e n : Expression) (x m : ℕ) → Gives k s 32 e x → Gives k s 64 n m → x < 2 ^ 32 → m < 32 →
    Gives k s 32 (lifts.rotated e n) (turned_by x m)
rotated_gives k s e n x m p q h i =
    let t : min m 64 ≡ m = omega arith in
    record { is = λ f g c l. rw (p.is f g c l, q.is f g c l) (word_is 32 _ _ (ap (λ z. (x * 2 ^ 32 + x) / 2 ^ z % 2 ^ 32) t ∙ rotation x m h i)) }

-- a word shifted by a number that is not 0
shifted_gives : (kind : ShiftKind) (k : CarryIn) (s : State) (e : Expression) (x n d : ℕ) → Gives k s 32 e x → x < 2 ^ 32 → suc n < 32 →
    Gives k s 32 (lifts.shifted kind e (suc n)) (rows.by_number (kind_number kind) (suc n) x d).value
shifted_gives Lsl k s e x n d p h i = record { is = λ f g c l. rw (p.is f g c l) refl }
shifted_gives Lsr k s e x n d p h i = record { is = λ f g c l. rw (p.is f g c l) refl }
shifted_gives Asr k s e x n d p h i = record { is = λ f g c l. rw (p.is f g c l) refl }
shifted_gives Ror k s e x n d p h i =
    let t : suc n ≡ suc n % 32 = omega arith in
    let r = rotated_gives k s e (bil.Constant 64 (suc n)) x (suc n) p (record { is = λ f g c l. refl }) h i in
    record { is = λ f g c l. r.is f g c l ∙ word_is 32 _ _ (ap (turned_by x) t) }

-- by the number 0
by_0_gives : (kind : ShiftKind) (k : CarryIn) (s : State) (e : Expression) (x : ℕ) → Gives k s 32 e x → x < 2 ^ 32 →
    Gives k s 32 (lifts.by_0 kind k e) (rows.by_number (kind_number kind) 0 x (s.flags flag_c)).value
by_0_gives Lsl k s e x p h = p
by_0_gives Lsr k s e x p h = record { is = λ f g c l. refl }
by_0_gives Asr k s e x p h = record { is = λ f g c l. rw (p.is f g c l) refl }
by_0_gives Ror k s e x p h =
    let q = carry_gives k s in
    record { is = λ f g c l. rw (p.is f g c l, q.is f g c l) (word_is 32 _ _ (through x (s.flags flag_c) h)) }
  where
    through : (x d : ℕ) → x < 2 ^ 32 → d * 2 ^ 31 + x / 2 ^ 1 % 2 ^ 31 ≡ d * 2 ^ 31 + x / 2
    through x d h = omega arith

number_gives : (kind : ShiftKind) (k : CarryIn) (s : State) (e : Expression) (x n : ℕ) → Gives k s 32 e x → x < 2 ^ 32 → n < 32 →
    Gives k s 32 (lifts.by_number kind k e n) (rows.by_number (kind_number kind) n x (s.flags flag_c)).value
number_gives kind k s e x zero p h i = by_0_gives kind k s e x p h
number_gives kind k s e x (suc n) p h i = shifted_gives kind k s e x n (s.flags flag_c) p h i

-- by a register
by_register_gives : (kind : ShiftKind) (k : CarryIn) (s : State) (e n : Expression) (x m d : ℕ) → Gives k s 32 e x → Gives k s 32 n m → x < 2 ^ 32 →
    Gives k s 32 (lifts.by_register kind e n) (rows.by_register (kind_number kind) (m % 256) x d).value
by_register_gives Lsl k s e n x m d p q h = record { is = λ f g c l. rw (p.is f g c l, q.is f g c l) (word_is 32 _ _ (left_by x (m % 256) d h)) }
by_register_gives Lsr k s e n x m d p q h = record { is = λ f g c l. rw (p.is f g c l, q.is f g c l) (word_is 32 _ _ (right_by x (m % 256) d h)) }
by_register_gives Asr k s e n x m d p q h = record { is = λ f g c l. rw (p.is f g c l, q.is f g c l) (word_is 32 _ _ (signed_by x (m % 256) d h)) }
by_register_gives Ror k s e n x m d p q h =
    let low : Gives k s 64 (bil.Cast bil.Unsigned 64 (bil.Cast bil.Low 5 n)) (m % 32) = record { is = λ f g c l. rw (q.is f g c l) refl } in
    let r = rotated_gives k s e (bil.Cast bil.Unsigned 64 (bil.Cast bil.Low 5 n)) x (m % 32) p low h (omega arith) in
    record { is = λ f g c l. r.is f g c l ∙ word_is 32 _ _ (around_by x m d) }

-- an operand in a state, and its carry
abbrev pub operand_in : operands.Operand → State → Shifted
operand_in (kinds.Number byte rotation) s =
    record { value = lifts.immediate byte rotation; carry = if rotation == 0 then s.flags flag_c else bit_at 31 (lifts.immediate byte rotation) }
operand_in (kinds.ByNumber r kind amount) s = rows.by_number (kind_number kind) amount.bits (reg s r.number) (s.flags flag_c)
operand_in (kinds.ByRegister r kind amount) s = rows.by_register (kind_number kind) (reg s amount.number % 256) (reg s r.number) (s.flags flag_c)

pub operand_gives : (o : operands.Operand) (k : CarryIn) (s : State) (at : ℕ) → IsState s → s.pc ≡ at →
    Gives k s 32 (lifts.operand o k at) (operand_in o s).value
operand_gives (kinds.Number byte rotation) k s at is here = record { is = λ f g c l. refl }
operand_gives (kinds.ByNumber r kind amount) k s at is here =
    number_gives kind k s (lifts.register r.number at) (reg s r.number) amount.bits (register_gives k s r.number at here)
    (reg_small s r.number is) amount.in_range
operand_gives (kinds.ByRegister r kind amount) k s at is here =
    by_register_gives kind k s (lifts.own r.number) (lifts.own amount.number) (reg s r.number) (reg s amount.number) (s.flags flag_c)
    (own_gives k s r.number r.in_range)
    (own_gives k s amount.number amount.in_range) (reg_small s r.number is)

-- a shift from equal parts
shift_from : (f : ℕ → ℕ → ℕ → ℕ → Shifted) (k l n m v u c : ℕ) → k ≡ l → n ≡ m → v ≡ u → f k n v c ≡ f l m u c
shift_from f k l n m v u c a b e = ap (λ k. f k n v c) a ∙ ap (λ n. f l n v c) b ∙ ap (λ v. f l m v c) e

-- a rotated number, and its carry
abbrev number_in : ℕ → ℕ → ℕ → Shifted
number_in byte rotation c = record { value = lifts.immediate byte rotation; carry = if rotation == 0 then c else bit_at 31 (lifts.immediate byte rotation) }

-- the operand of a word
pub operand_of_word : (w : ℕ) (s : State) (o : operands.Operand) → HasOperand w o → operand_in o s ≡ rows.operand w s
operand_of_word w s (kinds.Number byte rotation) h =
    rw h.0 (ap (λ b. number_in b rotation (s.flags flag_c)) h.1 ∙ ap (λ r. number_in (bits 7 0 w) r (s.flags flag_c)) h.2)
operand_of_word w s (kinds.ByNumber r kind amount) h =
    rw (h.0, h.1) (shift_from rows.by_number _ _ _ _ _ _ (s.flags flag_c) h.3 h.4 (ap (reg s) h.2))
operand_of_word w s (kinds.ByRegister r kind amount) h =
    rw (h.0, h.1) (shift_from rows.by_register _ _ _ _ _ _ (s.flags flag_c) h.3 (ap (λ n. reg s n % 256) h.4) (ap (reg s) h.2))
