-- What opcodes evaluate to: the value, the carry and the overflow.
use Rattle.std.proofs.Common.{◌≡◌, ℕ, ◌+◌, ◌/◌, ◌%◌, ◌^◌, ◌<◌, nat_le, nat_lt, true, false, refl, ap, arith}
use Rattle.std.proofs.lemmas.Bool.Decides.{nat_tests}
use Rattle.word_spec.specs.Words.{add, sub, bit, bits, complement, sign_extend}
use Rattle.word_spec.specs.State.{State, flag_c, flag_v}
use Rattle.machine_spec.specs.Arm.{Result, results, result_at, sum}
use Rattle.machine_spec.specs.Bil.{Expression}
use Rattle.machine_spec.specs.BilMeaning.{Word}
use Rattle.arm_decode.specs.declared.parts.Opcode.{Opcode}
use Rattle.arm_decode.specs.declared.parts.Opcode.TheVariants.{And, Eor, Sub, Rsb, Add, Adc, Sbc, Rsc, Tst, Teq, Cmp, Cmn, Orr, Mov, Bic, Mvn}
use Rattle.arm_decode.specs.Parts.{opcode_number}
use Rattle.arm_lift_alu.specs.declared.shifter.CarryIn.{CarryIn}
use Rattle.arm_lift_alu.specs.declared.shifter.CarryIn.TheVariants.{Clear, Set}
use Rattle.arm_lift_alu.specs.Operands.{carry_bit}
use Rattle.arm_lift_alu.specs.Computing as lifts
use Rattle.arm_lift_alu.proofs.Values.{Gives, Carries, carries, carry_gives}

word_is : (n x y : ℕ) → x ≡ y → Word n x ≡ Word n y
word_is n x y h = ap (λ z. Word n z) h

-- the result of an opcode
abbrev pub result_of : Opcode → State → (x y shifter : ℕ) → Result
result_of o s x y d = result_at (results s x (record { value = y; carry = d })) (opcode_number o)

minus : (x y : ℕ) → y < 2 ^ 32 → sub 32 x y ≡ (x + complement 32 y + 1) % 2 ^ 32
minus x y h = omega arith

plus : (x y : ℕ) → add 32 x y ≡ (x + y + 0) % 2 ^ 32
plus x y = omega arith

out : (x y d : ℕ) → x < 2 ^ 32 → y < 2 ^ 32 → d < 2 → ((x + y) % 2 ^ 33 + d) % 2 ^ 33 / 2 ^ 32 % 2 ^ 1 ≡ bit (nat_le (2 ^ 32) (x + y + d))
out x y d h i m = grind (arith, nat_tests)

-- no borrow of a difference
no_borrow : (x y : ℕ) → x < 2 ^ 32 → y < 2 ^ 32 → bit (nat_le y x) ≡ bit (nat_le (2 ^ 32) (x + complement 32 y + 1))
no_borrow x y h i = grind (arith, nat_tests)

wraps : (x y : ℕ) → x < 2 ^ 32 → y < 2 ^ 32 → bit (nat_lt ((x + y) % 2 ^ 32) x) ≡ bit (nat_le (2 ^ 32) (x + y + 0))
wraps x y h i = grind (arith, nat_tests)

-- the signed sum leaves the range
leaves : (x y d : ℕ) → x < 2 ^ 32 → y < 2 ^ 32 → d < 2 →
    bits 32 32 (add 33 (add 33 (add 33 (sign_extend 32 33 x) (sign_extend 32 33 y)) d) 0x80000000) ≡ (sum x y d).overflow
leaves x y d h i m = grind (arith, nat_tests)

twice : (x y c : ℕ) → add 32 (add 32 x y) c ≡ (x + y + c) % 2 ^ 32
twice x y c = omega arith

-- a sum of two words and a bit, and its flags
module _ (k j : CarryIn) (s : State) (e f : Expression) (x y d : ℕ) (p : Gives k s 32 e x) (q : Gives k s 32 f y) (r : Gives k s 1 (carry_bit j) d)
    (h : x < 2 ^ 32) (i : y < 2 ^ 32) (m : d < 2) where
  with_carry_gives : Gives k s 32 (lifts.with_carry j e f) ((x + y + d) % 2 ^ 32)
  with_carry_gives = record { is = λ g t c l. rw (p.is g t c l, q.is g t c l, r.is g t c l) (word_is 32 _ _ (twice x y d)) }

  carry_out_gives : Gives k s 1 (lifts.carry_out j e f) (sum x y d).carry
  carry_out_gives = record { is = λ g t c l. rw (p.is g t c l, q.is g t c l, r.is g t c l) (word_is 1 _ _ (out x y d h i m)) }

  overflow_out_gives : Gives k s 1 (lifts.overflow_out j e f) (sum x y d).overflow
  overflow_out_gives = record { is = λ g t c l. rw (p.is g t c l, q.is g t c l, r.is g t c l) (word_is 1 _ _ (leaves x y d h i m)) }

turned_gives : (k : CarryIn) (s : State) (f : Expression) (y : ℕ) → Gives k s 32 f y → Gives k s 32 (lifts.turned f) (complement 32 y)
turned_gives k s f y q = record { is = λ g t c l. rw (q.is g t c l) refl }

clear_gives : (k : CarryIn) (s : State) → Gives k s 1 (carry_bit Clear) 0
clear_gives k s = record { is = λ g t c l. refl }

set_gives : (k : CarryIn) (s : State) → Gives k s 1 (carry_bit Set) 1
set_gives k s = record { is = λ g t c l. refl }

module _ (k : CarryIn) (s : State) (e f : Expression) (x y d : ℕ) (p : Gives k s 32 e x) (q : Gives k s 32 f y) (h : x < 2 ^ 32) (i : y < 2 ^ 32)
    (m : s.flags flag_c < 2) where
  left_turned : Gives k s 32 (lifts.turned e) (complement 32 x)
  left_turned = turned_gives k s e x p

  right_turned : Gives k s 32 (lifts.turned f) (complement 32 y)
  right_turned = turned_gives k s f y q

  flag_given : Gives k s 1 (carry_bit k) (s.flags flag_c)
  flag_given = carry_gives k s

  -- the value of an opcode
  pub value_gives : (o : Opcode) → Gives k s 32 (lifts.value o k e f) (result_of o s x y d).value
  value_gives And = record { is = λ g t c l. rw (p.is g t c l, q.is g t c l) refl }
  value_gives Eor = record { is = λ g t c l. rw (p.is g t c l, q.is g t c l) refl }
  value_gives Sub = record { is = λ g t c l. rw (p.is g t c l, q.is g t c l) (word_is 32 _ _ (minus x y i)) }
  value_gives Rsb = record { is = λ g t c l. rw (p.is g t c l, q.is g t c l) (word_is 32 _ _ (minus y x h)) }
  value_gives Add = record { is = λ g t c l. rw (p.is g t c l, q.is g t c l) (word_is 32 _ _ (plus x y)) }
  value_gives Adc = with_carry_gives k k s e f x y (s.flags flag_c) p q flag_given h i m
  value_gives Sbc = with_carry_gives k k s e (lifts.turned f) x (complement 32 y) (s.flags flag_c) p right_turned flag_given h (omega arith) m
  value_gives Rsc = with_carry_gives k k s f (lifts.turned e) y (complement 32 x) (s.flags flag_c) q left_turned flag_given i (omega arith) m
  value_gives Tst = record { is = λ g t c l. rw (p.is g t c l, q.is g t c l) refl }
  value_gives Teq = record { is = λ g t c l. rw (p.is g t c l, q.is g t c l) refl }
  value_gives Cmp = record { is = λ g t c l. rw (p.is g t c l, q.is g t c l) (word_is 32 _ _ (minus x y i)) }
  value_gives Cmn = record { is = λ g t c l. rw (p.is g t c l, q.is g t c l) (word_is 32 _ _ (plus x y)) }
  value_gives Orr = record { is = λ g t c l. rw (p.is g t c l, q.is g t c l) refl }
  value_gives Mov = q
  value_gives Bic = record { is = λ g t c l. rw (p.is g t c l, q.is g t c l) refl }
  value_gives Mvn = record { is = λ g t c l. rw (q.is g t c l) refl }

  -- the carry of an opcode, from the shifter's
  pub carry_given : (o : Opcode) (z : Expression) → Carries k s z d → Carries k s (lifts.carry o k e f z) (result_of o s x y d).carry
  carry_given Sub z w = record { is = λ g u t c l. rw (p.is g t c l, q.is g t c l) (word_is 1 _ _ (no_borrow x y h i)) }
  carry_given Rsb z w = record { is = λ g u t c l. rw (p.is g t c l, q.is g t c l) (word_is 1 _ _ (no_borrow y x i h)) }
  carry_given Add z w = record { is = λ g u t c l. rw (p.is g t c l, q.is g t c l) (word_is 1 _ _ (wraps x y h i)) }
  carry_given Adc z w = carries k s _ _ (carry_out_gives k k s e f x y (s.flags flag_c) p q flag_given h i m)
  carry_given Sbc z w = carries k s _ _ (carry_out_gives k k s e (lifts.turned f) x (complement 32 y) (s.flags flag_c) p right_turned flag_given h
      (omega arith) m)
  carry_given Rsc z w = carries k s _ _ (carry_out_gives k k s f (lifts.turned e) y (complement 32 x) (s.flags flag_c) q left_turned flag_given i
      (omega arith) m)
  carry_given Cmp z w = record { is = λ g u t c l. rw (p.is g t c l, q.is g t c l) (word_is 1 _ _ (no_borrow x y h i)) }
  carry_given Cmn z w = record { is = λ g u t c l. rw (p.is g t c l, q.is g t c l) (word_is 1 _ _ (wraps x y h i)) }
  carry_given And z w = w
  carry_given Eor z w = w
  carry_given Tst z w = w
  carry_given Teq z w = w
  carry_given Orr z w = w
  carry_given Mov z w = w
  carry_given Bic z w = w
  carry_given Mvn z w = w

  -- the overflow of an opcode that is not logical
  pub overflow_given : (o : Opcode) → lifts.is_logical o ≡ false → Gives k s 1 (lifts.overflow o k e f) (result_of o s x y d).overflow
  overflow_given Sub n = overflow_out_gives k Set s e (lifts.turned f) x (complement 32 y) 1 p right_turned (set_gives k s) h (omega arith) (omega arith)
  overflow_given Rsb n = overflow_out_gives k Set s f (lifts.turned e) y (complement 32 x) 1 q left_turned (set_gives k s) i (omega arith) (omega arith)
  overflow_given Add n = overflow_out_gives k Clear s e f x y 0 p q (clear_gives k s) h i (omega arith)
  overflow_given Adc n = overflow_out_gives k k s e f x y (s.flags flag_c) p q flag_given h i m
  overflow_given Sbc n = overflow_out_gives k k s e (lifts.turned f) x (complement 32 y) (s.flags flag_c) p right_turned flag_given h (omega arith) m
  overflow_given Rsc n = overflow_out_gives k k s f (lifts.turned e) y (complement 32 x) (s.flags flag_c) q left_turned flag_given i (omega arith) m
  overflow_given Cmp n = overflow_out_gives k Set s e (lifts.turned f) x (complement 32 y) 1 p right_turned (set_gives k s) h (omega arith) (omega arith)
  overflow_given Cmn n = overflow_out_gives k Clear s e f x y 0 p q (clear_gives k s) h i (omega arith)
  overflow_given And n = cc
  overflow_given Eor n = cc
  overflow_given Tst n = cc
  overflow_given Teq n = cc
  overflow_given Orr n = cc
  overflow_given Mov n = cc
  overflow_given Bic n = cc
  overflow_given Mvn n = cc

-- a logical opcode keeps the overflow, and takes the shifter's carry
pub overflow_kept : (o : Opcode) (s : State) (x y d : ℕ) → lifts.is_logical o ≡ true → (result_of o s x y d).overflow ≡ s.flags flag_v
overflow_kept And s x y d h = refl
overflow_kept Eor s x y d h = refl
overflow_kept Tst s x y d h = refl
overflow_kept Teq s x y d h = refl
overflow_kept Orr s x y d h = refl
overflow_kept Mov s x y d h = refl
overflow_kept Bic s x y d h = refl
overflow_kept Mvn s x y d h = refl
overflow_kept Sub s x y d h = cc
overflow_kept Rsb s x y d h = cc
overflow_kept Add s x y d h = cc
overflow_kept Adc s x y d h = cc
overflow_kept Sbc s x y d h = cc
overflow_kept Rsc s x y d h = cc
overflow_kept Cmp s x y d h = cc
overflow_kept Cmn s x y d h = cc

pub carry_kept : (o : Opcode) (s : State) (x y d : ℕ) → lifts.is_logical o ≡ true → (result_of o s x y d).carry ≡ d
carry_kept And s x y d h = refl
carry_kept Eor s x y d h = refl
carry_kept Tst s x y d h = refl
carry_kept Teq s x y d h = refl
carry_kept Orr s x y d h = refl
carry_kept Mov s x y d h = refl
carry_kept Bic s x y d h = refl
carry_kept Mvn s x y d h = refl
carry_kept Sub s x y d h = cc
carry_kept Rsb s x y d h = cc
carry_kept Add s x y d h = cc
carry_kept Adc s x y d h = cc
carry_kept Sbc s x y d h = cc
carry_kept Rsc s x y d h = cc
carry_kept Cmp s x y d h = cc
carry_kept Cmn s x y d h = cc
