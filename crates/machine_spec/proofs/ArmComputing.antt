-- The computing rows of ARM are lawful.
use Rattle.std.proofs.Common.{◌≡◌, ℕ, zero, suc, ◌+◌, ◌*◌, ◌%◌, ◌^◌, ◌<◌, refl, sym, ap, subst, ◌∙◌, true, false, Bool, arith, None, [], ◌∷◌, ◌⊎◌, inl, inr, bit_and, bit_or, bit_xor}
use Rattle.std.specs.Prelude.{◌==◌, ◌&&◌, ◌||◌, not, if◌then◌else◌, Contains}
use Rattle.std.specs.List.{list_any}
use Rattle.std.proofs.lemmas.Nat.{or_lt, xor_lt}
use Rattle.std.proofs.lemmas.Bool.{ne_eqb}
use Rattle.machine_spec.proofs.WordBounds.{bit_below, and_below, complement_below, shl_below, shr_below, sar_below}
use Rattle.machine_spec.proofs.LoadedBytes.{kept_same}
use Rattle.machine_spec.proofs.ArmConditional.{Way, conditional, neither}
use Rattle.machine_spec.proofs.ArmRanges.{below_if, mod_word, put_below, reg_small, ror_small}
use Rattle.machine_spec.proofs.ArmAccess.{shift_same, skips_pc}
use Rattle.machine_spec.proofs.ArmFlags.{bit_at_small, set_low, flags_if, flags_if_small, flags_agree, kept_flag}
use Rattle.word_spec.specs.Words.{add, bit, bit_at, bits, complement}
use Rattle.word_spec.specs.Memory.{Memory}
use Rattle.word_spec.specs.State.{State, IsState, put, with_pc}
use Rattle.machine_spec.specs.Machine.{How, On, Indirect, addresses}
use Rattle.machine_spec.specs.Arm.{Shifted, Result, reg, has_bit, bit_i, kind_of, amount_of, field_n, field_d, field_m, field_s, by_number, by_register, rotated, register_operand, operand_by, operand, sum, difference, results, result_at, opcode, sets_flags, is_test, is_logical, adds_carry, is_rrx, keeps_carry, by_a_register, computed_by, computed, flags_of, flag_set, write_by, may_write_pc, computing}
use Rattle.machine_spec.specs.MachineLaws.{IsLawful, IfGoes, IfRaises, with_flag, AgreeBut, OutcomesAgreeBut, HaveSameFlag, with_memory, SameButMemory}

-- the operand, as a function of the carry
abbrev operand_of : (i by_reg : Bool) → ℕ → State → ℕ → Shifted
operand_of true by_reg w s c = rotated w c
operand_of false true w s c = by_register (kind_of w) (reg s (field_s w) % 256) (reg s (field_m w)) c
operand_of false false w s c = by_number (kind_of w) (amount_of w) (reg s (field_m w)) c

abbrev operand_at : ℕ → State → ℕ → Shifted
operand_at w s c = operand_of (bit_i w) (has_bit 4 w) w s c

operand_is : (i b : Bool) (w : ℕ) (s : State) (f v : ℕ) → (b ≡ has_bit 4 w) → operand_by i w (with_flag s f v) ≡ operand_of i b w s (put s.flags f v 1)
operand_is true b w s f v e = refl
operand_is false true w s f v e = ap (λ z. register_operand z w (with_flag s f v)) (sym e)
operand_is false false w s f v e = ap (λ z. register_operand z w (with_flag s f v)) (sym e)

operand_here : (i b : Bool) (w : ℕ) (s : State) → (b ≡ has_bit 4 w) → operand_by i w s ≡ operand_of i b w s (s.flags 1)
operand_here true b w s e = refl
operand_here false true w s e = ap (λ z. register_operand z w s) (sym e)
operand_here false false w s e = ap (λ z. register_operand z w s) (sym e)

-- its value has the carry only where it rotates through it
register_value : (k n v c d : ℕ) → (by_register k n v c).value ≡ (by_register k n v d).value
register_value k zero v c d = refl
register_value k (suc n) v c d = refl

value_same : (i b : Bool) (w : ℕ) (s : State) (c d : ℕ) → (not i && not b && (kind_of w == 3) && (amount_of w == 0)) ≡ false →
    (operand_of i b w s c).value ≡ (operand_of i b w s d).value
value_same true b w s c d h = refl
value_same false true w s c d h = register_value (kind_of w) (reg s (field_s w) % 256) (reg s (field_m w)) c d
value_same false false w s c d h = shift_same (kind_of w) (amount_of w) (reg s (field_m w)) c d h

-- the carry out is the carry in, or does not depend on it, but for a shift by a register
number_carry : (k n v c d : ℕ) → ((k == 0) && (n == 0)) ≡ false → (by_number k n v c).carry ≡ (by_number k n v d).carry
number_carry k (suc n) v c d h = refl
number_carry zero zero v c d h = cc
number_carry (suc zero) zero v c d h = refl
number_carry (suc (suc zero)) zero v c d h = refl
number_carry (suc (suc (suc zero))) zero v c d h = refl
number_carry (suc (suc (suc (suc k)))) zero v c d h = refl

rotated_carry : (w c d : ℕ) → (bits 11 8 w == 0) ≡ false → (rotated w c).carry ≡ (rotated w d).carry
rotated_carry w c d h = rw h refl

carry_same : (i b : Bool) (w : ℕ) (s : State) (c d : ℕ) → ((if i then bits 11 8 w == 0 else not b && (kind_of w == 0) && (amount_of w == 0)) ||
    (not i && b)) ≡ false →
    (operand_of i b w s c).carry ≡ (operand_of i b w s d).carry
carry_same true b w s c d h = rotated_carry w c d (neither (bits 11 8 w == 0) false h).0
carry_same false true w s c d h = cc
carry_same false false w s c d h = number_carry (kind_of w) (amount_of w) (reg s (field_m w)) c d (neither ((kind_of w == 0) && (amount_of w == 0)) false h).0

kept_number : (k n v c : ℕ) → ((k == 0) && (n == 0)) ≡ true → (by_number k n v c).carry ≡ c
kept_number zero zero v c h = refl
kept_number zero (suc n) v c h = let t : (suc n == 0) ≡ false = ne_eqb (suc n) 0 (λ e. absurd (omega arith)) in cc
kept_number (suc k) n v c h = let t : (suc k == 0) ≡ false = ne_eqb (suc k) 0 (λ e. absurd (omega arith))
    in absurd (never (n == 0) (subst (λ (z : Bool). (z && (n == 0)) ≡ true) t h))
  where
    never : (b : Bool) → (false && b) ≡ true → ⊥
    never b e = cc

carry_kept : (i b : Bool) (w : ℕ) (s : State) (c : ℕ) → (if i then bits 11 8 w == 0 else not b && (kind_of w == 0) && (amount_of w == 0)) ≡ true →
    (operand_of i b w s c).carry ≡ c
carry_kept true b w s c h = rw h refl
carry_kept false true w s c h = cc
carry_kept false false w s c h = kept_number (kind_of w) (amount_of w) (reg s (field_m w)) c h

-- ranges of the operand
no_carry : 0 < 2
no_carry = omega arith

shifts_small : (k n v : ℕ) (c : ℕ) → v < 2 ^ 32 → ((by_number k (suc n) v c).value < 2 ^ 32) × ((by_number k (suc n) v c).carry < 2)
shifts_small zero n v c p = (shl_below 32 v (suc n), below_if _ _ _ 2 (bit_at_small _ v) no_carry)
shifts_small (suc zero) n v c p = (shr_below 32 v (suc n) p, below_if _ _ _ 2 (bit_at_small _ v) no_carry)
shifts_small (suc (suc zero)) n v c p = (sar_below 32 v (suc n) p, below_if _ _ _ 2 (bit_at_small _ v) (bit_at_small 31 v))
shifts_small (suc (suc (suc zero))) n v c p = (ror_small v (suc n) p, below_if _ _ _ 2 (bit_at_small 31 v) (bit_at_small _ v))
shifts_small (suc (suc (suc (suc k)))) n v c p = (omega arith, omega arith)

number_small : (k n v c : ℕ) → v < 2 ^ 32 → c < 2 → ((by_number k n v c).value < 2 ^ 32) × ((by_number k n v c).carry < 2)
number_small k (suc n) v c p q = shifts_small k n v c p
number_small zero zero v c p q = (p, q)
number_small (suc zero) zero v c p q = (omega arith, bit_at_small 31 v)
number_small (suc (suc zero)) zero v c p q = (sar_below 32 v 32 p, bit_at_small 31 v)
number_small (suc (suc (suc zero))) zero v c p q = (omega arith, bit_at_small 0 v)
number_small (suc (suc (suc (suc k)))) zero v c p q = (omega arith, omega arith)

register_small : (k n v c : ℕ) → v < 2 ^ 32 → c < 2 → ((by_register k n v c).value < 2 ^ 32) × ((by_register k n v c).carry < 2)
register_small k zero v c p q = (p, q)
register_small k (suc n) v c p q = shifts_small k n v c p

byte_small : (w : ℕ) → bits 7 0 w < 2 ^ 32
byte_small w = omega arith

operand_small : (i b : Bool) (w : ℕ) (s : State) → IsState s → ((operand_of i b w s (s.flags 1)).value < 2 ^ 32) × ((operand_of i b w s (s.flags 1)).carry < 2)
operand_small true b w s is = (ror_small (bits 7 0 w) (2 * bits 11 8 w) (byte_small w), below_if _ _ _ 2 (is.flags 1) (bit_at_small 31 _))
operand_small false true w s is = register_small (kind_of w) (reg s (field_s w) % 256) (reg s (field_m w)) (s.flags 1) (reg_small s (field_m w) is) (is.flags 1)
operand_small false false w s is = number_small (kind_of w) (amount_of w) (reg s (field_m w)) (s.flags 1) (reg_small s (field_m w) is) (is.flags 1)

-- the result of an opcode, as a function of the flags C and V
abbrev result_of : (k c v x : ℕ) → Shifted → Result
result_of k c v x o = result_at
    (record { value = bit_and x o.value; carry = o.carry; overflow = v } ∷ record { value = bit_xor x o.value; carry = o.carry; overflow = v } ∷
    difference x o.value 1 ∷ difference o.value x 1 ∷ sum x o.value 0 ∷ sum x o.value c ∷ difference x o.value c ∷ difference o.value x c ∷
    record { value = bit_and x o.value; carry = o.carry; overflow = v } ∷ record { value = bit_xor x o.value; carry = o.carry; overflow = v } ∷
    difference x o.value 1 ∷ sum x o.value 0 ∷
    record { value = bit_or x o.value; carry = o.carry; overflow = v } ∷ record { value = o.value; carry = o.carry; overflow = v } ∷
    record { value = bit_and x (complement 32 o.value); carry = o.carry; overflow = v } ∷
    record { value = complement 32 o.value; carry = o.carry; overflow = v } ∷ []) k

abbrev takes_carry : ℕ → Bool
takes_carry k = list_any (λ j. j == k) (5 ∷ 6 ∷ 7 ∷ [])

abbrev keeps_overflow : ℕ → Bool
keeps_overflow k = list_any (λ j. j == k) (0 ∷ 1 ∷ 8 ∷ 9 ∷ 12 ∷ 13 ∷ 14 ∷ 15 ∷ [])

-- two results of one opcode: the same value; the same flags of an addition; the shifter's carry and the flag V of a logical one
record Alike (k : ℕ) (r q : Result) : Type 0 where
  value : r.value ≡ q.value
  arithmetic : keeps_overflow k ≡ false → (r.carry ≡ q.carry) × (r.overflow ≡ q.overflow)

arithmetic : (k : ℕ) (r q : Result) → r ≡ q → Alike k r q
arithmetic k r q e = record { value = ap (λ (z : Result). z.value) e; arithmetic = λ h. (ap (λ (z : Result). z.carry) e, ap (λ (z : Result). z.overflow) e) }

alike : (k c d v u x : ℕ) (o p : Shifted) → k < 16 → o.value ≡ p.value → (takes_carry k ≡ true → c ≡ d) → Alike k (result_of k c v x o) (result_of k d u x p)
alike zero c d v u x o p lt e h = record { value = ap (λ z. bit_and x z) e; arithmetic = λ g. cc }
alike (suc zero) c d v u x o p lt e h = record { value = ap (λ z. bit_xor x z) e; arithmetic = λ g. cc }
alike (suc (suc zero)) c d v u x o p lt e h = arithmetic 2 _ _ (ap (λ z. difference x z 1) e)
alike (suc (suc (suc zero))) c d v u x o p lt e h = arithmetic 3 _ _ (ap (λ z. difference z x 1) e)
alike (suc (suc (suc (suc zero)))) c d v u x o p lt e h = arithmetic 4 _ _ (ap (λ z. sum x z 0) e)
alike (suc (suc (suc (suc (suc zero))))) c d v u x o p lt e h = arithmetic 5 _ _ (ap (λ z. sum x z c) e ∙ ap (λ z. sum x p.value z) (h refl))
alike (suc (suc (suc (suc (suc (suc zero)))))) c d v u x o p lt e h = arithmetic 6 _ _ (ap (λ z. difference x z c) e ∙ ap
    (λ z. difference x p.value z) (h refl))
alike (suc (suc (suc (suc (suc (suc (suc zero))))))) c d v u x o p lt e h = arithmetic 7 _ _ (ap (λ z. difference z x c) e ∙ ap
    (λ z. difference p.value x z) (h refl))
alike (suc (suc (suc (suc (suc (suc (suc (suc zero)))))))) c d v u x o p lt e h = record { value = ap (λ z. bit_and x z) e; arithmetic = λ g. cc }
alike (suc (suc (suc (suc (suc (suc (suc (suc (suc zero))))))))) c d v u x o p lt e h = record { value = ap (λ z. bit_xor x z) e; arithmetic = λ g. cc }
alike (suc (suc (suc (suc (suc (suc (suc (suc (suc (suc zero)))))))))) c d v u x o p lt e h = arithmetic 10 _ _ (ap (λ z. difference x z 1) e)
alike (suc (suc (suc (suc (suc (suc (suc (suc (suc (suc (suc zero))))))))))) c d v u x o p lt e h = arithmetic 11 _ _ (ap (λ z. sum x z 0) e)
alike (suc (suc (suc (suc (suc (suc (suc (suc (suc (suc (suc (suc zero)))))))))))) c d v u x o p lt e h = record {
  value = ap (λ z. bit_or x z) e;
  arithmetic =
      λ g. cc;
}
alike (suc (suc (suc (suc (suc (suc (suc (suc (suc (suc (suc (suc (suc zero))))))))))))) c d v u x o p lt e h = record {
  value = ap (λ z. z) e;
  arithmetic =
      λ g. cc;
}
alike (suc (suc (suc (suc (suc (suc (suc (suc (suc (suc (suc (suc (suc (suc zero)))))))))))))) c d v u x o p lt e h = record {
  value = ap
      (λ z. bit_and x (complement 32 z)) e;
  arithmetic = λ g. cc;
}
alike (suc (suc (suc (suc (suc (suc (suc (suc (suc (suc (suc (suc (suc (suc (suc zero))))))))))))))) c d v u x o p lt e h = record {
  value = ap
      (λ z. complement 32 z) e;
  arithmetic = λ g. cc;
}
alike (suc (suc (suc (suc (suc (suc (suc (suc (suc (suc (suc (suc (suc (suc (suc (suc k)))))))))))))))) c d v u x o p lt e h = absurd (omega arith)

logical_flags : (k c v x : ℕ) (o : Shifted) → k < 16 → keeps_overflow k ≡ true → ((result_of k c v x o).carry ≡ o.carry) × ((result_of k c v x o).overflow ≡ v)
logical_flags zero c v x o lt h = (refl, refl)
logical_flags (suc zero) c v x o lt h = (refl, refl)
logical_flags (suc (suc zero)) c v x o lt h = cc
logical_flags (suc (suc (suc zero))) c v x o lt h = cc
logical_flags (suc (suc (suc (suc zero)))) c v x o lt h = cc
logical_flags (suc (suc (suc (suc (suc zero))))) c v x o lt h = cc
logical_flags (suc (suc (suc (suc (suc (suc zero)))))) c v x o lt h = cc
logical_flags (suc (suc (suc (suc (suc (suc (suc zero))))))) c v x o lt h = cc
logical_flags (suc (suc (suc (suc (suc (suc (suc (suc zero)))))))) c v x o lt h = (refl, refl)
logical_flags (suc (suc (suc (suc (suc (suc (suc (suc (suc zero))))))))) c v x o lt h = (refl, refl)
logical_flags (suc (suc (suc (suc (suc (suc (suc (suc (suc (suc zero)))))))))) c v x o lt h = cc
logical_flags (suc (suc (suc (suc (suc (suc (suc (suc (suc (suc (suc zero))))))))))) c v x o lt h = cc
logical_flags (suc (suc (suc (suc (suc (suc (suc (suc (suc (suc (suc (suc zero)))))))))))) c v x o lt h = (refl, refl)
logical_flags (suc (suc (suc (suc (suc (suc (suc (suc (suc (suc (suc (suc (suc zero))))))))))))) c v x o lt h = (refl, refl)
logical_flags (suc (suc (suc (suc (suc (suc (suc (suc (suc (suc (suc (suc (suc (suc zero)))))))))))))) c v x o lt h = (refl, refl)
logical_flags (suc (suc (suc (suc (suc (suc (suc (suc (suc (suc (suc (suc (suc (suc (suc zero))))))))))))))) c v x o lt h = (refl, refl)
logical_flags (suc (suc (suc (suc (suc (suc (suc (suc (suc (suc (suc (suc (suc (suc (suc (suc k)))))))))))))))) c v x o lt h = absurd (omega arith)

sum_small : (x y c : ℕ) → ((sum x y c).value < 2 ^ 32) × ((sum x y c).carry < 2) × ((sum x y c).overflow < 2)
sum_small x y c = (mod_word (x + y + c), bit_below _, bit_below _)

result_small : (k c v x : ℕ) (o : Shifted) → k < 16 → x < 2 ^ 32 → o.value < 2 ^ 32 → o.carry < 2 → v < 2 →
    ((result_of k c v x o).value < 2 ^ 32) × ((result_of k c v x o).carry < 2) × ((result_of k c v x o).overflow < 2)
result_small zero c v x o lt p q r t = (and_below 32 x o.value p, r, t)
result_small (suc zero) c v x o lt p q r t = (xor_lt 32 x o.value p q, r, t)
result_small (suc (suc zero)) c v x o lt p q r t = sum_small x (complement 32 o.value) 1
result_small (suc (suc (suc zero))) c v x o lt p q r t = sum_small o.value (complement 32 x) 1
result_small (suc (suc (suc (suc zero)))) c v x o lt p q r t = sum_small x o.value 0
result_small (suc (suc (suc (suc (suc zero))))) c v x o lt p q r t = sum_small x o.value c
result_small (suc (suc (suc (suc (suc (suc zero)))))) c v x o lt p q r t = sum_small x (complement 32 o.value) c
result_small (suc (suc (suc (suc (suc (suc (suc zero))))))) c v x o lt p q r t = sum_small o.value (complement 32 x) c
result_small (suc (suc (suc (suc (suc (suc (suc (suc zero)))))))) c v x o lt p q r t = (and_below 32 x o.value p, r, t)
result_small (suc (suc (suc (suc (suc (suc (suc (suc (suc zero))))))))) c v x o lt p q r t = (xor_lt 32 x o.value p q, r, t)
result_small (suc (suc (suc (suc (suc (suc (suc (suc (suc (suc zero)))))))))) c v x o lt p q r t = sum_small x (complement 32 o.value) 1
result_small (suc (suc (suc (suc (suc (suc (suc (suc (suc (suc (suc zero))))))))))) c v x o lt p q r t = sum_small x o.value 0
result_small (suc (suc (suc (suc (suc (suc (suc (suc (suc (suc (suc (suc zero)))))))))))) c v x o lt p q r t = (or_lt 32 x o.value p q, r, t)
result_small (suc (suc (suc (suc (suc (suc (suc (suc (suc (suc (suc (suc (suc zero))))))))))))) c v x o lt p q r t = (q, r, t)
result_small (suc (suc (suc (suc (suc (suc (suc (suc (suc (suc (suc (suc (suc (suc zero)))))))))))))) c v x o lt p q r t =
    (and_below 32 x (complement 32 o.value) p, r, t)
result_small (suc (suc (suc (suc (suc (suc (suc (suc (suc (suc (suc (suc (suc (suc (suc zero))))))))))))))) c v x o lt p q r t =
    (complement_below 32 o.value, r, t)
result_small (suc (suc (suc (suc (suc (suc (suc (suc (suc (suc (suc (suc (suc (suc (suc (suc k)))))))))))))))) c v x o lt p q r t = absurd (omega arith)

-- the result in a state
abbrev result_in : ℕ → State → Result
result_in w s = result_at (results s (reg s (field_n w)) (operand w s)) (opcode w)

abbrev result_by : ℕ → State → (c v : ℕ) → Result
result_by w s c v = result_of (opcode w) c v (reg s (field_n w)) (operand_at w s c)

result_here : (w : ℕ) (s : State) → result_in w s ≡ result_by w s (s.flags 1) (s.flags 0)
result_here w s = ap (λ (o : Shifted). result_of (opcode w) (s.flags 1) (s.flags 0) (reg s (field_n w)) o) (operand_here (bit_i w) (has_bit 4 w) w s refl)

result_there : (w : ℕ) (s : State) (f v : ℕ) → result_in w (with_flag s f v) ≡ result_by w s (put s.flags f v 1) (put s.flags f v 0)
result_there w s f v =
    ap (λ (o : Shifted). result_of (opcode w) (put s.flags f v 1) (put s.flags f v 0) (reg s (field_n w)) o) (operand_is (bit_i w) (has_bit 4 w) w s f v refl)

register_over : (b : Bool) (w : ℕ) (s : State) (m : Memory) → register_operand b w s ≡ register_operand b w (with_memory s m)
register_over true w s m = refl
register_over false w s m = refl

operand_over : (i : Bool) (w : ℕ) (s : State) (m : Memory) → operand_by i w s ≡ operand_by i w (with_memory s m)
operand_over true w s m = refl
operand_over false w s m = register_over (has_bit 4 w) w s m

result_over : (w : ℕ) (s : State) (m : Memory) → result_in w s ≡ result_in w (with_memory s m)
result_over w s m = ap (λ (o : Shifted). result_of (opcode w) (s.flags 1) (s.flags 0) (reg s (field_n w)) o) (operand_over (bit_i w) w s m)

opcode_small : (w : ℕ) → opcode w < 16
opcode_small w = omega arith

-- either the flag C is not read, or another flag changes
unread_carry : (b : Bool) (f : ℕ) → flag_set false b false f ≡ false → (b ≡ false) ⊎ (1 ≡ f → ⊥)
unread_carry false f h = inl refl
unread_carry true f h = inr (λ e. other f e (neither (f == 1) false h).0)
  where
    other : (f : ℕ) → 1 ≡ f → (f == 1) ≡ false → ⊥
    other f e t = let u = subst (λ (z : ℕ). (z == 1) ≡ false) (sym e) t in cc

alike_by : (w : ℕ) (s : State) (f v : ℕ) → flag_set false (adds_carry w || is_rrx w) false f ≡ false →
    Alike (opcode w) (result_by w s (s.flags 1) (s.flags 0)) (result_by w s (put s.flags f v 1) (put s.flags f v 0))
alike_by w s f v h = by_case (unread_carry (adds_carry w || is_rrx w) f h)
  where
    by_case : ((adds_carry w || is_rrx w) ≡ false) ⊎ (1 ≡ f → ⊥) →
        Alike (opcode w) (result_by w s (s.flags 1) (s.flags 0)) (result_by w s (put s.flags f v 1) (put s.flags f v 0))
    by_case (inl e) =
        let n = neither (adds_carry w) (is_rrx w) e in
        alike (opcode w) (s.flags 1) (put s.flags f v 1) (s.flags 0) (put s.flags f v 0) (reg s (field_n w)) _ _ (opcode_small w)
        (value_same (bit_i w) (has_bit 4 w) w s (s.flags 1) (put s.flags f v 1) n.1) (λ t. let u = n.0 in cc)
    by_case (inr other) =
        let e = kept_flag s.flags f v 1 other in
        alike (opcode w) (s.flags 1) (put s.flags f v 1) (s.flags 0) (put s.flags f v 0) (reg s (field_n w)) _ _ (opcode_small w)
        (ap (λ z. (operand_at w s z).value) e) (λ t. e)

carry_by : (w : ℕ) (s : State) (c d v u : ℕ) (l : Bool) → keeps_overflow (opcode w) ≡ l → Alike (opcode w) (result_by w s c v) (result_by w s d u) →
    (l ≡ true → (operand_at w s c).carry ≡ (operand_at w s d).carry) → (result_by w s c v).carry ≡ (result_by w s d u).carry
carry_by w s c d v u false e h o = (h.arithmetic e).0
carry_by w s c d v u true e h o =
    (logical_flags (opcode w) c v (reg s (field_n w)) (operand_at w s c) (opcode_small w) e).0 ∙ o refl
    ∙ sym (logical_flags (opcode w) d u (reg s (field_n w)) (operand_at w s d) (opcode_small w) e).0

overflow_by : (w : ℕ) (s : State) (c d v u : ℕ) (l : Bool) → keeps_overflow (opcode w) ≡ l → Alike (opcode w) (result_by w s c v) (result_by w s d u) →
    (l ≡ true → v ≡ u) → (result_by w s c v).overflow ≡ (result_by w s d u).overflow
overflow_by w s c d v u false e h o = (h.arithmetic e).1
overflow_by w s c d v u true e h o =
    (logical_flags (opcode w) c v (reg s (field_n w)) (operand_at w s c) (opcode_small w) e).1 ∙ o refl
    ∙ sym (logical_flags (opcode w) d u (reg s (field_n w)) (operand_at w s d) (opcode_small w) e).1

-- what is claimed of each way on
any_write : (pc : Bool) (s new : State) (r v : ℕ) (claim : How → State → Type 0) → claim Indirect (with_pc new v) →
    claim On (with_pc (record new { regs = put new.regs r v }) (add 32 s.pc 4)) → IfGoes (write_by pc s new r v) claim
any_write true s new r v claim p q = p
any_write false s new r v claim p q = q

any_computed : (test : Bool) (w : ℕ) (s : State) (r : Result) (claim : How → State → Type 0) →
    claim On (with_pc (record s { flags = flags_of w s r }) (add 32 s.pc 4)) → claim Indirect (with_pc (record s { flags = flags_of w s r }) r.value) →
    claim On (with_pc (record s { flags = flags_of w s r; regs = put s.regs (field_d w) r.value }) (add 32 s.pc 4)) → IfGoes (computed_by test w s r) claim
any_computed true w s r claim p q t = p
any_computed false w s r claim p q t = any_write (field_d w == 15) s (record s { flags = flags_of w s r }) (field_d w) r.value claim q t

write_raises : (pc : Bool) (s new : State) (r v : ℕ) (P : Type 0) → IfRaises (write_by pc s new r v) P
write_raises true s new r v P = tt
write_raises false s new r v P = tt

computed_raises : (test : Bool) (w : ℕ) (s : State) (r : Result) (P : Type 0) → IfRaises (computed_by test w s r) P
computed_raises true w s r P = tt
computed_raises false w s r P = write_raises (field_d w == 15) s _ (field_d w) r.value P

write_ways : (pc : Bool) (w : ℕ) (s new : State) (r v : ℕ) → IfGoes (write_by pc s new r v) (λ how to. Way (may_write_pc w pc s.pc) (add 32 s.pc 4) how to.pc)
write_ways true w s new r v = (refl, refl)
write_ways false w s new r v = (refl, refl)

computed_ways : (test : Bool) (w : ℕ) (s : State) (r : Result) →
    IfGoes (computed_by test w s r) (λ how to. Way (may_write_pc w (not test && (field_d w == 15)) s.pc) (add 32 s.pc 4) how to.pc)
computed_ways true w s r = (refl, refl)
computed_ways false w s r = write_ways (field_d w == 15) w s _ (field_d w) r.value

-- another memory changes nothing but itself
write_over : (pc : Bool) (s new : State) (m : Memory) (r v : ℕ) → new.mem ≡ s.mem →
    SameButMemory s m [] (write_by pc s new r v) (write_by pc (with_memory s m) (with_memory new m) r v)
write_over true s new m r v e = (refl, refl, refl, refl, λ a lt h. ap (λ (g : Memory). g a) e ∙ kept_same a s.mem m h)
write_over false s new m r v e = (refl, refl, refl, refl, λ a lt h. ap (λ (g : Memory). g a) e ∙ kept_same a s.mem m h)

computed_over : (test : Bool) (w : ℕ) (s : State) (m : Memory) (r : Result) →
    SameButMemory s m [] (computed_by test w s r) (computed_by test w (with_memory s m) r)
computed_over true w s m r = (refl, refl, refl, refl, λ a lt h. kept_same a s.mem m h)
computed_over false w s m r = write_over (field_d w == 15) s (record s { flags = flags_of w s r }) m (field_d w) r.value refl

write_agree : (pc : Bool) (s t : State) (new old : State) (r v u f : ℕ) → s.pc ≡ t.pc → AgreeBut f new old → v ≡ u →
    OutcomesAgreeBut f (write_by pc s new r v) (write_by pc t old r u)
write_agree true s t new old r v u f p h e = (refl, record { pc = e; regs = h.regs; flags = h.flags; mem = h.mem })
write_agree false s t new old r v u f p h e =
    (refl, record { pc = ap (λ z. add 32 z 4) p; regs = ap (λ (g : ℕ → ℕ). put g r v) h.regs ∙ ap (λ z. put old.regs r z) e; flags = h.flags; mem = h.mem })

computed_agree : (test : Bool) (w : ℕ) (s : State) (f v : ℕ) (r q : Result) → r.value ≡ q.value → ((1 ≡ f → ⊥) → r.carry ≡ q.carry) →
    ((0 ≡ f → ⊥) → r.overflow ≡ q.overflow) → OutcomesAgreeBut f (computed_by test w s r) (computed_by test w (with_flag s f v) q)
computed_agree test w s f v r q e hc hv = by_test test
  where
    flags : (k : ℕ) → (k ≡ f → ⊥) → flags_of w s r k ≡ flags_of w (with_flag s f v) q k
    flags = flags_agree (sets_flags w) s.flags f v (bit_at 31 r.value) (bit (r.value == 0)) r.carry r.overflow (bit_at 31 q.value)
        (bit (q.value == 0)) q.carry q.overflow
        (λ o. ap (λ z. bit_at 31 z) e) (λ o. ap (λ z. bit (z == 0)) e) hc hv

    by_test : (b : Bool) → OutcomesAgreeBut f (computed_by b w s r) (computed_by b w (with_flag s f v) q)
    by_test true = (refl, record { pc = refl; regs = refl; flags = flags; mem = refl })
    by_test false = write_agree (field_d w == 15) s (with_flag s f v) _ _ (field_d w) r.value q.value f refl
        (record { pc = refl; regs = refl; flags = flags; mem = refl }) e

write_same : (pc : Bool) (s t new old : State) (r v u f : ℕ) → new.flags f ≡ old.flags f → HaveSameFlag f (write_by pc s new r v) (write_by pc t old r u)
write_same true s t new old r v u f h = h
write_same false s t new old r v u f h = h

computed_same : (test : Bool) (w : ℕ) (s t : State) (f : ℕ) (r q : Result) → flags_of w s r f ≡ flags_of w t q f →
    HaveSameFlag f (computed_by test w s r) (computed_by test w t q)
computed_same true w s t f r q h = h
computed_same false w s t f r q h = write_same (field_d w == 15) s t _ _ (field_d w) r.value q.value f h

-- which flags are assigned
surely_case : (sets l kb : Bool) (f : ℕ) → f < 4 → flag_set sets (sets && not (l && kb)) (sets && not l) f ≡ true →
    (sets ≡ true) × (f ≡ 1 → (l && kb) ≡ false) × (f ≡ 0 → l ≡ false)
surely_case false l kb f lt h = cc
surely_case true false kb f lt h = (refl, λ e. refl, λ e. refl)
surely_case true true true zero lt h = cc
surely_case true true false zero lt h = cc
surely_case true true true (suc zero) lt h = cc
surely_case true true false (suc zero) lt h = (refl, λ e. refl, λ e. absurd (omega arith))
surely_case true true kb (suc (suc f)) lt h = (refl, λ e. absurd (omega arith), λ e. absurd (omega arith))

sure_flags : (sets : Bool) (g h : ℕ → ℕ) (n z c v m y d u f : ℕ) → f < 4 → sets ≡ true → n ≡ m → z ≡ y → (f ≡ 1 → c ≡ d) → (f ≡ 0 → v ≡ u) →
    flags_if sets g n z c v f ≡ flags_if sets h m y d u f
sure_flags false g h n z c v m y d u f lt e hn hz hc hv = cc
sure_flags true g h n z c v m y d u zero lt e hn hz hc hv = hv refl
sure_flags true g h n z c v m y d u (suc zero) lt e hn hz hc hv = hc refl
sure_flags true g h n z c v m y d u (suc (suc zero)) lt e hn hz hc hv = hz
sure_flags true g h n z c v m y d u (suc (suc (suc zero))) lt e hn hz hc hv = hn
sure_flags true g h n z c v m y d u (suc (suc (suc (suc f)))) lt e hn hz hc hv = absurd (omega arith)

unassigned_flags : (sets l keeps : Bool) (g : ℕ → ℕ) (n z c v f : ℕ) → f < 4 → flag_set sets (sets && not (l && keeps)) (sets && not l) f ≡ false →
    ((l && keeps) ≡ true → c ≡ g 1) → (l ≡ true → v ≡ g 0) → flags_if sets g n z c v f ≡ g f
unassigned_flags false l keeps g n z c v f lt h hc hv = refl
unassigned_flags true false keeps g n z c v zero lt h hc hv = cc
unassigned_flags true false keeps g n z c v (suc zero) lt h hc hv = cc
unassigned_flags true false keeps g n z c v (suc (suc zero)) lt h hc hv = cc
unassigned_flags true false keeps g n z c v (suc (suc (suc zero))) lt h hc hv = cc
unassigned_flags true true keeps g n z c v zero lt h hc hv = hv refl
unassigned_flags true true true g n z c v (suc zero) lt h hc hv = hc refl
unassigned_flags true true false g n z c v (suc zero) lt h hc hv = cc
unassigned_flags true true true g n z c v (suc (suc zero)) lt h hc hv = cc
unassigned_flags true true false g n z c v (suc (suc zero)) lt h hc hv = cc
unassigned_flags true true true g n z c v (suc (suc (suc zero))) lt h hc hv = cc
unassigned_flags true true false g n z c v (suc (suc (suc zero))) lt h hc hv = cc
unassigned_flags true l keeps g n z c v (suc (suc (suc (suc f)))) lt h hc hv = absurd (omega arith)

both : (a b : Bool) → (a && b) ≡ true → (a ≡ true) × (b ≡ true)
both true b h = (refl, h)
both false b h = cc

after_true : (l b : Bool) → (l && b) ≡ false → l ≡ true → b ≡ false
after_true true b h e = h
after_true false b h e = cc

computed_small : (w : ℕ) (s : State) → IsState s → ((result_in w s).value < 2 ^ 32) × ((result_in w s).carry < 2) × ((result_in w s).overflow < 2)
computed_small w s is =
    let o = operand_small (bit_i w) (has_bit 4 w) w s is in
    subst (λ (r : Result). (r.value < 2 ^ 32) × (r.carry < 2) × (r.overflow < 2)) (sym (result_here w s))
    (result_small (opcode w) (s.flags 1) (s.flags 0) (reg s (field_n w)) _ (opcode_small w) (reg_small s (field_n w) is) o.0 o.1 (is.flags 0))

unassigned_computed : (w : ℕ) (s : State) (f : ℕ) → f < 4 →
    flag_set (sets_flags w) (sets_flags w && not (is_logical w && keeps_carry w)) (sets_flags w && not (is_logical w)) f ≡ false →
    flags_of w s (result_in w s) f ≡ s.flags f
unassigned_computed w s f lt h =
    unassigned_flags (sets_flags w) (is_logical w) (keeps_carry w) s.flags _ _ (result_in w s).carry (result_in w s).overflow f lt h
    (λ e. let b = both (is_logical w) (keeps_carry w) e in
    ap (λ (z : Result). z.carry) (result_here w s)
    ∙ (logical_flags (opcode w) (s.flags 1) (s.flags 0) (reg s (field_n w)) (operand_at w s (s.flags 1)) (opcode_small w) b.0).0
    ∙ carry_kept (bit_i w) (has_bit 4 w) w s (s.flags 1) b.1)
    (λ e. ap (λ (z : Result). z.overflow) (result_here w s)
    ∙ (logical_flags (opcode w) (s.flags 1) (s.flags 0) (reg s (field_n w)) (operand_at w s (s.flags 1)) (opcode_small w) e).1)

unread_computed : (w : ℕ) (s : State) (f v : ℕ) → flag_set false (adds_carry w || is_rrx w) false f ≡ false →
    OutcomesAgreeBut f (computed w s) (computed w (with_flag s f v))
unread_computed w s f v h =
    let a = alike_by w s f v h in let x = result_here w s in let y = result_there w s f v in
    computed_agree (is_test w) w s f v (result_in w s) (result_in w (with_flag s f v))
    (ap (λ (z : Result). z.value) x ∙ a.value ∙ sym (ap (λ (z : Result). z.value) y))
    (λ other. ap (λ (z : Result). z.carry) x
    ∙ carry_by w s (s.flags 1) (put s.flags f v 1) (s.flags 0) (put s.flags f v 0) _ refl a
    (λ l. ap (λ z. (operand_at w s z).carry) (kept_flag s.flags f v 1 other))
    ∙ sym (ap (λ (z : Result). z.carry) y))
    (λ other. ap (λ (z : Result). z.overflow) x
    ∙ overflow_by w s (s.flags 1) (put s.flags f v 1) (s.flags 0) (put s.flags f v 0) _ refl a (λ l. kept_flag s.flags f v 0 other)
    ∙ sym (ap (λ (z : Result). z.overflow) y))

sure_computed : (w : ℕ) (s : State) (f v : ℕ) → f < 4 → flag_set false (adds_carry w || is_rrx w) false f ≡ false →
    flag_set (sets_flags w) (sets_flags w && not (is_logical w && (keeps_carry w || by_a_register w))) (sets_flags w && not (is_logical w)) f ≡ true →
    HaveSameFlag f (computed w s) (computed w (with_flag s f v))
sure_computed w s f v lt h e =
    let a = alike_by w s f v h in let x = result_here w s in let y = result_there w s f v in
    let t = surely_case (sets_flags w) (is_logical w) (keeps_carry w || by_a_register w) f lt e in
    let value = ap (λ (z : Result). z.value) x ∙ a.value ∙ sym (ap (λ (z : Result). z.value) y) in
    computed_same (is_test w) w s (with_flag s f v) f (result_in w s) (result_in w (with_flag s f v))
    (sure_flags (sets_flags w) s.flags (put s.flags f v) _ _ (result_in w s).carry (result_in w s).overflow _ _ (result_in w (with_flag s f v)).carry
    (result_in w (with_flag s f v)).overflow f lt t.0 (ap (λ z. bit_at 31 z) value) (ap (λ z. bit (z == 0)) value)
    (λ one. ap (λ (z : Result). z.carry) x
    ∙ carry_by w s (s.flags 1) (put s.flags f v 1) (s.flags 0) (put s.flags f v 0) (is_logical w) refl a
    (λ l. carry_same (bit_i w) (has_bit 4 w) w s (s.flags 1) (put s.flags f v 1) (after_true (is_logical w) _ (t.1 one) l))
    ∙ sym (ap (λ (z : Result). z.carry) y))
    (λ zero_. ap (λ (z : Result). z.overflow) x
    ∙ overflow_by w s (s.flags 1) (put s.flags f v 1) (s.flags 0) (put s.flags f v 0) (is_logical w) refl a (λ l. let u = t.2 zero_ in cc)
    ∙ sym (ap (λ (z : Result). z.overflow) y)))

pub computing_lawful : (w : ℕ) → IsLawful (computing w)
computing_lawful w =
    conditional w (λ s c. computed w s) (λ b s. None) (λ b s. None) (may_write_pc w (not (is_test w) && (field_d w == 15)))
    (λ at. None) (record { row = 4096; loads = 0; stores = 0 })
    (flag_set false (adds_carry w || is_rrx w) false)
    (flag_set (sets_flags w) (sets_flags w && not (is_logical w && keeps_carry w)) (sets_flags w && not (is_logical w)))
    (flag_set (sets_flags w) (sets_flags w && not (is_logical w && (keeps_carry w || by_a_register w))) (sets_flags w && not (is_logical w))) false false
    (record { least = omega arith; most = omega arith; loads = omega arith; stores = omega arith }) (λ b s. omega arith) (λ b s is. tt) (λ l at. cc) (record {
      kept = λ s c is. any_computed (is_test w) w s (result_in w s) (λ how new. (a : ℕ) → a < 2 ^ 32 → (Contains (addresses None) a → ⊥) → new.mem a ≡ s.mem a)
          (λ a lt out. refl) (λ a lt out. refl) (λ a lt out. refl);
      raised = λ s c is. computed_raises (is_test w) w s (result_in w s) _;
      ways = λ s c is. computed_ways (is_test w) w s (result_in w s);
      skips = skips_pc w (not (is_test w) && (field_d w == 15));
      one_way = λ at h. refl;
      states = λ s c is.
          let r = computed_small w s is in
          let flags = flags_if_small (sets_flags w) s.flags _ _ _ _ is.flags (bit_at_small 31 (result_in w s).value)
          (bit_below ((result_in w s).value == 0)) r.1 r.2 in
          any_computed (is_test w) w s (result_in w s) (λ how new. IsState new)
          (record { pc = mod_word _; regs = is.regs; flags = flags; mem = is.mem })
          (record { pc = r.0; regs = is.regs; flags = flags; mem = is.mem })
          (record { pc = mod_word _; regs = put_below s.regs (field_d w) _ (2 ^ 32) is.regs r.0; flags = flags; mem = is.mem });
      unassigned = λ s c f lt h.
          let e = unassigned_computed w s f lt h in
          any_computed (is_test w) w s (result_in w s) (λ how new. new.flags f ≡ s.flags f) e e e;
      unread = λ s c f v lt h. unread_computed w s f v h;
      sure = λ s c f v lt h surely. sure_computed w s f v lt h surely;
      sure_flags = λ f surely. set_low (sets_flags w) (sets_flags w && not (is_logical w && (keeps_carry w || by_a_register w))) (sets_flags w &&
          not (is_logical w)) f surely;
      draws = λ h s c d. refl;
      plain = λ f h b s. refl;
      stored_unread = λ b s f v h. refl;
      idle = λ s. refl;
      steady = λ b s m. (refl, refl);
      loads = λ s m c is same.
          subst (λ (r : Result). SameButMemory s m [] (computed w s) (computed_by (is_test w) w (with_memory s m) r)) (result_over w s m)
          (computed_over (is_test w) w s m (result_in w s));
      unloaded = λ s c is. computed_raises (is_test w) w s (result_in w s) _;
    })
