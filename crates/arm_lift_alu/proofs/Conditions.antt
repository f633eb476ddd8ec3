-- What a condition tests.
use Rattle.std.proofs.Common.{◌≡◌, ℕ, zero, suc, ◌<◌, Bool, true, false, not, ◌&&◌, ◌||◌, refl, ap, ◌∙◌, arith, bit_and, nat_le, if◌then◌else◌}
use Rattle.std.specs.Prelude.{◌==◌}
use Rattle.word_spec.specs.Words.{bit, complement}
use Rattle.word_spec.specs.State.{State, IsState, flag_n, flag_z, flag_c, flag_v}
use Rattle.machine_spec.specs.Arm.{conditions, nth, condition_flags, condition_reads}
use Rattle.machine_spec.specs.Bil.{Expression}
use Rattle.machine_spec.specs.Bil as bil
use Rattle.machine_spec.specs.BilMeaning.{Word, evaluate}
use Rattle.machine_spec.specs.Simulation.{Locals, env_of}
use Rattle.arm_decode.specs.declared.parts.Condition.{Condition}
use Rattle.arm_decode.specs.declared.parts.Condition.TheVariants.{Eq, Ne, Cs, Cc, Mi, Pl, Vs, Vc, Hi, Ls, Ge, Lt, Gt, Le, Al}
use Rattle.arm_decode.specs.Parts.{condition_number}
use Rattle.arm_lift_alu.specs.Lifted as lifts
use Rattle.arm_lift_alu.proofs.Plain.{IsPlain, constant_plain, flag_plain, not_plain, binary_plain, lighter}

pub left_false : (a b : Bool) → (a || b) ≡ false → a ≡ false
left_false false b h = refl
left_false true b h = cc

pub right_false : (a b : Bool) → (a || b) ≡ false → b ≡ false
right_false false b h = h
right_false true b h = cc

-- the flags that a condition names
abbrev pub named : Condition → ℕ → Bool
named k f = condition_reads condition_flags (condition_number k) f

higher_plain : IsPlain 1 1 (named Hi) lifts.higher
higher_plain = binary_plain bil.And 1 0 0 1 (named Hi) _ _ (flag_plain flag_c _ refl (λ f h. left_false _ _ h))
    (not_plain 1 0 _ _ (flag_plain flag_z _ refl (λ f h. left_false _ _ (right_false (flag_c == f) _ h)))) refl (omega arith)

nv_plain : IsPlain 1 0 (named Ge) (lifts.flag flag_n) × IsPlain 1 0 (named Ge) (lifts.flag flag_v)
nv_plain = (flag_plain flag_n _ refl (λ f h. left_false _ _ h), flag_plain flag_v _ refl (λ f h. left_false _ _ (right_false (flag_n == f) _ h)))

greater_plain : IsPlain 1 2 (named Gt) lifts.greater
greater_plain =
    binary_plain bil.And 1 0 1 2 (named Gt) _ _ (not_plain 1 0 _ _ (flag_plain flag_z _ refl (λ f h. left_false _ _ (right_false (flag_n == f) _ h))))
    (binary_plain bil.Equal 1 0 0 1 (named Gt) _ _ (flag_plain flag_n _ refl (λ f h. left_false _ _ h))
    (flag_plain flag_v _ refl (λ f h. left_false _ _ (right_false (flag_z == f) _ (right_false (flag_n == f) _ h)))) refl (omega arith)) refl (omega arith)

light : (r : ℕ → Bool) (e : Expression) → IsPlain 1 0 r e → IsPlain 1 2 r e
light r e p = lighter 1 0 2 r e p (omega arith)

one_more : (r : ℕ → Bool) (e : Expression) → IsPlain 1 1 r e → IsPlain 1 2 r e
one_more r e p = lighter 1 1 2 r e p (omega arith)

first : (g : ℕ) (r : ℕ → Bool) → nat_le g 3 ≡ true → ((f : ℕ) → r f ≡ false → (g == f) ≡ false) → IsPlain 1 2 r (lifts.flag g)
first g r h i = light r (lifts.flag g) (flag_plain g r h i)

pub test_plain : (k : Condition) → IsPlain 1 2 (named k) (lifts.test k)
test_plain Eq = first flag_z _ refl (λ f h. left_false _ _ h)
test_plain Ne = not_plain 1 2 _ _ (first flag_z _ refl (λ f h. left_false _ _ h))
test_plain Cs = first flag_c _ refl (λ f h. left_false _ _ h)
test_plain Cc = not_plain 1 2 _ _ (first flag_c _ refl (λ f h. left_false _ _ h))
test_plain Mi = first flag_n _ refl (λ f h. left_false _ _ h)
test_plain Pl = not_plain 1 2 _ _ (first flag_n _ refl (λ f h. left_false _ _ h))
test_plain Vs = first flag_v _ refl (λ f h. left_false _ _ h)
test_plain Vc = not_plain 1 2 _ _ (first flag_v _ refl (λ f h. left_false _ _ h))
test_plain Hi = one_more _ _ higher_plain
test_plain Ls = not_plain 1 2 _ _ (one_more _ _ higher_plain)
test_plain Ge = one_more _ _ (binary_plain bil.Equal 1 0 0 1 (named Ge) _ _ nv_plain.0 nv_plain.1 refl (omega arith))
test_plain Lt = one_more _ _ (binary_plain bil.NotEqual 1 0 0 1 (named Ge) _ _ nv_plain.0 nv_plain.1 refl (omega arith))
test_plain Gt = greater_plain
test_plain Le = not_plain 1 2 _ _ greater_plain
test_plain Al = light _ _ (constant_plain 1 1 _ refl)

-- the bit of a flag is the flag
as_bit : (z : ℕ) → z < 2 → z ≡ bit (z == 1)
as_bit zero h = refl
as_bit (suc zero) h = refl
as_bit (suc (suc z)) h = absurd (omega arith)

as_not : (z : ℕ) → z < 2 → complement 1 z ≡ bit (not (z == 1))
as_not zero h = refl
as_not (suc zero) h = refl
as_not (suc (suc z)) h = absurd (omega arith)

turned : (b : Bool) → complement 1 (bit b) ≡ bit (not b)
turned true = refl
turned false = refl

both : (c z : ℕ) → c < 2 → z < 2 → bit_and c (complement 1 z) ≡ bit ((c == 1) && not (z == 1))
both zero zero h k = refl
both zero (suc zero) h k = refl
both (suc zero) zero h k = refl
both (suc zero) (suc zero) h k = refl
both (suc (suc c)) z h k = absurd (omega arith)
both zero (suc (suc z)) h k = absurd (omega arith)
both (suc zero) (suc (suc z)) h k = absurd (omega arith)

neither : (z : ℕ) (b : Bool) → z < 2 → bit_and (complement 1 z) (bit b) ≡ bit (not (z == 1) && b)
neither zero true h = refl
neither zero false h = refl
neither (suc zero) true h = refl
neither (suc zero) false h = refl
neither (suc (suc z)) b h = absurd (omega arith)

-- a condition holds, by its code
abbrev pub holds_code : State → ℕ → Bool
holds_code s n = if n == 14 then true else nth (conditions s) n

word_is : (x y : ℕ) → x ≡ y → Word 1 x ≡ Word 1 y
word_is x y h = ap (λ z. Word 1 z) h

-- what the test of a condition evaluates to
pub test_is : (k : Condition) (c : ℕ) (l : Locals) (s : State) → IsState s →
    evaluate (lifts.test k) c (env_of l s) ≡ Word 1 (bit (holds_code s (condition_number k)))
test_is Eq c l s h = word_is _ _ (as_bit _ (h.flags flag_z))
test_is Ne c l s h = word_is _ _ (as_not _ (h.flags flag_z))
test_is Cs c l s h = word_is _ _ (as_bit _ (h.flags flag_c))
test_is Cc c l s h = word_is _ _ (as_not _ (h.flags flag_c))
test_is Mi c l s h = word_is _ _ (as_bit _ (h.flags flag_n))
test_is Pl c l s h = word_is _ _ (as_not _ (h.flags flag_n))
test_is Vs c l s h = word_is _ _ (as_bit _ (h.flags flag_v))
test_is Vc c l s h = word_is _ _ (as_not _ (h.flags flag_v))
test_is Hi c l s h = word_is _ _ (both _ _ (h.flags flag_c) (h.flags flag_z))
test_is Ls c l s h = word_is _ _ (ap (complement 1) (both _ _ (h.flags flag_c) (h.flags flag_z)) ∙ turned _)
test_is Ge c l s h = refl
test_is Lt c l s h = refl
test_is Gt c l s h = word_is _ _ (neither _ _ (h.flags flag_z))
test_is Le c l s h = word_is _ _ (ap (complement 1) (neither _ _ (h.flags flag_z)) ∙ turned _)
test_is Al c l s h = refl
