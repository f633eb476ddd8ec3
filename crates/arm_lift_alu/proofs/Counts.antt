-- The list of CLZ is a lifting of its row.
use Rattle.std.proofs.Common.{◌≡◌, ℕ, zero, suc, ◌+◌, ◌-◌, ◌*◌, ◌%◌, ◌^◌, ◌<◌, ◌≤◌, Bool, true, false, ◌&&◌, refl, ap, ◌∙◌, arith, List, [], Option, Some, None}
use Rattle.std.specs.Prelude.{◌==◌, nat_lt, nat_le}
use Rattle.std.specs.Int.Count.{count_leading_zeros, leading_unique}
use Rattle.std.proofs.lemmas.Bool.Decides.{nat_tests}
use Rattle.word_spec.specs.Words.{add, bit, bits, complement, concat}
use Rattle.word_spec.specs.Memory.{Endian}
use Rattle.word_spec.specs.State.{State}
use Rattle.machine_spec.specs.Machine.{only_next}
use Rattle.machine_spec.specs.Arm as rows
use Rattle.word_spec.specs.Profiles.{V4}
use Rattle.machine_spec.specs.Arm.{arm, reg, on, none, condition_code, field_d, field_m}
use Rattle.machine_spec.specs.Bil.{RRegisters, Expression, Let, Local, Choose}
use Rattle.machine_spec.specs.Bil as bil
use Rattle.machine_spec.specs.BilMeaning.{Word, Env, put_local, assign, in_env, evaluate}
use Rattle.machine_spec.specs.BilStores.{stored_by, stored_in}
use Rattle.machine_spec.specs.Simulation.{Locals, env_of, of_list, of_row, Simulates}
use Rattle.machine_spec.specs.MachineLaws.{IsLifting}
use Rattle.arm_decode.specs.declared.parts.Condition.{Condition}
use Rattle.arm_decode.specs.Parts.{condition_number}
use Rattle.arm_decode.specs.declared.counts.CountFields.{CountFields}
use Rattle.arm_decode.specs.Forms.{IsCount}
use Rattle.arm_lift_alu.specs.Lifted.{conditional}
use Rattle.arm_lift_alu.specs.Operands.{own}
use Rattle.arm_lift_alu.specs.Counted as lifts
use Rattle.arm_lift_alu.proofs.Plain.{IsPlain, nothing_chosen}
use Rattle.arm_lift_alu.proofs.Lists.{IsUsing, empty_listed, shallow}
use Rattle.arm_lift_alu.proofs.Rows.{conditional_lifting}
use Rattle.arm_lift_alu.proofs.Flagged.{made, register_runs}
use Rattle.arm_lift_alu.proofs.Uses.{register_listed}
use Rattle.arm_lift_alu.proofs.Products.{own_reg}
use Rattle.arm_lift_alu.proofs.CountStages.{counted_by, shifted_by, c16, c8, c4, c2, c1, y8, y4, y2, y1, y0, r0, at_8, at_4, at_2, at_1, at_0, at_most_31, counts}

-- how many bits a stage looks at, by what its expressions compute to
record IsSize (k : ℕ) : Type 0 where
  fits : (nat_le (32 - k) 31 && nat_lt 31 32) ≡ true
  wide : 31 - (32 - k) + 1 ≡ k
  same : (k == k) ≡ true
  low : nat_le (32 - k) 32 ≡ true
  whole : 32 - k + k ≡ 32
  tested : (y : ℕ) → y < 2 ^ 32 → (bits 31 (32 - k) y == 0) ≡ nat_lt y (2 ^ (32 - k))
  moved : (y : ℕ) → nat_lt y (2 ^ (32 - k)) ≡ true → concat k (y % 2 ^ (32 - k)) 0 ≡ y * 2 ^ k

size_16 : IsSize 16
size_16 = record {
  fits = refl;
  wide = refl;
  same = refl;
  low = refl;
  whole = refl;
  tested = λ y h. grind (arith, nat_tests);
  moved = λ y h. let g : y < 2 ^ 16 = grind (arith, nat_tests) in omega (arith, g);
}

size_8 : IsSize 8
size_8 = record {
  fits = refl;
  wide = refl;
  same = refl;
  low = refl;
  whole = refl;
  tested = λ y h. grind (arith, nat_tests);
  moved = λ y h. let g : y < 2 ^ 24 = grind (arith, nat_tests) in omega (arith, g);
}

size_4 : IsSize 4
size_4 = record {
  fits = refl;
  wide = refl;
  same = refl;
  low = refl;
  whole = refl;
  tested = λ y h. grind (arith, nat_tests);
  moved = λ y h. let g : y < 2 ^ 28 = grind (arith, nat_tests) in omega (arith, g);
}

size_2 : IsSize 2
size_2 = record {
  fits = refl;
  wide = refl;
  same = refl;
  low = refl;
  whole = refl;
  tested = λ y h. grind (arith, nat_tests);
  moved = λ y h. let g : y < 2 ^ 30 = grind (arith, nat_tests) in omega (arith, g);
}

size_1 : IsSize 1
size_1 = record {
  fits = refl;
  wide = refl;
  same = refl;
  low = refl;
  whole = refl;
  tested = λ y h. grind (arith, nat_tests);
  moved = λ y h. let g : y < 2 ^ 31 = grind (arith, nat_tests) in omega (arith, g);
}

-- a local takes the value of a word
abbrev with_local : (number width value : ℕ) → Env → Env
with_local x n v e = record e { locals = put_local x n v e.locals }

let_is : (x n c v : ℕ) (a b : Expression) (e : Env) → evaluate a c e ≡ Word n v → (n == n) ≡ true →
    evaluate (Let x n a b) c e ≡ evaluate b c (with_local x n v e)
let_is x n c v a b e is same = ap (λ z. in_env (assign (Local x n) z e) (evaluate b c)) is ∙ rw same refl

word_is : (n x y : ℕ) → x ≡ y → Word n x ≡ Word n y
word_is n x y h = ap (Word n) h

-- the test of a stage
test_is : (n k c y : ℕ) (e : Env) → IsSize k → e.locals n 32 ≡ Word 32 y → y < 2 ^ 32 →
    evaluate (lifts.test n k) c e ≡ Word 1 (bit (nat_lt y (2 ^ (32 - k))))
test_is n k c y e size is small =
    rw (is, size.fits, size.wide, size.same) (ap (λ b. Word 1 (bit b)) (size.tested y small))

-- what a stage leaves
left_by : (n k c y : ℕ) (e : Env) (b : Bool) → IsSize k → e.locals n 32 ≡ Word 32 y → e.locals n 1 ≡ Word 1 (bit b) → nat_lt y (2 ^ (32 - k)) ≡ b →
    evaluate (lifts.left n k) c e ≡ Word 32 (shifted_by b k y)
left_by n k c y e true size is told h = rw (is, told, size.low, size.whole) (word_is 32 _ _ (size.moved y h))
left_by n k c y e false size is told h = rw (is, told) refl

-- the variables behind a stage
abbrev behind : (n k y : ℕ) → Bool → Env → Env
behind n k y b e = with_local (n + 1) 32 (shifted_by b k y) (with_local n 1 (bit b) e)

stage_is : (n k c y : ℕ) (rest : Expression) (e : Env) → IsSize k → (n == n) ≡ true → e.locals n 32 ≡ Word 32 y → y < 2 ^ 32 →
    evaluate (lifts.stage n k rest) c e ≡ evaluate rest c (behind n k y (nat_lt y (2 ^ (32 - k))) e)
stage_is n k c y rest e size numbered is small =
    let b : Bool = nat_lt y (2 ^ (32 - k)) in
    let_is n 1 c (bit b) (lifts.test n k) (Let (n + 1) 32 (lifts.left n k) rest) e (test_is n k c y e size is small) refl
    ∙ let_is (n + 1) 32 c (shifted_by b k y) (lifts.left n k) rest (with_local n 1 (bit b) e)
    (left_by n k c y (with_local n 1 (bit b) e) b size (rw numbered is) (rw numbered refl) refl) refl

-- one more where nothing is left
highest : (y : ℕ) → y < 2 ^ 32 → 2 ^ 31 ≤ y → complement 1 (bits 31 31 y) ≡ 0
highest y h k = omega arith

-- a test's bit at its place
counted : (c : Bool) (k r : ℕ) → counted_by c k r ≡ bit c * k + r
counted true k r = omega arith
counted false k r = omega arith

-- the tests as a number are what is counted
number_of : (a b c d e : Bool) →
    concat 4 (bit a) (concat 3 (bit b) (concat 2 (bit c) (concat 1 (bit d) (bit e))))
    ≡ counted_by e 1 (counted_by d 2 (counted_by c 4 (counted_by b 8 (counted_by a 16 0))))
number_of a b c d e =
    let h = counted a 16 0 in
    let i = counted b 8 (counted_by a 16 0) in
    let j = counted c 4 (counted_by b 8 (counted_by a 16 0)) in
    let k = counted d 2 (counted_by c 4 (counted_by b 8 (counted_by a 16 0))) in
    let l = counted e 1 (counted_by d 2 (counted_by c 4 (counted_by b 8 (counted_by a 16 0)))) in
    omega (arith, h, i, j, k, l)

-- the sum of what is counted and what is left
sum_is : (a : ℕ) → a < 2 ^ 32 → add 32 (r0 a) (complement 1 (bits 31 31 (y0 a))) ≡ count_leading_zeros 32 a
sum_is zero h = leading_unique 32 0 32 0 refl (omega arith) (omega arith)
sum_is (suc n) h =
    let st = at_0 (suc n) h in
    let z = highest (y0 (suc n)) st.small (st.at_least (omega arith)) in
    let k = counts (suc n) h (omega arith) in
    ap (λ x. add 32 (r0 (suc n)) x) z ∙ least (r0 (suc n)) (at_most_31 (suc n)) ∙ k
  where
    least : (r : ℕ) → r ≤ 31 → add 32 r 0 ≡ r
    least r h = omega arith

-- what the tests and the word that is left evaluate to
zeros_are : (a w x y z c : ℕ) (f g h i j : Bool) (e : Env) →
    evaluate lifts.zeros c (behind 4 1 z j (behind 3 2 y i (behind 2 4 x h (behind 1 8 w g (behind 0 16 a f (with_local 0 32 a e))))))
    ≡ Word 32 (add 32 (concat 4 (bit f) (concat 3 (bit g) (concat 2 (bit h) (concat 1 (bit i) (bit j))))) (complement 1 (bits 31 31 (shifted_by j 1 z))))
zeros_are a w x y z c f g h i j e = refl

pub zeros_of_is : (m c a : ℕ) (l : Locals) (s : State) → s.regs m ≡ a → a < 2 ^ 32 →
    evaluate (lifts.zeros_of m) c (env_of l s) ≡ Word 32 (count_leading_zeros 32 a)
zeros_of_is m c a l s is small =
    let e0 : Env = with_local 0 32 a (env_of l s) in
    let e1 : Env = behind 0 16 a (c16 a) e0 in
    let e2 : Env = behind 1 8 (y8 a) (c8 a) e1 in
    let e3 : Env = behind 2 4 (y4 a) (c4 a) e2 in
    let e4 : Env = behind 3 2 (y2 a) (c2 a) e3 in
    let r4 : Expression = lifts.stage 4 1 lifts.zeros in
    let r3 : Expression = lifts.stage 3 2 r4 in
    let r2 : Expression = lifts.stage 2 4 r3 in
    let r1 : Expression = lifts.stage 1 8 r2 in
    let_is 0 32 c a (own m) (lifts.stage 0 16 r1) (env_of l s) (word_is 32 _ _ is) refl
    ∙ stage_is 0 16 c a r1 e0 size_16 refl refl small
    ∙ stage_is 1 8 c (y8 a) r2 e1 size_8 refl refl (at_8 a small).small
    ∙ stage_is 2 4 c (y4 a) r3 e2 size_4 refl refl (at_4 a small).small
    ∙ stage_is 3 2 c (y2 a) r4 e3 size_2 refl refl (at_2 a small).small
    ∙ stage_is 4 1 c (y1 a) lifts.zeros e4 size_1 refl refl (at_1 a small).small
    ∙ zeros_are a (y8 a) (y4 a) (y2 a) (y1 a) c (c16 a) (c8 a) (c4 a) (c2 a) (c1 a) (env_of l s)
    ∙ ap (λ n. Word 32 (add 32 n (complement 1 (bits 31 31 (y0 a))))) (number_of (c16 a) (c8 a) (c4 a) (c2 a) (c1 a))
    ∙ word_is 32 _ _ (sum_is a small)

-- nothing is stored, by any part
in_none : (o : Option Env) (f : Env → List ℕ) → ((e : Env) → f e ≡ []) → stored_in o f ≡ []
in_none None f h = refl
in_none (Some e) f h = h e

stage_stored : (n k c : ℕ) (rest : Expression) → ((e : Env) → stored_by rest c e ≡ []) → (e : Env) → stored_by (lifts.stage n k rest) c e ≡ []
stage_stored n k c rest h e =
    in_none (assign (Local n 1) (evaluate (lifts.test n k) c e) e) (stored_by (Let (n + 1) 32 (lifts.left n k) rest) c)
    (λ f. rw (nothing_chosen (evaluate (lifts.is_clear n) c f)) (in_none (assign (Local (n + 1) 32) (evaluate (lifts.left n k) c f) f) (stored_by rest c) h))

zeros_stored : (m c : ℕ) (e : Env) → stored_by (lifts.zeros_of m) c e ≡ []
zeros_stored m c e =
    let r4 : Expression = lifts.stage 4 1 lifts.zeros in
    let r3 : Expression = lifts.stage 3 2 r4 in
    let r2 : Expression = lifts.stage 2 4 r3 in
    let r1 : Expression = lifts.stage 1 8 r2 in
    in_none (assign (Local 0 32) (evaluate (own m) c e) e) (stored_by (lifts.stage 0 16 r1) c)
    (stage_stored 0 16 c r1 (stage_stored 1 8 c r2 (stage_stored 2 4 c r3 (stage_stored 3 2 c r4 (stage_stored 4 1 c lifts.zeros (λ f. refl))))))

zeros_plain : (q : ℕ) → q < 15 → IsPlain 32 290 none (lifts.zeros_of q)
zeros_plain q few = record {
  typed = λ at. refl;
  width = refl;
  weight = omega arith;
  loads = refl;
  stores = refl;
  unknowns = refl;
  picks = refl;
  steady = refl;
  stored = zeros_stored q;
  names = λ m. let e : nat_le q 14 ≡ true = grind (arith, nat_tests) in rw e refl;
  reads = λ f h. refl;
}

counted_using : (d q : ℕ) → IsUsing none none none (lifts.counted d q)
counted_using d q = record {
  assigns = λ f few h. cc;
  surely = λ f few h. cc;
  reads = λ f a i few h k. refl;
  reads_first = λ f few. refl;
}

module _ (m : Endian) (w at : ℕ) (k : Condition) (i : CountFields) (code : condition_number k ≡ condition_code w) (x : IsCount w i) where
  abbrev d : ℕ
  d = i.rd.number

  abbrev q : ℕ
  q = i.rm.number

  runs : Simulates (λ s c. rows.counted w s) at (lifts.counted d q)
  runs = λ s is here c turns few l.
      ap of_list (register_runs d (lifts.zeros_of q) (count_leading_zeros 32 (s.regs q)) c turns l s bil.Empty
      (zeros_of_is q c (s.regs q) l s refl (is.regs q)))
      ∙ ap (λ a. of_row l turns (on s (made s a (count_leading_zeros 32 (s.regs q)) s.flags))) x.rd
      ∙ ap (λ a. of_row l turns (on s (made s (field_d w) (count_leading_zeros 32 a) s.flags))) (own_reg s q i.rm.in_range ∙ ap (reg s) x.rm)

  pub counted_lifting : IsLifting (arm m V4) RRegisters (rows.count w) at (conditional k (lifts.counted d q))
  counted_lifting =
      conditional_lifting m w at 354 4096 0 (λ s c. rows.counted w s) none none none false only_next (lifts.counted d q) runs
      (register_listed d 290 0 1 0 354 none (lifts.zeros_of q) bil.Empty i.rd.in_range (zeros_plain q i.rm.in_range) (shallow 1 empty_listed) (omega arith))
      (counted_using d q) (λ t. refl) (omega arith) k code
