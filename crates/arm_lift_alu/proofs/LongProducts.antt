-- The lists of UMULL, UMLAL, SMULL and SMLAL are liftings of their rows.
use Rattle.std.proofs.Common.{◌≡◌, ◌≢◌, ℕ, zero, suc, ◌+◌, ◌-◌, ◌*◌, ◌/◌, ◌%◌, ◌^◌, ◌<◌, Bool, true, false, not, ◌&&◌, ◌||◌, refl, ap, sym, subst, ◌∙◌, arith, None, if◌then◌else◌}
use Rattle.std.specs.Prelude.{◌==◌}
use Rattle.std.proofs.lemmas.Bool.{ne_eqb}
use Rattle.std.proofs.lemmas.Bool.Decides.{nat_tests}
use Rattle.std.proofs.Math.Path.{fun_ext}
use Rattle.std.proofs.lemmas.Nat.{mul-mod}
use Rattle.word_spec.specs.Words.{add, sub, mul, bit, bit_at, sign_extend}
use Rattle.word_spec.specs.Memory.{Endian}
use Rattle.machine_spec.specs.Machine.{Row, only_next}
use Rattle.word_spec.specs.State.{State, IsState, put, flag_n, flag_z, flag_c, flag_v}
use Rattle.machine_spec.specs.Arm as rows
use Rattle.word_spec.specs.Profiles.{V4}
use Rattle.machine_spec.specs.Arm.{arm, reg, on, with_flags, flag_set, none, condition_code, accumulates, has_bit, field_n, field_d, field_m, field_s, is_multiply_long}
use Rattle.machine_spec.specs.Bil.{Bits, RRegisters, Expression, Unknown, Statements, Empty, Assign}
use Rattle.machine_spec.specs.Bil as bil
use Rattle.machine_spec.specs.BilMeaning.{Word, evaluate, execute}
use Rattle.machine_spec.specs.Simulation.{Locals, env_of, position, of_list, of_row, Finished, Simulates}
use Rattle.machine_spec.specs.MachineLaws.{IsLifting}
use Rattle.arm_decode.specs.declared.parts.Condition.{Condition}
use Rattle.arm_decode.specs.Parts.{condition_number}
use Rattle.arm_decode.specs.declared.long_multiplies.MultiplyLongFields.{MultiplyLongFields}
use Rattle.arm_decode.specs.Forms.{IsMultiplyLong}
use Rattle.arm_lift_alu.specs.Lifted.{conditional}
use Rattle.arm_lift_alu.specs.Operands.{own}
use Rattle.arm_lift_alu.specs.MultipliedLong as lifts
use Rattle.arm_lift_alu.proofs.Plain.{IsPlain, own_register, constant_plain, binary_plain, cast_plain, extract_plain, concat_plain, lighter}
use Rattle.arm_lift_alu.proofs.Lists.{IsListed, IsUsing, empty_listed, shallow}
use Rattle.arm_lift_alu.proofs.Rows.{row_from, conditional_lifting}
use Rattle.arm_lift_alu.proofs.Flagged.{made, flagged, put_same, register_runs, tests_end}
use Rattle.arm_lift_alu.proofs.Uses.{heavier, register_listed, flag_listed}
use Rattle.arm_lift_alu.proofs.Products.{own_reg, draws, same_draws, nz}

-- a word in 64 bits, with its sign or without
abbrev wide_of : Bool → ℕ → ℕ
wide_of k x = if k then sign_extend 32 64 x else x

-- the result of a long multiply, from the words of its registers
abbrev long_of : (adds is_signed : Bool) → (n d m s : ℕ) → ℕ
long_of adds k n d m s = add 64 (mul 64 (wide_of k m) (wide_of k s)) (if adds then n * 2 ^ 32 + d else 0)

-- its lower half by words
abbrev low_of : (adds : Bool) → (d m s : ℕ) → ℕ
low_of true d m s = add 32 (mul 32 m s) d
low_of false d m s = mul 32 m s

wide_low : (k : Bool) (x : ℕ) → x < 2 ^ 32 → wide_of k x % 2 ^ 32 ≡ x
wide_low true x h = grind (arith, nat_tests)
wide_low false x h = omega arith

product_low : (k : Bool) (m s : ℕ) → m < 2 ^ 32 → s < 2 ^ 32 → mul 64 (wide_of k m) (wide_of k s) % 2 ^ 32 ≡ mul 32 m s
product_low k m s h i =
    cut (wide_of k m * wide_of k s) ∙ mul-mod (wide_of k m) (wide_of k s) (2 ^ 32) ∙ ap (λ x. (x * (wide_of k s % 2 ^ 32)) % 2 ^ 32) (wide_low k m h)
    ∙ ap (λ x. (m * x) % 2 ^ 32) (wide_low k s i)
  where
    cut : (p : ℕ) → p % 2 ^ 64 % 2 ^ 32 ≡ p % 2 ^ 32
    cut p = omega arith

low_is : (adds k : Bool) (n d m s : ℕ) → m < 2 ^ 32 → s < 2 ^ 32 → low_of adds d m s ≡ long_of adds k n d m s % 2 ^ 32
low_is true k n d m s h i = ap (λ x. add 32 x d) (sym (product_low k m s h i)) ∙ sum (mul 64 (wide_of k m) (wide_of k s))
  where
    sum : (p : ℕ) → (p % 2 ^ 32 + d) % 2 ^ 32 ≡ (p + (n * 2 ^ 32 + d)) % 2 ^ 64 % 2 ^ 32
    sum p = omega arith
low_is false k n d m s h i = sym (product_low k m s h i) ∙ same (wide_of k m * wide_of k s)
  where
    same : (p : ℕ) → p % 2 ^ 64 % 2 ^ 32 ≡ (p % 2 ^ 64 + 0) % 2 ^ 64 % 2 ^ 32
    same p = omega arith

-- what was added is found again
was_is : (d m s : ℕ) → d < 2 ^ 32 → sub 32 (low_of true d m s) (mul 32 m s) ≡ d
was_is d m s h = again (m * s)
  where
    again : (p : ℕ) → ((p % 2 ^ 32 + d) % 2 ^ 32 + (2 ^ 32 - p % 2 ^ 32)) % 2 ^ 32 ≡ d
    again p = omega arith

word_is : (x y : ℕ) → x ≡ y → Word 32 x ≡ Word 32 y
word_is x y h = ap (λ z. Word 32 z) h

-- the upper half of a result
upper_half : (v : ℕ) → v % 2 ^ 64 / 2 ^ 32 % 2 ^ 32 ≡ v % 2 ^ 64 / 2 ^ 32
upper_half v = omega arith

more_of_nothing : (p : ℕ) → p % 2 ^ 64 / 2 ^ 32 % 2 ^ 32 ≡ (p % 2 ^ 64 + 0) % 2 ^ 64 / 2 ^ 32
more_of_nothing p = omega arith

upper_gives : (adds k : Bool) (n m s d c : ℕ) (l : Locals) (t : State) (e : Expression) → (adds ≡ true → evaluate e c (env_of l t) ≡ Word 32 d) →
    evaluate (lifts.upper adds k n m s e) c (env_of l t) ≡ Word 32 (long_of adds k (t.regs n) d (t.regs m) (t.regs s) / 2 ^ 32)
upper_gives true true n m s d c l t e h = rw (h refl) (word_is _ _
    (upper_half (mul 64 (wide_of true (t.regs m)) (wide_of true (t.regs s)) + (t.regs n * 2 ^ 32 + d))))
upper_gives true false n m s d c l t e h = rw (h refl) (word_is _ _ (upper_half (mul 64 (t.regs m) (t.regs s) + (t.regs n * 2 ^ 32 + d))))
upper_gives false true n m s d c l t e h = word_is _ _ (more_of_nothing (wide_of true (t.regs m) * wide_of true (t.regs s)))
upper_gives false false n m s d c l t e h = word_is _ _ (more_of_nothing (t.regs m * t.regs s))

lower_gives : (adds : Bool) (d m s c : ℕ) (l : Locals) (t : State) → evaluate (lifts.lower adds d m s) c (env_of l t)
    ≡ Word 32 (low_of adds (t.regs d) (t.regs m) (t.regs s))
lower_gives true d m s c l t = refl
lower_gives false d m s c l t = refl

-- another register is what it was
put_other : (f : ℕ → ℕ) (r v q : ℕ) → q ≢ r → put f r v q ≡ f q
put_other f r v q h = rw (ne_eqb q r h) refl

-- two registers are put in either order
put_swapped : (f : ℕ → ℕ) (n d x y : ℕ) → n ≢ d → put (put f n x) d y ≡ put (put f d y) n x
put_swapped f n d x y h = fun_ext (λ i. by i (i == n) (i == d) refl refl)
  where
    by : (i : ℕ) (a b : Bool) → (i == n) ≡ a → (i == d) ≡ b → put (put f n x) d y i ≡ put (put f d y) n x i
    by i true true p q = absurd (h (let e : n ≡ d = grind (arith, nat_tests) in e))
    by i true false p q = rw (p, q) refl
    by i false true p q = rw (p, q) refl
    by i false false p q = rw (p, q) refl

-- a state with both registers
abbrev both_made : State → (n d v : ℕ) → State
both_made t n d v = record t { regs = put (put t.regs d (v % 2 ^ 32)) n (v / 2 ^ 32) }

module _ (adds k : Bool) (n d m s c turns : ℕ) (l : Locals) (t : State) (is : IsState t) (nd : n ≢ d) (mn : m ≢ n) (md : m ≢ d) where
  abbrev v : ℕ
  v = long_of adds k (t.regs n) (t.regs d) (t.regs m) (t.regs s)

  abbrev low : ℕ
  low = low_of adds (t.regs d) (t.regs m) (t.regs s)

  low_same : low ≡ v % 2 ^ 32
  low_same = low_is adds k (t.regs n) (t.regs d) (t.regs m) (t.regs s) (is.regs m) (is.regs s)

  upper_first : (rest : Statements) → s ≢ n →
      execute (lifts.both false adds k n d m s rest) c (position l turns None t) ≡ execute rest c (position l turns None (both_made t n d v))
  upper_first rest sn =
      let u : State = made t n (v / 2 ^ 32) t.flags in
      let lower : evaluate (lifts.lower adds d m s) c (env_of l u) ≡ Word 32 low
      = lower_gives adds d m s c l u
      ∙ ap (λ x. Word 32 (low_of adds x (u.regs m) (u.regs s))) (put_other t.regs n (v / 2 ^ 32) d (λ e. nd (sym e)))
      ∙ ap (λ x. Word 32 (low_of adds (t.regs d) x (u.regs s))) (put_other t.regs n (v / 2 ^ 32) m mn)
      ∙ ap (λ x. Word 32 (low_of adds (t.regs d) (t.regs m) x)) (put_other t.regs n (v / 2 ^ 32) s sn) in
      register_runs n (lifts.upper adds k n m s (own d)) (v / 2 ^ 32) c turns l t (Assign (bil.Register RRegisters d) (lifts.lower adds d m s) rest)
      (upper_gives adds k n m s (t.regs d) c l t (own d) (λ e. refl))
      ∙ register_runs d (lifts.lower adds d m s) low c turns l u rest lower
      ∙ ap (λ (f : ℕ → ℕ). let x : State = record t { regs = f } in execute rest c (position l turns None x))
      (put_swapped t.regs n d (v / 2 ^ 32) low nd ∙ ap (λ x. put (put t.regs d x) n (v / 2 ^ 32)) low_same)

  lower_first : (rest : Statements) → s ≡ n →
      execute (lifts.both true adds k n d m s rest) c (position l turns None t) ≡ execute rest c (position l turns None (both_made t n d v))
  lower_first rest sn =
      let u : State = made t d low t.flags in
      let at_n = put_other t.regs d low n nd in
      let at_m = put_other t.regs d low m md in
      let at_s = put_other t.regs d low s (λ e. nd (sym sn ∙ e)) in
      let found : adds ≡ true → evaluate (lifts.was_lower d m s) c (env_of l u) ≡ Word 32 (t.regs d)
      = λ e. ap (λ x. Word 32 (sub 32 x (mul 32 (u.regs m) (u.regs s)))) (put_same t.regs d low)
      ∙ ap (λ x. Word 32 (sub 32 low (mul 32 x (u.regs s)))) at_m ∙ ap (λ x. Word 32 (sub 32 low (mul 32 (t.regs m) x))) at_s
      ∙ ap (λ a. Word 32 (sub 32 (low_of a (t.regs d) (t.regs m) (t.regs s)) (mul 32 (t.regs m) (t.regs s)))) e
      ∙ word_is _ _ (was_is (t.regs d) (t.regs m) (t.regs s) (is.regs d)) in
      let upper : evaluate (lifts.upper adds k n m s (lifts.was_lower d m s)) c (env_of l u) ≡ Word 32 (v / 2 ^ 32)
      = upper_gives adds k n m s (t.regs d) c l u (lifts.was_lower d m s) found
      ∙ ap (λ x. Word 32 (long_of adds k x (t.regs d) (u.regs m) (u.regs s) / 2 ^ 32)) at_n
      ∙ ap (λ x. Word 32 (long_of adds k (t.regs n) (t.regs d) x (u.regs s) / 2 ^ 32)) at_m
      ∙ ap (λ x. Word 32 (long_of adds k (t.regs n) (t.regs d) (t.regs m) x / 2 ^ 32)) at_s in
      register_runs d (lifts.lower adds d m s) low c turns l t
      (Assign (bil.Register RRegisters n) (lifts.upper adds k n m s (lifts.was_lower d m s)) rest) (lower_gives adds d m s c l t)
      ∙ register_runs n (lifts.upper adds k n m s (lifts.was_lower d m s)) (v / 2 ^ 32) c turns l u rest upper
      ∙ ap (λ x. let y : State = record t { regs = put (put t.regs d x) n (v / 2 ^ 32) } in execute rest c (position l turns None y)) low_same

  both_run : (rest : Statements) (first : Bool) → (s == n) ≡ first →
      execute (lifts.both first adds k n d m s rest) c (position l turns None t) ≡ execute rest c (position l turns None (both_made t n d v))
  both_run rest true h = lower_first rest (let e : s ≡ n = grind (arith, nat_tests) in e)
  both_run rest false h = upper_first rest (λ e. let f : (s == n) ≡ true = grind (arith, nat_tests) in true_false _ f h)
    where
      true_false : (b : Bool) → b ≡ true → b ≡ false → ⊥
      true_false true p q = cc
      true_false false p q = cc

-- the flags behind a long product
abbrev flags_behind : (set keeps : Bool) → (ℕ → ℕ) → ℕ → ℕ → ℕ → ℕ
flags_behind b keeps f v c =
    if b then with_flags f (bit_at 63 v) (bit (v == 0)) (if keeps then f flag_c else bit_at 0 c) (if keeps then f flag_v else bit_at 1 c) else f

four : (f : ℕ → ℕ) (n z c v x y p q : ℕ) → n ≡ x → z ≡ y → c ≡ p → v ≡ q → with_flags f n z c v ≡ with_flags f x y p q
four f n z c v x y p q h i j k =
    ap (λ a. with_flags f a z c v) h ∙ ap (λ a. with_flags f x a c v) i ∙ ap (λ a. with_flags f x y a v) j ∙ ap (with_flags f x y p) k

long_sign : (v : ℕ) → v < 2 ^ 64 → v / 2 ^ 32 / 2 ^ 31 % 2 ^ 1 ≡ bit_at 63 v
long_sign v h = omega arith

-- both halves together
halves : (v : ℕ) → v / 2 ^ 32 * 2 ^ 32 + v % 2 ^ 32 ≡ v
halves v = omega arith

low_bit : (c : ℕ) → c % 2 ^ 1 ≡ bit_at 0 c
low_bit c = omega arith

next_bit : (c : ℕ) → c % 2 ^ 2 / 2 ^ 1 % 2 ^ 1 ≡ bit_at 1 c
next_bit c = omega arith

flags_from : (n d c turns : ℕ) (l : Locals) (t : State) →
    of_list (execute (lifts.long_flags true false n d Empty) c (position l turns None t)) ≡ Finished (position l turns None
    (flagged t (with_flags t.flags (t.regs n / 2 ^ 31 % 2 ^ 1) (bit ((t.regs n * 2 ^ 32 + t.regs d) == 0)) (c % 2 ^ 1) (c % 2 ^ 2 / 2 ^ 1 % 2 ^ 1))))
flags_from n d c turns l t = refl

-- N and Z alone
signs_from : (n d c turns : ℕ) (l : Locals) (t : State) →
    of_list (execute (lifts.long_flags true true n d Empty) c (position l turns None t)) ≡ Finished (position l turns None
    (flagged t (put (put t.flags flag_n (t.regs n / 2 ^ 31 % 2 ^ 1)) flag_z (bit ((t.regs n * 2 ^ 32 + t.regs d) == 0)))))
signs_from n d c turns l t = refl

flags_run : (b keeps : Bool) (n d v c turns : ℕ) (l : Locals) (t : State) → t.regs n ≡ v / 2 ^ 32 → t.regs d ≡ v % 2 ^ 32 → v < 2 ^ 64 →
    of_list (execute (lifts.long_flags b keeps n d Empty) c (position l turns None t))
    ≡ Finished (position l turns None (flagged t (flags_behind b keeps t.flags v c)))
flags_run true keeps n d v c turns l t h i small =
    let sign = ap (λ x. x / 2 ^ 31 % 2 ^ 1) h ∙ long_sign v small in
    let none = ap (λ x. bit ((x * 2 ^ 32 + t.regs d) == 0)) h ∙ ap (λ x. bit ((v / 2 ^ 32 * 2 ^ 32 + x) == 0)) i ∙ ap (λ x. bit (x == 0)) (halves v) in
    by keeps sign none
  where
    by : (keeps : Bool) → t.regs n / 2 ^ 31 % 2 ^ 1 ≡ bit_at 63 v → bit ((t.regs n * 2 ^ 32 + t.regs d) == 0) ≡ bit (v == 0) →
        of_list (execute (lifts.long_flags true keeps n d Empty) c (position l turns None t))
        ≡ Finished (position l turns None (flagged t (flags_behind true keeps t.flags v c)))
    by false sign none =
        flags_from n d c turns l t
        ∙ ap (λ g. Finished (position l turns None (flagged t g))) (four t.flags _ _ _ _ _ _ _ _ sign none (low_bit c) (next_bit c))
    by true sign none =
        signs_from n d c turns l t
        ∙ ap (λ g. Finished (position l turns None (flagged t g)))
        (tests_end false false t.flags _ _ (t.flags flag_c) (t.flags flag_v) (λ e. refl) (λ e. refl) ∙ four t.flags _ _ _ _ _ _ _ _ sign none refl refl)
flags_run false keeps n d v c turns l t h i small = refl

-- what is said of the list beside its end
wide_plain : (k : Bool) (r : ℕ) → r < 15 → IsPlain 64 0 none (lifts.wide k r)
wide_plain true r h = cast_plain bil.Signed 64 32 0 none _ (own_register r none h) refl
wide_plain false r h = cast_plain bil.Unsigned 64 32 0 none _ (own_register r none h) refl

product_plain : (k : Bool) (m s : ℕ) → m < 15 → s < 15 → IsPlain 64 12288 none (lifts.long_product k m s)
product_plain k m s h i = binary_plain bil.Times 64 0 0 12288 none _ _ (wide_plain k m h) (wide_plain k s i) refl (omega arith)

lower_product_plain : (m s : ℕ) → m < 15 → s < 15 → IsPlain 32 3072 none (lifts.lower_product m s)
lower_product_plain m s h i = binary_plain bil.Times 32 0 0 3072 none _ _ (own_register m none h) (own_register s none i) refl (omega arith)

lower_plain : (adds : Bool) (d m s : ℕ) → d < 15 → m < 15 → s < 15 → IsPlain 32 3136 none (lifts.lower adds d m s)
lower_plain true d m s g h i = binary_plain bil.Plus 32 3072 0 3136 none _ _ (lower_product_plain m s h i) (own_register d none g) refl (omega arith)
lower_plain false d m s g h i = lighter 32 3072 3136 none _ (lower_product_plain m s h i) (omega arith)

was_plain : (d m s : ℕ) → d < 15 → m < 15 → s < 15 → IsPlain 32 3136 none (lifts.was_lower d m s)
was_plain d m s g h i = binary_plain bil.Minus 32 0 3072 3136 none _ _ (own_register d none g) (lower_product_plain m s h i) refl (omega arith)

upper_plain : (adds k : Bool) (n m s : ℕ) (e : Expression) → n < 15 → m < 15 → s < 15 → IsPlain 32 3136 none e →
    IsPlain 32 15552 none (lifts.upper adds k n m s e)
upper_plain true k n m s e g h i p =
    extract_plain 63 32 64 15552 none _ (binary_plain bil.Plus 64 12288 3136 15552 none _ _ (product_plain k m s h i)
    (concat_plain 32 32 0 3136 none _ _ (own_register n none g) p refl) refl (omega arith)) refl refl
upper_plain false k n m s e g h i p = extract_plain 63 32 64 15552 none _ (lighter 64 12288 15552 none _ (product_plain k m s h i) (omega arith)) refl refl

-- how many unknowns there are
abbrev drawn : (set keeps : Bool) → ℕ
drawn true false = 2
drawn true true = 0
drawn false keeps = 0

unknown_listed : IsListed 4 0 2
    (Assign (bil.Flag flag_c) (Unknown (Bits 1)) (Assign (bil.Flag flag_v) (bil.Extract 1 1 (Unknown (Bits 2))) Empty))
unknown_listed = record {
  typed = λ at. refl;
  no_loop = refl;
  no_special = refl;
  nests = omega arith;
  names = λ m. refl;
  unknowns = refl;
  picks = refl;
  steady = refl;
  weight = omega arith;
  loads = refl;
  stores = refl;
  stored = λ c s. refl;
}

signs_listed : (n d u : ℕ) (rest : Statements) → n < 15 → d < 15 → IsListed 4 1 u rest → IsListed 72 1 u (lifts.long_signs n d rest)
signs_listed n d u rest h i p =
    flag_listed 3 0 70 1 u 72 none _ _ refl (extract_plain 31 31 32 0 none _ (own_register n none h) refl refl)
    (flag_listed 2 64 4 1 u 70 none _ rest refl (binary_plain bil.Equal 64 0 0 64 none _ _
    (concat_plain 32 32 0 0 none _ _ (own_register n none h) (own_register d none i) refl) (constant_plain 64 0 none refl) refl (omega arith))
    p (omega arith)) (omega arith)

flags_listed : (b keeps : Bool) (n d : ℕ) → n < 15 → d < 15 → IsListed 72 1 (drawn b keeps) (lifts.long_flags b keeps n d Empty)
flags_listed true false n d h i = signs_listed n d 2 _ h i (shallow 1 unknown_listed)
flags_listed true true n d h i = signs_listed n d 0 Empty h i (heavier 0 4 1 0 Empty (shallow 1 empty_listed) (omega arith))
flags_listed false keeps n d h i = heavier 0 72 1 0 Empty (shallow 1 empty_listed) (omega arith)

both_listed : (first adds k : Bool) (n d m s w u : ℕ) (rest : Statements) → n < 15 → d < 15 → m < 15 → s < 15 → IsListed w 1 u rest →
    IsListed (18816 + w) 1 u (lifts.both first adds k n d m s rest)
both_listed false adds k n d m s w u rest f g h i p =
    register_listed n 15552 (3200 + w) 1 u (18816 + w) none _ _ f
    (upper_plain adds k n m s (own d) f h i (lighter 32 0 3136 none _ (own_register d none g) (omega arith)))
    (register_listed d 3136 w 1 u (3200 + w) none _ rest g (lower_plain adds d m s g h i) p (omega arith)) (omega arith)
both_listed true adds k n d m s w u rest f g h i p =
    register_listed d 3136 (15616 + w) 1 u (18816 + w) none _ _ g (lower_plain adds d m s g h i)
    (register_listed n 15552 w 1 u (15616 + w) none _ rest f (upper_plain adds k n m s (lifts.was_lower d m s) f h i (was_plain d m s g h i)) p (omega arith))
    (omega arith)

all_set : (f : ℕ) → f < 4 → ((3 == f) || ((2 == f) || ((1 == f) || ((0 == f) || false)))) ≡ flag_set true true true f
all_set zero h = refl
all_set (suc zero) h = refl
all_set (suc (suc zero)) h = refl
all_set (suc (suc (suc zero))) h = refl
all_set (suc (suc (suc (suc f)))) h = absurd (omega arith)

none_read : (x : Bool) → (x && false) ≡ false
none_read true = refl
none_read false = refl

abbrev flags_of : (set keeps : Bool) → ℕ → Bool
flags_of b keeps = flag_set b (draws b keeps) (draws b keeps)

flags_using : (b keeps : Bool) (n d : ℕ) → IsUsing none (flags_of b keeps) (flags_of b keeps) (lifts.long_flags b keeps n d Empty)
flags_using true true n d = record {
  assigns = λ f few h. sym (nz f few) ∙ h;
  surely = λ f few h. nz f few ∙ h;
  reads = λ f a i few r s. refl;
  reads_first = λ f few. rw (none_read (3 == f)) refl;
}
flags_using true false n d = record {
  assigns = λ f few h. sym (all_set f few) ∙ h;
  surely = λ f few h. all_set f few ∙ h;
  reads = λ f a i few r s. refl;
  reads_first = λ f few. rw (none_read (3 == f), none_read ((3 == f) || (2 == f)), none_read ((3 == f) || (2 == f) || (1 == f))) refl;
}
flags_using false true n d = record {
  assigns = λ f few h. cc;
  surely = λ f few h. cc;
  reads = λ f a i few r s. refl;
  reads_first = λ f few. refl;
}
flags_using false false n d = record {
  assigns = λ f few h. cc;
  surely = λ f few h. cc;
  reads = λ f a i few r s. refl;
  reads_first = λ f few. refl;
}

-- two registers before a list that uses flags
both_before : (n d : ℕ) (x y : Expression) (a b : ℕ) (set : ℕ → Bool) (rest : Statements) → IsPlain 32 a none x → IsPlain 32 b none y →
    IsUsing none set set rest →
    IsUsing none set set (Assign (bil.Register RRegisters n) x (Assign (bil.Register RRegisters d) y rest))
both_before n d x y a b set rest p q u = record {
  assigns = u.assigns;
  surely = u.surely;
  reads = λ f g i few r s. rw (p.reads f refl, q.reads f refl) (u.reads f g i few r s);
  reads_first = u.reads_first;
}

both_using : (first adds k : Bool) (n d m s : ℕ) (set : ℕ → Bool) (rest : Statements) → n < 15 → d < 15 → m < 15 → s < 15 → IsUsing none set set rest →
    IsUsing none set set (lifts.both first adds k n d m s rest)
both_using false adds k n d m s set rest f g h i u =
    both_before n d _ _ 15552 3136 set rest (upper_plain adds k n m s (own d) f h i (lighter 32 0 3136 none _ (own_register d none g) (omega arith)))
    (lower_plain adds d m s g h i) u
both_using true adds k n d m s set rest f g h i u =
    both_before d n _ _ 3136 15552 set rest (lower_plain adds d m s g h i) (upper_plain adds k n m s (lifts.was_lower d m s) f h i (was_plain d m s g h i)) u

-- parts of a conjunction
front : (a b : Bool) → (a && b) ≡ true → a ≡ true
front true b h = refl
front false b h = cc

back : (a b : Bool) → (a && b) ≡ true → b ≡ true
back true b h = h
back false b h = cc

-- numbers whose test fails are not the same
apart : (x y : ℕ) → not (x == y) ≡ true → x ≢ y
apart x y h e = let f : (x == y) ≡ true = grind (arith, nat_tests) in no (x == y) f h
  where
    no : (b : Bool) → b ≡ true → not b ≡ true → ⊥
    no true p q = cc
    no false p q = cc

module _ (m : Endian) (w at : ℕ) (keeps : Bool) (k : Condition) (i : MultiplyLongFields) (code : condition_number k ≡ condition_code w) (x : IsMultiplyLong w i)
    (row : is_multiply_long w ≡ true) where
  abbrev set : Bool
  set = rows.sets_flags w

  abbrev n : ℕ
  n = i.upper.number

  abbrev d : ℕ
  d = i.lower.number

  abbrev list : Bool → Statements
  list b = lifts.both (i.rs.number == n) i.accumulates i.is_signed n d i.rm.number i.rs.number (lifts.long_flags b keeps n d Empty)

  nd : n ≢ d
  nd e = apart (field_n w) (field_d w) (back _ _ (front _ _ (front _ _ row))) (sym x.upper ∙ e ∙ x.lower)

  mn : i.rm.number ≢ n
  mn e = apart (field_n w) (field_m w) (back _ _ (front _ _ row)) (sym x.upper ∙ sym e ∙ x.rm)

  md : i.rm.number ≢ d
  md e = apart (field_d w) (field_m w) (back _ _ row) (sym x.lower ∙ sym e ∙ x.rm)

  -- the result, by the fields and by the word
  result_is : (s : State) → long_of i.accumulates i.is_signed (s.regs n) (s.regs d) (s.regs i.rm.number) (s.regs i.rs.number)
      ≡ long_of (accumulates w) (has_bit 22 w) (reg s (field_n w)) (reg s (field_d w)) (reg s (field_m w)) (reg s (field_s w))
  result_is s =
      ap (λ a. long_of a i.is_signed (s.regs n) (s.regs d) (s.regs i.rm.number) (s.regs i.rs.number)) x.accumulates
      ∙ ap (λ a. long_of (accumulates w) a (s.regs n) (s.regs d) (s.regs i.rm.number) (s.regs i.rs.number)) x.is_signed
      ∙ ap (λ a. long_of (accumulates w) (has_bit 22 w) a (s.regs d) (s.regs i.rm.number) (s.regs i.rs.number))
      (own_reg s n i.upper.in_range ∙ ap (reg s) x.upper)
      ∙ ap (λ a. long_of (accumulates w) (has_bit 22 w) (reg s (field_n w)) a (s.regs i.rm.number) (s.regs i.rs.number))
      (own_reg s d i.lower.in_range ∙ ap (reg s) x.lower)
      ∙ ap (λ a. long_of (accumulates w) (has_bit 22 w) (reg s (field_n w)) (reg s (field_d w)) a (s.regs i.rs.number))
      (own_reg s i.rm.number i.rm.in_range ∙ ap (reg s) x.rm)
      ∙ ap (long_of (accumulates w) (has_bit 22 w) (reg s (field_n w)) (reg s (field_d w)) (reg s (field_m w)))
      (own_reg s i.rs.number i.rs.in_range ∙ ap (reg s) x.rs)

  -- the row's end from its parts
  abbrev ended : State → (c n d v : ℕ) → State
  ended s c n d v = record s { regs = put (put s.regs d (v % 2 ^ 32)) n (v / 2 ^ 32); flags = flags_behind set keeps s.flags v c }

  runs : Simulates (rows.multiplied_long keeps w) at (list set)
  runs = λ s is here c turns few l.
      let v : ℕ = long_of i.accumulates i.is_signed (s.regs n) (s.regs d) (s.regs i.rm.number) (s.regs i.rs.number) in
      let t : State = both_made s n d v in
      ap of_list (both_run i.accumulates i.is_signed n d i.rm.number i.rs.number c turns l s is nd mn md (lifts.long_flags set keeps n d Empty)
      (i.rs.number == n) refl)
      ∙ flags_run set keeps n d v c turns l t (put_same (put s.regs d (v % 2 ^ 32)) n (v / 2 ^ 32))
      (put_other (put s.regs d (v % 2 ^ 32)) n (v / 2 ^ 32) d (λ e. nd (sym e)) ∙ put_same s.regs d (v % 2 ^ 32)) (omega arith)
      ∙ ap (λ a. of_row l turns (on s (ended s c a d v))) x.upper
      ∙ ap (λ a. of_row l turns (on s (ended s c (field_n w) a v))) x.lower
      ∙ ap (λ a. of_row l turns (on s (ended s c (field_n w) (field_d w) a))) (result_is s)

  none_drawn : (b keeps : Bool) → draws b keeps ≡ false → drawn b keeps ≡ 0
  none_drawn false keeps h = refl
  none_drawn true true h = refl
  none_drawn true false h = cc

  -- the row, by what is drawn
  abbrev row_by : Bool → Row
  row_by x = row_from w (rows.multiplied_long keeps w) none (flag_set set x x) (flag_set set x x) x 20000 only_next

  pub multiplied_long_lifting : IsLifting (arm m V4) RRegisters (rows.multiply_long keeps w) at (conditional k (lifts.multiplied_long keeps i))
  multiplied_long_lifting =
      let first : Bool = i.rs.number == n in
      let used : ℕ → Bool = flags_of set keeps in
      subst (λ (b : Bool). IsLifting (arm m V4) RRegisters (rows.multiply_long keeps w) at (conditional k (list b))) (sym x.sets_flags)
      (subst (λ (y : Bool). IsLifting (arm m V4) RRegisters (row_by y) at (conditional k (list set))) (same_draws w keeps)
      (conditional_lifting m w at 18888 20000 (drawn set keeps) (rows.multiplied_long keeps w) none used used (draws set keeps) only_next (list set) runs
      (both_listed first i.accumulates i.is_signed n d i.rm.number i.rs.number 72 (drawn set keeps) _ i.upper.in_range i.lower.in_range i.rm.in_range
      i.rs.in_range (flags_listed set keeps n d i.upper.in_range i.lower.in_range))
      (both_using first i.accumulates i.is_signed n d i.rm.number i.rs.number used _ i.upper.in_range i.lower.in_range i.rm.in_range i.rs.in_range
      (flags_using set keeps n d)) (none_drawn set keeps) (omega arith) k code))
