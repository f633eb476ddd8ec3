-- Data processing with S, from what its value, carry and overflow evaluate to.
use Rattle.std.proofs.Common.{◌≡◌, ℕ, zero, suc, ◌<◌, Bool, true, false, not, refl, ap, sym, ◌∙◌, arith, None}
use Rattle.std.specs.Prelude.{◌==◌}
use Rattle.std.proofs.lemmas.Bool.Decides.{nat_tests}
use Rattle.std.proofs.lemmas.Bool.{ne_eqb}
use Rattle.std.proofs.Math.Path.{fun_ext}
use Rattle.word_spec.specs.Words.{bit, bit_at}
use Rattle.word_spec.specs.State.{State, put, flag_n, flag_z, flag_c, flag_v}
use Rattle.machine_spec.specs.Arm.{Result, with_flags}
use Rattle.machine_spec.specs.Bil.{RRegisters, Expression, Statements, Empty, Assign, If}
use Rattle.machine_spec.specs.Bil as bil
use Rattle.machine_spec.specs.BilMeaning.{Word, Position, Ends, evaluate, execute}
use Rattle.machine_spec.specs.Simulation.{Locals, env_of, position}
use Rattle.arm_decode.specs.declared.data.ComputingFields.{ComputingFields}
use Rattle.arm_lift_alu.specs.declared.shifter.CarryIn.{CarryIn}
use Rattle.arm_lift_alu.specs.declared.shifter.CarryIn.TheVariants.{Clear, Set, Flag}
use Rattle.arm_lift_alu.specs.Lifted.{flag}
use Rattle.arm_lift_alu.specs.Operands.{own}
use Rattle.arm_lift_alu.specs.Computing as lifts
use Rattle.arm_lift_alu.proofs.Values.{Gives, Carries, carry_in}

-- a value is put where a test says so
abbrev pub put_if : Bool → (ℕ → ℕ) → ℕ → ℕ → ℕ → ℕ
put_if true f at v = put f at v
put_if false f at v = f

pub put_same : (f : ℕ → ℕ) (r v : ℕ) → put f r v r ≡ v
put_same f r v = let e : (r == r) ≡ true = grind (arith, nat_tests) in rw e refl

-- the flags behind V, C, N and Z
ends_at : (a b : Bool) (f : ℕ → ℕ) (n z c v : ℕ) → (a ≡ false → v ≡ f flag_v) → (b ≡ false → c ≡ f flag_c) → (i : ℕ) →
    put (put (put_if b (put_if a f flag_v v) flag_c c) flag_n n) flag_z z i ≡ with_flags f n z c v i
ends_at true true f n z c v p q zero = refl
ends_at true true f n z c v p q (suc zero) = refl
ends_at true false f n z c v p q zero = refl
ends_at true false f n z c v p q (suc zero) = sym (q refl)
ends_at false true f n z c v p q zero = sym (p refl)
ends_at false true f n z c v p q (suc zero) = refl
ends_at false false f n z c v p q zero = sym (p refl)
ends_at false false f n z c v p q (suc zero) = sym (q refl)
ends_at true true f n z c v p q (suc (suc zero)) = refl
ends_at true false f n z c v p q (suc (suc zero)) = refl
ends_at false true f n z c v p q (suc (suc zero)) = refl
ends_at false false f n z c v p q (suc (suc zero)) = refl
ends_at true true f n z c v p q (suc (suc (suc zero))) = refl
ends_at true false f n z c v p q (suc (suc (suc zero))) = refl
ends_at false true f n z c v p q (suc (suc (suc zero))) = refl
ends_at false false f n z c v p q (suc (suc (suc zero))) = refl
ends_at a b f n z c v p q (suc (suc (suc (suc i)))) =
    let j = suc (suc (suc (suc i))) in
    rw (ne_eqb j 0 (λ e. omega arith), ne_eqb j 1 (λ e. omega arith), ne_eqb j 2 (λ e. omega arith), ne_eqb j 3 (λ e. omega arith)) (others a b)
  where
    others : (a b : Bool) → put_if b (put_if a f flag_v v) flag_c c (suc (suc (suc (suc i)))) ≡ f (suc (suc (suc (suc i))))
    others true true = let j = suc (suc (suc (suc i))) in rw (ne_eqb j 0 (λ e. omega arith), ne_eqb j 1 (λ e. omega arith)) refl
    others true false = let j = suc (suc (suc (suc i))) in rw (ne_eqb j 0 (λ e. omega arith)) refl
    others false true = let j = suc (suc (suc (suc i))) in rw (ne_eqb j 1 (λ e. omega arith)) refl
    others false false = refl

pub flags_end : (a b : Bool) (f : ℕ → ℕ) (n z c v : ℕ) → (a ≡ false → v ≡ f flag_v) → (b ≡ false → c ≡ f flag_c) →
    put (put (put_if b (put_if a f flag_v v) flag_c c) flag_n n) flag_z z ≡ with_flags f n z c v
flags_end a b f n z c v p q = fun_ext (ends_at a b f n z c v p q)

-- the flags behind N, Z, V and C
tests_at : (a b : Bool) (f : ℕ → ℕ) (n z c v : ℕ) → (a ≡ false → v ≡ f flag_v) → (b ≡ false → c ≡ f flag_c) → (i : ℕ) →
    put_if b (put_if a (put (put f flag_n n) flag_z z) flag_v v) flag_c c i ≡ with_flags f n z c v i
tests_at true true f n z c v p q zero = refl
tests_at true true f n z c v p q (suc zero) = refl
tests_at true false f n z c v p q zero = refl
tests_at true false f n z c v p q (suc zero) = sym (q refl)
tests_at false true f n z c v p q zero = sym (p refl)
tests_at false true f n z c v p q (suc zero) = refl
tests_at false false f n z c v p q zero = sym (p refl)
tests_at false false f n z c v p q (suc zero) = sym (q refl)
tests_at true true f n z c v p q (suc (suc zero)) = refl
tests_at true false f n z c v p q (suc (suc zero)) = refl
tests_at false true f n z c v p q (suc (suc zero)) = refl
tests_at false false f n z c v p q (suc (suc zero)) = refl
tests_at true true f n z c v p q (suc (suc (suc zero))) = refl
tests_at true false f n z c v p q (suc (suc (suc zero))) = refl
tests_at false true f n z c v p q (suc (suc (suc zero))) = refl
tests_at false false f n z c v p q (suc (suc (suc zero))) = refl
tests_at true true f n z c v p q (suc (suc (suc (suc i)))) =
    let j = suc (suc (suc (suc i))) in
    rw (ne_eqb j 0 (λ e. omega arith), ne_eqb j 1 (λ e. omega arith), ne_eqb j 2 (λ e. omega arith), ne_eqb j 3 (λ e. omega arith)) refl
tests_at true false f n z c v p q (suc (suc (suc (suc i)))) =
    let j = suc (suc (suc (suc i))) in
    rw (ne_eqb j 0 (λ e. omega arith), ne_eqb j 1 (λ e. omega arith), ne_eqb j 2 (λ e. omega arith), ne_eqb j 3 (λ e. omega arith)) refl
tests_at false true f n z c v p q (suc (suc (suc (suc i)))) =
    let j = suc (suc (suc (suc i))) in
    rw (ne_eqb j 0 (λ e. omega arith), ne_eqb j 1 (λ e. omega arith), ne_eqb j 2 (λ e. omega arith), ne_eqb j 3 (λ e. omega arith)) refl
tests_at false false f n z c v p q (suc (suc (suc (suc i)))) =
    let j = suc (suc (suc (suc i))) in
    rw (ne_eqb j 0 (λ e. omega arith), ne_eqb j 1 (λ e. omega arith), ne_eqb j 2 (λ e. omega arith), ne_eqb j 3 (λ e. omega arith)) refl

pub tests_end : (a b : Bool) (f : ℕ → ℕ) (n z c v : ℕ) → (a ≡ false → v ≡ f flag_v) → (b ≡ false → c ≡ f flag_c) →
    put_if b (put_if a (put (put f flag_n n) flag_z z) flag_v v) flag_c c ≡ with_flags f n z c v
tests_end a b f n z c v p q = fun_ext (tests_at a b f n z c v p q)

-- a state with other flags
abbrev pub flagged : State → (ℕ → ℕ) → State
flagged s f = record s { flags = f }

-- a state with a register set, and other flags
abbrev pub made : State → ℕ → ℕ → (ℕ → ℕ) → State
made s r v f = record s { regs = put s.regs r v; flags = f }

-- a flag is assigned where a test says so
pub flag_if_runs : (b : Bool) (g : ℕ) (e : Expression) (v c turns : ℕ) (l : Locals) (s : State) (rest : Statements) →
    (b ≡ true → evaluate e c (env_of l s) ≡ Word 1 v) →
    execute (lifts.flag_if b g e rest) c (position l turns None s) ≡ execute rest c (position l turns None (flagged s (put_if b s.flags g v)))
flag_if_runs true g e v c turns l s rest h = rw (h refl) refl
flag_if_runs false g e v c turns l s rest h = refl

pub register_runs : (r : ℕ) (e : Expression) (v c turns : ℕ) (l : Locals) (s : State) (rest : Statements) → evaluate e c (env_of l s) ≡ Word 32 v →
    execute (Assign (bil.Register RRegisters r) e rest) c (position l turns None s) ≡ execute rest c (position l turns None (made s r v s.flags))
register_runs r e v c turns l s rest h = rw h refl

-- N and Z of a value that no flag changes
pub signs_run : (e : Expression) (a c turns : ℕ) (l : Locals) (s : State) (rest : Statements) → evaluate e c (env_of l s) ≡ Word 32 a →
    evaluate e c (env_of l (flagged s (put s.flags flag_n (bit_at 31 a)))) ≡ Word 32 a →
    execute (lifts.signs e rest) c (position l turns None s)
    ≡ execute rest c (position l turns None (flagged s (put (put s.flags flag_n (bit_at 31 a)) flag_z (bit (a == 0)))))
signs_run e a c turns l s rest h k = rw (h, k) refl

if_clear : (e : Expression) (x y rest : Statements) (c : ℕ) (p q : Position) → evaluate e c p.env ≡ Word 1 0 → execute y c p ≡ Ends q →
    execute (If e x y rest) c p ≡ execute rest c q
if_clear e x y rest c p q h k = rw (h, k) refl

if_set : (e : Expression) (x y rest : Statements) (c : ℕ) (p q : Position) → evaluate e c p.env ≡ Word 1 1 → execute x c p ≡ Ends q →
    execute (If e x y rest) c p ≡ execute rest c q
if_set e x y rest c p q h k = rw (h, k) refl

keeps_c : (a : Bool) (f : ℕ → ℕ) (v : ℕ) → put_if a f flag_v v flag_c ≡ f flag_c
keeps_c true f v = refl
keeps_c false f v = refl

pub was_false : (a : Bool) → not a ≡ true → a ≡ false
was_false false h = refl
was_false true h = cc

pub was_true : (a : Bool) → not a ≡ false → a ≡ true
was_true true h = refl
was_true false h = cc

-- the carry that comes in is known
abbrev pub IsKnown : CarryIn → ℕ → Type 0
IsKnown k d = (f : ℕ → ℕ) → carry_in k f ≡ d

known_clear : (d : ℕ) → d ≡ 0 → IsKnown Clear d
known_clear d h f = sym h

known_set : (d : ℕ) → d ≡ 1 → IsKnown Set d
known_set d h f = sym h

module _ (i : ComputingFields) (at : ℕ) (s : State) (out : Result) (c turns : ℕ) (l : Locals)
    (value : (k : CarryIn) → Gives k s 32 (lifts.value_of i k at) out.value)
    (carry : (k : CarryIn) → Carries k s (lifts.carry_of i k at) out.carry)
    (overflow : lifts.is_logical i.opcode ≡ false → Gives Flag s 1 (lifts.overflow_of i at) out.overflow) where
  -- what is assigned behind the overflow, from flags with the same C
  carried_runs : (k : CarryIn) (f : ℕ → ℕ) (rest : Statements) → IsKnown k (s.flags flag_c) → f flag_c ≡ s.flags flag_c →
      execute (lifts.carried i k at rest) c (position l turns None (flagged s f))
      ≡ execute rest c (position l turns None (made s i.rd.number out.value (put_if (lifts.assigns_carry i) f flag_c out.carry)))
  carried_runs k f rest known same =
      let g : ℕ → ℕ = put_if (lifts.assigns_carry i) f flag_c out.carry in
      flag_if_runs (lifts.assigns_carry i) flag_c (lifts.carry_of i k at) out.carry c turns l (flagged s f)
      (Assign (bil.Register RRegisters i.rd.number) (lifts.value_of i k at) rest) (λ h. (carry k).is f same (known f) c l)
      ∙ register_runs i.rd.number (lifts.value_of i k at) out.value c turns l (flagged s g) rest ((value k).is g (known g) c l)

  carried_by_runs : (z : ℕ) (b : Bool) (f : ℕ → ℕ) (rest : Statements) → s.flags flag_c ≡ z → z < 2 → f flag_c ≡ s.flags flag_c →
      (b ≡ false → lifts.carried i Clear at rest ≡ lifts.carried i Set at rest) →
      execute (lifts.carried_by b i at rest) c (position l turns None (flagged s f))
      ≡ execute rest c (position l turns None (made s i.rd.number out.value (put_if (lifts.assigns_carry i) f flag_c out.carry)))
  carried_by_runs zero true f rest e small same alike =
      let q : Position = position l turns None (made s i.rd.number out.value (put_if (lifts.assigns_carry i) f flag_c out.carry)) in
      if_clear (flag flag_c) (lifts.carried i Set at Empty) (lifts.carried i Clear at Empty) rest c (position l turns None (flagged s f)) q
      (ap (λ z. Word 1 z) (same ∙ e)) (carried_runs Clear f Empty (known_clear _ e) same)
  carried_by_runs (suc zero) true f rest e small same alike =
      let q : Position = position l turns None (made s i.rd.number out.value (put_if (lifts.assigns_carry i) f flag_c out.carry)) in
      if_set (flag flag_c) (lifts.carried i Set at Empty) (lifts.carried i Clear at Empty) rest c (position l turns None (flagged s f)) q
      (ap (λ z. Word 1 z) (same ∙ e)) (carried_runs Set f Empty (known_set _ e) same)
  carried_by_runs zero false f rest e small same alike = carried_runs Clear f rest (known_clear _ e) same
  carried_by_runs (suc zero) false f rest e small same alike =
      ap (λ x. execute x c (position l turns None (flagged s f))) (alike refl) ∙ carried_runs Set f rest (known_set _ e) same
  carried_by_runs (suc (suc z)) b f rest e small same alike = absurd (omega arith)

  -- the list with S does what the row does
  pub with_flags_runs : s.flags flag_c < 2 →
      ((rest : Statements) → lifts.needs_carry i ≡ false → lifts.carried i Clear at rest ≡ lifts.carried i Set at rest) →
      (lifts.is_logical i.opcode ≡ true → out.overflow ≡ s.flags flag_v) → (lifts.assigns_carry i ≡ false → out.carry ≡ s.flags flag_c) →
      execute (lifts.with_flags i at) c (position l turns None s)
      ≡ Ends (position l turns None (made s i.rd.number out.value (with_flags s.flags (bit_at 31 out.value) (bit (out.value == 0)) out.carry out.overflow)))
  with_flags_runs small alike no_overflow no_carry =
      let a : Bool = not (lifts.is_logical i.opcode) in
      let f : ℕ → ℕ = put_if a s.flags flag_v out.overflow in
      let g : ℕ → ℕ = put_if (lifts.assigns_carry i) f flag_c out.carry in
      let rest : Statements = lifts.signs (own i.rd.number) Empty in
      let t : State = made s i.rd.number out.value g in
      let r : evaluate (own i.rd.number) c (env_of l t) ≡ Word 32 out.value = ap (λ z. Word 32 z) (put_same s.regs i.rd.number out.value) in
      flag_if_runs a flag_v (lifts.overflow_of i at) out.overflow c turns l s (lifts.carried_by (lifts.needs_carry i) i at rest)
      (λ h. (overflow (was_false _ h)).is s.flags refl c l)
      ∙ carried_by_runs (s.flags flag_c) (lifts.needs_carry i) f rest refl small (keeps_c a s.flags out.overflow) (alike rest)
      ∙ signs_run (own i.rd.number) out.value c turns l t Empty r r
      ∙ ap (λ h. Ends (position l turns None (made s i.rd.number out.value h)))
      (flags_end a (lifts.assigns_carry i) s.flags (bit_at 31 out.value) (bit (out.value == 0)) out.carry out.overflow
      (λ h. no_overflow (was_true _ h)) no_carry)

  -- the list of a test does what the row does
  pub tested_runs :
      (lifts.is_logical i.opcode ≡ true → out.overflow ≡ s.flags flag_v) → (lifts.assigns_carry i ≡ false → out.carry ≡ s.flags flag_c) →
      execute (lifts.tested i at) c (position l turns None s)
      ≡ Ends (position l turns None (flagged s (with_flags s.flags (bit_at 31 out.value) (bit (out.value == 0)) out.carry out.overflow)))
  tested_runs no_overflow no_carry =
      let a : Bool = not (lifts.is_logical i.opcode) in
      let f : ℕ → ℕ = put (put s.flags flag_n (bit_at 31 out.value)) flag_z (bit (out.value == 0)) in
      let g : ℕ → ℕ = put_if a f flag_v out.overflow in
      signs_run (lifts.value_of i Flag at) out.value c turns l s
      (lifts.flag_if a flag_v (lifts.overflow_of i at) (lifts.flag_if (lifts.assigns_carry i) flag_c (lifts.carry_of i Flag at) Empty))
      ((value Flag).is s.flags refl c l) ((value Flag).is (put s.flags flag_n (bit_at 31 out.value)) refl c l)
      ∙ flag_if_runs a flag_v (lifts.overflow_of i at) out.overflow c turns l (flagged s f)
      (lifts.flag_if (lifts.assigns_carry i) flag_c (lifts.carry_of i Flag at) Empty)
      (λ h. (overflow (was_false _ h)).is f refl c l)
      ∙ flag_if_runs (lifts.assigns_carry i) flag_c (lifts.carry_of i Flag at) out.carry c turns l (flagged s g) Empty
      (λ h. (carry Flag).is g (keeps_c a f out.overflow) (keeps_c a f out.overflow) c l)
      ∙ ap (λ h. Ends (position l turns None (flagged s h)))
      (tests_end a (lifts.assigns_carry i) s.flags (bit_at 31 out.value) (bit (out.value == 0)) out.carry out.overflow
      (λ h. no_overflow (was_true _ h)) no_carry)
