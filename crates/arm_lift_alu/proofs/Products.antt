-- The lists of MUL and MLA are liftings of their rows.
use Rattle.std.proofs.Common.{◌≡◌, ℕ, zero, suc, ◌+◌, ◌*◌, ◌%◌, ◌^◌, ◌<◌, Bool, true, false, ◌&&◌, ◌||◌, refl, ap, sym, subst, ◌∙◌, arith, Option, Some, None, if◌then◌else◌}
use Rattle.std.specs.Prelude.{◌==◌}
use Rattle.std.proofs.lemmas.Bool.{ne_eqb}
use Rattle.word_spec.specs.Words.{add, mul, bit, bit_at}
use Rattle.word_spec.specs.Memory.{Endian}
use Rattle.machine_spec.specs.Machine.{Row, only_next}
use Rattle.word_spec.specs.State.{State, put, flag_n, flag_z, flag_c, flag_v}
use Rattle.machine_spec.specs.Arm as rows
use Rattle.word_spec.specs.Profiles.{V4}
use Rattle.machine_spec.specs.Arm.{arm, reg, on, with_flags, flag_set, none, condition_code, accumulates, field_n, field_d, field_m, field_s}
use Rattle.machine_spec.specs.Bil.{Bits, RRegisters, Expression, Unknown, Statements, Empty, Assign}
use Rattle.machine_spec.specs.Bil as bil
use Rattle.machine_spec.specs.BilMeaning.{Word, evaluate, execute}
use Rattle.machine_spec.specs.Simulation.{Locals, env_of, position, of_list, of_row, Finished, Simulates}
use Rattle.machine_spec.specs.MachineLaws.{IsLifting}
use Rattle.arm_decode.specs.declared.parts.Condition.{Condition}
use Rattle.arm_decode.specs.Parts.{condition_number}
use Rattle.arm_decode.specs.declared.register.Register.{Register}
use Rattle.arm_decode.specs.declared.multiplies.MultiplyFields.{MultiplyFields}
use Rattle.arm_decode.specs.Forms.{IsMultiply, HasAddend}
use Rattle.arm_lift_alu.specs.Lifted.{conditional}
use Rattle.arm_lift_alu.specs.Operands.{own}
use Rattle.arm_lift_alu.specs.Multiplied as lifts
use Rattle.arm_lift_alu.proofs.Plain.{IsPlain, own_register, binary_plain}
use Rattle.arm_lift_alu.proofs.Lists.{IsListed, IsUsing, empty_listed, shallow}
use Rattle.arm_lift_alu.proofs.Rows.{row_from, conditional_lifting}
use Rattle.arm_lift_alu.proofs.Flagged.{made, flagged, put_same, register_runs, signs_run, tests_end}
use Rattle.arm_lift_alu.proofs.Uses.{heavier, register_listed, signs_listed}

word_is : (x y : ℕ) → x ≡ y → Word 32 x ≡ Word 32 y
word_is x y h = ap (λ z. Word 32 z) h

-- a register that is not r15
pub own_reg : (s : State) (r : ℕ) → r < 15 → s.regs r ≡ reg s r
own_reg s r h = rw (ne_eqb r 15 (λ e. omega arith)) refl

-- what is added
abbrev added : Option Register → State → ℕ
added None s = 0
added (Some r) s = reg s r.number

product_is : (a : Option Register) (m n c : ℕ) (l : Locals) (s : State) → m < 15 → n < 15 →
    evaluate (lifts.product m n a) c (env_of l s) ≡ Word 32 (add 32 (mul 32 (reg s m) (reg s n)) (added a s))
product_is None m n c l s h k = word_is _ _ (alone (s.regs m * s.regs n) ∙ ap (λ x. add 32 (mul 32 x (s.regs n)) 0) (own_reg s m h)
    ∙ ap (λ x. add 32 (mul 32 (reg s m) x) 0) (own_reg s n k))
  where
    alone : (p : ℕ) → p % 2 ^ 32 ≡ (p % 2 ^ 32 + 0) % 2 ^ 32
    alone p = omega arith
product_is (Some r) m n c l s h k =
    word_is _ _ (ap (λ x. add 32 (mul 32 x (s.regs n)) (s.regs r.number)) (own_reg s m h)
    ∙ ap (λ x. add 32 (mul 32 (reg s m) x) (s.regs r.number)) (own_reg s n k)
    ∙ ap (add 32 (mul 32 (reg s m) (reg s n))) (own_reg s r.number r.in_range))

product_plain : (a : Option Register) (m n : ℕ) → m < 15 → n < 15 → IsPlain 32 3136 none (lifts.product m n a)
product_plain None m n h k = binary_plain bil.Times 32 0 0 3136 none _ _ (own_register m none h) (own_register n none k) refl (omega arith)
product_plain (Some r) m n h k =
    binary_plain bil.Plus 32 3072 0 3136 none _ _ (binary_plain bil.Times 32 0 0 3072 none _ _ (own_register m none h) (own_register n none k) refl
    (omega arith))
    (own_register r.number none r.in_range) refl (omega arith)

-- C is what nobody knows
abbrev pub draws : (set keeps : Bool) → Bool
draws set true = false
draws set false = set

pub same_draws : (w : ℕ) (keeps : Bool) → draws (rows.sets_flags w) keeps ≡ rows.by_choice keeps w
same_draws w true = refl
same_draws w false = refl

-- how many unknowns there are
abbrev drawn : (set keeps : Bool) → ℕ
drawn true false = 1
drawn true true = 0
drawn false keeps = 0

unknown_listed : IsListed 2 0 1 (Assign (bil.Flag flag_c) (Unknown (Bits 1)) Empty)
unknown_listed = record {
  typed = λ at. refl;
  no_loop = refl;
  no_special = refl;
  nests = omega arith;
  names = λ m. refl;
  unknowns = refl;
  picks = refl;
  steady = refl;
  weight = omega arith;
  loads = refl;
  stores = refl;
  stored = λ c s. refl;
}

flags_listed : (b keeps : Bool) (r : ℕ) → r < 15 → IsListed 38 1 (drawn b keeps) (lifts.flags_from b keeps r)
flags_listed true false r h = signs_listed 0 2 1 1 38 none (own r) _ (own_register r none h) (shallow 1 unknown_listed) (omega arith)
flags_listed true true r h = signs_listed 0 0 1 0 38 none (own r) Empty (own_register r none h) (shallow 1 empty_listed) (omega arith)
flags_listed false keeps r h = heavier 0 38 1 0 Empty (shallow 1 empty_listed) (omega arith)

product_listed : (b keeps : Bool) (a : Option Register) (d m n : ℕ) → d < 15 → m < 15 → n < 15 →
    IsListed 3238 1 (drawn b keeps) (Assign (bil.Register RRegisters d) (lifts.product m n a) (lifts.flags_from b keeps d))
product_listed b keeps a d m n g h k =
    register_listed d 3136 38 1 (drawn b keeps) 3238 none _ _ g (product_plain a m n h k) (flags_listed b keeps d g) (omega arith)

nzc : (f : ℕ) → f < 4 → ((3 == f) || ((2 == f) || ((1 == f) || false))) ≡ flag_set true true false f
nzc zero h = refl
nzc (suc zero) h = refl
nzc (suc (suc zero)) h = refl
nzc (suc (suc (suc zero))) h = refl
nzc (suc (suc (suc (suc f)))) h = absurd (omega arith)

pub nz : (f : ℕ) → f < 4 → ((3 == f) || ((2 == f) || false)) ≡ flag_set true false false f
nz zero h = refl
nz (suc zero) h = refl
nz (suc (suc zero)) h = refl
nz (suc (suc (suc zero))) h = refl
nz (suc (suc (suc (suc f)))) h = absurd (omega arith)

none_read : (x : Bool) → (x && false) ≡ false
none_read true = refl
none_read false = refl

product_using : (b keeps : Bool) (d : ℕ) (e : Expression) → IsPlain 32 3136 none e →
    IsUsing none (flag_set b (draws b keeps) false) (flag_set b (draws b keeps) false) (Assign (bil.Register RRegisters d) e (lifts.flags_from b keeps d))
product_using true true d e p = record {
  assigns = λ f few h. sym (nz f few) ∙ h;
  surely = λ f few h. nz f few ∙ h;
  reads = λ f a i few r s. rw (p.reads f refl) refl;
  reads_first = λ f few. rw (none_read (3 == f)) refl;
}
product_using true false d e p = record {
  assigns = λ f few h. sym (nzc f few) ∙ h;
  surely = λ f few h. nzc f few ∙ h;
  reads = λ f a i few r s. rw (p.reads f refl) refl;
  reads_first = λ f few. rw (none_read (3 == f), none_read ((3 == f) || (2 == f))) refl;
}
product_using false true d e p = record {
  assigns = λ f few h. cc;
  surely = λ f few h. cc;
  reads = λ f a i few r s. rw (p.reads f refl) refl;
  reads_first = λ f few. refl;
}
product_using false false d e p = record {
  assigns = λ f few h. cc;
  surely = λ f few h. cc;
  reads = λ f a i few r s. rw (p.reads f refl) refl;
  reads_first = λ f few. refl;
}

-- the flags behind a product
abbrev flags_behind : (set keeps : Bool) → (ℕ → ℕ) → ℕ → ℕ → ℕ → ℕ
flags_behind b keeps f v c = if b then with_flags f (bit_at 31 v) (bit (v == 0)) (if keeps then f flag_c else bit_at 0 c) (f flag_v) else f

low_bit : (c : ℕ) → c % 2 ^ 1 ≡ bit_at 0 c
low_bit c = omega arith

flags_run : (b keeps : Bool) (r v c turns : ℕ) (l : Locals) (t : State) → t.regs r ≡ v →
    of_list (execute (lifts.flags_from b keeps r) c (position l turns None t))
    ≡ Finished (position l turns None (flagged t (flags_behind b keeps t.flags v c)))
flags_run true true r v c turns l t h =
    ap of_list (signs_run (own r) v c turns l t Empty (word_is _ _ h) (word_is _ _ h))
    ∙ ap (λ g. Finished (position l turns None (flagged t g)))
    (tests_end false false t.flags (bit_at 31 v) (bit (v == 0)) (t.flags flag_c) (t.flags flag_v) (λ e. refl) (λ e. refl))
flags_run true false r v c turns l t h =
    let f : ℕ → ℕ = put (put t.flags flag_n (bit_at 31 v)) flag_z (bit (v == 0)) in
    ap of_list (signs_run (own r) v c turns l t (Assign (bil.Flag flag_c) (Unknown (Bits 1)) Empty) (word_is _ _ h) (word_is _ _ h))
    ∙ ap (λ x. Finished (position l turns None (flagged t (put f flag_c x)))) (low_bit c)
    ∙ ap (λ g. Finished (position l turns None (flagged t g)))
    (tests_end false true t.flags (bit_at 31 v) (bit (v == 0)) (bit_at 0 c) (t.flags flag_v) (λ e. refl) (λ e. cc))
flags_run false keeps r v c turns l t h = refl

added_is : (w : ℕ) (a : Option Register) (s : State) → HasAddend w a → added a s ≡ (if accumulates w then reg s (field_d w) else 0)
added_is w None s h = rw h refl
added_is w (Some r) s h = rw h.0 (ap (reg s) h.1)

module _ (m : Endian) (w at : ℕ) (keeps : Bool) (k : Condition) (i : MultiplyFields) (code : condition_number k ≡ condition_code w) (x : IsMultiply w i) where
  abbrev set : Bool
  set = rows.sets_flags w

  abbrev list : Bool → Statements
  list b = Assign (bil.Register RRegisters i.rd.number) (lifts.product i.rm.number i.rs.number i.addend) (lifts.flags_from b keeps i.rd.number)

  runs : Simulates (rows.multiplied keeps w) at (list set)
  runs = λ s is here c turns few l.
      let v : ℕ = add 32 (mul 32 (reg s i.rm.number) (reg s i.rs.number)) (added i.addend s) in
      let u : ℕ = add 32 (mul 32 (reg s (field_m w)) (reg s (field_s w))) (if accumulates w then reg s (field_d w) else 0) in
      let same : v ≡ u
      = ap (λ a. add 32 (mul 32 (reg s a) (reg s i.rs.number)) (added i.addend s)) x.rm
      ∙ ap (λ a. add 32 (mul 32 (reg s (field_m w)) (reg s a)) (added i.addend s)) x.rs
      ∙ ap (add 32 (mul 32 (reg s (field_m w)) (reg s (field_s w)))) (added_is w i.addend s x.addend) in
      let t : State = made s i.rd.number v s.flags in
      ap of_list (register_runs i.rd.number (lifts.product i.rm.number i.rs.number i.addend) v c turns l s (lifts.flags_from set keeps i.rd.number)
      (product_is i.addend i.rm.number i.rs.number c l s i.rm.in_range i.rs.in_range))
      ∙ flags_run set keeps i.rd.number v c turns l t (put_same s.regs i.rd.number v)
      ∙ ap (λ d. of_row l turns (on s (made s d v (flags_behind set keeps s.flags v c)))) x.rd
      ∙ ap (λ z. of_row l turns (on s (made s (field_n w) z (flags_behind set keeps s.flags z c)))) same

  one_drawn : (b keeps : Bool) → draws b keeps ≡ false → drawn b keeps ≡ 0
  one_drawn false keeps h = refl
  one_drawn true true h = refl
  one_drawn true false h = cc

  -- the row, by what is drawn
  abbrev row : Bool → Row
  row d = row_from w (rows.multiplied keeps w) none (flag_set set d false) (flag_set set d false) d 20000 only_next

  pub multiplied_lifting : IsLifting (arm m V4) RRegisters (rows.multiply keeps w) at (conditional k (lifts.multiplied keeps i))
  multiplied_lifting =
      subst (λ (b : Bool). IsLifting (arm m V4) RRegisters (rows.multiply keeps w) at (conditional k (list b))) (sym x.sets_flags)
      (subst (λ (d : Bool). IsLifting (arm m V4) RRegisters (row d) at (conditional k (list set))) (same_draws w keeps)
      (conditional_lifting m w at 3238 20000 (drawn set keeps) (rows.multiplied keeps w) none (flag_set set (draws set keeps) false)
      (flag_set set (draws set keeps) false) (draws set keeps) only_next (list set) runs
      (product_listed set keeps i.addend i.rd.number i.rm.number i.rs.number i.rd.in_range i.rm.in_range i.rs.in_range)
      (product_using set keeps i.rd.number _ (product_plain i.addend i.rm.number i.rs.number i.rm.in_range i.rs.in_range)) (one_drawn set keeps)
      (omega arith) k code))
