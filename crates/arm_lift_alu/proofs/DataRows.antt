-- The list of data processing is a lifting of its row.
use Rattle.std.proofs.Common.{◌≡◌, ℕ, ◌+◌, ◌^◌, ◌<◌, Bool, true, false, not, ◌&&◌, ◌||◌, refl, ap, sym, subst, ◌∙◌, arith, None, ◌≤◌}
use Rattle.std.specs.Prelude.{◌==◌}
use Rattle.std.proofs.lemmas.Bool.Decides.{nat_tests}
use Rattle.word_spec.specs.Words.{bit, bit_at}
use Rattle.word_spec.specs.Memory.{Endian}
use Rattle.word_spec.specs.State.{State, IsState, flag_c, flag_v}
use Rattle.machine_spec.specs.Arm as rows
use Rattle.word_spec.specs.Profiles.{V4}
use Rattle.machine_spec.specs.Arm.{arm, Result, results, result_at, reg, field_n, field_d, opcode, operand, with_flags, computed_by, on, write, write_by, flag_set, none, condition_code, is_computing}
use Rattle.machine_spec.specs.Bil.{RRegisters, Expression, Statements}
use Rattle.machine_spec.specs.BilMeaning.{Word, evaluate, execute}
use Rattle.machine_spec.specs.Simulation.{Locals, env_of, position, of_list, of_row, Simulates}
use Rattle.machine_spec.specs.BilCounts.{reads_flag}
use Rattle.machine_spec.specs.MachineLaws.{IsLifting}
use Rattle.machine_spec.proofs.ArmRanges.{reg_small}
use Rattle.arm_decode.specs.declared.parts.Condition.{Condition}
use Rattle.arm_decode.specs.Parts.{condition_number, opcode_number, is_by_register}
use Rattle.arm_decode.specs.Forms.{IsComputing}
use Rattle.arm_decode.specs.declared.data.ComputingFields.{ComputingFields}
use Rattle.arm_lift_alu.specs.declared.shifter.CarryIn.{CarryIn}
use Rattle.arm_lift_alu.specs.declared.shifter.CarryIn.TheVariants.{Clear, Set, Flag}
use Rattle.arm_lift_alu.specs.Lifted.{conditional}
use Rattle.arm_lift_alu.specs.Operands as parts
use Rattle.arm_lift_alu.specs.Computing as lifts
use Rattle.arm_lift_alu.proofs.Plain.{IsPlain}
use Rattle.arm_lift_alu.proofs.Lists.{IsListed, IsUsing}
use Rattle.arm_lift_alu.proofs.Rows.{conditional_lifting}
use Rattle.arm_lift_alu.proofs.Values.{Gives, Carries, flag_carries, register_gives, operand_gives, operand_in, operand_of_word, small}
use Rattle.arm_lift_alu.proofs.Sums.{result_of, value_gives, carry_given, overflow_given, overflow_kept, carry_kept}
use Rattle.arm_lift_alu.proofs.ShifterCarries.{shifter_carry_gives, keeps}
use Rattle.arm_lift_alu.proofs.Weights.{HasCarry, Fits, register_plain, operand_plain, value_plain, opcode_carry_plain, overflow_plain, shifter_carry_plain, fixed_shifter_plain}
use Rattle.arm_lift_alu.proofs.Flagged.{made, flagged, with_flags_runs, tested_runs}
use Rattle.arm_lift_alu.proofs.Uses.{needs, sets, only_c, read_ok, written_listed, with_flags_listed, tested_listed, with_flags_using, tested_using}
use Rattle.arm_lift_alu.proofs.Alike.{carried_alike}
use Rattle.arm_decode.proofs.Predicates.{adds_is, logical_is, test_is, rrx_is, keeps_is, by_register_is}
use Rattle.arm_lift_alu.proofs.Words.{fits_is, not_pc, test_sets}

or_left : (a b : Bool) → a ≡ true → (a || b) ≡ true
or_left true b h = refl
or_left false b h = cc

or_right : (a b : Bool) → b ≡ true → (a || b) ≡ true
or_right true b h = refl
or_right false b h = h

left_none : (a b : Bool) → (a || b) ≡ false → a ≡ false
left_none false b h = refl
left_none true b h = cc

right_none : (a b : Bool) → (a || b) ≡ false → b ≡ false
right_none false b h = h
right_none true b h = cc

false_true : (a : Bool) → a ≡ false → a ≡ true → ⊥
false_true true h k = cc
false_true false h k = cc

-- what is assigned surely: not what a logical opcode may keep
abbrev surely_c : ComputingFields → Bool
surely_c i = not (lifts.is_logical i.opcode && (parts.keeps_carry i.operand || is_by_register i.operand))

kept_both : (l k : Bool) → not (l && k) ≡ false → (l ≡ true) × (k ≡ true)
kept_both true true h = (refl, refl)
kept_both true false h = cc
kept_both false k h = cc

not_both : (l k : Bool) → not (l && k) ≡ true → l ≡ true → k ≡ false
not_both true false h g = refl
not_both true true h g = cc
not_both false k h g = cc

surely_assigned : (l k b : Bool) → not (l && (k || b)) ≡ true → not (l && k) ≡ true
surely_assigned true true b h = cc
surely_assigned true false b h = refl
surely_assigned false k b h = refl

-- the facts of one row's fields
module _ (w at : ℕ) (i : ComputingFields) (x : IsComputing w i) where
  fits : Fits i.operand
  fits = fits_is w i.operand x.operand

  value_is_plain : (k : CarryIn) (r : ℕ → Bool) → (lifts.needs_carry i ≡ true → HasCarry k r) → IsPlain 32 640 r (lifts.value_of i k at)
  value_is_plain k r h =
      value_plain i.opcode k r (parts.register i.rn.number at) (parts.operand i.operand k at) (register_plain i.rn.number at r i.rn.in_range)
      (operand_plain i.operand k at r (λ e. h (or_right _ _ e)) fits) (λ e. h (or_left _ _ e))

  operand_c : (k : CarryIn) → IsPlain 32 512 only_c (parts.operand i.operand k at)
  operand_c k = operand_plain i.operand k at only_c (λ e. c_only k) fits
    where
      c_only : (k : CarryIn) → HasCarry k only_c
      c_only Clear f h = refl
      c_only Set f h = refl
      c_only Flag f h = h

  carry_is_plain : (k : CarryIn) → IsPlain 1 644 only_c (lifts.carry_of i k at)
  carry_is_plain k =
      opcode_carry_plain i.opcode k only_c (parts.register i.rn.number at) (parts.operand i.operand k at) (parts.shifter_carry i.operand at)
      (register_plain i.rn.number at only_c i.rn.in_range) (operand_c k) (λ e. c_only k) (λ e. shifter_carry_plain i.operand at)
    where
      c_only : (k : CarryIn) → HasCarry k only_c
      c_only Clear f h = refl
      c_only Set f h = refl
      c_only Flag f h = h

  sure_is_plain : (k : CarryIn) → lifts.needs_carry i ≡ false → surely_c i ≡ true → IsPlain 1 644 none (lifts.carry_of i k at)
  sure_is_plain k n s =
      opcode_carry_plain i.opcode k none (parts.register i.rn.number at) (parts.operand i.operand k at) (parts.shifter_carry i.operand at)
      (register_plain i.rn.number at none i.rn.in_range)
      (operand_plain i.operand k at none (λ e. absurd (false_true _ (right_none _ _ n) e)) fits) (λ e. absurd (false_true _ (left_none _ _ n) e))
      (λ e. let h = not_both _ _ s e in fixed_shifter_plain i.operand at none (left_none _ _ h) (right_none _ _ h))

  overflow_is_plain : not (lifts.is_logical i.opcode) ≡ true → IsPlain 1 710 (needs (lifts.needs_carry i)) (lifts.overflow_of i at)
  overflow_is_plain h =
      overflow_plain i.opcode Flag (needs (lifts.needs_carry i)) (parts.register i.rn.number at) (parts.operand i.operand Flag at)
      (register_plain i.rn.number at (needs (lifts.needs_carry i)) i.rn.in_range)
      (operand_plain i.operand Flag at (needs (lifts.needs_carry i)) (λ e. needed (lifts.needs_carry i) (or_right _ _ e)) fits)
      (λ e. needed (lifts.needs_carry i) (or_left _ _ e)) (arithmetic _ h)
    where
      arithmetic : (l : Bool) → not l ≡ true → l ≡ false
      arithmetic false h = refl
      arithmetic true h = cc

      needed : (need : Bool) → need ≡ true → HasCarry Flag (needs need)
      needed true h f e = grind (arith, nat_tests)
      needed false h f e = cc

  -- the row's result, by its fields
  abbrev out : State → Result
  out s = let o = operand_in i.operand s in result_of i.opcode s (reg s i.rn.number) o.value o.carry

  out_is : (s : State) → out s ≡ result_at (results s (reg s (field_n w)) (operand w s)) (opcode w)
  out_is s =
      ap (λ n. result_at (results s (reg s n) (operand_in i.operand s)) (opcode_number i.opcode)) x.rn
      ∙ ap (λ o. result_at (results s (reg s (field_n w)) o) (opcode_number i.opcode)) (operand_of_word w s i.operand x.operand)
      ∙ ap (result_at (results s (reg s (field_n w)) (operand w s))) x.opcode

  module _ (s : State) (is : IsState s) (here : s.pc ≡ at) where
    abbrev b : ℕ
    b = (operand_in i.operand s).value

    b_small : b < 2 ^ 32
    b_small = small 32 512 only_c (parts.operand i.operand Flag at) b Flag s is (operand_c Flag) refl (operand_gives i.operand Flag s at is here)

    value_at : (k : CarryIn) → Gives k s 32 (lifts.value_of i k at) (out s).value
    value_at k =
        value_gives k s (parts.register i.rn.number at) (parts.operand i.operand k at) (reg s i.rn.number) b (operand_in i.operand s).carry
        (register_gives k s i.rn.number at here) (operand_gives i.operand k s at is here) (reg_small s i.rn.number is) b_small (is.flags flag_c) i.opcode

    carry_at : (k : CarryIn) → Carries k s (lifts.carry_of i k at) (out s).carry
    carry_at k =
        carry_given k s (parts.register i.rn.number at) (parts.operand i.operand k at) (reg s i.rn.number) b (operand_in i.operand s).carry
        (register_gives k s i.rn.number at here) (operand_gives i.operand k s at is here) (reg_small s i.rn.number is) b_small (is.flags flag_c) i.opcode
        (parts.shifter_carry i.operand at) (flag_carries k s _ _ (shifter_carry_gives i.operand s at is here))

    overflow_at : lifts.is_logical i.opcode ≡ false → Gives Flag s 1 (lifts.overflow_of i at) (out s).overflow
    overflow_at h =
        overflow_given Flag s (parts.register i.rn.number at) (parts.operand i.operand Flag at) (reg s i.rn.number) b (operand_in i.operand s).carry
        (register_gives Flag s i.rn.number at here) (operand_gives i.operand Flag s at is here) (reg_small s i.rn.number is) b_small
        (is.flags flag_c) i.opcode h

    no_overflow : lifts.is_logical i.opcode ≡ true → (out s).overflow ≡ s.flags flag_v
    no_overflow h = overflow_kept i.opcode s (reg s i.rn.number) b (operand_in i.operand s).carry h

    no_carry : lifts.assigns_carry i ≡ false → (out s).carry ≡ s.flags flag_c
    no_carry h =
        let both = kept_both (lifts.is_logical i.opcode) (parts.keeps_carry i.operand) h in
        carry_kept i.opcode s (reg s i.rn.number) b (operand_in i.operand s).carry both.0 ∙ keeps i.operand s both.1

-- the rows of a test, of S, and without S
test_row : (w : ℕ) (s : State) (r : Result) → rows.is_test w ≡ true → rows.sets_flags w ≡ true →
    computed_by (rows.is_test w) w s r ≡ on s (flagged s (with_flags s.flags (bit_at 31 r.value) (bit (r.value == 0)) r.carry r.overflow))
test_row w s r t f = rw (t, f) refl

flags_row : (w : ℕ) (s : State) (r : Result) → rows.is_test w ≡ false → rows.sets_flags w ≡ true → (field_d w == 15) ≡ false →
    computed_by (rows.is_test w) w s r ≡ on s (made s (field_d w) r.value (with_flags s.flags (bit_at 31 r.value) (bit (r.value == 0)) r.carry r.overflow))
flags_row w s r t f d = rw (t, f, d) refl

plain_row : (w : ℕ) (s : State) (r : Result) → rows.is_test w ≡ false → rows.sets_flags w ≡ false →
    computed_by (rows.is_test w) w s r ≡ write s s (field_d w) r.value
plain_row w s r t f = rw (t, f) refl

written_runs : (b : Bool) (q : ℕ) (e : Expression) (v c turns : ℕ) (l : Locals) (s : State) → evaluate e c (env_of l s) ≡ Word 32 v →
    of_list (execute (lifts.written_by b q e) c (position l turns None s)) ≡ of_row l turns (write_by b s s q v)
written_runs true q e v c turns l s h = rw h refl
written_runs false q e v c turns l s h = rw h refl

-- flags that are used, by the parts of a row
uses_from : (list : Statements) (need n y z v u x t s : Bool) → need ≡ n → y ≡ z → v ≡ u → x ≡ t → s ≡ true → IsUsing (needs need) (sets y v) (sets x v) list →
    IsUsing (flag_set false n false) (flag_set s (s && z) (s && u)) (flag_set s (s && t) (s && u)) list
uses_from list need n y z v u x t s p q r o e h =
    let a : IsUsing (needs n) (sets y v) (sets x v) list = subst (λ (k : Bool). IsUsing (needs k) (sets y v) (sets x v) list) p h in
    let b : IsUsing (needs n) (sets z v) (sets x v) list = subst (λ (k : Bool). IsUsing (needs n) (sets k v) (sets x v) list) q a in
    let c : IsUsing (needs n) (sets z u) (sets x u) list = subst (λ (k : Bool). IsUsing (needs n) (sets z k) (sets x k) list) r b in
    let d : IsUsing (needs n) (sets z u) (sets t u) list = subst (λ (k : Bool). IsUsing (needs n) (sets z u) (sets k u) list) o c in
    subst (λ (k : Bool). IsUsing (flag_set false n false) (flag_set k (k && z) (k && u)) (flag_set k (k && t) (k && u)) list) (sym e) d

-- where nothing is assigned
unused_from : (list : Statements) (need n z u t s : Bool) → need ≡ n → s ≡ false → IsUsing (needs need) none none list →
    IsUsing (flag_set false n false) (flag_set s (s && z) (s && u)) (flag_set s (s && t) (s && u)) list
unused_from list need n z u t s p e h =
    let a : IsUsing (needs n) none none list = subst (λ (k : Bool). IsUsing (needs k) none none list) p h in
    subst (λ (k : Bool). IsUsing (flag_set false n false) (flag_set k (k && z) (k && u)) (flag_set k (k && t) (k && u)) list) (sym e)
    (record { assigns = a.assigns; surely = λ f few h. cc; reads = λ f y i few r o. a.reads f y i few r (λ k. o refl); reads_first = a.reads_first })

plain_using : (b : Bool) (q : ℕ) (e : Expression) (need : Bool) → IsPlain 32 640 (needs need) e → IsUsing (needs need) none none (lifts.written_by b q e)
plain_using true q e need p = record {
  assigns = λ f few h. cc;
  surely = λ f few h. cc;
  reads = λ f a y few r s. rw (jump_read (reads_flag f e) (needs need f) a (p.reads f) r) refl;
  reads_first = λ f few. refl;
}
  where
    jump_read : (b r a : Bool) → (r ≡ false → b ≡ false) → (r ≡ true → a ≡ true) → (not b || a) ≡ true
    jump_read true true a h k = k refl
    jump_read false true a h k = refl
    jump_read b false a h k = rw (h refl) refl
plain_using false q e need p = record {
  assigns = λ f few h. cc;
  surely = λ f few h. cc;
  reads = λ f a y few r s. rw (read_ok (reads_flag f e) (needs need f) a (y && false) (p.reads f) r) refl;
  reads_first = λ f few. refl;
}

module _ (m : Endian) (w at : ℕ) (k : Condition) (i : ComputingFields) (code : condition_number k ≡ condition_code w) (x : IsComputing w i)
    (row : is_computing w ≡ true) where
  abbrev read : Bool
  read = rows.adds_carry w || rows.is_rrx w

  abbrev sets_flags : Bool
  sets_flags = rows.sets_flags w

  abbrev changes_c : Bool
  changes_c = not (rows.is_logical w && rows.keeps_carry w)

  abbrev changes_v : Bool
  changes_v = not (rows.is_logical w)

  abbrev surely_changes_c : Bool
  surely_changes_c = not (rows.is_logical w && (rows.keeps_carry w || rows.by_a_register w))

  same_need : lifts.needs_carry i ≡ read
  same_need = ap (λ a. a || parts.is_rrx i.operand) (adds_is w i.opcode x.opcode) ∙ ap (λ h. rows.adds_carry w || h) (rrx_is w i.operand x.operand)

  same_c : lifts.assigns_carry i ≡ changes_c
  same_c = ap (λ l. not (l && parts.keeps_carry i.operand)) (logical_is w i.opcode x.opcode)
      ∙ ap (λ h. not (rows.is_logical w && h)) (keeps_is w i.operand x.operand)

  same_v : not (lifts.is_logical i.opcode) ≡ changes_v
  same_v = ap (λ l. not l) (logical_is w i.opcode x.opcode)

  same_sure : surely_c i ≡ surely_changes_c
  same_sure =
      ap (λ l. not (l && (parts.keeps_carry i.operand || is_by_register i.operand))) (logical_is w i.opcode x.opcode)
      ∙ ap (λ h. not (rows.is_logical w && (h || is_by_register i.operand))) (keeps_is w i.operand x.operand)
      ∙ ap (λ h. not (rows.is_logical w && (rows.keeps_carry w || h))) (by_register_is w i.operand x.operand)

  same_result : (s : State) → computed_by (rows.is_test w) w s (out w at i x s) ≡ rows.computed w s
  same_result s = ap (computed_by (rows.is_test w) w s) (out_is w at i x s)

  finish : (v : ℕ) (list : Statements) → Simulates (λ s c. rows.computed w s) at list → IsListed v 1 0 list →
      IsUsing (flag_set false read false) (flag_set sets_flags (sets_flags && changes_c) (sets_flags && changes_v))
      (flag_set sets_flags (sets_flags && surely_changes_c) (sets_flags && changes_v)) list →
      v + 70 ≤ 4096 → IsLifting (arm m V4) RRegisters (rows.computing w) at (conditional k list)
  finish v list runs static using fit =
      conditional_lifting m w at v 4096 0 (λ s c. rows.computed w s) (flag_set false read false)
      (flag_set sets_flags (sets_flags && changes_c) (sets_flags && changes_v))
      (flag_set sets_flags (sets_flags && surely_changes_c) (sets_flags && changes_v)) false (rows.computing w).successors list runs static using
      (λ t. refl) fit k code

  alike : (rest : Statements) → lifts.needs_carry i ≡ false → lifts.carried i Clear at rest ≡ lifts.carried i Set at rest
  alike rest h = carried_alike i at rest (left_none _ _ h) (right_none _ _ h)

  test_runs : rows.is_test w ≡ true → Simulates (λ s c. rows.computed w s) at (lifts.tested i at)
  test_runs t = λ s is here c turns few l.
      ap of_list (tested_runs i at s (out w at i x s) c turns l (value_at w at i x s is here) (carry_at w at i x s is here) (overflow_at w at i x s is here)
      (no_overflow w at i x s is here) (no_carry w at i x s is here))
      ∙ sym (ap (of_row l turns) (test_row w s (out w at i x s) t (test_sets w row t))) ∙ ap (of_row l turns) (same_result s)

  flag_runs : rows.is_test w ≡ false → rows.sets_flags w ≡ true → Simulates (λ s c. rows.computed w s) at (lifts.with_flags i at)
  flag_runs t f = λ s is here c turns few l.
      let r : Result = out w at i x s in
      ap of_list (with_flags_runs i at s r c turns l (value_at w at i x s is here) (carry_at w at i x s is here) (overflow_at w at i x s is here)
      (is.flags flag_c) alike (no_overflow w at i x s is here) (no_carry w at i x s is here))
      ∙ ap (λ d. of_row l turns (on s (made s d r.value (with_flags s.flags (bit_at 31 r.value) (bit (r.value == 0)) r.carry r.overflow)))) x.rd
      ∙ sym (ap (of_row l turns) (flags_row w s r t f (not_pc w row f))) ∙ ap (of_row l turns) (same_result s)

  plain_runs : rows.is_test w ≡ false → rows.sets_flags w ≡ false →
      Simulates (λ s c. rows.computed w s) at (lifts.written i.rd.number (lifts.value_of i Flag at))
  plain_runs t f = λ s is here c turns few l.
      let r : Result = out w at i x s in
      written_runs (i.rd.number == 15) i.rd.number (lifts.value_of i Flag at) r.value c turns l s ((value_at w at i x s is here Flag).is s.flags refl c l)
      ∙ ap (λ d. of_row l turns (write s s d r.value)) x.rd
      ∙ sym (ap (of_row l turns) (plain_row w s r t f)) ∙ ap (of_row l turns) (same_result s)

  by : (t f : Bool) → lifts.is_test i.opcode ≡ t → i.sets_flags ≡ f →
      IsLifting (arm m V4) RRegisters (rows.computing w) at (conditional k (lifts.computed_by t f i at))
  by true f t e =
      let test : rows.is_test w ≡ true = sym (test_is w i.opcode x.opcode) ∙ t in
      finish 3000 (lifts.tested i at) (test_runs test)
      (tested_listed i at (surely_c i) (value_is_plain w at i x) (λ k h. carry_is_plain w at i x k) (λ k n s h. sure_is_plain w at i x k n s)
      (overflow_is_plain w at i x)
      (surely_assigned (lifts.is_logical i.opcode) (parts.keeps_carry i.operand) (is_by_register i.operand)))
      (uses_from (lifts.tested i at) _ read _ changes_c _ changes_v _ surely_changes_c sets_flags same_need same_c same_v same_sure (test_sets w row test)
      (tested_using i at (surely_c i) (value_is_plain w at i x) (λ k h. carry_is_plain w at i x k) (λ k n s h. sure_is_plain w at i x k n s)
      (overflow_is_plain w at i x)
      (surely_assigned (lifts.is_logical i.opcode) (parts.keeps_carry i.operand) (is_by_register i.operand))))
      (omega arith)
  by false true t e =
      let test : rows.is_test w ≡ false = sym (test_is w i.opcode x.opcode) ∙ t in
      let set : rows.sets_flags w ≡ true = sym x.sets_flags ∙ e in
      let less : i.rd.number < 15 = below i.rd.number (ap (λ d. d == 15) x.rd ∙ not_pc w row set) i.rd.in_range in
      finish 3452 (lifts.with_flags i at) (flag_runs test set)
      (with_flags_listed i at (surely_c i) (value_is_plain w at i x) (λ k h. carry_is_plain w at i x k) (λ k n s h. sure_is_plain w at i x k n s)
      (overflow_is_plain w at i x)
      (surely_assigned (lifts.is_logical i.opcode) (parts.keeps_carry i.operand) (is_by_register i.operand)) less)
      (uses_from (lifts.with_flags i at) _ read _ changes_c _ changes_v _ surely_changes_c sets_flags same_need same_c same_v same_sure set
      (with_flags_using i at (surely_c i) (value_is_plain w at i x) (λ k h. carry_is_plain w at i x k) (λ k n s h. sure_is_plain w at i x k n s)
      (overflow_is_plain w at i x)
      (surely_assigned (lifts.is_logical i.opcode) (parts.keeps_carry i.operand) (is_by_register i.operand))))
      (omega arith)
    where
      below : (q : ℕ) → (q == 15) ≡ false → q < 16 → q < 15
      below q h l = grind (arith, nat_tests)
  by false false t e =
      let test : rows.is_test w ≡ false = sym (test_is w i.opcode x.opcode) ∙ t in
      let set : rows.sets_flags w ≡ false = sym x.sets_flags ∙ e in
      let plain = value_is_plain w at i x Flag (needs (lifts.needs_carry i)) (needed (lifts.needs_carry i)) in
      finish 704 (lifts.written i.rd.number (lifts.value_of i Flag at)) (plain_runs test set)
      (written_listed i.rd.number (needs (lifts.needs_carry i)) (lifts.value_of i Flag at) i.rd.in_range plain)
      (unused_from _ (lifts.needs_carry i) read changes_c changes_v surely_changes_c sets_flags same_need set
      (plain_using (i.rd.number == 15) i.rd.number (lifts.value_of i Flag at) (lifts.needs_carry i) plain))
      (omega arith)
    where
      needed : (need : Bool) → need ≡ true → HasCarry Flag (needs need)
      needed true h f e = grind (arith, nat_tests)
      needed false h f e = cc

  pub computing_lifting : IsLifting (arm m V4) RRegisters (rows.computing w) at (conditional k (lifts.computed i at))
  computing_lifting = by (lifts.is_test i.opcode) i.sets_flags refl refl
