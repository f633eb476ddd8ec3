-- What is said of the lists of data processing beside their ends.
use Rattle.std.proofs.Common.{◌≡◌, ℕ, zero, suc, ◌+◌, ◌<◌, ◌≤◌, Bool, true, false, not, ◌&&◌, ◌||◌, refl, ap, sym, ◌∙◌, arith, nat_le}
use Rattle.std.specs.Prelude.{◌==◌}
use Rattle.std.proofs.lemmas.Bool.{ne_eqb}
use Rattle.std.proofs.lemmas.Bool.Decides.{nat_tests}
use Rattle.word_spec.specs.State.{flag_c}
use Rattle.machine_spec.specs.Arm.{flag_set, none}
use Rattle.machine_spec.specs.Bil.{RRegisters, Expression, Statements, Empty, Assign}
use Rattle.machine_spec.specs.Bil as bil
use Rattle.machine_spec.specs.BilCounts.{reads_flag, may_assign, surely_assigns, reads_within, reads_first}
use Rattle.arm_decode.specs.declared.data.ComputingFields.{ComputingFields}
use Rattle.arm_lift_alu.specs.declared.shifter.CarryIn.{CarryIn}
use Rattle.arm_lift_alu.specs.declared.shifter.CarryIn.TheVariants.{Clear, Set, Flag}
use Rattle.arm_lift_alu.specs.Lifted.{number, flag}
use Rattle.arm_lift_alu.specs.Operands.{own}
use Rattle.arm_lift_alu.specs.Computing as lifts
use Rattle.arm_lift_alu.proofs.Plain.{IsPlain, number_plain, flag_plain, own_register, binary_plain, extract_plain}
use Rattle.arm_lift_alu.proofs.Weights.{carry_reads}
use Rattle.arm_lift_alu.proofs.Lists.{IsListed, IsUsing, empty_listed, shallow, assign_listed, jump_listed, if_listed}

pub heavier : (w v d u : ℕ) (list : Statements) → IsListed w d u list → w ≤ v → IsListed v d u list
heavier w v d u list p h = record {
  typed = p.typed;
  no_loop = p.no_loop;
  no_special = p.no_special;
  nests = p.nests;
  names = p.names;
  unknowns = p.unknowns;
  picks = p.picks;
  steady = p.steady;
  weight = let g = p.weight in omega arith;
  loads = p.loads;
  stores = p.stores;
  stored = p.stored;
}

pub register_listed : (q v w d u t : ℕ) (r : ℕ → Bool) (e : Expression) (rest : Statements) → q < 15 → IsPlain 32 v r e → IsListed w d u rest → 64 + v + w ≤ t →
    IsListed t d u (Assign (bil.Register RRegisters q) e rest)
register_listed q v w d u t r e rest small p h fits =
    assign_listed 32 w v d u t r (bil.Register RRegisters q) e rest p h refl (λ m. (own_register q none small).names m) refl (omega arith)

pub flag_listed : (g v w d u t : ℕ) (r : ℕ → Bool) (e : Expression) (rest : Statements) → nat_le g 3 ≡ true → IsPlain 1 v r e → IsListed w d u rest →
    2 + v + w ≤ t →
    IsListed t d u (Assign (bil.Flag g) e rest)
flag_listed g v w d u t r e rest small p h fits = assign_listed 1 w v d u t r (bil.Flag g) e rest p h refl (λ m. small) refl (omega arith)

flag_if_listed : (b : Bool) (g v w d t : ℕ) (r : ℕ → Bool) (e : Expression) (rest : Statements) → nat_le g 3 ≡ true →
    (b ≡ true → IsPlain 1 v r e) → IsListed w d 0 rest →
    2 + v + w ≤ t → IsListed t d 0 (lifts.flag_if b g e rest)
flag_if_listed true g v w d t r e rest small p h fits = flag_listed g v w d 0 t r e rest small (p refl) h fits
flag_if_listed false g v w d t r e rest small p h fits = heavier w t d 0 rest h (omega arith)

pub signs_listed : (v w d u t : ℕ) (r : ℕ → Bool) (e : Expression) (rest : Statements) → IsPlain 32 v r e → IsListed w d u rest → 36 + v + v + w ≤ t →
    IsListed t d u (lifts.signs e rest)
signs_listed v w d u t r e rest p h fits =
    flag_listed 3 v (34 + v + w) d u t r _ _ refl (extract_plain 31 31 32 v r e p refl refl)
    (flag_listed 2 (32 + v) w d u (34 + v + w) r _ rest refl (binary_plain bil.Equal 32 v 0 (32 + v) r e (number 0) p (number_plain 0 r (omega arith)) refl
    (omega arith)) h (omega arith))
    (omega arith)

-- a value goes to a register
pub written_listed : (q : ℕ) (r : ℕ → Bool) (e : Expression) → q < 16 → IsPlain 32 640 r e → IsListed 704 1 0 (lifts.written q e)
written_listed q r e small p = by (q == 15) (λ h. less q small h)
  where
    less : (q : ℕ) → q < 16 → (q == 15) ≡ false → q < 15
    less q h k = grind (arith, nat_tests)

    by : (b : Bool) → (b ≡ false → q < 15) → IsListed 704 1 0 (lifts.written_by b q e)
    by true h = jump_listed 0 640 1 0 704 r e Empty p (shallow 1 empty_listed) (omega arith)
    by false h = register_listed q 640 0 1 0 704 r e Empty (h refl) p (shallow 1 empty_listed) (omega arith)

-- a read that is allowed
pub read_ok : (b r a x : Bool) → (r ≡ false → b ≡ false) → (r ≡ true → a ≡ true) → (not b || a || x) ≡ true
read_ok b true a x h k = rw (k refl) (any b)
  where
    any : (b : Bool) → (not b || true || x) ≡ true
    any true = refl
    any false = refl
read_ok b false a x h k = rw (h refl) refl

none_read : (x : Bool) → (x && false) ≡ false
none_read true = refl
none_read false = refl

-- the flags that are read: C, where it is needed
abbrev pub needs : Bool → ℕ → Bool
needs need = flag_set false need false

-- the flags that are assigned
abbrev pub sets : (c v : Bool) → ℕ → Bool
sets c v = flag_set true c v

module _ (b : Bool) (g : ℕ) (e : Expression) (rest : Statements) (f : ℕ) where
  assigns_if : may_assign f (lifts.flag_if b g e rest) ≡ ((b && (g == f)) || may_assign f rest)
  assigns_if = by b
    where
      by : (b : Bool) → may_assign f (lifts.flag_if b g e rest) ≡ ((b && (g == f)) || may_assign f rest)
      by true = refl
      by false = refl

  surely_if : surely_assigns f (lifts.flag_if b g e rest) ≡ ((b && (g == f)) || surely_assigns f rest)
  surely_if = by b
    where
      by : (b : Bool) → surely_assigns f (lifts.flag_if b g e rest) ≡ ((b && (g == f)) || surely_assigns f rest)
      by true = refl
      by false = refl

  reads_if : (a i : Bool) → (b ≡ true → (not (reads_flag f e) || a || (i && (g == f))) ≡ true) → reads_within f a i rest ≡ true →
      reads_within f a i (lifts.flag_if b g e rest) ≡ true
  reads_if a i h k = by b h
    where
      by : (b : Bool) → (b ≡ true → (not (reads_flag f e) || a || (i && (g == f))) ≡ true) → reads_within f a i (lifts.flag_if b g e rest) ≡ true
      by true h = rw (h refl, k) refl
      by false h = k

  first_if : (d : Bool) → (b ≡ true → (d && reads_flag f e) ≡ false) → reads_first f (d || (g == f)) rest ≡ true → reads_first f d rest ≡ true →
      reads_first f d (lifts.flag_if b g e rest) ≡ true
  first_if d h j k = by b h
    where
      by : (b : Bool) → (b ≡ true → (d && reads_flag f e) ≡ false) → reads_first f d (lifts.flag_if b g e rest) ≡ true
      by true h = rw (h refl, j) refl
      by false h = k

-- the flag C
abbrev pub only_c : ℕ → Bool
only_c f = 1 == f

-- the flags that are needed have none but C
needs_c : (need : Bool) (f : ℕ) → (1 == f) ≡ false → needs need f ≡ false
needs_c true f h = let e : (f == 1) ≡ false = grind (arith, nat_tests) in rw e refl
needs_c false f h = refl

-- a flag that is assigned is not C
abbrev NotC : Bool → ℕ → Type 0
NotC d f = d ≡ true → (1 == f) ≡ false

not_c_or : (d : Bool) (g f : ℕ) → (g == 1) ≡ false → NotC d f → NotC (d || (g == f)) f
not_c_or true g f h k = λ e. k refl
not_c_or false g f h k = λ e. grind (arith, nat_tests)

-- an expression that reads no flag but C, where C has not been assigned
unread : (d x : Bool) (f : ℕ) → NotC d f → ((1 == f) ≡ false → x ≡ false) → (d && x) ≡ false
unread true x f h k = k (h refl)
unread false x f h k = refl

-- V, C, N and Z as sets
same_sets : (f : ℕ) (a b : Bool) → f < 4 → ((a && (0 == f)) || ((b && (1 == f)) || ((3 == f) || ((2 == f) || false)))) ≡ sets b a f
same_sets zero true true h = refl
same_sets zero true false h = refl
same_sets zero false true h = refl
same_sets zero false false h = refl
same_sets (suc zero) true true h = refl
same_sets (suc zero) true false h = refl
same_sets (suc zero) false true h = refl
same_sets (suc zero) false false h = refl
same_sets (suc (suc zero)) true true h = refl
same_sets (suc (suc zero)) true false h = refl
same_sets (suc (suc zero)) false true h = refl
same_sets (suc (suc zero)) false false h = refl
same_sets (suc (suc (suc zero))) true true h = refl
same_sets (suc (suc (suc zero))) true false h = refl
same_sets (suc (suc (suc zero))) false true h = refl
same_sets (suc (suc (suc zero))) false false h = refl
same_sets (suc (suc (suc (suc f)))) a b h = absurd (omega arith)

-- the same sets of a test
test_sets : (f : ℕ) (a b : Bool) → f < 4 → ((3 == f) || ((2 == f) || ((a && (0 == f)) || ((b && (1 == f)) || false)))) ≡ sets b a f
test_sets zero true true h = refl
test_sets zero true false h = refl
test_sets zero false true h = refl
test_sets zero false false h = refl
test_sets (suc zero) true true h = refl
test_sets (suc zero) true false h = refl
test_sets (suc zero) false true h = refl
test_sets (suc zero) false false h = refl
test_sets (suc (suc zero)) true true h = refl
test_sets (suc (suc zero)) true false h = refl
test_sets (suc (suc zero)) false true h = refl
test_sets (suc (suc zero)) false false h = refl
test_sets (suc (suc (suc zero))) true true h = refl
test_sets (suc (suc (suc zero))) true false h = refl
test_sets (suc (suc (suc zero))) false true h = refl
test_sets (suc (suc (suc zero))) false false h = refl
test_sets (suc (suc (suc (suc f)))) a b h = absurd (omega arith)

-- what is surely assigned is assigned
surely_sets : (f : ℕ) (x a b : Bool) → (x ≡ true → b ≡ true) → sets x a f ≡ true → sets b a f ≡ true
surely_sets f true a b h k = rw (h refl) k
surely_sets f false a true h k = wider ((3 == f) || ((2 == f) || false)) (f == 1) (a && (f == 0)) k
  where
    wider : (x y z : Bool) → (x || false || z) ≡ true → (x || y || z) ≡ true
    wider true y z k = refl
    wider false true z k = refl
    wider false false z k = k
surely_sets f false a false h k = k

twice : (x : Bool) (y : Bool) → ((x || false) || (x || false) || y) ≡ (x || y)
twice true y = refl
twice false y = refl

both_sure : (x y : Bool) → (((x || false) && (x || false)) || y) ≡ (x || y)
both_sure true y = refl
both_sure false y = refl

-- a read of C by the carry itself
carry_read : (f : ℕ) (b need sure v a i : Bool) → (only_c f ≡ false → b ≡ false) → (need ≡ false → sure ≡ true → b ≡ false) → (needs need f ≡ true → a ≡ true) →
    (sets sure v f ≡ false → i ≡ true) → (not b || a || (i && (1 == f))) ≡ true
carry_read zero b need sure v a i p q r s = rw (p refl) refl
carry_read (suc zero) b true sure v a i p q r s = rw (r refl) (any b)
  where
    any : (b : Bool) → (not b || true || (i && true)) ≡ true
    any true = refl
    any false = refl
carry_read (suc zero) b false true v a i p q r s = rw (q refl refl) refl
carry_read (suc zero) b false false true a i p q r s = rw (s refl) (any b a)
  where
    any : (b a : Bool) → (not b || a || true) ≡ true
    any true true = refl
    any true false = refl
    any false true = refl
    any false false = refl
carry_read (suc zero) b false false false a i p q r s = rw (s refl) (any b a)
  where
    any : (b a : Bool) → (not b || a || true) ≡ true
    any true true = refl
    any true false = refl
    any false true = refl
    any false false = refl
carry_read (suc (suc f)) b need sure v a i p q r s = rw (p (ne_eqb 1 (suc (suc f)) (λ e. omega arith))) refl

-- N and Z of a register read no flag
signs_first : (r f : ℕ) (d : Bool) → reads_first f d (lifts.signs (own r) Empty) ≡ true
signs_first r f d = rw (none_read d, none_read (d || (3 == f))) refl

abbrev Reads : CarryIn → (ℕ → Bool) → Type 0
Reads k r = (f : ℕ) → r f ≡ false → carry_reads k f ≡ false

module _ (i : ComputingFields) (at : ℕ) (sure : Bool)
    (value : (k : CarryIn) (r : ℕ → Bool) → (lifts.needs_carry i ≡ true → Reads k r) → IsPlain 32 640 r (lifts.value_of i k at))
    (carry : (k : CarryIn) → lifts.assigns_carry i ≡ true → IsPlain 1 644 only_c (lifts.carry_of i k at))
    (sure_carry : (k : CarryIn) → lifts.needs_carry i ≡ false → sure ≡ true → lifts.assigns_carry i ≡ true → IsPlain 1 644 none (lifts.carry_of i k at))
    (overflow : not (lifts.is_logical i.opcode) ≡ true → IsPlain 1 710 (needs (lifts.needs_carry i)) (lifts.overflow_of i at))
    (sure_only : sure ≡ true → lifts.assigns_carry i ≡ true) where
  -- the value where the carry that comes in is known
  known_value : (k : CarryIn) → ((f : ℕ) → carry_reads k f ≡ false) → IsPlain 32 640 none (lifts.value_of i k at)
  known_value k h = value k none (λ n f e. h f)

  flag_value : IsPlain 32 640 (needs (lifts.needs_carry i)) (lifts.value_of i Flag at)
  flag_value = value Flag (needs (lifts.needs_carry i)) (λ n f e. needed (lifts.needs_carry i) f n e)
    where
      needed : (need : Bool) (f : ℕ) → need ≡ true → needs need f ≡ false → (1 == f) ≡ false
      needed true f n e = grind (arith, nat_tests)
      needed false f n e = cc

  carried_listed : (k : CarryIn) (w d t : ℕ) (rest : Statements) → ((f : ℕ) → carry_reads k f ≡ false) → i.rd.number < 15 → IsListed w d 0 rest → 1350 + w ≤ t →
      IsListed t d 0 (lifts.carried i k at rest)
  carried_listed k w d t rest known small h fits =
      flag_if_listed (lifts.assigns_carry i) 1 644 (704 + w) d t only_c (lifts.carry_of i k at) _ refl (carry k)
      (register_listed i.rd.number 640 w d 0 (704 + w) none (lifts.value_of i k at) rest small (known_value k known) h (omega arith)) (omega arith)

  carried_by_listed : (b : Bool) → i.rd.number < 15 → IsListed 2740 1 0 (lifts.carried_by b i at (lifts.signs (own i.rd.number) Empty))
  carried_by_listed true small =
      if_listed 0 1350 1350 36 0 0 0 0 2740 only_c (flag flag_c) _ _ _ (flag_plain 1 only_c refl (λ f h. h))
      (carried_listed Set 0 0 1350 Empty (λ f. refl) small empty_listed (omega arith))
      (carried_listed Clear 0 0 1350 Empty (λ f. refl) small empty_listed (omega arith))
      (signs_listed 0 0 1 0 36 none (own i.rd.number) Empty (own_register i.rd.number none small) (shallow 1 empty_listed) (omega arith)) (omega arith)
  carried_by_listed false small =
      carried_listed Clear 36 1 2740 _ (λ f. refl) small
      (signs_listed 0 0 1 0 36 none (own i.rd.number) Empty (own_register i.rd.number none small) (shallow 1 empty_listed) (omega arith)) (omega arith)

  pub with_flags_listed : i.rd.number < 15 → IsListed 3452 1 0 (lifts.with_flags i at)
  with_flags_listed small =
      flag_if_listed (not (lifts.is_logical i.opcode)) 0 710 2740 1 3452 (needs (lifts.needs_carry i)) (lifts.overflow_of i at) _ refl overflow
      (carried_by_listed (lifts.needs_carry i) small) (omega arith)

  pub tested_listed : IsListed 3000 1 0 (lifts.tested i at)
  tested_listed =
      signs_listed 640 1358 1 0 3000 (needs (lifts.needs_carry i)) (lifts.value_of i Flag at) _ flag_value
      (flag_if_listed (not (lifts.is_logical i.opcode)) 0 710 646 1 1358 (needs (lifts.needs_carry i)) (lifts.overflow_of i at) _ refl overflow
      (flag_if_listed (lifts.assigns_carry i) 1 644 0 1 646 only_c (lifts.carry_of i Flag at) Empty refl (carry Flag) (shallow 1 empty_listed) (omega arith))
      (omega arith))
      (omega arith)

  assigned_by : (b : Bool) (f : ℕ) → may_assign f (lifts.carried_by b i at (lifts.signs (own i.rd.number) Empty))
      ≡ ((lifts.assigns_carry i && (1 == f)) || ((3 == f) || ((2 == f) || false)))
  assigned_by true f =
      rw (
        assigns_if (lifts.assigns_carry i) 1 (lifts.carry_of i Set at) (Assign (bil.Register RRegisters i.rd.number) (lifts.value_of i Set at) Empty) f,
        assigns_if (lifts.assigns_carry i) 1 (lifts.carry_of i Clear at) (Assign (bil.Register RRegisters i.rd.number) (lifts.value_of i Clear at) Empty) f,
      )
      (twice (lifts.assigns_carry i && (1 == f)) _)
  assigned_by false f = assigns_if (lifts.assigns_carry i) 1 (lifts.carry_of i Clear at) _ f

  surely_by : (b : Bool) (f : ℕ) → surely_assigns f (lifts.carried_by b i at (lifts.signs (own i.rd.number) Empty))
      ≡ ((lifts.assigns_carry i && (1 == f)) || ((3 == f) || ((2 == f) || false)))
  surely_by true f =
      rw (
        surely_if (lifts.assigns_carry i) 1 (lifts.carry_of i Set at) (Assign (bil.Register RRegisters i.rd.number) (lifts.value_of i Set at) Empty) f,
        surely_if (lifts.assigns_carry i) 1 (lifts.carry_of i Clear at) (Assign (bil.Register RRegisters i.rd.number) (lifts.value_of i Clear at) Empty) f,
      )
      (both_sure (lifts.assigns_carry i && (1 == f)) _)
  surely_by false f = surely_if (lifts.assigns_carry i) 1 (lifts.carry_of i Clear at) _ f

  carried_reads : (k : CarryIn) (f : ℕ) (a x : Bool) (rest : Statements) → ((f : ℕ) → carry_reads k f ≡ false) →
      (needs (lifts.needs_carry i) f ≡ true → a ≡ true) →
      (sets sure (not (lifts.is_logical i.opcode)) f ≡ false → x ≡ true) → reads_within f a x rest ≡ true → reads_within f a x (lifts.carried i k at rest)
      ≡ true
  carried_reads k f a x rest known r s h =
      reads_if (lifts.assigns_carry i) 1 (lifts.carry_of i k at) (Assign (bil.Register RRegisters i.rd.number) (lifts.value_of i k at) rest) f a x
      (λ b. carry_read f (reads_flag f (lifts.carry_of i k at)) (lifts.needs_carry i) sure (not (lifts.is_logical i.opcode)) a x ((carry k b).reads f)
      (λ n y. (sure_carry k n y b).reads f refl) r s)
      (rw ((known_value k known).reads f refl) h)

  carried_by_reads : (b : Bool) (f : ℕ) (a x : Bool) → b ≡ lifts.needs_carry i → (needs (lifts.needs_carry i) f ≡ true → a ≡ true) →
      (sets sure (not (lifts.is_logical i.opcode)) f ≡ false → x ≡ true) → reads_within f a x (lifts.carried_by b i at (lifts.signs (own i.rd.number) Empty))
      ≡ true
  carried_by_reads true f a x same r s =
      rw (
        flag_read f a (λ e. r (ap (λ z. needs z f) (sym same) ∙ as_needed f e)),
        carried_reads Set f a x Empty (λ f. refl) r s refl,
        carried_reads Clear f a x Empty (λ f. refl) r s refl,
      ) refl
    where
      flag_read : (f : ℕ) (a : Bool) → ((1 == f) ≡ true → a ≡ true) → (not (1 == f) || a) ≡ true
      flag_read f a h = by (1 == f) h
        where
          by : (b : Bool) → (b ≡ true → a ≡ true) → (not b || a) ≡ true
          by true h = rw (h refl) refl
          by false h = refl

      as_needed : (f : ℕ) → (1 == f) ≡ true → needs true f ≡ true
      as_needed f e = let g : (f == 1) ≡ true = grind (arith, nat_tests) in rw g refl
  carried_by_reads false f a x same r s = carried_reads Clear f a x (lifts.signs (own i.rd.number) Empty) (λ f. refl) r s refl

  carried_first : (k : CarryIn) (f : ℕ) (d : Bool) (rest : Statements) → ((f : ℕ) → carry_reads k f ≡ false) → NotC d f →
      ((d : Bool) → reads_first f d rest ≡ true) →
      reads_first f d (lifts.carried i k at rest) ≡ true
  carried_first k f d rest known h rests =
      let no : reads_flag f (lifts.value_of i k at) ≡ false = (known_value k known).reads f refl in
      first_if (lifts.assigns_carry i) 1 (lifts.carry_of i k at) (Assign (bil.Register RRegisters i.rd.number) (lifts.value_of i k at) rest) f d
      (λ b. unread d _ f h ((carry k b).reads f))
      (rw (no, none_read (d || (1 == f))) (rests _))
      (rw (no, none_read d) (rests _))

  carried_by_first : (b : Bool) (f : ℕ) (d : Bool) → NotC d f → reads_first f d (lifts.carried_by b i at (lifts.signs (own i.rd.number) Empty)) ≡ true
  carried_by_first true f d h =
      rw (unread d (1 == f) f h (λ e. e), carried_first Set f d Empty (λ f. refl) h (λ x. refl), carried_first Clear f d Empty (λ f. refl) h (λ x. refl))
      (signs_first i.rd.number f _)
  carried_by_first false f d h = carried_first Clear f d _ (λ f. refl) h (λ x. signs_first i.rd.number f x)

  pub with_flags_using :
      IsUsing (needs (lifts.needs_carry i)) (sets (lifts.assigns_carry i) (not (lifts.is_logical i.opcode))) (sets sure (not (lifts.is_logical i.opcode)))
      (lifts.with_flags i at)
  with_flags_using =
      let v : Bool = not (lifts.is_logical i.opcode) in
      let rest : Statements = lifts.carried_by (lifts.needs_carry i) i at (lifts.signs (own i.rd.number) Empty) in
      record {
        assigns = λ f few h.
            sym (assigns_if v 0 (lifts.overflow_of i at) rest f ∙ ap (λ z. (v && (0 == f)) || z) (assigned_by (lifts.needs_carry i) f)
            ∙ same_sets f v (lifts.assigns_carry i) few) ∙ h;
        surely = λ f few h.
            (surely_if v 0 (lifts.overflow_of i at) rest f ∙ ap (λ z. (v && (0 == f)) || z) (surely_by (lifts.needs_carry i) f)
            ∙ same_sets f v (lifts.assigns_carry i) few)
            ∙ surely_sets f sure v (lifts.assigns_carry i) sure_only h;
        reads = λ f a x few r s.
            reads_if v 0 (lifts.overflow_of i at) rest f a x (λ b. read_ok (reads_flag f (lifts.overflow_of i at)) (needs (lifts.needs_carry i) f) a
            (x && (0 == f)) ((overflow b).reads f) r)
            (carried_by_reads (lifts.needs_carry i) f a x refl r s);
        reads_first = λ f few.
            first_if v 0 (lifts.overflow_of i at) rest f false (λ b. refl)
            (carried_by_first (lifts.needs_carry i) f (0 == f) (not_c_or false 0 f refl (λ e. cc)))
            (carried_by_first (lifts.needs_carry i) f false (λ e. cc));
      }

  pub tested_using :
      IsUsing (needs (lifts.needs_carry i)) (sets (lifts.assigns_carry i) (not (lifts.is_logical i.opcode))) (sets sure (not (lifts.is_logical i.opcode)))
      (lifts.tested i at)
  tested_using =
      let v : Bool = not (lifts.is_logical i.opcode) in
      let last : Statements = lifts.flag_if (lifts.assigns_carry i) 1 (lifts.carry_of i Flag at) Empty in
      let rest : Statements = lifts.flag_if v 0 (lifts.overflow_of i at) last in
      record {
        assigns = λ f few h.
            sym (ap (λ z. (3 == f) || ((2 == f) || z)) (assigns_if v 0 (lifts.overflow_of i at) last f
            ∙ ap (λ z. (v && (0 == f)) || z) (assigns_if (lifts.assigns_carry i) 1 (lifts.carry_of i Flag at) Empty f))
            ∙ test_sets f v (lifts.assigns_carry i) few) ∙ h;
        surely = λ f few h.
            ap (λ z. (3 == f) || ((2 == f) || z)) (surely_if v 0 (lifts.overflow_of i at) last f
            ∙ ap (λ z. (v && (0 == f)) || z) (surely_if (lifts.assigns_carry i) 1 (lifts.carry_of i Flag at) Empty f))
            ∙ test_sets f v (lifts.assigns_carry i) few
            ∙ surely_sets f sure v (lifts.assigns_carry i) sure_only h;
        reads = λ f a x few r s.
            rw (
              read_ok (reads_flag f (lifts.value_of i Flag at)) (needs (lifts.needs_carry i) f) a (x && (3 == f)) (flag_value.reads f) r,
              read_ok (reads_flag f (lifts.value_of i Flag at) || false) (needs (lifts.needs_carry i) f) a (x && (2 == f))
                  (λ e. rw (flag_value.reads f e) refl) r,
            )
            (reads_if v 0 (lifts.overflow_of i at) last f a x
            (λ b. read_ok (reads_flag f (lifts.overflow_of i at)) (needs (lifts.needs_carry i) f) a (x && (0 == f)) ((overflow b).reads f) r)
            (reads_if (lifts.assigns_carry i) 1 (lifts.carry_of i Flag at) Empty f a x
            (λ b. carry_read f (reads_flag f (lifts.carry_of i Flag at)) (lifts.needs_carry i) sure v a x ((carry Flag b).reads f)
            (λ n y. (sure_carry Flag n y b).reads f refl) r s) refl));
        reads_first = λ f few.
            let no : NotC (3 == f) f = not_c_or false 3 f refl (λ e. cc) in
            let nor : NotC ((3 == f) || (2 == f)) f = not_c_or (3 == f) 2 f refl no in
            rw (unread (3 == f) (reads_flag f (lifts.value_of i Flag at) || false) f no (λ e. rw (flag_value.reads f (needs_c (lifts.needs_carry i) f e)) refl))
            (first_if v 0 (lifts.overflow_of i at) last f ((3 == f) || (2 == f))
            (λ b. unread ((3 == f) || (2 == f)) _ f nor (λ e. (overflow b).reads f (needs_c (lifts.needs_carry i) f e)))
            (first_if (lifts.assigns_carry i) 1 (lifts.carry_of i Flag at) Empty f ((3 == f) || (2 == f) || (0 == f))
            (λ b. unread ((3 == f) || (2 == f) || (0 == f)) _ f (not_c_or ((3 == f) || (2 == f)) 0 f refl nor) ((carry Flag b).reads f)) refl refl)
            (first_if (lifts.assigns_carry i) 1 (lifts.carry_of i Flag at) Empty f ((3 == f) || (2 == f))
            (λ b. unread ((3 == f) || (2 == f)) _ f nor ((carry Flag b).reads f)) refl refl));
      }
