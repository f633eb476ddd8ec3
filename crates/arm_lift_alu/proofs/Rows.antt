-- A list under a condition is a lifting of its row.
use Rattle.std.proofs.Common.{◌≡◌, ◌↔◌, ℕ, ◌+◌, ◌≤◌, Bool, true, false, not, ◌&&◌, ◌||◌, refl, sym, ap, subst, ◌∙◌, arith, List, [], None}
use Rattle.std.specs.Prelude.{◌==◌, Contains}
use Rattle.word_spec.specs.Words.{bit}
use Rattle.word_spec.specs.Memory.{Endian}
use Rattle.word_spec.specs.State.{State}
use Rattle.machine_spec.specs.Machine.{Row, Successors, Outcome}
use Rattle.word_spec.specs.Profiles.{V4}
use Rattle.machine_spec.specs.Arm.{arm, row_of, flag_use, condition_code, condition_flags, condition_reads, is_always, holds, when}
use Rattle.machine_spec.specs.Bil.{RRegisters, Statements, Empty, If}
use Rattle.machine_spec.specs.BilMeaning.{Word, Ending, Ends, RaisesException, OutOfTurns, Wrong, then_do, branch_on, execute}
use Rattle.machine_spec.specs.BilCounts.{reads_flag}
use Rattle.machine_spec.specs.Simulation.{Locals, position, of_list, of_row, Simulates}
use Rattle.machine_spec.specs.MachineLaws.{IsLifting}
use Rattle.arm_decode.specs.declared.parts.Condition.{Condition}
use Rattle.arm_decode.specs.declared.parts.Condition.TheVariants.{Eq, Ne, Cs, Cc, Mi, Pl, Vs, Vc, Hi, Ls, Ge, Lt, Gt, Le, Al}
use Rattle.arm_decode.specs.Parts.{condition_number}
use Rattle.arm_lift_alu.specs.Lifted as lifts
use Rattle.arm_lift_alu.proofs.Lists.{IsListed, IsUsing, empty_listed, shallow, if_listed}
use Rattle.arm_lift_alu.proofs.Conditions.{named, test_plain, test_is, holds_code}

-- no address
none_stored : (xs : List ℕ) (a : ℕ) → xs ≡ [] → Contains xs a ↔ Contains [] a
none_stored xs a e = (subst (λ (z : List ℕ). Contains z a) e, subst (λ (z : List ℕ). Contains z a) (sym e))

-- a row that neither loads nor stores, of a word, an effect, how it uses flags, its price and its successors
abbrev pub row_from : ℕ → (State → ℕ → Outcome) → (reads assigns surely : ℕ → Bool) → (draws : Bool) → (price : ℕ) → (ℕ → Successors) → Row
row_from w effect reads assigns surely draws price next = record (row_of w effect) {
  successors = next;
  cost = record { row = price; loads = 0; stores = 0 };
  flags = flag_use w reads assigns surely;
  draws = draws;
}

-- nothing comes behind the list
nothing_behind : (e : Ending) (c : ℕ) → of_list (then_do e (execute Empty c)) ≡ of_list e
nothing_behind (Ends p) c = refl
nothing_behind (RaisesException n p) c = refl
nothing_behind (OutOfTurns p) c = refl
nothing_behind Wrong c = refl

-- a list behind a test, where it does what its row does
pub ends : (b : Bool) (e : Ending) (c turns : ℕ) (l : Locals) (s : State) (o : Outcome) → of_list e ≡ of_row l turns o →
    of_list (then_do (branch_on (Word 1 (bit b)) e (Ends (position l turns None s))) (execute Empty c)) ≡ of_row l turns (when b s o)
ends true e c turns l s o h = nothing_behind e c ∙ h
ends false e c turns l s o h = refl

-- a read that is allowed
pub allowed : (b a r : Bool) → (r ≡ false → b ≡ false) → (not b || (r || a)) ≡ true
allowed b a true h = all b
  where
    all : (b : Bool) → (not b || true) ≡ true
    all true = refl
    all false = refl
allowed b a false h = rw (h refl) refl

pub more : (r a : Bool) → a ≡ true → (r || a) ≡ true
more true a h = refl
more false a h = h

true_false : (a b : Bool) → a ≡ false → (a && b) ≡ true → ⊥
true_false true b h k = cc
true_false false b h k = cc

second : (a b : Bool) → (a && b) ≡ true → b ≡ true
second true b h = h
second false b h = cc

side : (b : Bool) → (b || false || false) ≡ true → b ≡ true
side true h = refl
side false h = cc

-- what is not sure is no row's sure assignment
unsure : (a b : Bool) → b ≡ false → not (a && b) ≡ true
unsure true b h = rw h refl
unsure false b h = refl

-- the list of a row whose condition may fail
under_test : (m : Endian) (w at v price u : ℕ) (k : Condition) (effect : State → ℕ → Outcome) (reads assigns surely : ℕ → Bool) (draws : Bool)
    (next : ℕ → Successors)
    (list : Statements) → condition_number k ≡ condition_code w → (condition_number k == 14) ≡ false → Simulates effect at list → IsListed v 1 u list →
    IsUsing reads assigns surely list → (draws ≡ false → u ≡ 0) → v + 70 ≤ price →
    IsLifting (arm m V4) RRegisters (row_from w effect reads assigns surely draws price next) at (If (lifts.test k) list Empty Empty)
under_test m w at v price u k effect reads assigns surely draws next list code some runs static flags drawn fits =
    let never : is_always w ≡ false = ap (λ n. n == 14) (sym code) ∙ some in
    let plain = test_plain k in
    let all = if_listed 2 v 0 0 1 u 0 0 (v + 6) (named k) (lifts.test k) list Empty Empty plain static (shallow 1 empty_listed) (shallow 2 empty_listed)
    (omega arith) in
    record {
      simulates = λ s is here c turns few l.
          rw (test_is k c l s is ∙ ap (λ n. Word 1 (bit (holds_code s n))) code)
          (ends (holds w s) (execute list c (position l turns None s)) c turns l s (effect s c) (runs s is here c turns few l));
      stored = λ s is here c turns few l a. none_stored _ a (all.stored c (position l turns None s));
      typed = all.typed 0;
      no_loop = all.no_loop;
      no_special = all.no_special;
      nests = all.nests;
      names = all.names m;
      assigns = λ f few t. flags.assigns f few (side _ t);
      surely = λ f few t. absurd (true_false _ (surely f) never t);
      reads = λ f few.
          let named_by = λ (h : condition_reads condition_flags (condition_code w) f ≡ false). plain.reads f
          (ap (λ n. condition_reads condition_flags n f) code ∙ h) in
          rw (
            allowed (reads_flag f (lifts.test k)) (reads f) (condition_reads condition_flags (condition_code w) f) named_by,
            flags.reads f (condition_reads condition_flags (condition_code w) f || reads f) (not (is_always w && surely f)) few (more _ _) (unsure _ _),
          ) refl;
      reads_first = λ f few. rw (flags.reads_first f few) refl;
      draws = λ t. let h = all.unknowns in let k = drawn t in omega arith;
      picks = all.picks;
      steady = all.steady;
      literal = λ a t. cc;
      weight = let h = all.weight in omega arith;
      loads = let h = all.loads in omega arith;
      stores = let h = all.stores in omega arith;
    }

-- the list of a row whose condition always holds
always : (m : Endian) (w at v price u : ℕ) (effect : State → ℕ → Outcome) (reads assigns surely : ℕ → Bool) (draws : Bool) (next : ℕ → Successors)
    (list : Statements) → 14 ≡ condition_code w → Simulates effect at list → IsListed v 1 u list → IsUsing reads assigns surely list → (draws ≡ false → u ≡ 0) →
    v + 70 ≤ price → IsLifting (arm m V4) RRegisters (row_from w effect reads assigns surely draws price next) at list
always m w at v price u effect reads assigns surely draws next list code runs static flags drawn fits =
    let ever : is_always w ≡ true = ap (λ n. n == 14) (sym code) in
    record {
      simulates = λ s is here c turns few l. rw ever (runs s is here c turns few l);
      stored = λ s is here c turns few l a. none_stored _ a (static.stored c (position l turns None s));
      typed = static.typed 0;
      no_loop = static.no_loop;
      no_special = static.no_special;
      nests = let h = static.nests in omega arith;
      names = static.names m;
      assigns = flags.assigns;
      surely = λ f few t. flags.surely f few (second _ _ t);
      reads = λ f few. flags.reads f (condition_reads condition_flags (condition_code w) f || reads f) (not (is_always w && surely f)) few (more _ _)
          (unsure _ _);
      reads_first = flags.reads_first;
      draws = λ t. static.unknowns ∙ drawn t;
      picks = static.picks;
      steady = static.steady;
      literal = λ a t. cc;
      weight = let h = static.weight in omega arith;
      loads = let h = static.loads in omega arith;
      stores = let h = static.stores in omega arith;
    }

module _ (m : Endian) (w at v price u : ℕ) (effect : State → ℕ → Outcome) (reads assigns surely : ℕ → Bool) (draws : Bool) (next : ℕ → Successors)
    (list : Statements)
    (runs : Simulates effect at list) (static : IsListed v 1 u list) (flags : IsUsing reads assigns surely list) (drawn : draws ≡ false → u ≡ 0)
    (fits : v + 70 ≤ price) where
  tested : (k : Condition) → condition_number k ≡ condition_code w → (condition_number k == 14) ≡ false →
      IsLifting (arm m V4) RRegisters (row_from w effect reads assigns surely draws price next) at (If (lifts.test k) list Empty Empty)
  tested k code some = under_test m w at v price u k effect reads assigns surely draws next list code some runs static flags drawn fits

  -- the list of a row
  pub conditional_lifting : (k : Condition) → condition_number k ≡ condition_code w →
      IsLifting (arm m V4) RRegisters (row_from w effect reads assigns surely draws price next) at (lifts.conditional k list)
  conditional_lifting Eq h = tested Eq h refl
  conditional_lifting Ne h = tested Ne h refl
  conditional_lifting Cs h = tested Cs h refl
  conditional_lifting Cc h = tested Cc h refl
  conditional_lifting Mi h = tested Mi h refl
  conditional_lifting Pl h = tested Pl h refl
  conditional_lifting Vs h = tested Vs h refl
  conditional_lifting Vc h = tested Vc h refl
  conditional_lifting Hi h = tested Hi h refl
  conditional_lifting Ls h = tested Ls h refl
  conditional_lifting Ge h = tested Ge h refl
  conditional_lifting Lt h = tested Lt h refl
  conditional_lifting Gt h = tested Gt h refl
  conditional_lifting Le h = tested Le h refl
  conditional_lifting Al h = always m w at v price u effect reads assigns surely draws next list h runs static flags drawn fits
