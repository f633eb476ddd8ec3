-- A list that loads or stores, under a condition, is a lifting of its row.
use Rattle.std.proofs.Common.{◌≡◌, ◌↔◌, ℕ, ◌+◌, ◌≤◌, Bool, true, false, not, ◌&&◌, ◌||◌, refl, sym, ap, subst, ◌∙◌, arith, List, [], ◌++◌, append-nil, Option, Some, None}
use Rattle.std.specs.Prelude.{◌==◌, Contains}
use Rattle.word_spec.specs.Words.{bit}
use Rattle.word_spec.specs.Memory.{Endian}
use Rattle.word_spec.specs.State.{State, IsState}
use Rattle.machine_spec.specs.Machine.{Row, Successors, Outcome, addresses}
use Rattle.word_spec.specs.Profiles.{V4}
use Rattle.machine_spec.specs.Arm.{arm, row_of, flag_use, none, condition_code, condition_flags, condition_reads, is_always, holds}
use Rattle.machine_spec.specs.Bil.{RRegisters, Statements, Empty, If}
use Rattle.machine_spec.specs.BilMeaning.{Word, Ending, Ends, RaisesException, OutOfTurns, Wrong, branch_on, execute}
use Rattle.machine_spec.specs.BilCounts.{reads_flag, other_loads, byte_stores}
use Rattle.machine_spec.specs.BilStores.{list_stored, chosen, then_stored}
use Rattle.machine_spec.specs.Simulation.{Locals, position, Simulates}
use Rattle.machine_spec.specs.MachineLaws.{IsLifting}
use Rattle.arm_decode.specs.declared.parts.Condition.{Condition}
use Rattle.arm_decode.specs.declared.parts.Condition.TheVariants.{Eq, Ne, Cs, Cc, Mi, Pl, Vs, Vc, Hi, Ls, Ge, Lt, Gt, Le, Al}
use Rattle.arm_decode.specs.Parts.{condition_number}
use Rattle.arm_lift_alu.specs.Lifted as lifts
use Rattle.arm_lift_alu.proofs.Conditions.{test_plain, test_is, holds_code}
use Rattle.arm_lift_alu.proofs.Rows.{ends, allowed, more}
use Rattle.arm_lift_alu.proofs.Accesses.{IsAccess}

-- the same addresses
same : (xs ys : List ℕ) (a : ℕ) → xs ≡ ys → Contains xs a ↔ Contains ys a
same xs ys a e = (subst (λ (z : List ℕ). Contains z a) e, subst (λ (z : List ℕ). Contains z a) (sym e))

-- a row of a word, by its parts
abbrev pub row_from : ℕ → (State → ℕ → Outcome) → (stored loaded : State → Option (ℕ × ℕ)) → (reads : ℕ → Bool) → (draws : Bool) →
    (price loads stores : ℕ) → (successors : ℕ → Successors) → (literal : ℕ → Option ℕ) → Row
row_from w effect stored loaded reads draws price loads stores next literal = record (row_of w effect) {
  stored = stored;
  successors = next;
  literal = literal;
  cost = record { row = price; loads = loads; stores = stores };
  flags = flag_use w reads none none;
  draws = draws;
  loaded = loaded;
}

nothing_stored : (e : Ending) (c : ℕ) → then_stored e (list_stored Empty c) ≡ []
nothing_stored (Ends p) c = refl
nothing_stored (RaisesException n p) c = refl
nothing_stored (OutOfTurns p) c = refl
nothing_stored Wrong c = refl

-- what a list behind a test stores
stores_behind : (b : Bool) (xs ys : List ℕ) (e f : Ending) (c : ℕ) → (b ≡ true → xs ≡ ys) → (b ≡ false → ys ≡ []) →
    chosen (Word 1 (bit b)) xs [] ++ then_stored (branch_on (Word 1 (bit b)) e f) (list_stored Empty c) ≡ ys
stores_behind true xs ys e f c h k = ap (λ z. xs ++ z) (nothing_stored e c) ∙ append-nil xs ∙ h refl
stores_behind false xs ys e f c h k = ap (λ z. z) (nothing_stored f c) ∙ sym (k refl)

never_sure : (a : Bool) → (a && false) ≡ true → ⊥
never_sure true h = cc
never_sure false h = cc

module _ (m : Endian) (w at v price l t u : ℕ) (effect : State → ℕ → Outcome) (stored loaded : State → Option (ℕ × ℕ)) (reads : ℕ → Bool) (draws : Bool)
    (loads stores : ℕ) (next : ℕ → Successors) (literal : ℕ → Option ℕ) (list : Statements) (runs : Simulates effect at list)
    (static : IsAccess v l t u reads list)
    (places : (s : State) → IsState s → s.pc ≡ at → holds w s ≡ true → (c turns : ℕ) (k : Locals) →
    list_stored list c (position k turns None s) ≡ addresses (stored s))
    (skipped : (s : State) → holds w s ≡ false → addresses (stored s) ≡ []) (drawn : draws ≡ false → u ≡ 0)
    (only : (a : ℕ) → literal at ≡ Some a → (other_loads m a list ≡ 0) × (byte_stores list ≡ 0))
    (fits : v + 70 ≤ price) (few_loads : l ≤ loads) (few_stores : t ≤ stores) where
  abbrev row : Row
  row = row_from w effect stored loaded reads draws price loads stores next literal

  -- the list of a row whose condition may fail
  tested : (k : Condition) → condition_number k ≡ condition_code w → IsLifting (arm m V4) RRegisters row at (If (lifts.test k) list Empty Empty)
  tested k code =
      let plain = test_plain k in
      record {
        simulates = λ s is here c turns few k2.
            rw (test_is k c k2 s is ∙ ap (λ n. Word 1 (bit (holds_code s n))) code)
            (ends (holds w s) (execute list c (position k2 turns None s)) c turns k2 s (effect s c) (runs s is here c turns few k2));
        stored = λ s is here c turns few k2 a. same _ _ a (
            rw (plain.stored c _, test_is k c k2 s is ∙ ap (λ n. Word 1 (bit (holds_code s n))) code)
            (stores_behind (holds w s) _ (addresses (stored s)) _ _ c (λ h. places s is here h c turns k2) (skipped s))
            );
        typed = rw (plain.typed 1, static.typed _) refl;
        no_loop = rw static.no_loop refl;
        no_special = rw static.no_special refl;
        nests = let h = static.nests in omega arith;
        names = rw (plain.names m, static.names m) refl;
        assigns = λ f few h. absurd (let g = static.assigns f in cc);
        surely = λ f few h. absurd (never_sure (is_always w) h);
        reads = λ f few.
            let named_by = λ (h : condition_reads condition_flags (condition_code w) f ≡ false).
            plain.reads f (ap (λ n. condition_reads condition_flags n f) code ∙ h) in
            rw (
              allowed (reads_flag f (lifts.test k)) (reads f) (condition_reads condition_flags (condition_code w) f) named_by,
              static.reads f (condition_reads condition_flags (condition_code w) f || reads f) (not (is_always w && false)) (more _ _),
            ) refl;
        reads_first = λ f few. rw (static.reads_first f) refl;
        draws = λ d. let h = plain.unknowns in let i = static.unknowns in let k = drawn d in omega arith;
        picks = let h = plain.picks in let i = static.picks in omega arith;
        steady = let h = plain.steady in let i = static.steady in omega arith;
        literal = λ a h. let i = only a h in (test_loads m a k i.0, let j = plain.stores in let x = i.1 in omega arith);
        weight = let h = plain.weight in let i = static.weight in omega arith;
        loads = let h = plain.loads in let i = static.loads in omega arith;
        stores = let h = plain.stores in let i = static.stores in omega arith;
      }
    where
      test_loads : (m : Endian) (a : ℕ) (k : Condition) → other_loads m a list ≡ 0 → other_loads m a (If (lifts.test k) list Empty Empty) ≡ 0
      test_loads m a Eq h = rw h refl
      test_loads m a Ne h = rw h refl
      test_loads m a Cs h = rw h refl
      test_loads m a Cc h = rw h refl
      test_loads m a Mi h = rw h refl
      test_loads m a Pl h = rw h refl
      test_loads m a Vs h = rw h refl
      test_loads m a Vc h = rw h refl
      test_loads m a Hi h = rw h refl
      test_loads m a Ls h = rw h refl
      test_loads m a Ge h = rw h refl
      test_loads m a Lt h = rw h refl
      test_loads m a Gt h = rw h refl
      test_loads m a Le h = rw h refl
      test_loads m a Al h = rw h refl

  -- the list of a row whose condition always holds
  always : 14 ≡ condition_code w → IsLifting (arm m V4) RRegisters row at list
  always code =
      let ever : is_always w ≡ true = ap (λ n. n == 14) (sym code) in
      record {
        simulates = λ s is here c turns few k. rw ever (runs s is here c turns few k);
        stored = λ s is here c turns few k a. same _ _ a (places s is here (rw ever refl) c turns k);
        typed = static.typed 0;
        no_loop = static.no_loop;
        no_special = static.no_special;
        nests = let h = static.nests in omega arith;
        names = static.names m;
        assigns = λ f few h. absurd (let g = static.assigns f in cc);
        surely = λ f few h. absurd (never_sure (is_always w) h);
        reads = λ f few. static.reads f (condition_reads condition_flags (condition_code w) f || reads f) (not (is_always w && false)) (more _ _);
        reads_first = λ f few. static.reads_first f;
        draws = λ d. let i = static.unknowns in let k = drawn d in omega arith;
        picks = static.picks;
        steady = static.steady;
        literal = only;
        weight = let i = static.weight in omega arith;
        loads = let i = static.loads in omega arith;
        stores = let i = static.stores in omega arith;
      }

  -- the list of a row
  pub conditional_lifting : (k : Condition) → condition_number k ≡ condition_code w → IsLifting (arm m V4) RRegisters row at (lifts.conditional k list)
  conditional_lifting Eq h = tested Eq h
  conditional_lifting Ne h = tested Ne h
  conditional_lifting Cs h = tested Cs h
  conditional_lifting Cc h = tested Cc h
  conditional_lifting Mi h = tested Mi h
  conditional_lifting Pl h = tested Pl h
  conditional_lifting Vs h = tested Vs h
  conditional_lifting Vc h = tested Vc h
  conditional_lifting Hi h = tested Hi h
  conditional_lifting Ls h = tested Ls h
  conditional_lifting Ge h = tested Ge h
  conditional_lifting Lt h = tested Lt h
  conditional_lifting Gt h = tested Gt h
  conditional_lifting Le h = tested Le h
  conditional_lifting Al h = always h
