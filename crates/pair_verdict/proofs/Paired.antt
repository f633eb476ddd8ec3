-- Starts of two functions and the readings that they follow: a difference of one is a difference of the other.
use Rattle.std.proofs.Common.{◌≡◌, ℕ, zero, suc, ◌<◌, refl, ap, sym, ◌∙◌, subst, arith, List, Some, None}
use Rattle.word_spec.specs.State.{State}
use Rattle.bilv_spec.specs.Run.{Program, Run, Place, Going, Exited, Failed, Turned, run, one_more, step, IsOver}
use Rattle.machine_spec.specs.Endings.{Start}
use Rattle.bilv_spec.specs.Verdict.{IsEntryState}
use Rattle.bilv_spec.specs.Questions.{Reading, by_file, point_of}
use Rattle.bilv_spec.specs.QuestionLaws.{Follows}
use Rattle.bilv_spec.specs.PointLaws.{HasLawfulRows, ReadsMemory}
use Rattle.bilv_spec.proofs.ReadingRuns.{followed}
use Rattle.bilv_spec.proofs.FileWords.{every, Sound, Standing, runs_by_file, step_in, step_same, stepped_in}
use Rattle.call_spec.specs.Calls.{PairQuestion, PairOfStates, DifferenceOfExits}
use Rattle.pair_spec.specs.Links.{Link, differing_line}
use Rattle.pair_spec.specs.Pairs.{ExitsIn, IsLinkedPair, ArePairedStarts, AreDifferent, Readings, PairEndsBy, ReadingExitsIn, ReadingsDiffer, IsTrueOfPair, IsSatisfiablePair}
use Rattle.pair_spec.proofs.ExitStates.{in_exited, one_state}
use Rattle.pair_verdict.proofs.StartReading.{reading_of, reading_small, reading_follows}

-- a run exits as that of the words of the file does
module _ (p : Program) (lawful : HasLawfulRows p) (memory : ReadsMemory p) (k : ℕ) (start : Start) (entry : IsEntryState p start.state) where
  same : (n : ℕ) → run p k start n ≡ run (by_file p) k start n
  same n = runs_by_file p lawful memory k start entry n

  abbrev Stands : Run → Type 0
  Stands = Standing (Sound p every) k

  one : (x : Run) → Stands x → Stands (one_more (by_file p) k start x)
  one (Going turns n c) h = stepped_in (Sound p every) k turns n c.state.pc (step (by_file p) start.state c (start.choices n))
      (step_in p every lawful start.state c (start.choices n) h)
  one (Exited at n) h = tt
  one (Failed e at n) h = tt
  one (Turned at n) h = tt

  stands : (n : ℕ) → Stands (run (by_file p) k start n)
  unfolding run
  stands zero = ((λ a c l e k q. entry.kept_bytes a c l e k), entry.state)
  stands (suc n) = one (run (by_file p) k start n) (stands n)

  steps : (turns n : ℕ) (c : Place) → run (by_file p) k start n ≡ Going turns n c →
      step p start.state c (start.choices n) ≡ step (by_file p) start.state c (start.choices n)
  steps turns n c e = step_same p memory c.state (subst Stands e (stands n)).0 start.state c.stack (start.choices n)

  exits_to_file : (at n : ℕ) (s : State) → ExitsIn p k start at n s → ExitsIn (by_file p) k start at n s
  exits_to_file at n s e =
      let before = sym (same n) ∙ e.before in
      record { turns = e.turns; place = e.place; before = before; at_is = e.at_is; leaves = sym (steps e.turns n e.place before) ∙ e.leaves }

  exits_from_file : (at n : ℕ) (s : State) → ExitsIn (by_file p) k start at n s → ExitsIn p k start at n s
  exits_from_file at n s e =
      record { turns = e.turns; place = e.place; before = same n ∙ e.before; at_is = e.at_is; leaves = steps e.turns n e.place e.before ∙ e.leaves }

  -- it is over after the step by which it exits
  over_by_file : (at n : ℕ) (s : State) → ExitsIn p k start at n s → IsOver (run (by_file p) k start (suc n))
  over_by_file at n s e = subst IsOver (sym (in_exited p k start at n s e) ∙ same (suc n)) tt

  -- the run of a reading that the start follows exits in the same state
  module _ (r : Reading) (f : Follows p k r start) where
    to_reading : (at n : ℕ) (s : State) → ExitsIn p k start at n s → ReadingExitsIn p k r s
    to_reading at n s exits =
        let e = exits_to_file at n s exits in
        record {
          number = n;
          turns = e.turns;
          place = e.place;
          before = sym (followed p k r start f n) ∙ e.before;
          leaves = ap (λ z. step (by_file p) r.state e.place z) (sym (f.choices n e.turns e.place e.before))
              ∙ ap (λ z. step (by_file p) z e.place (start.choices n)) (sym f.state) ∙ e.leaves;
        }

    from_reading : (s : State) → ReadingExitsIn p k r s → (at : ℕ) × (n : ℕ) × ExitsIn p k start at n s
    from_reading s e =
        let before = followed p k r start f e.number ∙ e.before in (
          e.place.state.pc,
          e.number,
          exits_from_file e.place.state.pc e.number s (record {
            turns = e.turns;
            place = e.place;
            before = before;
            at_is = refl;
            leaves = ap (λ z. step (by_file p) start.state e.place z) (f.choices e.number e.turns e.place before)
                ∙ ap (λ z. step (by_file p) z e.place (r.choice (point_of e.turns e.place))) f.state ∙ e.leaves;
          }),
        )

module _ (a b : Program) (lawful : HasLawfulRows a) (rows : HasLawfulRows b) (memory : ReadsMemory a) (reads : ReadsMemory b) (k : ℕ) (links : List Link) where
  -- linked entry states are those of some readings
  pub linked_is_satisfiable : (s t : State) → IsLinkedPair a b links s t → IsSatisfiablePair a b k links PairOfStates
  linked_is_satisfiable s t h = (
    record { first = record { state = s; choice = λ q. 0 }; second = record { state = t; choice = λ q. 0 } },
    record { first_choice = λ q. omega arith; second_choice = λ q. omega arith; pair = h; ends = tt },
  )

  -- linked starts whose runs exit in states that differ are those of some readings
  pub different_is_satisfiable : AreDifferent a b k links → IsSatisfiablePair a b k links DifferenceOfExits
  different_is_satisfiable (x, y, line, m, n, pair, apart) =
      let over = over_by_file a lawful memory k x pair.first.entry apart.first_at m apart.first_state apart.first in
      let ends = over_by_file b rows reads k y pair.second.entry apart.second_at n apart.second_state apart.second in
      let r : Readings = record { first = reading_of a k x (suc m); second = reading_of b k y (suc n) } in (
        r,
        record {
          first_choice = reading_small a k x (suc m) pair.first.choices;
          second_choice = reading_small b k y (suc n) pair.second.choices;
          pair = record { first = pair.first.entry; second = pair.second.entry; linked = pair.linked };
          ends = record {
            line = line;
            first_state = apart.first_state;
            second_state = apart.second_state;
            first = to_reading a lawful memory k x pair.first.entry r.first (reading_follows a k x (suc m) over) apart.first_at m apart.first_state apart.first;
            second =
                to_reading b rows reads k y pair.second.entry r.second (reading_follows b k y (suc n) ends) apart.second_at n apart.second_state apart.second;
            apart = apart.apart;
          };
        },
      )

  -- starts that follow readings of which a question about both is true
  module _ (r : Readings) (question : PairQuestion) (is : IsTrueOfPair a b k links r question) (x y : Start) (f : Follows a k r.first x)
      (g : Follows b k r.second y) where
    pub first_entry : IsEntryState a x.state
    first_entry = subst (IsEntryState a) (sym f.state) is.pair.first

    pub second_entry : IsEntryState b y.state
    second_entry = subst (IsEntryState b) (sym g.state) is.pair.second

    pub are_linked : IsLinkedPair a b links x.state y.state
    are_linked =
        subst (λ (s : State). IsLinkedPair a b links s y.state) (sym f.state)
        (subst (λ (t : State). IsLinkedPair a b links r.first.state t) (sym g.state) is.pair)

    pub are_paired : ((i : ℕ) → x.choices i < 4) → ((i : ℕ) → y.choices i < 4) → ArePairedStarts a b links x y
    are_paired small few = record {
      first = record { entry = first_entry; choices = small };
      second = record { entry = second_entry; choices = few };
      linked = are_linked.linked;
    }

    -- where their runs exit, those states differ
    pub exits_differ : question ≡ DifferenceOfExits → (first_at m second_at n : ℕ) (s t : State) → ExitsIn a k x first_at m s → ExitsIn b k y second_at n t →
        differing_line links s t ≡ None → ⊥
    exits_differ e first_at m second_at n s t out leaves alike =
        let d : ReadingsDiffer a b k links r = subst (PairEndsBy a b k links r) e is.ends in
        let one = from_reading a lawful memory k x first_entry r.first f d.first_state d.first in
        let two = from_reading b rows reads k y second_entry r.second g d.second_state d.second in
        let first = (one_state a k x one.0 one.1 first_at m d.first_state s one.2 out).1 in
        let second = (one_state b k y two.0 two.1 second_at n d.second_state t two.2 leaves).1 in
        let both : Some d.line ≡ None =
        sym d.apart ∙ ap (λ z. differing_line links z d.second_state) first ∙ ap (λ z. differing_line links s z) second ∙ alike in
        absurd (cc)
