-- What the questions within a smaller bound come to holds for the budget's bound.
use Rattle.std.proofs.Common.{◌≡◌, refl, sym, ap, subst, ◌∙◌, ℕ, ◌≤◌, ◌^◌, Bool, true, false, List, [], ◌∷◌, arith}
use Rattle.std.specs.Prelude.{nat_eq, ◌==◌, ◌||◌, Contains, length}
use Rattle.std.specs.List.{list_any}
use Rattle.std.proofs.lemmas.Bool.Decides.{nat_tests}
use Rattle.std.proofs.lemmas.Map.Views.{Contains-from_any}
use Rattle.word_spec.specs.Words.{add}
use Rattle.bilv_spec.specs.Run.{Program}
use Rattle.bilv_spec.specs.PointLaws.{ReadsMemory}
use Rattle.bilv_spec.specs.Answers.{IsWithin, start_in}
use Rattle.bilv_spec.specs.Evidence.{Refutes}
use Rattle.bilv_spec.specs.Verdict as verdicts
use Rattle.bilv_spec.specs.Verdict.{IsRight, IsStart, RunTurns}
use Rattle.bilv_spec.proofs.Deciding.{questions_are_of_runs}
use Rattle.bilv_spec.proofs.RefutedQuestions.{refuted_is_false}
use Rattle.call_spec.specs.Calls.{EntryQuestion, FailQuestion, TurnQuestion, Question}
use Rattle.machine_spec.specs.Endings as endings
use Rattle.machine_spec.specs.StateText.{Layout}
use Rattle.walk_spec.specs.Unrolled.{UnrolledProgram}
use Rattle.term_spec.specs.WalkQuestions.{is_asked}
use Rattle.term_spec.specs.ClauseForm.{first_byte}
use Rattle.turn_laws.specs.Raised.{over_variables}
use Rattle.turn_laws.proofs.Alike.{fails_rise, holds_falls}
use Rattle.turn_laws.proofs.Raising.{both_rise, rises}
use Rattle.cnf_form.specs.Views.{proof_of}
use Rattle.cnf_form.specs.declared.form.Proof.{Proof}
use Rattle.question_form.specs.Views.{unrolled_of}
use Rattle.question_form.specs.declared.unrolled.Unrolled.{Unrolled}
use Rattle.start_value.specs.Starts.{written_of}
use Rattle.start_value.specs.declared.start.Start.{Start}
use Rattle.verdict.specs.FewerTurns.{AreNoTurnsBy, IsEnough, IsJudged, IsSettledBy, IsSmaller}
use Rattle.verdict.specs.Grounds.{Answers, AnswersOver, IsAnsweredOver, IsGround, IsShownBy}
use Rattle.verdict.specs.Measures.{IsUnrolledOf}
use Rattle.verdict.specs.Rounds.{IsDecided}
use Rattle.verdict.specs.Verdicts.{IsVerdict, budget_of}
use Rattle.verdict.specs.declared.deciding.Decided.{Decided}
use Rattle.verdict.specs.declared.early.Early.{Early}
use Rattle.verdict.specs.declared.early.Early.TheVariants as early
use Rattle.verdict.specs.declared.early.NoTurns.{NoTurns}
use Rattle.verdict.specs.declared.early.NoTurns.TheVariants as none
use Rattle.verdict.specs.declared.verdicts.Judged.{Judged}
use Rattle.verdict.specs.declared.verdicts.Verdict.{Verdict}
use Rattle.verdict.specs.declared.verdicts.Answered.{Answered}
use Rattle.verdict.specs.declared.verdicts.Answered.TheVariants.{Sat, Refuted}
use Rattle.call_form.specs.declared.budget.Budget.{Budget}
use Rattle.verdict.specs.declared.verdicts.Verdict.TheVariants.{Holds, Vacuous}
use Rattle.verdict.proofs.Adding.{answered, of_decided}
use Rattle.asked_bytes.proofs.Adding.{any_contained}
use Rattle.verdict.proofs.Grounding.{count_points}
use Rattle.verdict.proofs.Judging.{holds, vacuous}

nat_same : (x y : ℕ) → nat_eq x y ≡ true → x ≡ y
nat_same x y e = grind (arith, nat_tests)

-- what more is asked is asked
or_left : (a b c : Bool) → (a ≡ true → c ≡ true) → (a || b) ≡ true → (c || b) ≡ true
or_left true b true f h = refl
or_left true b false f h = absurd (let e : false ≡ true = f refl in cc)
or_left false true true f h = refl
or_left false true false f h = refl
or_left false false c f h = absurd (cc)

asks_more : (few many literals : List ℕ) → ((a : ℕ) → Contains few a → Contains many a) → (a : ℕ) → is_asked few literals a ≡ true →
    is_asked many literals a ≡ true
asks_more few many literals keep a h =
    or_left (list_any (nat_eq a) few) (list_any (λ l. list_any (λ i. a == add 32 l i) (0 ∷ 1 ∷ 2 ∷ 3 ∷ [])) literals) (list_any (nat_eq a) many)
    (λ e. any_contained many a (keep a (Contains-from_any nat_same a few e))) h

-- the answer over some bytes, in one of its forms
over : (u : UnrolledProgram) (question : Question) (added : List ℕ) (conflicts : ℕ) (a c : Answered) → AnswersOver u question added conflicts a → a ≡ c →
    (p : Program) (k : ℕ) (layout : Layout) → ReadsMemory p → IsGround p k layout u →
    IsAnsweredOver p k layout question (is_asked added u.literals) conflicts c
over u question added conflicts a c h e p k layout reads g =
    subst (IsAnsweredOver p k layout question (is_asked added u.literals) conflicts) e (h p k layout reads g)

-- a refutation is over what was asked
pub refuted_asked : (u : UnrolledProgram) (question : Question) (conflicts : ℕ) (first : List ℕ) (d : Decided) (t : Proof) →
    IsDecided u question conflicts first d → d.answered ≡ Refuted t → AnswersOver u question d.asked.items conflicts (Refuted t)
refuted_asked u question conflicts first d t h e = subst (AnswersOver u question d.asked.items conflicts) e h.answers

-- where the turn question is refuted, no run makes more backward transfers
pub enough : (p : Program) → ReadsMemory p → (layout : Layout) (u : UnrolledProgram) (asked : List ℕ) (conflicts : ℕ) (t : Proof) →
    AnswersOver u TurnQuestion asked conflicts (Refuted t) → IsEnough p layout u
enough p reads layout u asked conflicts t h k ground start is turns =
    refuted_is_false p k TurnQuestion (proof_of t) (h p k layout reads ground).refutes
    ((questions_are_of_runs p ground.lawful reads k TurnQuestion).1 (start, is, turns))

-- whatever else the questions say
pub none_by : (Enough : Type 0) → Enough → (n : NoTurns) → AreNoTurnsBy Enough n
none_by Enough h (none.Refuted fail turn) = h
none_by Enough h (none.Fails start) = h
none_by Enough h none.Turns = tt
none_by Enough h none.Spent = tt

pub settled_by : (Enough Less : Type 0) → (Enough → Less) → (e : Early) → IsSettledBy Enough e → IsSettledBy Less e
settled_by Enough Less f (early.Settled v) h = f h
settled_by Enough Less f early.Turns h = tt
settled_by Enough Less f early.Open h = tt

-- the verdict that a smaller bound settles
pub early_judged : (p : Program) (layout : Layout) (b : Budget) (turns : ℕ) (v : Verdict) → IsVerdict p layout b v → turns ≤ b.unroll →
    ((start : endings.Start) → IsStart p start → ¬ RunTurns p turns start) → IsJudged p layout b (record { verdict = v; turns = turns })
early_judged p layout b turns v is few none =
    record { verdict = is; few = few; holds = holds_falls p turns b.unroll few none }

-- so few points that inputs can be counted
pub few_points : (p : Program) (layout : Layout) (b : Budget) (whole : Unrolled) → IsUnrolledOf p layout (budget_of b) whole → b.points ≤ 16777216 →
    length whole.points.items ≤ 2 ^ 28
few_points p layout b whole w most = let few = w.few in let same = count_points whole whole.points.items in omega (arith, few, same, most)

module _ (p : Program) (layout : Layout) (b : Budget) (u : UnrolledProgram) (small : IsSmaller p b.unroll layout u) where
  -- a start that fails within the smaller bound fails
  pub early_fails : ReadsMemory p → (first : List ℕ) (d : Decided) (s : Start) → IsDecided u FailQuestion b.conflicts first d → d.answered ≡ Sat s →
      IsShownBy p b.unroll layout FailQuestion s
  early_fails reads first d s h e =
      let f = answered u FailQuestion b.conflicts d.answered (Sat s) (of_decided u FailQuestion b.conflicts first d h) e p small.turns layout reads small.ground in
      (f.0, (f.1.0, fails_rise p small.turns b.unroll small.few (start_in p layout (written_of s)) f.1.1))

  module _ (whole : Unrolled) (w : IsUnrolledOf p layout (budget_of b) whole) (inputs : ℕ) (is : inputs ≡ first_byte (unrolled_of whole)) where
    -- where no run makes more backward transfers, the refutations of both questions are those for the budget's bound
    pub early_refuted : ReadsMemory p → (asked : List ℕ) (fails : Decided) (t f t' f' : Proof) → AnswersOver u TurnQuestion asked b.conflicts (Refuted t) →
        IsDecided u FailQuestion b.conflicts asked fails → fails.answered ≡ Refuted f →
        proof_of t' ≡ over_variables inputs (proof_of t) → proof_of f' ≡ over_variables inputs (proof_of f) →
        Refutes p b.unroll FailQuestion (proof_of f') × Refutes p b.unroll TurnQuestion (proof_of t')
    early_refuted reads asked fails t f t' f' ht hf ef st sf =
        let rt = ht p small.turns layout reads small.ground in
        let rf = over u FailQuestion fails.asked.items b.conflicts fails.answered (Refuted f) hf.answers ef p small.turns layout reads small.ground in
        let both = both_rise p small.turns b.unroll small.few (proof_of t) (proof_of f) rt.refutes rf.refutes
        (λ a ask. ap (λ (z : ℕ → Bool). z a) rf.over ∙ asks_more asked fails.asked.items u.literals hf.keep a
        (ap (λ (z : ℕ → Bool). z a) (sym rt.over) ∙ ask))
        (unrolled_of whole) w.ground.unrolling w.ground.fitting in (
          subst (Refutes p b.unroll FailQuestion) (ap (λ z. over_variables z (proof_of f)) (sym is) ∙ sym sf) both.0,
          subst (Refutes p b.unroll TurnQuestion) (ap (λ z. over_variables z (proof_of t)) (sym is) ∙ sym st) both.1,
        )

    -- so is that of the entry question
    pub early_vacuous : ReadsMemory p → IsWithin p (budget_of b) → 1 ≤ b.points → (a : Answered) (proof proof' : Proof) →
        Answers u EntryQuestion b.conflicts a → a ≡ Refuted proof → proof_of proof' ≡ over_variables inputs (proof_of proof) →
        IsVerdict p layout b (Vacuous proof')
    early_vacuous reads within some a proof proof' h e same =
        let r = answered u EntryQuestion b.conflicts a (Refuted proof) h e p small.turns layout reads small.ground in
        vacuous p w.ground.lawful reads layout (budget_of b) within some (proof_of proof')
        (subst (Refutes p b.unroll EntryQuestion) (ap (λ z. over_variables z (proof_of proof)) (sym is) ∙ sym same)
        (rises p small.turns b.unroll small.few EntryQuestion (proof_of proof) r tt (unrolled_of whole) w.ground.unrolling w.ground.fitting))

  -- where there is an entry state, it holds
  pub early_holds : ReadsMemory p → IsWithin p (budget_of b) → 1 ≤ b.points → (a : Answered) (s : Start) (fail turn : Proof) →
      Answers u EntryQuestion b.conflicts a → a ≡ Sat s → Refutes p b.unroll FailQuestion (proof_of fail) → Refutes p b.unroll TurnQuestion (proof_of turn) →
      IsVerdict p layout b (Holds s fail turn)
  early_holds reads within some a s fail turn h e f t =
      let r = answered u EntryQuestion b.conflicts a (Sat s) h e p small.turns layout reads small.ground in
      holds p small.ground.lawful reads layout (budget_of b) within some (written_of s) r.0 r.1
      (proof_of fail) (proof_of turn) f t
