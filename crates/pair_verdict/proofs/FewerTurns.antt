-- What the questions within a smaller bound on backward transfers come to is what they come to for the budget's.
use Rattle.std.proofs.Common.{◌≡◌, sym, ap, subst, ◌∙◌, ℕ, ◌+◌, ◌≤◌}
use Rattle.bilv_spec.specs.PointLaws.{HasLawfulRows, ReadsMemory}
use Rattle.bilv_spec.specs.Run.{Program}
use Rattle.bilv_spec.specs.Verdict as verdicts
use Rattle.bilv_spec.specs.Verdict.{IsRight}
use Rattle.bilv_spec.proofs.Deciding.{questions_decide}
use Rattle.call_spec.specs.Calls.{Budget as Budgets, DifferenceOfExits, PairOfStates}
use Rattle.cnf_form.specs.Views.{proof_of}
use Rattle.cnf_form.specs.declared.form.Proof.{Proof}
use Rattle.links_lang.specs.Views.{links_of}
use Rattle.machine_spec.specs.StateText.{Layout}
use Rattle.pair_spec.specs.PairEvidence.{RefutesPair}
use Rattle.pair_turns.specs.PairBounds.{NoneExceeds}
use Rattle.pair_turns.specs.PairsRaised.{IsFitted}
use Rattle.pair_turns.proofs.PairsAlike.{apart, equal}
use Rattle.pair_turns.proofs.PairsRaising.{rises}
use Rattle.question_form.specs.Views.{unrolled_of}
use Rattle.question_form.specs.declared.unrolled.Unrolled.{Unrolled}
use Rattle.start_value.specs.declared.start.Start.{Start}
use Rattle.term_spec.specs.ClauseForm.{first_byte}
use Rattle.turn_laws.specs.Raised.{over_variables}
use Rattle.turn_laws.proofs.Alike.{right}
use Rattle.verdict.specs.Measures.{IsUnrolledOf}
use Rattle.pair_verdict.specs.Settled.{IsSettled, first_start, second_start}
use Rattle.pair_verdict.specs.Sides.{HoldsWithin, first_program, second_program}
use Rattle.pair_verdict.specs.FewerTurns.{IsSmaller}
use Rattle.pair_verdict.specs.declared.pairs.Pair.{Pair}
use Rattle.pair_verdict.specs.declared.settling.Settled.{Settled}
use Rattle.pair_verdict.specs.declared.settling.Settled.TheVariants.{NoPair, Differs, Alike}

module _ (small great : Pair) (n : ℕ) (h : IsSmaller small great n) where
  abbrev Falls : Settled → Type 0
  Falls s = IsSettled (record great { budget = small.budget }) s

  settled : (s : Settled) → IsSettled small s → Falls s
  settled s is = subst (λ (z : Pair). IsSettled z s) h.same is

  -- a proof over as many variables as there are inputs
  over : (proof raised : Proof) → proof_of raised ≡ over_variables n (proof_of proof) →
      over_variables (first_byte h.first + first_byte h.second) (proof_of proof) ≡ proof_of raised
  over proof raised e = ap (λ z. over_variables z (proof_of proof)) (sym h.inputs_are) ∙ sym e

  pub raised_none : (proof raised : Proof) → proof_of raised ≡ over_variables n (proof_of proof) → IsSettled small (NoPair proof) →
      IsSettled great (NoPair raised)
  raised_none proof raised e is =
      let s = settled (NoPair proof) is in (
        s.0,
        subst (RefutesPair (first_program great) (second_program great) great.budget.now.unroll (links_of great.links.now) PairOfStates) (over proof raised e)
            (rises (first_program great) (second_program great) small.budget.now.unroll great.budget.now.unroll h.few h.first_none h.second_none
            (links_of great.links.now) PairOfStates (proof_of proof) s.1 h.price h.is_price h.first h.second h.first_is h.second_is),
      )

  pub raised_differs : (line i j : ℕ) (x y : Start) → IsSettled small (Differs line i j x y) → IsSettled great (Differs line i j x y)
  raised_differs line i j x y is =
      let s = settled (Differs line i j x y) is in (
        s.0,
        s.1,
        apart small.budget.now.unroll great.budget.now.unroll h.few (first_program great) (second_program great) (links_of great.links.now)
            (first_start great x) (second_start great y) line i j s.2,
      )

  pub raised_alike : (x y : Start) (proof raised : Proof) → proof_of raised ≡ over_variables n (proof_of proof) → IsSettled small (Alike x y proof) →
      IsSettled great (Alike x y raised)
  raised_alike x y proof raised e is =
      let s = settled (Alike x y proof) is in (
        equal small.budget.now.unroll great.budget.now.unroll h.few (first_program great) (second_program great) (links_of great.links.now) s.0,
        s.1,
        s.2,
        subst (RefutesPair (first_program great) (second_program great) great.budget.now.unroll (links_of great.links.now) DifferenceOfExits)
            (over proof raised e)
            (rises (first_program great) (second_program great) small.budget.now.unroll great.budget.now.unroll h.few h.first_none h.second_none
            (links_of great.links.now) DifferenceOfExits (proof_of proof) s.3 h.price h.is_price h.first h.second h.first_is h.second_is),
      )

-- where a program holds within a bound, no run exceeds that
pub none_exceeds : (p : Program) → HasLawfulRows p → ReadsMemory p → (k : ℕ) → IsRight p k verdicts.Holds → NoneExceeds p k
none_exceeds p lawful reads k holds = ((questions_decide p lawful reads k verdicts.Holds).1 holds).2

-- and it holds within each bound from there to the budget's
pub holds_for_more : (p : Program) (b : Budgets) (turns more : ℕ) → turns ≤ more → more ≤ b.unroll → HoldsWithin p b turns → HoldsWithin p b more
holds_for_more p b turns more few least h = record { few = least; holds = right p turns more few verdicts.Holds (λ e. absurd (cc)) h.holds }

pub fitted : (p : Program) (layout : Layout) (b : Budgets) (v : Unrolled) → IsUnrolledOf p layout b v → IsFitted p b.unroll (unrolled_of v)
fitted p layout b v is = record { unrolling = is.ground.unrolling; fitting = is.ground.fitting }
