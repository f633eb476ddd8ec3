-- What the verdict on a function says where its points and its price are within the budget, and what both come to.
use Rattle.std.proofs.Common.{◌≡◌, ℕ, subst}
use Rattle.bilv_spec.specs.Answers.{IsWithin, IsRightReport}
use Rattle.call_spec.specs.Calls.{Budget as Budgets}
use Rattle.cnf_form.specs.declared.form.Proof.{Proof}
use Rattle.links_lang.specs.Views.{links_of}
use Rattle.pair_sides.specs.Sides.{program_of_side, side_of}
use Rattle.pair_sides.specs.declared.sides.Sided.{Sided}
use Rattle.pair_spec.specs.Equals.{AreWithin, HoldsBy, IsOther}
use Rattle.start_value.specs.Starts.{layout_of}
use Rattle.start_value.specs.declared.start.Start.{Start}
use Rattle.verdict.specs.Verdicts as sides
use Rattle.verdict.specs.Verdicts.{IsVerdict, budget_of}
use Rattle.call_form.specs.declared.budget.Budget.{Budget}
use Rattle.verdict.specs.declared.verdicts.Exceeded as past
use Rattle.verdict.specs.declared.verdicts.Exceeded.TheVariants.{Points, Size}
use Rattle.verdict.specs.declared.verdicts.Verdict.{Verdict}
use Rattle.verdict.specs.declared.verdicts.Verdict.TheVariants as verdict
use Rattle.pair_verdict.specs.Settled.{IsSettled}
use Rattle.pair_verdict.specs.Sides.{HoldsWithin, IsSideVerdict, IsVerdictOf, first_program, second_program}
use Rattle.pair_verdict.specs.Verdicts.{holding_of}
use Rattle.pair_verdict.specs.declared.pairs.Pair.{Pair}
use Rattle.pair_verdict.specs.declared.settling.Settled.TheVariants as settled
use Rattle.pair_verdict.specs.declared.sides.SideVerdict.{SideVerdict}
use Rattle.pair_verdict.specs.declared.sides.SideVerdict.TheVariants.{Holds, Other}
use Rattle.pair_verdict.specs.declared.verdicts.Holding.{Holding}
use Rattle.pair_verdict.specs.declared.verdicts.PairVerdict.TheVariants as pair
use Rattle.pair_verdict.proofs.PairPoints.{not_size}

module _ (s : Sided) (b : Budget) (within : IsWithin (program_of_side s) (budget_of b)) (v : Verdict)
    (is : IsVerdict (program_of_side s) (layout_of s.layout) b v) where
  -- no budget is exceeded within the budgets
  never : (e : past.Exceeded) → IsVerdict (program_of_side s) (layout_of s.layout) b (verdict.Exceeded e) → ⊥
  never (Points count) h = within.points h.0
  never (Size price) h = not_size (program_of_side s) (layout_of s.layout) (budget_of b) within price h

  pub never_exceeded : (e : past.Exceeded) → v ≡ verdict.Exceeded e → ⊥
  never_exceeded e same = never e (subst (IsVerdict (program_of_side s) (layout_of s.layout) b) same is)

-- what a side came to
module _ (s : Sided) (b : Budgets) (v : SideVerdict) (is : IsSideVerdict s b v) where
  pub came_holds : (h : Holding) (turns : ℕ) → v ≡ Holds h turns → HoldsBy (side_of s) b (holding_of h) × HoldsWithin (program_of_side s) b turns
  came_holds h turns e = subst (IsSideVerdict s b) e is

  pub came_other : (w : Verdict) → v ≡ Other w →
      IsOther (sides.report_of w) × IsRightReport (program_of_side s) (layout_of s.layout) b (sides.report_of w) (sides.evidence_of w)
  came_other w e = subst (IsSideVerdict s b) e is

module _ (p : Pair) (within : AreWithin (first_program p) (second_program p) (links_of p.links.now) (budget_of p.budget.now)) where
  pub first_verdict : (v : SideVerdict) → IsSideVerdict p.first.now (budget_of p.budget.now) v → (w : Verdict) → v ≡ Other w → IsVerdictOf p (pair.First w)
  first_verdict v is w e = let o = came_other p.first.now (budget_of p.budget.now) v is w e in (within, o.0, o.1)

  module _ (one : Holding) (first : HoldsBy (side_of p.first.now) (budget_of p.budget.now) (holding_of one)) where
    pub second_verdict : (v : SideVerdict) → IsSideVerdict p.second.now (budget_of p.budget.now) v → (w : Verdict) → v ≡ Other w →
        IsVerdictOf p (pair.Second w)
    second_verdict v is w e = let o = came_other p.second.now (budget_of p.budget.now) v is w e in (within, first.1, o.0, o.1)

    -- both hold, and this is what the questions about both come to
    module _ (two : Holding) (second : HoldsBy (side_of p.second.now) (budget_of p.budget.now) (holding_of two)) where
      pub no_pair : (proof : Proof) → IsSettled p (settled.NoPair proof) → IsVerdictOf p (pair.NoPair proof)
      no_pair proof s = (within, first.1, second.1, s.0, s.1)

      pub conflicts : (question : _) (proof : Proof) → IsSettled p (settled.Conflicts question proof) → IsVerdictOf p (pair.Conflicts question proof)
      conflicts question proof s = (within, first.1, second.1, s.0, s.1)

      pub differs : (n i j : ℕ) (x y : Start) → IsSettled p (settled.Differs n i j x y) → IsVerdictOf p (pair.Differs n i j x y)
      differs n i j x y s = (within, first.1, second.1, s.0, s.1, s.2)

      pub equals : (x y : Start) (proof : Proof) → IsSettled p (settled.Alike x y proof) → IsVerdictOf p (pair.Equal one two x y proof)
      equals x y proof s = (within, first, second, s.0, s.1, s.2, s.3)
