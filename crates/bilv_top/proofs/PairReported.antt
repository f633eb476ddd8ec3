-- The report of a verdict on two functions is right.
use Rattle.std.proofs.Common.{◌≡◌, ◌∙◌, List, refl, subst, sym}
use Rattle.call_spec.specs.Calls.{Answer, Budget, Count, Evidence}
use Rattle.pair_spec.specs.Equals.{Side, PairReport, IsPairReported, IsRightPair, pair_status, pair_text}
use Rattle.pair_spec.specs.Links.{Link}
use Rattle.pair_verdict.specs.Verdicts.{evidence_of, exceeded_report, report_of}
use Rattle.pair_verdict.specs.declared.verdicts.PairVerdict.{PairVerdict}
use Rattle.pair_verdict.specs.declared.verdicts.PairVerdict.TheVariants.{Exceeded}
use Rattle.verdict.specs.Verdicts.{exceeded_count}
use Rattle.verdict.specs.declared.verdicts.Exceeded as past
use Rattle.verdict.specs.declared.verdicts.Exceeded.TheVariants.{Points, Size}
use Rattle.bilv_top.specs.Answers.{exceeded_answer}

-- the report that a budget is exceeded
abbrev reported : Side → Side → Budget → PairReport → Evidence → Answer
reported x y b report e = record { status = pair_status report; text = pair_text x y b report e; evidence = e }

as_pair_report : (x y : Side) (b : Budget) (e : past.Exceeded) → exceeded_answer b e ≡ reported x y b (exceeded_report e) (Count (exceeded_count e))
as_pair_report x y b (Points count) = refl
as_pair_report x y b (Size price) = refl

pub pair_exceeded : (x y : Side) (b : Budget) (v : PairVerdict) (e : past.Exceeded) (a : Answer) → v ≡ Exceeded e → a ≡ exceeded_answer b e →
    a ≡ reported x y b (report_of v) (evidence_of v)
pair_exceeded x y b v e a same is = subst (λ w. a ≡ reported x y b (report_of w) (evidence_of w)) (sym same) (is ∙ as_pair_report x y b e)

-- the report of a right verdict
pub pair_reported : (a b : Side) (links : List Link) (budget : Budget) (v : PairVerdict) (x : Answer) →
    IsRightPair a b links budget (report_of v) (evidence_of v) →
    x ≡ record { status = pair_status (report_of v); text = pair_text a b budget (report_of v) (evidence_of v); evidence = evidence_of v } →
    IsPairReported a b links budget x
pair_reported a b links budget v x right is = (report_of v, evidence_of v, right, is)
