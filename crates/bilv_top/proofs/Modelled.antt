-- What is answered to the values of an outside solver.
use Rattle.std.proofs.Common.{◌≡◌, ◌≤◌, ◌<◌, ℕ, List, [], ◌∷◌, ◌++◌, Option, Some, None, length, ap, sym, subst, ◌∙◌}
use Rattle.std.specs.Prelude.{codes}
use Rattle.word_spec.specs.Texts.{line, spaced, number_text}
use Rattle.clause_spec.specs.Checks.{text_limit}
use Rattle.machine_spec.specs.StateText.{Layout}
use Rattle.call_spec.specs.Calls.{Answer, Budget, Count, Question, RunOf, Surroundings, AfterRead, plain_answer, read_failed, was_read}
use Rattle.bilv_spec.specs.Answers.{budget_text}
use Rattle.bilv_spec.specs.Points.{HasMore, IsPrice}
use Rattle.bilv_spec.specs.Questions.{Reading}
use Rattle.bilv_spec.specs.Run.{Program}
use Rattle.model_spec.specs.ModelText.{ModelFault}
use Rattle.model_spec.specs.Models as models
use Rattle.model_spec.specs.Models.{AfterBudgets, IsAskedModelAnswer, IsFalseModelAnswer, IsModelAnswer, ending_text, model_fault_words}
use Rattle.program_points.specs.Listed.{IsTooMany}
use Rattle.program_points.specs.declared.values.PointsFault.TheVariants.{TooMany}
use Rattle.start_value.specs.Starts.{written_of}
use Rattle.start_value.specs.declared.start.Start.{Start}
use Rattle.model_verdict.specs.Judgements.{IsAccepted, IsJudged, IsRead, IsRefused, IsUntrue}
use Rattle.model_verdict.specs.Runs.{ending_of}
use Rattle.model_verdict.specs.declared.judged.End.{End}
use Rattle.model_verdict.specs.declared.judged.Judged.{Judged}
use Rattle.bilv_top.specs.Due.{IsUnread, failed, longer}

-- ---- what the text of values is judged to be

module _ (p : Program) (layout : Layout) (b : Budget) (q : Question) (text : List ℕ) (short : length text ≤ text_limit) (a : Answer) where
  pub refusal_said : (n : ℕ) (f : ModelFault) (words : List ℕ) → words ≡ model_fault_words f →
      a ≡ plain_answer 9 (line (codes "model: line" ++ spaced (number_text n ∷ words ∷ []))) → IsRefused p layout b.unroll text n f →
      IsModelAnswer p layout b q text a
  refusal_said n f words same is came =
      models.refused n f short came.are_numbered came.are_declared came.is_fault
      (is ∙ ap (λ w. plain_answer 9 (line (codes "model: line" ++ spaced (number_text n ∷ w ∷ [])))) same)

  pub untrue_said : a ≡ plain_answer 9 (line (codes "model: false")) → IsUntrue p layout b.unroll q text → IsModelAnswer p layout b q text a
  untrue_said is came =
      models.untrue came.reading short came.is_read.are_numbered came.is_read.are_declared came.is_read.is_answer came.is_read.is_reading came.untrue is

  pub accepted_said : (end : End) (start : Start) → a ≡ record {
    status = 0;
    text = line (codes "accepted") ++ ending_text layout b (ending_of end) (written_of start);
    evidence = RunOf (written_of start);
  } → IsAccepted p layout b.unroll q text end start → IsModelAnswer p layout b q text a
  accepted_said end start is came =
      models.accepted came.reading (written_of start) (ending_of end) short came.is_read.are_numbered came.is_read.are_declared came.is_read.is_answer
      came.is_read.is_reading came.is_true came.shown.ends came.shown.printed is

-- where another question is asked, which is true of no reading
module _ (p : Program) (layout : Layout) (b : Budget) (text : List ℕ) (short : length text ≤ text_limit) (a : Answer) where
  pub false_refusal_said : (n : ℕ) (f : ModelFault) (words : List ℕ) → words ≡ model_fault_words f →
      a ≡ plain_answer 9 (line (codes "model: line" ++ spaced (number_text n ∷ words ∷ []))) → IsRefused p layout b.unroll text n f →
      IsFalseModelAnswer p layout b text a
  false_refusal_said n f words same is came =
      models.faulty n f short came.are_numbered came.are_declared came.is_fault
      (is ∙ ap (λ w. plain_answer 9 (line (codes "model: line" ++ spaced (number_text n ∷ w ∷ [])))) same)

  pub never_said : (r : Reading) → a ≡ plain_answer 9 (line (codes "model: false")) → IsRead p layout b.unroll text r → IsFalseModelAnswer p layout b text a
  never_said r is read = models.never_true short read.are_numbered read.are_declared read.is_answer is

-- in the form of a machine
pub said_in : (p : Program) (b : Budget) (q : Question) (text : List ℕ) (a : Answer) (written form : Layout) (j : Judged) → written ≡ form →
    IsJudged p form b.unroll q text j → (IsJudged p written b.unroll q text j → IsModelAnswer p written b q text a) → IsModelAnswer p form b q text a
said_in p b q text a written form j same came said =
    subst (λ l. IsModelAnswer p l b q text a) same (said (subst (λ l. IsJudged p l b.unroll q text j) (sym same) came))

-- values that were not read
pub model_unread : (s : Surroundings) (name : List ℕ) (p : Program) (layout : Layout) (b : Budget) (q : Option Question) (a : Answer) →
    IsUnread (s.held name) (s.shelf_before name) (s.shelf_after name) text_limit (plain_answer 9 (line (codes "model: TooLarge"))) a →
    AfterRead s name (IsAskedModelAnswer p layout b q) a
model_unread s name p layout b q a (failed rose is) = read_failed rose is
model_unread s name p layout b None a (longer long is) = was_read long.0 long.1 (models.too_large long.2 is)
model_unread s name p layout b (Some kind) a (longer long is) = was_read long.0 long.1 (models.large long.2 is)

-- ---- within the budgets

module _ (p : Program) (b : Budget) (Next : Answer → Type 0) (a : Answer) where
  pub points_exceeded : (count : ℕ) → a ≡ record { status = 3; text = budget_text (codes "points") b.points; evidence = Count count } →
      IsTooMany p b.unroll b.points (TooMany count) → AfterBudgets p b Next a
  points_exceeded count is came =
      models.points came.0 (is ∙ ap (λ n. record { status = 3; text = budget_text (codes "points") b.points; evidence = Count n }) came.1)

  pub size_exceeded : (price : ℕ) → a ≡ record { status = 3; text = budget_text (codes "size") b.size; evidence = Count price } →
      (¬ HasMore p b.unroll b.points) × IsPrice p b.unroll price × (b.size < price) → AfterBudgets p b Next a
  size_exceeded price is came = models.size price came.0 came.1 came.2 is
