-- What the questions of the frames of ranks have come to.
use Rattle.std.specs.Prelude.{ℕ, ◌≡◌, true, false, List, [], ◌∷◌, Option, Some, None, map}
use Rattle.std.specs.List.{AllZip}
use Rattle.word_spec.specs.RowFiles.{from_to}
use Rattle.call_spec.specs.Calls.{Budget}
use Rattle.call_form.specs.declared.budget.Budget as budgets
use Rattle.machine_spec.specs.StateText.{Layout}
use Rattle.frame_spec.specs.Frames.{Frame}
use Rattle.frame_spec.specs.FramePoints.{has_heads}
use Rattle.frame_spec.specs.FrameQuestions.{IsDue, StepQuestion}
use Rattle.frame_spec.specs.FrameReports as reports
use Rattle.frame_spec.specs.FrameReports.{AreMade, ByEvent, ByTurn, EndsAs, IsPassed, MakesContractStep, PassBelow, Spends, WrittenHead, last_rank}
use Rattle.frame_spec.specs.FrameVerdict as frames
use Rattle.frame_spec.specs.FrameVerdict.{IsRight, IsStart, Whole, frame_of}
use Rattle.cnf_form.specs.Views.{proof_of}
use Rattle.question_form.specs.Asked.{frame_question}
use Rattle.start_value.specs.Starts.{written_of}
use Rattle.frame_verdict.specs.FrameVerdicts.{IsFrameVerdict, named_of, passed_of}
use Rattle.frame_verdict.specs.ShownEnds.{IsShownAt, begun, shown_of}
use Rattle.frame_verdict.specs.declared.judged.Ended.{Ended}
use Rattle.frame_verdict.specs.declared.judged.Judged.{Judged}
use Rattle.frame_verdict.specs.declared.judged.Judged.TheVariants.{Holds, Partial, Vacuous, Shows, Spent}
use Rattle.frame_verdict.specs.declared.ranking.AllPassing.{AllPassing}
use Rattle.frame_verdict.specs.declared.ranking.AllPassing.TheVariants.{Pass, End}
use Rattle.frame_verdict.specs.declared.ranking.Passing.{Passing}
use Rattle.frame_verdict.specs.declared.ranking.Passing.TheVariants.{Passes, Ends}
use Rattle.frame_verdict.specs.declared.verdicts.Passed.{Passed}

-- the right verdict of a frame, by the head state and the end of a segment that shows it
abbrev pub IsVerdictBy : Frame → ℕ → Option WrittenHead → reports.Named → Type 0
IsVerdictBy f k None (ByEvent e at step) = IsRight f k frames.Fails
IsVerdictBy f k (Some h) (ByEvent e at step) = IsRight f k frames.NotInductive
IsVerdictBy f k h (ByTurn at step) = IsRight f k frames.Unroll

-- a segment shows the right verdict of the frame of a rank, with its contract steps
pub record IsShownEnd (w : Whole) (rank k : ℕ) (layout : Layout) (e : Ended) : Type 0 where
  pub shown : IsShownAt w rank layout (shown_of e.shown)
  pub start : IsStart (frame_of w rank) k (begun w rank layout (shown_of e.shown))
  pub ends : EndsAs (frame_of w rank) k (begun w rank layout (shown_of e.shown)) (named_of e.ending)
  pub made : AreMade (frame_of w rank) k (begun w rank layout (shown_of e.shown)) (shown_of e.shown).calls
  pub called : e.called ≡ true → MakesContractStep (frame_of w rank) k (begun w rank layout (shown_of e.shown))
  pub uncalled : e.called ≡ false → ¬ MakesContractStep (frame_of w rank) k (begun w rank layout (shown_of e.shown))
  pub verdict : IsVerdictBy (frame_of w rank) k (shown_of e.shown).head (named_of e.ending)

-- What the questions of the frame of a rank come to, and what shows it.
abbrev pub IsJudged : Whole → (rank : ℕ) → Layout → Budget → Judged → Type 0
IsJudged w rank layout b (Holds start fail turn) =
    IsRight (frame_of w rank) b.unroll frames.Holds
    × IsPassed layout b.unroll (frame_of w rank) (reports.Refutations (written_of start) (proof_of fail ∷ proof_of turn ∷ []))
IsJudged w rank layout b (Partial start fail step turn) =
    IsRight (frame_of w rank) b.unroll frames.Partial
    × IsPassed layout b.unroll (frame_of w rank) (reports.Refutations (written_of start) (proof_of fail ∷ proof_of step ∷ proof_of turn ∷ []))
IsJudged w rank layout b (Vacuous proof) = IsPassed layout b.unroll (frame_of w rank) (reports.EntryRefuted (proof_of proof))
IsJudged w rank layout b (Shows e) = IsShownEnd w rank b.unroll layout e
IsJudged w rank layout b (Spent question proof) =
    IsDue (frame_of w rank) b.unroll (frame_question question)
    × Spends (frame_of w rank) b.unroll (frame_question question) b.conflicts (proof_of proof)
    × (frame_question question ≡ StepQuestion → has_heads (frame_of w rank) ≡ true)

-- the frame of a rank passes, or gives the verdict
abbrev pub IsPassing : Whole → (rank : ℕ) → Layout → budgets.Budget → Passing → Type 0
IsPassing w rank layout b (Passes p) = frames.Passes (frame_of w rank) b.unroll × IsPassed layout b.unroll (frame_of w rank) (passed_of p)
IsPassing w rank layout b (Ends v) = IsFrameVerdict w layout b v

-- all frames below a rank pass, and this shows it
abbrev pub ArePassedTo : Whole → Layout → (k rank : ℕ) → List Passed → Type 0
ArePassedTo w layout k rank list =
    PassBelow w k rank × AllZip (λ r e. IsPassed layout k (frame_of w r) e) (from_to 0 rank) (map passed_of list)

-- so do those of all contracts, or one gives the verdict
abbrev pub ArePassed : Whole → Layout → budgets.Budget → AllPassing → Type 0
ArePassed w layout b (Pass v) = ArePassedTo w layout b.unroll (last_rank w) v.items
ArePassed w layout b (End v) = IsFrameVerdict w layout b v
