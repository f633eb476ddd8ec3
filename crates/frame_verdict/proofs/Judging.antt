-- What the answers to the questions of a frame make of it.
use Rattle.std.proofs.Common.{◌≡◌, ◌≢◌, inl, inr, refl, sym, ap, subst, ◌∙◌, ℕ, Bool, true, false, List, [], ◌∷◌, Option, Some, None}
use Rattle.std.specs.Prelude.{option_map}
use Rattle.word_spec.specs.State.{Written}
use Rattle.bilv_spec.specs.Run.{Place}
use Rattle.bilv_spec.specs.PointLaws.{HasLawfulRows, ReadsMemory}
use Rattle.machine_spec.specs.StateText.{Layout}
use Rattle.clause_spec.specs.Refutation.{Proof as Log}
use Rattle.frame_spec.specs.Frames.{Contract, Frame}
use Rattle.frame_spec.specs.FramePoints.{has_heads}
use Rattle.frame_spec.specs.FrameQuestions.{Question, EntryQuestion, FailQuestion, StepQuestion, TurnQuestion, IsDue, IsSatisfiable}
use Rattle.frame_spec.specs.FrameReports as reports
use Rattle.frame_spec.specs.FrameReports.{ByEvent, ByTurn, EndsAs, AreRefuted, IsPassed, Named, Refutes, WrittenHead, head_of, later_questions}
use Rattle.frame_spec.specs.FrameRuns.{Start as Begun}
use Rattle.frame_spec.specs.FrameVerdict.{IsRight, IsStart, Holds, Vacuous, Partial, RunFails, NoEntryFails, NoSegmentFails, Whole, frame_of}
use Rattle.frame_spec.proofs.FrameDeciding.{frames_decide}
use Rattle.frame_spec.proofs.OfSegments.{heads, questions_are_of_segments}
use Rattle.cnf_form.specs.Views.{proof_of}
use Rattle.cnf_form.specs.declared.form.Proof.{Proof}
use Rattle.question_form.specs.declared.unrolled.Unrolled.{Unrolled}
use Rattle.state_text.specs.Starts.{written_head_of}
use Rattle.state_text.specs.declared.start.HeadStart.{HeadStart}
use Rattle.frame_rounds.specs.FrameGrounds.{AnswersFrame, IsFrameAnswered, IsFrameGround}
use Rattle.frame_rounds.specs.declared.answers.FrameAnswered.{FrameAnswered}
use Rattle.frame_verdict.specs.JudgedFrames.{IsShownEnd, IsVerdictBy}
use Rattle.frame_verdict.specs.Questions.{IsEntered, IsStepRefuted}
use Rattle.frame_verdict.specs.ShownEnds.{HasHead, IsEnded, begun, is_end, shown_of}
use Rattle.frame_verdict.specs.FrameVerdicts.{named_of}
use Rattle.frame_verdict.specs.declared.judged.Ended.{Ended}
use Rattle.frame_verdict.proofs.EndedRuns.{fails_by, turns_by}
use Rattle.frame_verdict.proofs.RefutedFrames.{refuted_is_false}

module _ (f : Frame) (lawful : HasLawfulRows f.program) (reads : ReadsMemory f.program) (k : ℕ) (layout : Layout) where
  -- no segment from an entry state has an event
  no_entry_fails : ¬ IsSatisfiable f k FailQuestion → NoEntryFails f k
  no_entry_fails never start is e h = never ((questions_are_of_segments f lawful reads k FailQuestion).1 (start, is, e, h))

  -- and none from a head state
  fails_from : ¬ IsSatisfiable f k FailQuestion → ¬ IsSatisfiable f k StepQuestion → (start : Begun) → IsStart f k start → RunFails f k start →
      (o : Option Place) → start.head ≡ o → ⊥
  fails_from never none start is h None e = never ((questions_are_of_segments f lawful reads k FailQuestion).1 (start, is, e, h))
  fails_from never none start is h (Some c) e =
      none ((questions_are_of_segments f lawful reads k StepQuestion).1 (start, is, (λ q. (let z = sym e ∙ q in cc)), h))

  no_segment_fails : ¬ IsSatisfiable f k FailQuestion → ¬ IsSatisfiable f k StepQuestion → NoSegmentFails f k
  no_segment_fails never none start is h = fails_from never none start is h start.head refl

  never_fails : (proof : Proof) → Refutes f k FailQuestion (proof_of proof) → ¬ IsSatisfiable f k FailQuestion
  never_fails proof h = refuted_is_false f k FailQuestion (proof_of proof) h

  never_steps : (o : Option Proof) → IsStepRefuted f k o → ¬ IsSatisfiable f k StepQuestion
  never_steps (Some proof) h = refuted_is_false f k StepQuestion (proof_of proof) h.1
  never_steps None h = λ s. (let e : true ≡ false = sym (heads f s.1.ends.1 s.1.ends.3.head) ∙ h in cc)

  -- there is no entry state
  pub vacuous : (proof : Proof) → Refutes f k EntryQuestion (proof_of proof) → IsPassed layout k f (reports.EntryRefuted (proof_of proof))
  vacuous proof h = ((frames_decide f lawful reads k Vacuous).0 (refuted_is_false f k EntryQuestion (proof_of proof) h), h)

  -- where there is an entry state
  module _ (start : Written) (entered : IsEntered f.program layout start) where
    pub fail_due : IsDue f k FailQuestion
    fail_due = (_, entered.1)

    pub step_due : (fail : Proof) → Refutes f k FailQuestion (proof_of fail) → IsDue f k StepQuestion
    step_due fail never = ((_, entered.1), no_entry_fails (never_fails fail never))

    pub turn_due : (fail : Proof) → Refutes f k FailQuestion (proof_of fail) → (step : Option Proof) → IsStepRefuted f k step → IsDue f k TurnQuestion
    turn_due fail never step none = ((_, entered.1), no_segment_fails (never_fails fail never) (never_steps step none))

    entry_true : IsSatisfiable f k EntryQuestion
    entry_true = (questions_are_of_segments f lawful reads k EntryQuestion).1 (_, entered.1)

    refuted : (b : Bool) (proofs : List Log) → has_heads f ≡ b → AreRefuted f k (later_questions b) proofs →
        AreRefuted f k (later_questions (has_heads f)) proofs
    refuted b proofs e h = subst (λ z. AreRefuted f k (later_questions z) proofs) (sym e) h

    module _ (fail : Proof) (never : Refutes f k FailQuestion (proof_of fail)) where
      -- every segment returns or arrives at a head
      pub holds : has_heads f ≡ false → (turn : Proof) → Refutes f k TurnQuestion (proof_of turn) →
          IsRight f k Holds × IsPassed layout k f (reports.Refutations start (proof_of fail ∷ proof_of turn ∷ []))
      holds none turn h =
          let is = (frames_decide f lawful reads k Holds).0 (
            none,
            entry_true,
            never_fails fail never,
            never_steps None none,
            refuted_is_false f k TurnQuestion (proof_of turn) h,
          ) in
          (is, (inl is, entered.0, entered.1, refuted false (proof_of fail ∷ proof_of turn ∷ []) none (never, (h, tt))))

      pub partial : (step : Proof) → IsStepRefuted f k (Some step) → (turn : Proof) → Refutes f k TurnQuestion (proof_of turn) →
          IsRight f k Partial × IsPassed layout k f (reports.Refutations start (proof_of fail ∷ proof_of step ∷ proof_of turn ∷ []))
      partial step some turn h =
          let is = (frames_decide f lawful reads k Partial).0 (
            some.0,
            entry_true,
            never_fails fail never,
            never_steps (Some step) some,
            refuted_is_false f k TurnQuestion (proof_of turn) h,
          ) in (
            is,
            (
              inr is,
              entered.0,
              entered.1,
              refuted true (proof_of fail ∷ proof_of step ∷ proof_of turn ∷ []) some.0 (never, (some.1, (h, tt))),
            ),
          )

-- a segment that ends as a question asks that is due shows the right verdict
module _ (f : Frame) (k : ℕ) (layout : Layout) (start : Begun) (is : IsStart f k start) where
  verdict_by : (q : Question) (o : Option WrittenHead) (n : Named) → start.head ≡ head_of f layout o → (q ≡ FailQuestion → o ≡ None) →
      (q ≡ StepQuestion → o ≢ None) → is_end q n ≡ true → IsDue f k q → EndsAs f k start n → IsVerdictBy f k o n
  verdict_by EntryQuestion o n at none some e due ends = absurd (cc)
  verdict_by FailQuestion None (ByEvent v a m) at none some e due ends = (start, is, at, fails_by f k start v a m ends)
  verdict_by FailQuestion (Some h) (ByEvent v a m) at none some e due ends = absurd (let z = none refl in cc)
  verdict_by FailQuestion o (ByTurn a m) at none some e due ends = absurd (cc)
  verdict_by StepQuestion None (ByEvent v a m) at none some e due ends = absurd (some refl refl)
  verdict_by StepQuestion (Some h) (ByEvent v a m) at none some e due ends =
      (due.1, (start, is, (λ q. (let z = sym at ∙ q in cc)), fails_by f k start v a m ends))
  verdict_by StepQuestion o (ByTurn a m) at none some e due ends = absurd (cc)
  verdict_by TurnQuestion o (ByEvent v a m) at none some e due ends = absurd (cc)
  verdict_by TurnQuestion None (ByTurn a m) at none some e due ends = (due.1, (start, is, turns_by f k start a m ends))
  verdict_by TurnQuestion (Some h) (ByTurn a m) at none some e due ends = (due.1, (start, is, turns_by f k start a m ends))

module _ (w : Whole) (rank k : ℕ) (layout : Layout) (e : Ended) where
  none_by : (q : Question) → HasHead q e.shown.head → q ≡ FailQuestion → (shown_of e.shown).head ≡ None
  none_by FailQuestion h e' = ap (option_map written_head_of) h
  none_by EntryQuestion h e' = absurd h
  none_by StepQuestion h e' = absurd (cc)
  none_by TurnQuestion h e' = absurd (cc)

  some_by : (q : Question) → HasHead q e.shown.head → q ≡ StepQuestion → (shown_of e.shown).head ≢ None
  some_by StepQuestion h e' = by e.shown.head h
    where
      by : (o : Option HeadStart) → o ≢ None → option_map written_head_of o ≢ None
      by None h z = h refl
      by (Some x) h z = cc
  some_by EntryQuestion h e' = absurd h
  some_by FailQuestion h e' = absurd (cc)
  some_by TurnQuestion h e' = absurd (cc)

  pub shown_end : (question : Question) → IsEnded w rank k layout question e → IsDue (frame_of w rank) k question → IsShownEnd w rank k layout e
  shown_end question h due = record {
    shown = h.shown;
    start = h.start;
    ends = h.ends;
    made = h.made;
    called = h.called;
    uncalled = h.uncalled;
    verdict = verdict_by (frame_of w rank) k layout (begun w rank layout (shown_of e.shown)) h.start question (shown_of e.shown).head (named_of e.ending) refl
        (none_by question h.head) (some_by question h.head) h.asked due h.ends;
  }

-- what a question came to, for the frame
pub answered : (u : Unrolled) (question : Question) (conflicts : ℕ) (a c : FrameAnswered) → AnswersFrame u question conflicts a → a ≡ c →
    (f : Frame) (contracts : List Contract) (k : ℕ) (layout : Layout) → IsFrameGround f contracts k layout u → IsFrameAnswered f k layout question u conflicts c
answered u question conflicts a c h e f contracts k layout ground =
    subst (λ (z : FrameAnswered). IsFrameAnswered f k layout question u conflicts z) e (h f contracts k layout ground)

-- whether the question about head states was asked
pub stepped : (f : Frame) (k : ℕ) (o c : Option Proof) → IsStepRefuted f k o → o ≡ c → IsStepRefuted f k c
stepped f k o c h e = subst (IsStepRefuted f k) e h
