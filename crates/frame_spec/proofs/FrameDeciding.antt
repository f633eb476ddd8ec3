-- The questions decide the verdict of a frame.
use Rattle.std.proofs.Common.{◌≡◌, ◌⊎◌, inl, inr, ℕ, refl, sym, ◌∙◌, Option, Some, None, true, false}
use Rattle.bilv_spec.specs.Run.{Place}
use Rattle.bilv_spec.specs.PointLaws.{HasLawfulRows, ReadsMemory}
use Rattle.bilv_spec.proofs.Pigeons.{truth}
use Rattle.frame_spec.specs.Frames.{Frame, is_head}
use Rattle.frame_spec.specs.FrameRuns.{Start, Run, Going, Arriving, Calling, Exited, Failed, Turned, Cut, Broken, run, IsOver}
use Rattle.frame_spec.specs.FramePoints.{has_heads}
use Rattle.frame_spec.specs.FrameVerdict.{IsStart, RunExits, RunFails, RunTurns, RunIsCut, Verdict, Holds, Vacuous, Fails, NotInductive, Unroll, Partial, IsRight}
use Rattle.frame_spec.specs.FrameQuestions.{Question, EntryQuestion, FailQuestion, StepQuestion, TurnQuestion, IsSatisfiable}
use Rattle.frame_spec.specs.FrameLaws.{HasRun, IsDecided, FramesDecide}
use Rattle.frame_spec.proofs.OneEnd.{exit_not_fail, exit_not_turn, cut_not_fail, cut_not_turn}
use Rattle.frame_spec.proofs.OfSegments.{to_run, from_run, heads}
use Rattle.frame_spec.proofs.Uncut.{never_cut}
use Rattle.frame_spec.proofs.SegmentsEnd.{segments_end}

module _ (f : Frame) (lawful : HasLawfulRows f.program) (memory : ReadsMemory f.program) (k : ℕ) where
  abbrev to : (question : Question) → IsSatisfiable f k question → HasRun f k question
  to = to_run f lawful memory k

  abbrev from : (question : Question) → HasRun f k question → IsSatisfiable f k question
  from = from_run f lawful memory k

  abbrev Passing : Start → Type 0
  Passing start = RunExits f k start ⊎ RunIsCut f k start

  by_origin : (start : Start) → IsStart f k start → (o : Option Place) → start.head ≡ o → RunFails f k start →
      IsSatisfiable f k FailQuestion ⊎ IsSatisfiable f k StepQuestion
  by_origin start is None e h = inl (from FailQuestion (start, is, e, h))
  by_origin start is (Some c) e h = inr (from StepQuestion (start, is, (λ q. (let z = sym e ∙ q in cc)), h))

  no_fail : ¬ IsSatisfiable f k FailQuestion → ¬ IsSatisfiable f k StepQuestion → (start : Start) → IsStart f k start → ¬ RunFails f k start
  no_fail a b start is h = elim (by_origin start is start.head refl h) [ inl x ↦ a x | inr x ↦ b x ]

  ends_by : (start : Start) → IsStart f k start → (n : ℕ) (x : Run) → run f k start n ≡ x → IsOver x → ¬ RunFails f k start → ¬ RunTurns f k start →
      Passing start
  ends_by start is n (Going t m c) e o a b = absurd o
  ends_by start is n (Arriving t m c) e o a b = absurd o
  ends_by start is n (Calling t m c) e o a b = absurd o
  ends_by start is n (Exited at m) e o a b = inl (n, at, m, e)
  ends_by start is n (Cut at m) e o a b = inr (n, at, m, e)
  ends_by start is n (Failed v at m) e o a b = absurd (a (n, at, m, v, e))
  ends_by start is n (Turned at m) e o a b = absurd (b (n, at, m, e))
  ends_by start is n (Broken l at m) e o a b = absurd (is.is_run (n, l, at, m, e))

  no_head : has_heads f ≡ false → (a : ℕ) → is_head f a ≡ false
  no_head h a = elim (truth (is_head f a)) [
    | inl t ↦ (let z : true ≡ false = sym (heads f a t) ∙ h in absurd (cc))
    | inr t ↦ t
  ]

  passing : ¬ IsSatisfiable f k FailQuestion → ¬ IsSatisfiable f k StepQuestion → ¬ IsSatisfiable f k TurnQuestion →
      (start : Start) → IsStart f k start → Passing start
  passing a b c start is =
      let end = segments_end f lawful memory k start is.entry is.origin is.given in
      ends_by start is end.0 (run f k start end.0) refl end.1 (no_fail a b start is) (λ h. c (from TurnQuestion (start, is, h)))

  right_if : (v : Verdict) → IsDecided f k v → IsRight f k v
  right_if Vacuous d = λ s is. d (from EntryQuestion (s, is))
  right_if Fails d = to FailQuestion d
  right_if NotInductive d = (λ start is e h. d.0 (from FailQuestion (start, is, e, h)), to StepQuestion d.1)
  right_if Unroll d = (no_fail d.0 d.1, to TurnQuestion d.2)
  right_if Holds d = (
    d.0,
    to EntryQuestion d.1,
    (λ start is. elim (passing d.2 d.3 d.4 start is) [ inl x ↦ x | inr x ↦ absurd (never_cut f (no_head d.0) k start x) ]),
  )
  right_if Partial d = (d.0, to EntryQuestion d.1, passing d.2 d.3 d.4)

  fails_not : (start : Start) → Passing start → RunFails f k start → ⊥
  fails_not start (inl x) h = exit_not_fail f k start x h
  fails_not start (inr x) h = cut_not_fail f k start x h

  turns_not : (start : Start) → Passing start → RunTurns f k start → ⊥
  turns_not start (inl x) h = exit_not_turn f k start x h
  turns_not start (inr x) h = cut_not_turn f k start x h

  module _ (all : (start : Start) → IsStart f k start → Passing start) where
    no_fails : ¬ IsSatisfiable f k FailQuestion
    no_fails s = let q = to FailQuestion s in fails_not q.0 (all q.0 q.1) q.3

    no_steps : ¬ IsSatisfiable f k StepQuestion
    no_steps s = let q = to StepQuestion s in fails_not q.0 (all q.0 q.1) q.3

    no_turns : ¬ IsSatisfiable f k TurnQuestion
    no_turns s = let q = to TurnQuestion s in turns_not q.0 (all q.0 q.1) q.2

  only_if : (v : Verdict) → IsRight f k v → IsDecided f k v
  only_if Vacuous r = λ s. (let q = to EntryQuestion s in r q.0 q.1)
  only_if Fails r = from FailQuestion r
  only_if NotInductive r = ((λ s. (let q = to FailQuestion s in r.0 q.0 q.1 q.2 q.3)), from StepQuestion r.1)
  only_if Unroll r = (
    (λ s. (let q = to FailQuestion s in r.0 q.0 q.1 q.3)),
    (λ s. (let q = to StepQuestion s in r.0 q.0 q.1 q.3)),
    from TurnQuestion r.1,
  )
  only_if Holds r =
      let all : (start : Start) → IsStart f k start → Passing start = λ start is. inl (r.2 start is) in
      (r.0, from EntryQuestion r.1, no_fails all, no_steps all, no_turns all)
  only_if Partial r = (r.0, from EntryQuestion r.1, no_fails r.2, no_steps r.2, no_turns r.2)

pub frames_decide : FramesDecide
frames_decide f lawful memory k v = (right_if f lawful memory k v, only_if f lawful memory k v)
