-- The reports over the frames of a whole that are right, by what the frames of its ranks have come to.
use Rattle.std.proofs.Common.{◌≡◌, ◌≢◌, inl, inr, refl, sym, ap, ◌∙◌, subst, arith, ℕ, ◌+◌, ◌≤◌, true, false, List, [], ◌∷◌, ◌++◌, Option, Some, None}
use Rattle.std.specs.List.{AllZip}
use Rattle.std.proofs.lemmas.Bool.{cases_lt}
use Rattle.word_spec.specs.RowFiles.{from_to}
use Rattle.word_spec.specs.State.{Written}
use Rattle.clause_spec.specs.Refutation.{Proof}
use Rattle.call_spec.specs.Calls.{Budget}
use Rattle.machine_spec.specs.StateText.{Layout}
use Rattle.frame_spec.specs.Frames.{Contract, Frame, FrameEvent}
use Rattle.frame_spec.specs.FramePoints.{has_heads}
use Rattle.frame_spec.specs.FrameQuestions.{IsDue, Question, StepQuestion}
use Rattle.frame_spec.specs.FrameReports.{AreMade, ByEvent, ByTurn, ConflictsReport, EndsAs, EntryRefuted, Frames, HoldsReport, IsMade, IsPassed, IsRightReport, IsShown, IsWithin, MakesContractStep, Named, NamedReport, NotInductiveReport, PartialReport, PassBelow, PassedBy, Shown, ShownBy, SpentOn, Spends, UnprovedReport, VacuousReport, WrittenCall, WrittenHead, last_rank, ranks, shown_start}
use Rattle.frame_spec.specs.FrameReports as reports
use Rattle.frame_spec.specs.FrameRuns.{Start}
use Rattle.frame_spec.specs.FrameVerdict.{Holds, IsRight, IsStart, NotInductive, Partial, Passes, Whole, entry_frame, frame_of}
use Rattle.frame_verdict.specs.JudgedFrames.{IsVerdictBy}
use Rattle.frame_verdict.proofs.CalledEnds.{none_stepped}
use Rattle.frame_verdict.proofs.Unheaded.{invariants_same, last_is, no_heads, none_shown, none_stepped_by}
use Rattle.frame_verdict.proofs.Wholes.{zip_next}

-- ---- what is shown

-- contract steps that are made are none where none is made
pub none_made : (f : Frame) (k : ℕ) (start : Start) (calls : List WrittenCall) → AreMade f k start calls → ¬ MakesContractStep f k start → calls ≡ []
none_made f k start [] made never = refl
none_made f k start (c ∷ rest) made never =
    let m : IsMade f k start c = made.each 0 c (omega arith) in absurd (never (m.steps, m.turns, c.step, m.place, m.comes))

-- without contracts none is made
pub never_without : (w : Whole) → w.contracts ≡ [] → (rank k : ℕ) (start : Start) → ¬ MakesContractStep (frame_of w rank) k start
never_without w none rank k start = none_stepped (frame_of w rank) k start (none_stepped_by w rank none)

module _ (w : Whole) (layout : Layout) (b : Budget) (within : IsWithin w b) where
  -- a frame is not proved
  pub unproved : (rank : ℕ) → rank ≤ last_rank w → PassBelow w b.unroll rank → (n : Named) (s : Shown) → s.head ≡ None → IsShown w (frame_of w rank) layout s →
      IsStart (frame_of w rank) b.unroll (shown_start w (frame_of w rank) layout s) →
      EndsAs (frame_of w rank) b.unroll (shown_start w (frame_of w rank) layout s) n →
      AreMade (frame_of w rank) b.unroll (shown_start w (frame_of w rank) layout s) s.calls →
      (rank ≡ last_rank w → MakesContractStep (frame_of w rank) b.unroll (shown_start w (frame_of w rank) layout s)) →
      IsVerdictBy (frame_of w rank) b.unroll s.head n → IsRightReport w layout b (UnprovedReport rank n) (ShownBy s)
  unproved rank low below (ByEvent e at step) s none shown start ends made last right = (
    within,
    low,
    below,
    none,
    shown,
    start,
    ends,
    made,
    last,
    subst (λ (o : Option WrittenHead). IsVerdictBy (frame_of w rank) b.unroll o (ByEvent e at step)) none right,
  )
  unproved rank low below (ByTurn at step) s none shown start ends made last right = (
    within,
    low,
    below,
    none,
    shown,
    start,
    ends,
    made,
    last,
    subst (λ (o : Option WrittenHead). IsVerdictBy (frame_of w rank) b.unroll o (ByTurn at step)) none right,
  )

  -- where the last frame's segment makes no contract step
  module _ (below : PassBelow w b.unroll (last_rank w)) (n : Named) (s : Shown) (calls : s.calls ≡ []) (shown : IsShown w (frame_of w (last_rank w)) layout s)
      (start : IsStart (frame_of w (last_rank w)) b.unroll (shown_start w (frame_of w (last_rank w)) layout s))
      (ends : EndsAs (frame_of w (last_rank w)) b.unroll (shown_start w (frame_of w (last_rank w)) layout s) n)
      (never : ¬ MakesContractStep (frame_of w (last_rank w)) b.unroll (shown_start w (frame_of w (last_rank w)) layout s))
      (right : IsVerdictBy (frame_of w (last_rank w)) b.unroll s.head n) where
    abbrev AtEntry : (Frame → Type 0) → Type 0
    AtEntry P = P (entry_frame w)

    shown_e : IsShown w (entry_frame w) layout s
    shown_e = subst (λ (f : Frame). IsShown w f layout s) (last_is w) shown

    start_e : IsStart (entry_frame w) b.unroll (shown_start w (entry_frame w) layout s)
    start_e = subst (λ (f : Frame). IsStart f b.unroll (shown_start w f layout s)) (last_is w) start

    ends_e : EndsAs (entry_frame w) b.unroll (shown_start w (entry_frame w) layout s) n
    ends_e = subst (λ (f : Frame). EndsAs f b.unroll (shown_start w f layout s) n) (last_is w) ends

    never_e : ¬ MakesContractStep (entry_frame w) b.unroll (shown_start w (entry_frame w) layout s)
    never_e = subst (λ (f : Frame). ¬ MakesContractStep f b.unroll (shown_start w f layout s)) (last_is w) never

    right_e : IsVerdictBy (entry_frame w) b.unroll s.head n
    right_e = subst (λ (f : Frame). IsVerdictBy f b.unroll s.head n) (last_is w) right

  pub fails : PassBelow w b.unroll (last_rank w) → (e : FrameEvent) (at step : ℕ) (start : Written) →
      (s : Shown) → s ≡ record { start = start; head = None; calls = [] } → IsShown w (frame_of w (last_rank w)) layout s →
      IsStart (frame_of w (last_rank w)) b.unroll (shown_start w (frame_of w (last_rank w)) layout s) →
      EndsAs (frame_of w (last_rank w)) b.unroll (shown_start w (frame_of w (last_rank w)) layout s) (ByEvent e at step) →
      ¬ MakesContractStep (frame_of w (last_rank w)) b.unroll (shown_start w (frame_of w (last_rank w)) layout s) →
      IsVerdictBy (frame_of w (last_rank w)) b.unroll s.head (ByEvent e at step) →
      IsRightReport w layout b (NamedReport (ByEvent e at step)) (ShownBy (record { start = start; head = None; calls = [] }))
  fails below e at step written s is shown start ends never right =
      let n = ByEvent e at step in
      let none : s.head ≡ None = ap (λ (z : Shown). z.head) is in
      let calls : s.calls ≡ [] = ap (λ (z : Shown). z.calls) is in (
        within,
        below,
        refl,
        subst (λ (z : Shown). IsShown w (entry_frame w) layout z) is (shown_e below n s calls shown start ends never right),
        subst (λ (z : Shown). IsStart (entry_frame w) b.unroll (shown_start w (entry_frame w) layout z)) is (start_e below n s calls shown start ends never right),
        subst (λ (z : Shown). EndsAs (entry_frame w) b.unroll (shown_start w (entry_frame w) layout z) n) is (ends_e below n s calls shown start ends never right),
        subst (λ (z : Shown). ¬ MakesContractStep (entry_frame w) b.unroll (shown_start w (entry_frame w) layout z)) is
            (never_e below n s calls shown start ends never right),
        subst (λ (z : Shown). IsVerdictBy (entry_frame w) b.unroll z.head n) is (right_e below n s calls shown start ends never right),
      )

  turns_by : (o : Option WrittenHead) → PassBelow w b.unroll (last_rank w) → (at step : ℕ) (start : Written) →
      (s : Shown) → s ≡ record { start = start; head = o; calls = [] } → IsShown w (frame_of w (last_rank w)) layout s →
      IsStart (frame_of w (last_rank w)) b.unroll (shown_start w (frame_of w (last_rank w)) layout s) →
      EndsAs (frame_of w (last_rank w)) b.unroll (shown_start w (frame_of w (last_rank w)) layout s) (ByTurn at step) →
      ¬ MakesContractStep (frame_of w (last_rank w)) b.unroll (shown_start w (frame_of w (last_rank w)) layout s) →
      IsVerdictBy (frame_of w (last_rank w)) b.unroll s.head (ByTurn at step) →
      IsRightReport w layout b (NamedReport (ByTurn at step)) (ShownBy (record { start = start; head = o; calls = [] }))
  turns_by None below at step written s is shown start ends never right =
      let n = ByTurn at step in
      let calls : s.calls ≡ [] = ap (λ (z : Shown). z.calls) is in (
        within,
        below,
        refl,
        subst (λ (z : Shown). IsShown w (entry_frame w) layout z) is (shown_e below n s calls shown start ends never right),
        subst (λ (z : Shown). IsStart (entry_frame w) b.unroll (shown_start w (entry_frame w) layout z)) is (start_e below n s calls shown start ends never right),
        subst (λ (z : Shown). EndsAs (entry_frame w) b.unroll (shown_start w (entry_frame w) layout z) n) is (ends_e below n s calls shown start ends never right),
        subst (λ (z : Shown). ¬ MakesContractStep (entry_frame w) b.unroll (shown_start w (entry_frame w) layout z)) is
            (never_e below n s calls shown start ends never right),
        subst (λ (z : Shown). IsVerdictBy (entry_frame w) b.unroll z.head n) is (right_e below n s calls shown start ends never right),
      )
  turns_by (Some h) below at step written s is shown start ends never right =
      let n = ByTurn at step in
      let calls : s.calls ≡ [] = ap (λ (z : Shown). z.calls) is in (
        within,
        below,
        refl,
        subst (λ (z : Shown). IsShown w (entry_frame w) layout z) is (shown_e below n s calls shown start ends never right),
        subst (λ (z : Shown). IsStart (entry_frame w) b.unroll (shown_start w (entry_frame w) layout z)) is (start_e below n s calls shown start ends never right),
        subst (λ (z : Shown). EndsAs (entry_frame w) b.unroll (shown_start w (entry_frame w) layout z) n) is (ends_e below n s calls shown start ends never right),
        subst (λ (z : Shown). ¬ MakesContractStep (entry_frame w) b.unroll (shown_start w (entry_frame w) layout z)) is
            (never_e below n s calls shown start ends never right),
        subst (λ (z : Shown). IsVerdictBy (entry_frame w) b.unroll z.head n) is (right_e below n s calls shown start ends never right),
      )

  pub turns : (o : Option WrittenHead) → PassBelow w b.unroll (last_rank w) → (at step : ℕ) (start : Written) →
      (s : Shown) → s ≡ record { start = start; head = o; calls = [] } → IsShown w (frame_of w (last_rank w)) layout s →
      IsStart (frame_of w (last_rank w)) b.unroll (shown_start w (frame_of w (last_rank w)) layout s) →
      EndsAs (frame_of w (last_rank w)) b.unroll (shown_start w (frame_of w (last_rank w)) layout s) (ByTurn at step) →
      ¬ MakesContractStep (frame_of w (last_rank w)) b.unroll (shown_start w (frame_of w (last_rank w)) layout s) →
      IsVerdictBy (frame_of w (last_rank w)) b.unroll s.head (ByTurn at step) →
      IsRightReport w layout b (NamedReport (ByTurn at step)) (ShownBy (record { start = start; head = o; calls = [] }))
  turns o = turns_by o

  -- a head state is shown only where there are no contracts
  contracts_none : (w.contracts ≢ [] → w.invariants ≡ []) → (rank k : ℕ) (s : Shown) → IsStart (frame_of w rank) k (shown_start w (frame_of w rank) layout s) →
      s.head ≢ None → w.contracts ≡ []
  contracts_none alone rank k s is some = by w.contracts refl
    where
      by : (l : List Contract) → w.contracts ≡ l → w.contracts ≡ []
      by [] e = e
      by (x ∷ rest) e =
          absurd (some (none_shown (frame_of w rank) (invariants_same w rank ∙ alone (λ z. (let q = sym e ∙ z in cc))) w k layout s is))

  pub not_inductive : (w.contracts ≢ [] → w.invariants ≡ []) → (e : FrameEvent) (at step : ℕ) (start : Written) (h : WrittenHead) →
      (s : Shown) → s ≡ record { start = start; head = Some h; calls = [] } → IsShown w (frame_of w (last_rank w)) layout s →
      IsStart (frame_of w (last_rank w)) b.unroll (shown_start w (frame_of w (last_rank w)) layout s) →
      EndsAs (frame_of w (last_rank w)) b.unroll (shown_start w (frame_of w (last_rank w)) layout s) (ByEvent e at step) →
      IsVerdictBy (frame_of w (last_rank w)) b.unroll s.head (ByEvent e at step) →
      IsRightReport w layout b (NotInductiveReport e at step) (ShownBy (record { start = start; head = Some h; calls = [] }))
  not_inductive alone e at step written h s is shown start ends right =
      let n = ByEvent e at step in
      let head : s.head ≡ Some h = ap (λ (z : Shown). z.head) is in
      let none = contracts_none alone (last_rank w) b.unroll s start (λ q. (let z = sym head ∙ q in cc)) in (
        within,
        none,
        subst (λ (f : Frame). IsRight f b.unroll NotInductive) (last_is w)
            (subst (λ (o : Option WrittenHead). IsVerdictBy (frame_of w (last_rank w)) b.unroll o n) head right),
        (λ q. cc),
        refl,
        subst (λ (z : Shown). IsShown w (entry_frame w) layout z) is (subst (λ (f : Frame). IsShown w f layout s) (last_is w) shown),
        subst (λ (z : Shown). IsStart (entry_frame w) b.unroll (shown_start w (entry_frame w) layout z)) is
            (subst (λ (f : Frame). IsStart f b.unroll (shown_start w f layout s)) (last_is w) start),
        subst (λ (z : Shown). EndsAs (entry_frame w) b.unroll (shown_start w (entry_frame w) layout z) n) is
            (subst (λ (f : Frame). EndsAs f b.unroll (shown_start w f layout s) n) (last_is w) ends),
      )

  -- ---- the last frame passes

  pub holds_alone : w.contracts ≡ [] → (e : reports.Passed) → IsRight (frame_of w (last_rank w)) b.unroll Holds →
      IsPassed layout b.unroll (frame_of w (last_rank w)) e → IsRightReport w layout b HoldsReport (PassedBy e)
  holds_alone none e right passed = (
    within,
    none,
    subst (λ (f : Frame). IsRight f b.unroll Holds) (last_is w) right,
    subst (λ (f : Frame). IsPassed layout b.unroll f e) (last_is w) passed,
  )

  pub holds_by_frames : w.contracts ≢ [] → PassBelow w b.unroll (last_rank w) → (list : List reports.Passed) (e : reports.Passed) →
      AllZip (λ r p. IsPassed layout b.unroll (frame_of w r) p) (from_to 0 (last_rank w)) list → IsRight (frame_of w (last_rank w)) b.unroll Holds →
      IsPassed layout b.unroll (frame_of w (last_rank w)) e → IsRightReport w layout b HoldsReport (Frames (list ++ e ∷ []))
  holds_by_frames some below list e all right passed = (
    within,
    some,
    below,
    subst (λ (f : Frame). IsRight f b.unroll Holds) (last_is w) right,
    zip_next (λ r p. IsPassed layout b.unroll (frame_of w r) p) (last_rank w) list e all passed,
  )

  pub partial : (w.contracts ≢ [] → w.invariants ≡ []) → (e : reports.Passed) → IsRight (frame_of w (last_rank w)) b.unroll Partial →
      IsPassed layout b.unroll (frame_of w (last_rank w)) e → IsRightReport w layout b PartialReport (PassedBy e)
  partial alone e right passed = (
    within,
    by w.contracts refl,
    subst (λ (f : Frame). IsRight f b.unroll Partial) (last_is w) right,
    subst (λ (f : Frame). IsPassed layout b.unroll f e) (last_is w) passed,
  )
    where
      by : (l : List Contract) → w.contracts ≡ l → w.contracts ≡ []
      by [] q = q
      by (x ∷ rest) q =
          let plain = invariants_same w (last_rank w) ∙ alone (λ z. (let t = sym q ∙ z in cc)) in
          let t : true ≡ false = sym right.0 ∙ no_heads (frame_of w (last_rank w)) plain in absurd (cc)

  pub vacuous : PassBelow w b.unroll (last_rank w) → (proof : Proof) → IsPassed layout b.unroll (frame_of w (last_rank w)) (EntryRefuted proof) →
      IsRightReport w layout b VacuousReport (PassedBy (EntryRefuted proof))
  vacuous below proof passed =
      let here = subst (λ (f : Frame). IsPassed layout b.unroll f (EntryRefuted proof)) (last_is w) passed in (within, below, here.0, here)

  pub conflicts : (rank : ℕ) → rank ≤ last_rank w → PassBelow w b.unroll rank → (question : Question) (proof : Proof) →
      IsDue (frame_of w rank) b.unroll question → Spends (frame_of w rank) b.unroll question b.conflicts proof →
      (question ≡ StepQuestion → has_heads (frame_of w rank) ≡ true) → IsRightReport w layout b ConflictsReport (SpentOn rank question proof)
  conflicts rank low below question proof due spent heads = (within, low, below, due, spent, heads)

-- one more frame passes
pub below_more : (w : Whole) (k rank : ℕ) → PassBelow w k rank → Passes (frame_of w rank) k → PassBelow w k (rank + 1)
below_more w k rank below one i l = elim (cases_lt i rank) [
  | inl m ↦ below i m
  | inr m ↦ (let e : rank ≡ i = omega arith in subst (λ (z : ℕ). Passes (frame_of w z) k) e one)
]

pub none_below : (w : Whole) (k : ℕ) → PassBelow w k 0
none_below w k i l = absurd (omega arith)
