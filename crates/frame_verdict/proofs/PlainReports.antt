-- Without invariants and contracts a right report on the frame of a program is one on the program.
use Rattle.std.proofs.Common.{◌≡◌, ℕ, ◌≤◌, refl, ap, sym, ◌∙◌, subst, arith, List, [], ◌∷◌, Option, Some, None, true, false}
use Rattle.word_spec.specs.State.{State, Written}
use Rattle.clause_spec.specs.Refutation.{Proof}
use Rattle.machine_spec.specs.Endings.{Event}
use Rattle.machine_spec.specs.StateText.{Layout}
use Rattle.call_spec.specs.Calls as calls
use Rattle.bilv_spec.specs.Answers as answers
use Rattle.bilv_spec.specs.Run as tables
use Rattle.bilv_spec.specs.Run.{Program}
use Rattle.frame_spec.specs.Frames.{Frame, FrameEvent, OfStep}
use Rattle.frame_spec.specs.FrameRuns.{Start, Calling, Failed, run}
use Rattle.frame_spec.specs.FramePoints.{AtHead, first_of, has_heads}
use Rattle.frame_spec.specs.FrameQuestions.{Question, EntryQuestion, FailQuestion, StepQuestion, TurnQuestion}
use Rattle.frame_spec.specs.FrameReports.{Report, HoldsReport, PartialReport, VacuousReport, NamedReport, NotInductiveReport, UnprovedReport, PointsReport, SizeReport, ConflictsReport, ByEvent, ByTurn, Evidence, PassedBy, Refutations, EntryRefuted, Frames, Shown, ShownBy, SpentOn, Count, WrittenHead, AreRefuted, IsRightReport, MakesContractStep, head_of, later_questions, shown_start}
use Rattle.frame_spec.specs.FrameVerdict.{IsOrigin, Whole}
use Rattle.frame_spec.specs.Theorems.{as_frame_run, as_start, headless}
use Rattle.frame_spec.proofs.Headless.{run_is}
use Rattle.frame_laws.specs.HeadlessLaws.{as_evidence, as_report, headless_whole}
use Rattle.frame_laws.proofs.HeadlessPoints.{headless_heads, to}
use Rattle.frame_laws.proofs.HeadlessReports.{headless_reports}
use Rattle.frame_verdict.specs.FrameVerdicts.{evidence_of, report_of}
use Rattle.frame_verdict.specs.PlainVerdicts.{PlainVerdicts, plain_evidence, plain_report}

-- a whole with neither invariants nor contracts is that of its program
pub plain_whole : (w : Whole) → w.invariants ≡ [] → w.contracts ≡ [] → w ≡ headless_whole w.program
plain_whole w none free =
    ap (λ i. record { program = w.program; invariants = i; contracts = w.contracts }) none
    ∙ ap (λ c. record { program = w.program; invariants = []; contracts = c }) free

-- the event of a run of the tables is one of a step
of_step : (x : tables.Run) (e : FrameEvent) (at n : ℕ) → as_frame_run x ≡ Failed e at n → (v : Event) × (e ≡ OfStep v)
of_step (tables.Failed v a m) e at n h = (v, (let s : e ≡ OfStep v = cc in s))
of_step (tables.Going u m d) e at n h = absurd (cc)
of_step (tables.Exited a m) e at n h = absurd (cc)
of_step (tables.Turned a m) e at n h = absurd (cc)

-- and no run of the tables makes a contract step
no_calling : (x : tables.Run) (t n : ℕ) (c : tables.Place) → as_frame_run x ≡ Calling t n c → ⊥
no_calling (tables.Going u m d) t n c e = cc
no_calling (tables.Exited a m) t n c e = cc
no_calling (tables.Failed v a m) t n c e = cc
no_calling (tables.Turned a m) t n c e = cc

module _ (p : Program) (layout : Layout) (b : calls.Budget) where
  abbrev f : Frame
  f = headless p

  abbrev w : Whole
  w = headless_whole p

  abbrev k : ℕ
  k = b.unroll

  -- there is no head at which a segment begins
  no_origin : (entry : State) (o : Option WrittenHead) → IsOrigin f k entry (head_of f layout o) → o ≡ None
  no_origin entry None is = refl
  no_origin entry (Some h) is = absurd (let it = to p k (first_of p.entry (AtHead _ _)) is.0 in let e = ap (λ q. q.anchor) it.2 in cc)

  -- a start that is shown begins at the entry, and its run is the program's
  module _ (s : Shown) where
    abbrev begin : Start
    begin = shown_start w f layout s

    at : s.head ≡ None → (n : ℕ) → run f k begin n ≡ as_frame_run (tables.run p k (as_start begin) n)
    at none n = run_is p k begin (ap (head_of f layout) none) n

    no_call : s.head ≡ None → ¬ MakesContractStep f k begin
    no_call none (n, t, m, c, e) = no_calling (tables.run p k (as_start begin) n) t m c (sym (at none n) ∙ e)

    event_is : s.head ≡ None → (e : FrameEvent) (a n steps : ℕ) → run f k begin steps ≡ Failed e a n → (v : Event) × (e ≡ OfStep v)
    event_is none e a n steps h = of_step (tables.run p k (as_start begin) steps) e a n (sym (at none steps) ∙ h)

    start_alone : s.head ≡ None → s.calls ≡ [] → as_evidence (plain_evidence (ShownBy s)) ≡ ShownBy s
    start_alone none free =
        ap (λ h. ShownBy (record { start = s.start; head = h; calls = [] })) (sym none)
        ∙ ap (λ c. ShownBy (record { start = s.start; head = s.head; calls = c })) (sym free)

  abbrev Plain : Report → Evidence → Type 0
  Plain r e = (as_report (plain_report r) ≡ r) × (as_evidence (plain_evidence e) ≡ e) × answers.IsRightReport p layout b (plain_report r) (plain_evidence e)

  by_same : (r : Report) (e : Evidence) → as_report (plain_report r) ≡ r → as_evidence (plain_evidence e) ≡ e → IsRightReport w layout b r e → Plain r e
  by_same r e said shown h = (
    said,
    shown,
    (headless_reports p layout b (plain_report r) (plain_evidence e)).0
        (subst (λ z. IsRightReport w layout b z (as_evidence (plain_evidence e))) (sym said) (subst (IsRightReport w layout b r) (sym shown) h)),
  )

  event_said : (e : FrameEvent) (v : Event) (a n : ℕ) → e ≡ OfStep v → as_report (plain_report (NamedReport (ByEvent e a n))) ≡ NamedReport (ByEvent e a n)
  event_said e v a n is =
      subst (λ z. as_report (plain_report (NamedReport (ByEvent z a n))) ≡ NamedReport (ByEvent z a n)) (sym is) refl

  two : (start : Written) (proofs : List Proof) → AreRefuted f k (later_questions false) proofs →
      as_evidence (plain_evidence (PassedBy (Refutations start proofs))) ≡ PassedBy (Refutations start proofs)
  two start [] h = absurd h
  two start (fail ∷ []) h = absurd h.1
  two start (fail ∷ turn ∷ []) h = refl
  two start (fail ∷ turn ∷ other ∷ rest) h = absurd h.1.1

  spent : (rank : ℕ) (question : Question) (proof : Proof) → (question ≡ StepQuestion → has_heads f ≡ true) → rank ≤ 0 →
      as_evidence (plain_evidence (SpentOn rank question proof)) ≡ SpentOn rank question proof
  spent rank EntryQuestion proof heads l = let e : 0 ≡ rank = omega arith in ap (λ n. SpentOn n EntryQuestion proof) e
  spent rank FailQuestion proof heads l = let e : 0 ≡ rank = omega arith in ap (λ n. SpentOn n FailQuestion proof) e
  spent rank StepQuestion proof heads l = absurd (let some = heads refl in let none = headless_heads p in cc)
  spent rank TurnQuestion proof heads l = let e : 0 ≡ rank = omega arith in ap (λ n. SpentOn n TurnQuestion proof) e

  right : (r : Report) (e : Evidence) → IsRightReport w layout b r e → Plain r e
  right PointsReport (Count n) h = by_same PointsReport (Count n) refl refl h
  right SizeReport (Count n) h = by_same SizeReport (Count n) refl refl h
  right ConflictsReport (SpentOn rank question proof) h =
      by_same ConflictsReport (SpentOn rank question proof) refl (spent rank question proof h.5 h.1) h
  right HoldsReport (PassedBy (Refutations start proofs)) h =
      by_same HoldsReport (PassedBy (Refutations start proofs)) refl
      (two start proofs (subst (λ z. AreRefuted f k (later_questions z) proofs) (headless_heads p) h.3.3)) h
  right HoldsReport (PassedBy (EntryRefuted proof)) h = absurd (h.3.0 h.2.1.0 h.2.1.1)
  right HoldsReport (Frames list) h = absurd (h.1 refl)
  right PartialReport (PassedBy e) h = absurd (let some = h.2.0 in let none = headless_heads p in cc)
  right VacuousReport (PassedBy (EntryRefuted proof)) h = by_same VacuousReport (PassedBy (EntryRefuted proof)) refl refl h
  right VacuousReport (PassedBy (Refutations start proofs)) h = absurd (h.2 _ h.3.2)
  right (NamedReport (ByEvent e a n)) (ShownBy s) h =
      let none = no_origin _ s.head h.4.origin in
      let it = event_is s none e a n h.5.0 h.5.1 in
      by_same (NamedReport (ByEvent e a n)) (ShownBy s) (event_said e it.0 a n it.1) (start_alone s none h.2) h
  right (NamedReport (ByTurn a n)) (ShownBy s) h =
      by_same (NamedReport (ByTurn a n)) (ShownBy s) refl (start_alone s (no_origin _ s.head h.4.origin) h.2) h
  right (NotInductiveReport e a n) (ShownBy s) h = absurd (h.3 (no_origin _ s.head h.6.origin))
  right (UnprovedReport rank n) (ShownBy s) h = let e : rank ≡ 0 = omega (arith, h.1) in absurd (no_call s h.3 (h.8 e))
  right r e h = absurd h

pub plain_verdicts : PlainVerdicts
plain_verdicts p layout b v h = right p layout b (report_of v) (evidence_of v) h
