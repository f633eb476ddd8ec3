-- Without invariants and contracts a report on the frames of notes is right where the report on the program is.
use Rattle.std.proofs.Common.{◌≡◌, inl, ℕ, suc, ◌≤◌, ◌<◌, refl, ap, sym, ◌∙◌, subst, arith, List, [], ◌∷◌, Option, Some, None, false}
use Rattle.std.specs.Prelude.{Contains, ◌↔◌, map, sum_by, slice_get, option_map}
use Rattle.std.proofs.lemmas.List.{length-map}
use Rattle.std.proofs.lemmas.List.Sums.{sum_by-cons}
use Rattle.std.proofs.lemmas.Option.{slice_get-map}
use Rattle.word_spec.specs.State.{Written}
use Rattle.clause_spec.specs.Refutation.{Proof}
use Rattle.machine_spec.specs.Endings as endings
use Rattle.machine_spec.specs.Endings.{Event}
use Rattle.machine_spec.specs.StateText.{Layout, IsWritten}
use Rattle.call_spec.specs.Calls as calls
use Rattle.bilv_spec.specs.Run as tables
use Rattle.bilv_spec.specs.Run.{Program}
use Rattle.bilv_spec.specs.Points as points
use Rattle.bilv_spec.specs.Verdict as verdict
use Rattle.bilv_spec.specs.Evidence as evidence
use Rattle.bilv_spec.specs.Answers as answers
use Rattle.bilv_spec.proofs.PointsInGraph.{of_map}
use Rattle.frame_spec.specs.Frames.{Frame, OfStep}
use Rattle.frame_spec.specs.FrameRuns.{Start, Run, Calling, Failed, run}
use Rattle.frame_spec.specs.FramePoints.{Point, IsPoint, triple, has_heads}
use Rattle.frame_spec.specs.FrameQuestions as FrameQuestions
use Rattle.frame_spec.specs.FrameVerdict as FrameVerdict
use Rattle.frame_spec.specs.FrameVerdict.{IsStart, Whole, IsRight}
use Rattle.frame_spec.specs.FrameReports.{RankedPoint, HasMore, IsWholePrice, IsWithin, Refutes, ByEvent, ByTurn, Shown, shown_start, EndsAs, MakesContractStep, IsShown, AreRefuted, later_questions, PassBelow, IsRightReport}
use Rattle.frame_spec.specs.Theorems.{headless, as_frame_run, as_start}
use Rattle.frame_spec.proofs.Headless.{run_is}
use Rattle.frame_spec.proofs.HeadlessVerdict.{turned, lifted, is_start, was_start, fails_to, fails_from, headless_is_verdict}
use Rattle.frame_laws.specs.HeadlessLaws.{as_point, as_question, headless_whole, as_report, as_evidence, HeadlessReports}
use Rattle.frame_laws.proofs.HeadlessPoints.{from, to, headless_heads, headless_price}
use Rattle.frame_laws.proofs.HeadlessInputs.{headless_clauses}

-- a run of the tables makes no contract step
never_called : (x : tables.Run) (t n : ℕ) (c : tables.Place) → as_frame_run x ≡ Calling t n c → ⊥
never_called (tables.Going u m d) t n c e = cc
never_called (tables.Exited a m) t n c e = cc
never_called (tables.Failed v a m) t n c e = cc
never_called (tables.Turned a m) t n c e = cc

failed_is : (x : tables.Run) (v : Event) (at n : ℕ) → as_frame_run x ≡ Failed (OfStep v) at n → x ≡ tables.Failed v at n
failed_is (tables.Failed w a m) v at n e =
    ap (λ z. tables.Failed z a m) (let s : w ≡ v = cc in s) ∙ ap (λ z. tables.Failed v z m) (let s : a ≡ at = cc in s)
    ∙ ap (tables.Failed v at) (let s : m ≡ n = cc in s)
failed_is (tables.Going u m d) v at n e = absurd (cc)
failed_is (tables.Exited a m) v at n e = absurd (cc)
failed_is (tables.Turned a m) v at n e = absurd (cc)

module _ (p : Program) (layout : Layout) (b : calls.Budget) where
  abbrev f : Frame
  f = headless p

  abbrev w : Whole
  w = headless_whole p

  abbrev k : ℕ
  k = b.unroll

  -- points and prices of all frames
  abbrev ranked : points.Point → RankedPoint
  ranked x = (0, as_point x)

  abbrev flat : RankedPoint → points.Point
  flat x = triple x.1

  back_by : (o : Option points.Point) → option_map flat (option_map ranked o) ≡ o
  back_by None = refl
  back_by (Some x) = refl

  get_back : (xs : List points.Point) (i : ℕ) → option_map flat (slice_get (map ranked xs) i) ≡ slice_get xs i
  get_back xs i = ap (option_map flat) (slice_get-map ranked xs i) ∙ back_by (slice_get xs i)

  more_to : (max : ℕ) → points.HasMore p k max → HasMore w k max
  more_to max (xs, big, inside, once) = (
    map ranked xs,
    subst (λ z. max < z) (sym (length-map xs ranked)) big,
    (λ x c. (let it = of_map ranked xs x c in
        subst (λ (z : RankedPoint). (z.0 ≤ 0) × IsPoint (FrameVerdict.frame_of w z.0) k z.1) it.2 (omega arith, from p k it.0 (inside it.0 it.1)))),
    (λ i j l h e. once i j l (subst (λ z. j < z) (length-map xs ranked) h) (sym (get_back xs i) ∙ ap (option_map flat) e ∙ get_back xs j)),
  )

  ranked_is : (x : RankedPoint) → (x.0 ≤ 0) × IsPoint (FrameVerdict.frame_of w x.0) k x.1 → ranked (flat x) ≡ x
  ranked_is (n, q) h =
      let zero_is : n ≡ 0 = let l = h.0 in omega arith in
      let is : IsPoint f k q = subst (λ z. IsPoint (FrameVerdict.frame_of w z) k q) zero_is h.1 in
      let it = to p k q is in
      let e : as_point (triple q) ≡ q = ap (λ z. as_point (triple z)) it.2 ∙ sym it.2 in
      ap (λ (z : ℕ). pair z (as_point (triple q))) (sym zero_is) ∙ ap (pair n) e
    where
      pair : ℕ → Point → RankedPoint
      pair n q = (n, q)

  flat_is : (x : RankedPoint) → (x.0 ≤ 0) × IsPoint (FrameVerdict.frame_of w x.0) k x.1 → points.IsPoint p k (flat x)
  flat_is (n, q) h =
      let zero_is : n ≡ 0 = let l = h.0 in omega arith in
      let is : IsPoint f k q = subst (λ z. IsPoint (FrameVerdict.frame_of w z) k q) zero_is h.1 in
      let it = to p k q is in subst (points.IsPoint p k) (sym (ap triple it.2)) it.1

  list_is : (xs : List RankedPoint) → ((x : RankedPoint) → Contains xs x → (x.0 ≤ 0) × IsPoint (FrameVerdict.frame_of w x.0) k x.1) →
      map ranked (map flat xs) ≡ xs
  list_is [] h = refl
  list_is (x ∷ xs) h =
      ap (λ z. z ∷ map ranked (map flat xs)) (ranked_is x (h x (0, omega arith, refl)))
      ∙ ap (λ z. x ∷ z) (list_is xs (λ y c. h y (suc c.0, (let l = c.1 in omega arith), c.2)))

  more_from : (max : ℕ) → HasMore w k max → points.HasMore p k max
  more_from max (xs, big, inside, once) = (
    map flat xs,
    subst (λ z. max < z) (sym (length-map xs flat)) big,
    (λ x c. (let it = of_map flat xs x c in subst (points.IsPoint p k) it.2 (flat_is it.0 (inside it.0 it.1)))),
    (λ i j l h e. once i j l (subst (λ z. j < z) (length-map xs flat) h)
        (ap (λ z. slice_get z i) (sym (list_is xs inside)) ∙ slice_get-map ranked (map flat xs) i ∙ ap (option_map ranked) e
        ∙ sym (slice_get-map ranked (map flat xs) j) ∙ ap (λ z. slice_get z j) (list_is xs inside))),
  )

  one_sum : (n : ℕ) → sum_by (λ (m : ℕ). m) (n ∷ []) ≡ n
  one_sum n = let e = sum_by-cons (λ (m : ℕ). m) n [] in omega arith

  price_to : (n : ℕ) → points.IsPrice p k n → IsWholePrice w k n
  price_to n h = (n ∷ [], ((headless_price p k n).1 h, tt), sym (one_sum n))

  price_from : (n : ℕ) → IsWholePrice w k n → points.IsPrice p k n
  price_from n ([], zip, e) = absurd zip
  price_from n (m ∷ [], zip, e) = subst (points.IsPrice p k) (sym (e ∙ one_sum m)) ((headless_price p k m).0 zip.0)
  price_from n (m ∷ o ∷ rest, zip, e) = absurd zip.1

  within_to : answers.IsWithin p b → IsWithin w b
  within_to h = record { points = λ m. h.points (more_from b.points m); price = h.price; is_price = price_to h.price h.is_price; size = h.size }

  within_from : IsWithin w b → answers.IsWithin p b
  within_from h = record { points = λ m. h.points (more_to b.points m); price = h.price; is_price = price_from h.price h.is_price; size = h.size }

  none_below : PassBelow w k 0
  none_below i l = absurd (omega arith)

  -- refutations, and questions that are due
  refutes_to : (question : calls.Question) (proof : Proof) → evidence.Refutes p k question proof → Refutes f k (as_question question) proof
  refutes_to question proof h =
      record { of_question = (headless_clauses p k question proof.clauses).1 h.of_question; refutation = h.refutation }

  refutes_from : (question : calls.Question) (proof : Proof) → Refutes f k (as_question question) proof → evidence.Refutes p k question proof
  refutes_from question proof h =
      record { of_question = (headless_clauses p k question proof.clauses).0 h.of_question; refutation = h.refutation }

  none_fails_to : ((start : endings.Start) → verdict.IsStart p start → ¬ verdict.RunFails p k start) → FrameVerdict.NoSegmentFails f k
  none_fails_to h start is e = h (as_start start) (was_start p k start is) (fails_to p k start is e)

  none_fails_from : FrameVerdict.NoSegmentFails f k → (start : endings.Start) → verdict.IsStart p start → ¬ verdict.RunFails p k start
  none_fails_from h start is e =
      h (lifted p k start) (is_start p k start is) (fails_from p k (lifted p k start) (is_start p k start is) e)

  due_to : (question : calls.Question) → evidence.IsDue p k question → FrameQuestions.IsDue f k (as_question question)
  due_to calls.EntryQuestion h = tt
  due_to calls.FailQuestion h = h
  due_to calls.TurnQuestion h = (h.0, none_fails_to h.1)

  due_from : (question : calls.Question) → FrameQuestions.IsDue f k (as_question question) → evidence.IsDue p k question
  due_from calls.EntryQuestion h = tt
  due_from calls.FailQuestion h = h
  due_from calls.TurnQuestion h = (h.0, none_fails_from h.1)

  refuted_to : (proofs : List Proof) → AreRefuted f k (later_questions false) proofs → AreRefuted f k (later_questions (has_heads f)) proofs
  refuted_to proofs h = subst (λ z. AreRefuted f k (later_questions z) proofs) (sym (headless_heads p)) h

  refuted_from : (proofs : List Proof) → AreRefuted f k (later_questions (has_heads f)) proofs → AreRefuted f k (later_questions false) proofs
  refuted_from proofs h = subst (λ z. AreRefuted f k (later_questions z) proofs) (headless_heads p) h

  -- the start that is shown
  module _ (s : Written) where
    abbrev its : Shown
    its = record { start = s; head = None; calls = [] }

    abbrev start : Start
    start = shown_start w f layout its

    at : (n : ℕ) → run f k start n ≡ as_frame_run (tables.run p k (as_start start) n)
    at n = run_is p k start refl n

    shown : IsWritten layout (points.is_known_at p) s → IsShown w f layout its
    shown h = record {
      entry = h;
      head = λ x e. absurd (cc);
      choices = λ n. absurd (n refl);
      calls = λ n x l. absurd (omega arith);
      calls_rise = λ i j d l m. absurd (omega arith);
    }

    -- it gives contract steps nothing
    start_to : verdict.IsStart p (answers.start_in p layout s) → IsStart f k start
    start_to is = record {
      entry = is.entry;
      origin = tt;
      choices = is.choices;
      given = λ i. record { regs = λ r. omega arith; flags = λ g. omega arith; mem = λ a. omega arith };
      is_run = λ h. broken (tables.run p k (as_start start) h.0) h.1 h.2 h.3 (sym (at h.0) ∙ h.4);
    }
      where
        broken : (x : tables.Run) (l at n : ℕ) → as_frame_run x ≡ Run.Broken l at n → ⊥
        broken (tables.Going t m c) l at n e = cc
        broken (tables.Exited a m) l at n e = cc
        broken (tables.Failed v a m) l at n e = cc
        broken (tables.Turned a m) l at n e = cc

    start_from : IsStart f k start → verdict.IsStart p (answers.start_in p layout s)
    start_from is = was_start p k start is

    no_call : ¬ MakesContractStep f k start
    no_call (n, t, m, c, e) = never_called (tables.run p k (as_start start) n) t m c (sym (at n) ∙ e)

    fail_to : (v : Event) (a n : ℕ) → answers.EndsAs p k (answers.start_in p layout s) (tables.Failed v a n) → EndsAs f k start (ByEvent (OfStep v) a n)
    fail_to v a n (steps, e) = (steps, at steps ∙ ap as_frame_run e)

    fail_from : (v : Event) (a n : ℕ) → EndsAs f k start (ByEvent (OfStep v) a n) → answers.EndsAs p k (answers.start_in p layout s) (tables.Failed v a n)
    fail_from v a n (steps, e) = (steps, failed_is (tables.run p k (as_start start) steps) v a n (sym (at steps) ∙ e))

    turn_to : (a n : ℕ) → answers.EndsAs p k (answers.start_in p layout s) (tables.Turned a n) → EndsAs f k start (ByTurn a n)
    turn_to a n (steps, e) = (steps, at steps ∙ ap as_frame_run e)

    turn_from : (a n : ℕ) → EndsAs f k start (ByTurn a n) → answers.EndsAs p k (answers.start_in p layout s) (tables.Turned a n)
    turn_from a n (steps, e) = (steps, turned (tables.run p k (as_start start) steps) a n (sym (at steps) ∙ e))

  -- none of its questions is about head states
  not_step : {P : Type 0} (question : calls.Question) → as_question question ≡ FrameQuestions.StepQuestion → P
  not_step calls.EntryQuestion h = absurd (cc)
  not_step calls.FailQuestion h = absurd (cc)
  not_step calls.TurnQuestion h = absurd (cc)

  abbrev Same : answers.Report → calls.Evidence → Type 0
  Same r e = IsRightReport w layout b (as_report r) (as_evidence e) ↔ answers.IsRightReport p layout b r e

  right : (r : answers.Report) (e : calls.Evidence) → Same r e
  right answers.HoldsReport calls.NoEvidence = ((λ h. absurd (h.1 refl)), (λ h. absurd h))
  right answers.HoldsReport (calls.EntryRefuted proof) =
      ((λ h. absurd (h.3.0 h.2.1.0 h.2.1.1)), (λ h. absurd h))
  right answers.VacuousReport (calls.Refutations s fail turn) =
      ((λ h. absurd (h.2 (answers.start_in p layout s).state h.3.2)), (λ h. absurd h))
  right answers.HoldsReport (calls.Refutations s fail turn) = (
    (λ h. (let proofs = refuted_from (fail ∷ turn ∷ []) h.3.3 in (
      within_from h.0,
      (headless_is_verdict p k verdict.Holds).0 h.2,
      h.3.1,
      h.3.2,
      refutes_from calls.FailQuestion fail proofs.0,
      refutes_from calls.TurnQuestion turn proofs.1.0,
    ))),
    (λ h. (let holds = (headless_is_verdict p k verdict.Holds).1 h.1 in (
      within_to h.0,
      refl,
      holds,
      (
        inl holds,
        h.2,
        h.3,
        refuted_to (fail ∷ turn ∷ []) (refutes_to calls.FailQuestion fail h.4, (refutes_to calls.TurnQuestion turn h.5, tt)),
      ),
    ))),
  )
  right answers.VacuousReport (calls.EntryRefuted proof) = (
    (λ h. (within_from h.0, h.2, refutes_from calls.EntryQuestion proof h.3.1)),
    (λ h. (within_to h.0, none_below, h.1, (h.1, refutes_to calls.EntryQuestion proof h.2))),
  )
  right (answers.FailsReport v at step) (calls.RunOf s) = (
    (λ h. (
      within_from h.0,
      (headless_is_verdict p k verdict.Fails).0 h.7,
      h.3.entry,
      start_from s h.4,
      fail_from s v at step h.5,
    )),
    (λ h. (
      within_to h.0,
      none_below,
      refl,
      shown s h.2,
      start_to s h.3,
      fail_to s v at step h.4,
      no_call s,
      (headless_is_verdict p k verdict.Fails).1 h.1,
    )),
  )
  right (answers.UnrollReport at step) (calls.RunOf s) = (
    (λ h. (
      within_from h.0,
      (headless_is_verdict p k verdict.Unroll).0 h.7,
      h.3.entry,
      start_from s h.4,
      turn_from s at step h.5,
    )),
    (λ h. (
      within_to h.0,
      none_below,
      refl,
      shown s h.2,
      start_to s h.3,
      turn_to s at step h.4,
      no_call s,
      (headless_is_verdict p k verdict.Unroll).1 h.1,
    )),
  )
  right answers.PointsReport (calls.Count n) = ((λ h. (more_from b.points h.0, h.1)), (λ h. (more_to b.points h.0, h.1)))
  right answers.SizeReport (calls.Count n) = (
    (λ h. ((λ m. h.0 (more_to b.points m)), price_from n h.1, h.2)),
    (λ h. ((λ m. h.0 (more_from b.points m)), price_to n h.1, h.2)),
  )
  right answers.ConflictsReport (calls.SpentOn question proof) = (
    (λ h. (
      within_from h.0,
      due_from question h.3,
      record { of_question = (headless_clauses p k question proof.clauses).0 h.4.of_question; spent = h.4.spent },
    )),
    (λ h. (
      within_to h.0,
      omega arith,
      none_below,
      due_to question h.1,
      record { of_question = (headless_clauses p k question proof.clauses).1 h.2.of_question; spent = h.2.spent },
      not_step question,
    )),
  )
  right answers.HoldsReport (calls.RunOf s) = ((λ h. absurd h), (λ h. absurd h))
  right answers.HoldsReport (calls.SpentOn question proof) = ((λ h. absurd h), (λ h. absurd h))
  right answers.HoldsReport (calls.Count n) = ((λ h. absurd h), (λ h. absurd h))
  right answers.VacuousReport calls.NoEvidence = ((λ h. absurd h), (λ h. absurd h))
  right answers.VacuousReport (calls.RunOf s) = ((λ h. absurd h), (λ h. absurd h))
  right answers.VacuousReport (calls.SpentOn question proof) = ((λ h. absurd h), (λ h. absurd h))
  right answers.VacuousReport (calls.Count n) = ((λ h. absurd h), (λ h. absurd h))
  right (answers.FailsReport v at step) calls.NoEvidence = ((λ h. absurd h), (λ h. absurd h))
  right (answers.FailsReport v at step) (calls.Refutations s fail turn) = ((λ h. absurd h), (λ h. absurd h))
  right (answers.FailsReport v at step) (calls.EntryRefuted proof) = ((λ h. absurd h), (λ h. absurd h))
  right (answers.FailsReport v at step) (calls.SpentOn question proof) = ((λ h. absurd h), (λ h. absurd h))
  right (answers.FailsReport v at step) (calls.Count n) = ((λ h. absurd h), (λ h. absurd h))
  right (answers.UnrollReport at step) calls.NoEvidence = ((λ h. absurd h), (λ h. absurd h))
  right (answers.UnrollReport at step) (calls.Refutations s fail turn) = ((λ h. absurd h), (λ h. absurd h))
  right (answers.UnrollReport at step) (calls.EntryRefuted proof) = ((λ h. absurd h), (λ h. absurd h))
  right (answers.UnrollReport at step) (calls.SpentOn question proof) = ((λ h. absurd h), (λ h. absurd h))
  right (answers.UnrollReport at step) (calls.Count n) = ((λ h. absurd h), (λ h. absurd h))
  right answers.PointsReport calls.NoEvidence = ((λ h. absurd h), (λ h. absurd h))
  right answers.PointsReport (calls.Refutations s fail turn) = ((λ h. absurd h), (λ h. absurd h))
  right answers.PointsReport (calls.EntryRefuted proof) = ((λ h. absurd h), (λ h. absurd h))
  right answers.PointsReport (calls.RunOf s) = ((λ h. absurd h), (λ h. absurd h))
  right answers.PointsReport (calls.SpentOn question proof) = ((λ h. absurd h), (λ h. absurd h))
  right answers.SizeReport calls.NoEvidence = ((λ h. absurd h), (λ h. absurd h))
  right answers.SizeReport (calls.Refutations s fail turn) = ((λ h. absurd h), (λ h. absurd h))
  right answers.SizeReport (calls.EntryRefuted proof) = ((λ h. absurd h), (λ h. absurd h))
  right answers.SizeReport (calls.RunOf s) = ((λ h. absurd h), (λ h. absurd h))
  right answers.SizeReport (calls.SpentOn question proof) = ((λ h. absurd h), (λ h. absurd h))
  right answers.ConflictsReport calls.NoEvidence = ((λ h. absurd h), (λ h. absurd h))
  right answers.ConflictsReport (calls.Refutations s fail turn) = ((λ h. absurd h), (λ h. absurd h))
  right answers.ConflictsReport (calls.EntryRefuted proof) = ((λ h. absurd h), (λ h. absurd h))
  right answers.ConflictsReport (calls.RunOf s) = ((λ h. absurd h), (λ h. absurd h))
  right answers.ConflictsReport (calls.Count n) = ((λ h. absurd h), (λ h. absurd h))
  right answers.HoldsReport (calls.Two x y) = ((λ h. absurd (h.1 refl)), (λ h. absurd h))
  right answers.HoldsReport (calls.Both x y z t proof) = ((λ h. absurd (h.1 refl)), (λ h. absurd h))
  right answers.HoldsReport (calls.SpentOnPair question proof) = ((λ h. absurd (h.1 refl)), (λ h. absurd h))
  right answers.VacuousReport (calls.Two x y) = ((λ h. absurd h), (λ h. absurd h))
  right answers.VacuousReport (calls.Both x y z t proof) = ((λ h. absurd h), (λ h. absurd h))
  right answers.VacuousReport (calls.SpentOnPair question proof) = ((λ h. absurd h), (λ h. absurd h))
  right (answers.FailsReport v at step) (calls.Two x y) = ((λ h. absurd h), (λ h. absurd h))
  right (answers.FailsReport v at step) (calls.Both x y z t proof) = ((λ h. absurd h), (λ h. absurd h))
  right (answers.FailsReport v at step) (calls.SpentOnPair question proof) = ((λ h. absurd h), (λ h. absurd h))
  right (answers.UnrollReport at step) (calls.Two x y) = ((λ h. absurd h), (λ h. absurd h))
  right (answers.UnrollReport at step) (calls.Both x y z t proof) = ((λ h. absurd h), (λ h. absurd h))
  right (answers.UnrollReport at step) (calls.SpentOnPair question proof) = ((λ h. absurd h), (λ h. absurd h))
  right answers.PointsReport (calls.Two x y) = ((λ h. absurd h), (λ h. absurd h))
  right answers.PointsReport (calls.Both x y z t proof) = ((λ h. absurd h), (λ h. absurd h))
  right answers.PointsReport (calls.SpentOnPair question proof) = ((λ h. absurd h), (λ h. absurd h))
  right answers.SizeReport (calls.Two x y) = ((λ h. absurd h), (λ h. absurd h))
  right answers.SizeReport (calls.Both x y z t proof) = ((λ h. absurd h), (λ h. absurd h))
  right answers.SizeReport (calls.SpentOnPair question proof) = ((λ h. absurd h), (λ h. absurd h))
  right answers.ConflictsReport (calls.Two x y) = ((λ h. absurd h), (λ h. absurd h))
  right answers.ConflictsReport (calls.Both x y z t proof) = ((λ h. absurd h), (λ h. absurd h))
  right answers.ConflictsReport (calls.SpentOnPair question proof) = ((λ h. absurd h), (λ h. absurd h))
  right answers.HoldsReport (calls.Inductive s fail step_proof turn) = ((λ h. absurd (h.1 refl)), (λ h. absurd h))
  right answers.HoldsReport (calls.FromHead s head) = ((λ h. absurd (h.1 refl)), (λ h. absurd h))
  right answers.HoldsReport (calls.Frames list) = ((λ h. absurd (h.1 refl)), (λ h. absurd h))
  right answers.HoldsReport (calls.WithCalls rank s list) = ((λ h. absurd (h.1 refl)), (λ h. absurd h))
  right answers.HoldsReport (calls.SpentOnFrame rank question proof) = ((λ h. absurd (h.1 refl)), (λ h. absurd h))
  right answers.VacuousReport (calls.Inductive s fail step_proof turn) = ((λ h. absurd h), (λ h. absurd h))
  right answers.VacuousReport (calls.FromHead s head) = ((λ h. absurd h), (λ h. absurd h))
  right answers.VacuousReport (calls.Frames list) = ((λ h. absurd h), (λ h. absurd h))
  right answers.VacuousReport (calls.WithCalls rank s list) = ((λ h. absurd h), (λ h. absurd h))
  right answers.VacuousReport (calls.SpentOnFrame rank question proof) = ((λ h. absurd h), (λ h. absurd h))
  right (answers.FailsReport v at step) (calls.Inductive s fail step_proof turn) = ((λ h. absurd h), (λ h. absurd h))
  right (answers.FailsReport v at step) (calls.FromHead s head) = ((λ h. absurd h), (λ h. absurd h))
  right (answers.FailsReport v at step) (calls.Frames list) = ((λ h. absurd h), (λ h. absurd h))
  right (answers.FailsReport v at step) (calls.WithCalls rank s list) = ((λ h. absurd h), (λ h. absurd h))
  right (answers.FailsReport v at step) (calls.SpentOnFrame rank question proof) = ((λ h. absurd h), (λ h. absurd h))
  right (answers.UnrollReport at step) (calls.Inductive s fail step_proof turn) = ((λ h. absurd h), (λ h. absurd h))
  right (answers.UnrollReport at step) (calls.FromHead s head) = ((λ h. absurd h), (λ h. absurd h))
  right (answers.UnrollReport at step) (calls.Frames list) = ((λ h. absurd h), (λ h. absurd h))
  right (answers.UnrollReport at step) (calls.WithCalls rank s list) = ((λ h. absurd h), (λ h. absurd h))
  right (answers.UnrollReport at step) (calls.SpentOnFrame rank question proof) = ((λ h. absurd h), (λ h. absurd h))
  right answers.PointsReport (calls.Inductive s fail step_proof turn) = ((λ h. absurd h), (λ h. absurd h))
  right answers.PointsReport (calls.FromHead s head) = ((λ h. absurd h), (λ h. absurd h))
  right answers.PointsReport (calls.Frames list) = ((λ h. absurd h), (λ h. absurd h))
  right answers.PointsReport (calls.WithCalls rank s list) = ((λ h. absurd h), (λ h. absurd h))
  right answers.PointsReport (calls.SpentOnFrame rank question proof) = ((λ h. absurd h), (λ h. absurd h))
  right answers.SizeReport (calls.Inductive s fail step_proof turn) = ((λ h. absurd h), (λ h. absurd h))
  right answers.SizeReport (calls.FromHead s head) = ((λ h. absurd h), (λ h. absurd h))
  right answers.SizeReport (calls.Frames list) = ((λ h. absurd h), (λ h. absurd h))
  right answers.SizeReport (calls.WithCalls rank s list) = ((λ h. absurd h), (λ h. absurd h))
  right answers.SizeReport (calls.SpentOnFrame rank question proof) = ((λ h. absurd h), (λ h. absurd h))
  right answers.ConflictsReport (calls.Inductive s fail step_proof turn) = ((λ h. absurd h), (λ h. absurd h))
  right answers.ConflictsReport (calls.FromHead s head) = ((λ h. absurd h), (λ h. absurd h))
  right answers.ConflictsReport (calls.Frames list) = ((λ h. absurd h), (λ h. absurd h))
  right answers.ConflictsReport (calls.WithCalls rank s list) = ((λ h. absurd h), (λ h. absurd h))
  right answers.ConflictsReport (calls.SpentOnFrame rank question proof) = ((λ h. absurd h), (λ h. absurd h))

pub headless_reports : HeadlessReports
headless_reports p layout b r e = right p layout b r e
