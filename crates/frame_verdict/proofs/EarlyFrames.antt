-- What the questions of a frame within a smaller bound come to holds for the budget's bound.
use Rattle.std.proofs.Common.{◌≡◌, refl, sym, ap, subst, ◌∙◌, ℕ, ◌≤◌, Bool, true, false, List, Some, None}
use Rattle.std.specs.Prelude.{if◌then◌else◌, Contains}
use Rattle.std.proofs.lemmas.List.{length-map}
use Rattle.machine_spec.specs.StateText.{Layout}
use Rattle.bilv_spec.specs.Points.{is_known_at, byte_of_cell}
use Rattle.term_spec.specs.WalkQuestions.{is_asked}
use Rattle.frame_spec.specs.Frames.{Contract, Frame}
use Rattle.frame_spec.specs.FramePoints.{has_heads}
use Rattle.frame_spec.specs.FrameQuestions.{Question, EntryQuestion, FailQuestion, StepQuestion, TurnQuestion}
use Rattle.frame_spec.specs.FrameReports.{ByEvent, ByTurn, AreMade, EndsAs, HasMore, MakesContractStep, Named, Refutes, WrittenCall}
use Rattle.frame_spec.specs.FrameRuns.{Start as Begun, Failed, Turned, run}
use Rattle.frame_spec.specs.FrameVerdict.{RunFails, RunTurns, Whole, frame_of}
use Rattle.frame_spec.specs.FrameWalk.{UnrolledProgram, point_at}
use Rattle.frame_spec.proofs.OneEnd.{one_end}
use Rattle.frame_terms.specs.FrameLayers.{IsFitting}
use Rattle.frame_terms.proofs.FrameAsked.{frame_asked_is_right}
use Rattle.frame_turns.specs.Bounds.{NeverTrue, SameAnchors}
use Rattle.frame_turns.specs.Raised.{IsWhole, NoneTurns, free_inputs, over_variables}
use Rattle.frame_turns.proofs.Alike.{frame_runs_same}
use Rattle.frame_turns.proofs.AlikeQuestions.{frame_starts_rise}
use Rattle.frame_turns.proofs.AnchorCounts.{anchors_count, frame_points_rise}
use Rattle.frame_turns.proofs.Raising.{asked_of_more, frame_refutations_rise, frame_refuted_never_true, never_true_of_more}
use Rattle.asked_bytes.specs.AskedBytes.{AreAdded}
use Rattle.cnf_form.specs.Views.{proof_of}
use Rattle.cnf_form.specs.declared.form.Proof.{Proof}
use Rattle.question_form.specs.FrameViews.{frame_unrolled_of, root_of}
use Rattle.question_form.specs.declared.unrolled.Unrolled.{Unrolled}
use Rattle.frame_rounds.specs.FrameGrounds.{IsFrameGround, RulesOut}
use Rattle.frame_rounds.specs.FrameRounds.{IsFrameDecided}
use Rattle.frame_rounds.specs.declared.answers.FrameAnswered.{FrameAnswered}
use Rattle.frame_rounds.specs.declared.answers.FrameAnswered.TheVariants.{Refuted}
use Rattle.frame_rounds.specs.declared.answers.FrameDecided.{FrameDecided}
use Rattle.frame_rounds.proofs.FrameRoots.{gift_contract}
use Rattle.frame_verdict.specs.FewerTurns.{IsSmaller, RefutesLater, TurnsNever}
use Rattle.frame_verdict.specs.FrameVerdicts.{named_of}
use Rattle.frame_verdict.specs.ShownEnds.{IsEnded, begun, is_end, shown_of}
use Rattle.frame_verdict.specs.JudgedFrames.{IsShownEnd}
use Rattle.frame_verdict.specs.declared.judged.Ended.{Ended}
use Rattle.frame_verdict.proofs.EndedRuns.{fails_by}
use Rattle.frame_verdict.proofs.Judging.{answered, shown_end}

-- a byte that is known by a test is one where the test says so
known_test : (b : Bool) (x y : ℕ) → (if b then Some x else None) ≡ Some y → b ≡ true
known_test true x y h = refl
known_test false x y h = absurd (cc)

-- what was asked for a question is known
asks : (f : Frame) (contracts : List Contract) (k : ℕ) (layout : Layout) (u : Unrolled) → IsFrameGround f contracts k layout u → (added : List ℕ) →
    AreAdded (frame_unrolled_of u).known added → (a : ℕ) → Contains added a → is_known_at f.program a ≡ true
asks f contracts k layout u g added are a has =
    let known = are.known a has in
    known_test (is_known_at f.program a) (byte_of_cell (f.program.loaded a)) known.1.0 (sym (g.unrolling.known a known.0) ∙ known.1.1)

module _ (f : Frame) (contracts : List Contract) (k m : ℕ) (layout : Layout) (whole u : Unrolled) (is : IsSmaller f contracts k m layout whole u) where
  -- the greater bound has no more anchors
  same_anchors : SameAnchors f k m
  same_anchors =
      anchors_count f contracts k m is.few (frame_unrolled_of u) (frame_unrolled_of whole) is.small.ground.unrolling is.great.ground.unrolling
      (length-map u.roots.items (root_of u) ∙ is.roots ∙ sym (length-map whole.roots.items (root_of whole)))

  abbrev large : UnrolledProgram
  large = frame_unrolled_of whole

  fitting : IsFitting large
  fitting = record {
    registers = is.great.measurable.walkable.sized.registers;
    flags = is.great.measurable.walkable.sized.flags;
    gift_registers = λ i n x h l.
        (let c = gift_contract f contracts m large is.great.ground.unrolling i x h in
        is.great.ground.fits.registers (point_at large i).point.at n c.contract c.stepped (subst (λ (z : List ℕ). Contains z n) c.registers l));
    gift_flags = λ i n x h l.
        (let c = gift_contract f contracts m large is.great.ground.unrolling i x h in
        is.great.ground.fits.flags (point_at large i).point.at n c.contract c.stepped (subst (λ (z : List ℕ). Contains z n) c.flags l));
  }

  is_whole : IsWhole f contracts m large
  is_whole = record { lawful = is.great.ground.lawful; unrolling = is.great.ground.unrolling; fitting = fitting }

  -- a refutation over as many variables as the greater bound has inputs
  raised : (question : Question) (proof later : Proof) (inputs : ℕ) → inputs ≡ free_inputs large (has_heads f) →
      proof_of later ≡ over_variables inputs (proof_of proof) → Refutes f k question (proof_of proof) → (asked : ℕ → Bool) →
      ((a : ℕ) → asked a ≡ true → is_known_at f.program a ≡ true) → NeverTrue f asked k question → NoneTurns f asked k m question →
      Refutes f m question (proof_of later)
  raised question proof later inputs count same h asked known never none =
      subst (Refutes f m question) (ap (λ z. over_variables z (proof_of proof)) (sym count) ∙ sym same)
      (frame_refutations_rise f contracts k m is.few question (proof_of proof) h asked known never none large is_whole)

  -- over the bytes that the refutation asks itself
  raised_alone : (question : Question) (proof later : Proof) (inputs : ℕ) → inputs ≡ free_inputs large (has_heads f) →
      proof_of later ≡ over_variables inputs (proof_of proof) → (h : Refutes f k question (proof_of proof)) →
      NoneTurns f h.of_question.asked k m question → Refutes f m question (proof_of later)
  raised_alone question proof later inputs count same h none =
      raised question proof later inputs count same h h.of_question.asked h.of_question.asks_known
      (frame_refuted_never_true f k question (proof_of proof) h) none

module _ (u : Unrolled) (conflicts : ℕ) (inputs : ℕ) where
  -- the turn question is refuted for the greater bound
  pub turns_later : (first : List ℕ) (d : FrameDecided) (t later : Proof) → IsFrameDecided u TurnQuestion conflicts first d → d.answered ≡ Refuted t →
      proof_of later ≡ over_variables inputs (proof_of t) → RefutesLater u inputs TurnQuestion later
  turns_later first d t later h e same f contracts k m layout whole is count =
      raised_alone f contracts k m layout whole u is TurnQuestion t later inputs count same
      (answered u TurnQuestion conflicts d.answered (Refuted t) h.answers e f contracts k layout is.small.ground)
      (same_anchors f contracts k m layout whole u is)

  -- and no reading that has what was asked makes it true
  pub turns_never : (first : List ℕ) (d : FrameDecided) (t : Proof) → IsFrameDecided u TurnQuestion conflicts first d → d.answered ≡ Refuted t →
      TurnsNever u d.added.items
  turns_never first d t h e = subst (λ (z : FrameAnswered). RulesOut u TurnQuestion d.added.items z) e h.rules

  -- so none that has more
  pub never_more : (few many : List ℕ) → ((a : ℕ) → Contains few a → Contains many a) → TurnsNever u few → TurnsNever u many
  never_more few many keep never f contracts k layout ground =
      never_true_of_more f (is_asked few (frame_unrolled_of u).literals) (is_asked many (frame_unrolled_of u).literals)
      (asked_of_more few many (frame_unrolled_of u).literals keep) k TurnQuestion (never f contracts k layout ground)

  -- another question is refuted for the greater bound, where no reading that has what was asked makes the turn question true
  pub fails_later : (question : Question) →
      ((f : Frame) (asked : ℕ → Bool) (k m : ℕ) → SameAnchors f k m → NeverTrue f asked k TurnQuestion → NoneTurns f asked k m question) →
      (first : List ℕ) (d : FrameDecided) (t later : Proof) → TurnsNever u first → IsFrameDecided u question conflicts first d → d.answered ≡ Refuted t →
      proof_of later ≡ over_variables inputs (proof_of t) → RefutesLater u inputs question later
  fails_later question none first d t later never h e same f contracts k m layout whole is count =
      let asked = is_asked d.added.items (frame_unrolled_of u).literals in
      let ground = is.small.ground in
      raised f contracts k m layout whole u is question t later inputs count same
      (answered u question conflicts d.answered (Refuted t) h.answers e f contracts k layout ground) asked
      (frame_asked_is_right f contracts k (frame_unrolled_of u) ground.unrolling d.added.items (asks f contracts k layout u ground d.added.items h.added)).0
      (subst (λ (z : FrameAnswered). RulesOut u question d.added.items z) e h.rules f contracts k layout ground)
      (none f asked k m (same_anchors f contracts k m layout whole u is) (never_more first d.added.items h.keep never f contracts k layout ground))

  pub fail_later : (first : List ℕ) (d : FrameDecided) (t later : Proof) → TurnsNever u first → IsFrameDecided u FailQuestion conflicts first d →
      d.answered ≡ Refuted t → proof_of later ≡ over_variables inputs (proof_of t) → RefutesLater u inputs FailQuestion later
  fail_later = fails_later FailQuestion (λ f asked k m a n. (a, n))

  pub step_later : (first : List ℕ) (d : FrameDecided) (t later : Proof) → TurnsNever u first → IsFrameDecided u StepQuestion conflicts first d →
      d.answered ≡ Refuted t → proof_of later ≡ over_variables inputs (proof_of t) → RefutesLater u inputs StepQuestion later
  step_later = fails_later StepQuestion (λ f asked k m a n. (a, n))

  -- the entry question has no bound
  pub entry_later : (t later : Proof) → proof_of later ≡ over_variables inputs (proof_of t) → (f : Frame) (contracts : List Contract) (k m : ℕ)
      (layout : Layout) (whole : Unrolled) → IsSmaller f contracts k m layout whole u → inputs ≡ free_inputs (frame_unrolled_of whole) (has_heads f) →
      Refutes f k EntryQuestion (proof_of t) → Refutes f m EntryQuestion (proof_of later)
  entry_later t later same f contracts k m layout whole is count h =
      raised_alone f contracts k m layout whole u is EntryQuestion t later inputs count same h tt

-- ---- a run that fails

-- it makes no backward transfer too many
fail_not_turn : (f : Frame) (k : ℕ) (start : Begun) → RunFails f k start → ¬ RunTurns f k start
fail_not_turn f k start a b = let e = one_end f k start a.0 b.0 (Failed a.3 a.1 a.2) (Turned b.1 b.2) tt tt a.4 b.3 in cc

-- so it is the same within a greater bound
module _ (f : Frame) (k m : ℕ) (h : k ≤ m) (start : Begun) (fails : RunFails f k start) where
  alike : (steps : ℕ) → run f m start steps ≡ run f k start steps
  alike = frame_runs_same f k m h start (fail_not_turn f k start fails)

  ends_later : (n : Named) → EndsAs f k start n → EndsAs f m start n
  ends_later (ByEvent e at step) (steps, is) = (steps, alike steps ∙ is)
  ends_later (ByTurn at step) (steps, is) = (steps, alike steps ∙ is)

  made_later : (calls : List WrittenCall) → AreMade f k start calls → AreMade f m start calls
  made_later calls made = record {
    each = λ i c l. (let one = made.each i c l in record {
      steps = one.steps;
      turns = one.turns;
      place = one.place;
      contract = one.contract;
      comes = alike one.steps ∙ one.comes;
      stepped = one.stepped;
      passes = one.passes;
      is = one.is;
    });
    whole = λ steps turns n c is quiet. made.whole steps turns n c (sym (alike steps) ∙ is) quiet;
  }

  called_later : MakesContractStep f k start → MakesContractStep f m start
  called_later (steps, turns, n, c, is) = (steps, turns, n, c, alike steps ∙ is)

  called_before : MakesContractStep f m start → MakesContractStep f k start
  called_before (steps, turns, n, c, is) = (steps, turns, n, c, sym (alike steps) ∙ is)

module _ (w : Whole) (rank k m : ℕ) (layout : Layout) (h : k ≤ m) (e : Ended) (is : IsEnded w rank k layout FailQuestion e) where
  abbrev f : Frame
  f = frame_of w rank

  abbrev its : Begun
  its = begun w rank layout (shown_of e.shown)

  failing : (n : Named) → is_end FailQuestion n ≡ true → EndsAs f k its n → RunFails f k its
  failing (ByEvent v at step) asked ends = fails_by f k its v at step ends
  failing (ByTurn at step) asked ends = absurd (cc)

  fails : RunFails f k its
  fails = failing (named_of e.ending) is.asked is.ends

  ended : IsEnded w rank m layout FailQuestion e
  ended = record {
    shown = is.shown;
    head = is.head;
    start = (frame_starts_rise f k m h its is.start fails).0;
    ends = ends_later f k m h its fails (named_of e.ending) is.ends;
    asked = is.asked;
    made = made_later f k m h its fails (shown_of e.shown).calls is.made;
    called = λ c. called_later f k m h its fails (is.called c);
    uncalled = λ c made. is.uncalled c (called_before f k m h its fails made);
  }

  -- a segment that shows within a smaller bound that one from the entry fails shows it within a greater one
  pub shown_later : IsShownEnd w rank m layout e
  shown_later = shown_end w rank m layout e FailQuestion ended (its.state, is.start.entry)

-- ---- budgets

-- all frames together have no more points for fewer backward transfers
pub few_before : (w : Whole) (k m max : ℕ) → k ≤ m → ¬ HasMore w m max → ¬ HasMore w k max
few_before w k m max h few (list, longer, are, once) =
    few (list, longer, (λ x has. ((are x has).0, frame_points_rise (frame_of w x.0) k m h x.1 (are x has).1)), once)
