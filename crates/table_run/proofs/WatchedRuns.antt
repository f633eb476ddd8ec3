-- Runs of the code whose steps are seen.
use Rattle.std.proofs.Common.{◌≡◌, ℕ, zero, suc, ◌+◌, ◌-◌, ◌≤◌, List, [], ◌∷◌, ◌++◌, Bool, length, Option, Some, None, refl, sym, ap, ◌∙◌, subst, arith, append-nil}
use Rattle.word_spec.specs.State.{State, IsState}
use Rattle.machine_spec.specs.StateText.{Layout}
use Rattle.bilv_spec.specs.PointLaws.{HasLawfulRows, ReadsMemory}
use Rattle.bilv_spec.specs.Run.{Program}
use Rattle.frame_spec.specs.Frames.{Contract, Frame}
use Rattle.frame_spec.specs.FrameRuns.{Start, Run, Going, Arriving, Calling, Exited, Failed, Turned, Cut, Broken, FrameStep, Halts, Leaves, IsOver, after_step, run}
use Rattle.frame_spec.specs.FrameReports.{WrittenCall}
use Rattle.frame_spec.proofs.OneEnd.{over_stays}
use Rattle.frame_texts_spec.specs.CallReplays.{BlockCause, WrongAt, BreaksLine, block_at}
use Rattle.trace_spec.specs.Seen as trace
use Rattle.trace_spec.specs.Seen.{left_of, seen_between, seen_of, seen_steps}
use Rattle.seen_step.specs.declared.looks.Glance.{Glance}
use Rattle.table_run.specs.declared.called_turns.Stand.{Stand}
use Rattle.table_run.specs.declared.called_turns.Stand.TheVariants as stand
use Rattle.table_run.specs.declared.ending.CalledEnding.{CalledEnding}
use Rattle.table_run.specs.declared.ending.CalledEnding.TheVariants as ending
use Rattle.table_run.specs.declared.ending.CalledStepEnd.{CalledStepEnd}
use Rattle.table_run.specs.declared.ending.CalledStepEnd.TheVariants as end
use Rattle.table_run.specs.declared.observers.Observer.{Observer}
use Rattle.table_run.specs.CalledFrames.{IsSeenAs, IsTurnEnd, called_event_of, called_frame, program_in, standing, turned, turned_wrong}
use Rattle.table_run.specs.CalledRuns.{IsEnded, IsLast, cause_of}
use Rattle.table_run.specs.Watching.{AreLow, HasSeen, IsLeftBy, IsSeenBy, kind_at, later_of, places_at, stored_at, turn_left, turn_seen}
use Rattle.table_run.specs.WatchedRuns.{IsWatchedRight, step_in}
use Rattle.table_run.proofs.CalledRuns.{IsRunning}
use Rattle.table_run.proofs.Watching.{seen_fact, turn_is, turn_leaves}

-- ---- what an ending without a cause says

pub ended_is : (after : Option BlockCause) (own e : CalledEnding) → IsEnded after own e → cause_of e ≡ None → e ≡ own
ended_is None own e same none = same
ended_is (Some (WrongAt step)) own e same none = absurd (let both : Some (WrongAt step) ≡ None = sym (ap cause_of same) ∙ none in cc)
ended_is (Some (BreaksLine line)) own e same none = absurd same

-- ---- after the end of a run

module _ (f : Frame) (form : Layout) (k : ℕ) (start : Start) where
  none_seen : (r : Run) → IsOver r → seen_of f form start r ≡ []
  none_seen (Going turns n c) over = absurd over
  none_seen (Arriving turns n c) over = absurd over
  none_seen (Calling turns n c) over = absurd over
  none_seen (Exited at n) over = refl
  none_seen (Failed e at n) over = refl
  none_seen (Turned at n) over = refl
  none_seen (Cut at n) over = refl
  none_seen (Broken l at n) over = refl

  module _ (a : ℕ) (r : Run) (over : IsOver r) (is : run f k start (suc a) ≡ r) where
    seen_rest : (d m : ℕ) → m ≡ d + a → seen_steps f form k start (suc m) ≡ seen_steps f form k start (suc a)
    seen_rest zero m same = let here : m ≡ a = omega (arith, same) in ap (λ j. seen_steps f form k start (suc j)) here
    seen_rest (suc d) zero same = absurd (omega (arith, same))
    seen_rest (suc d) (suc m) same =
        let before : m ≡ d + a = omega (arith, same) in
        let place : d + suc a ≡ suc m = omega (arith, before) in
        let there : run f k start (suc m) ≡ r = subst (λ j. run f k start j ≡ r) place (over_stays f k start (suc a) d r over is) in
        ap (λ z. seen_steps f form k start (suc m) ++ seen_of f form start z) there
        ∙ ap (λ l. seen_steps f form k start (suc m) ++ l) (none_seen r over) ∙ append-nil (seen_steps f form k start (suc m)) ∙ seen_rest d m before

    pub seen_over : (count : ℕ) → suc a ≤ count → seen_steps f form k start count ≡ seen_steps f form k start (suc a)
    seen_over zero le = absurd (omega (arith, le))
    seen_over (suc last) le = let gap : last ≡ (last - a) + a = omega (arith, le) in seen_rest (last - a) last gap

-- ---- a step of a run

module _ (p : Program) (stepped : List Contract) (own : Option Contract) (lawful : HasLawfulRows (program_in p own)) (memory : ReadsMemory (program_in p own))
    (form : Layout) (k : ℕ) (start : Start) (calls : List WrittenCall) (stands : Stand) (turns n : ℕ) (called : Bool) (now : State) (stack : List ℕ)
    (r : IsRunning (called_frame p stepped own) k start calls p stands turns n called now stack) (now_state : IsState now) (choice : ℕ)
    (drawn : choice ≡ start.choices n) (y : CalledStepEnd) (new : State) (after : List ℕ) where
  abbrev f : Frame
  f = called_frame p stepped own

  abbrev x : FrameStep
  x = turned stands f start.state r.place choice (start.given n)

  abbrev wrong : Option BlockCause
  wrong = turned_wrong stands f start.state r.place (block_at calls n) (start.given n) n

  -- an ending without a cause: the block is its step's, the step is the last one, and the run is over behind it
  pub record IsRightEnd (e : CalledEnding) : Type 0 where
    pub right : wrong ≡ None
    pub last : step_in e ≡ n
    pub behind : Run
    pub over : IsOver behind
    pub is : run f k start (suc n) ≡ behind

  pub last_right : (at : ℕ) (b : Option BlockCause) (e : CalledEnding) → ((u : FrameStep) → x ≡ u → run f k start (suc n) ≡ after_step k turns n at u) →
      (z : CalledStepEnd) → IsTurnEnd z p new after n x wrong → IsLast z at n b e → cause_of e ≡ None → IsRightEnd e
  last_right at b e next (end.Halts h) is last none = record {
    right = is.1;
    last = ap step_in (ended_is b (ending.Failed h at n) e last none);
    behind = Failed (called_event_of h) at n;
    over = tt;
    is = next (Halts (called_event_of h)) is.0;
  }
  last_right at b e next end.Leaves is last none = record {
    right = is.2;
    last = ap step_in (ended_is b (ending.Exit at n) e last none);
    behind = Exited at n;
    over = tt;
    is = next (Leaves is.0) is.1;
  }
  last_right at b e next (end.Breaks line) is last none =
      absurd (let both : Some (BreaksLine line) ≡ None = sym (ap cause_of last) ∙ none in cc)
  last_right at b e next end.NoCall is last none = absurd (let both : Some (WrongAt n) ≡ None = sym (ap cause_of last) ∙ none in cc)
  last_right at b e next end.GoesTo is last none = absurd last
  last_right at b e next end.Calls is last none = absurd last

  module _ (is : IsTurnEnd y p new after n x wrong) (left : IsLeftBy stands y p start.state now choice new) (right : wrong ≡ None) where
    left_is : (s : Stand) → left_of f start (standing s turns n r.place) ≡ Some (turn_left s f start.state r.place (start.choices n) (start.given n))
    left_is stand.Row = refl
    left_is stand.Contract = refl

    leaves : (s : State) → left_of f start (run f k start n) ≡ Some s → IsSeenAs s new
    leaves s found =
        let there : Some s ≡ Some (turn_left stands f start.state r.place choice (start.given n)) =
        sym found ∙ ap (left_of f start) r.goes ∙ left_is stands
        ∙ ap (λ h. Some (turn_left stands f start.state r.place h (start.given n))) (sym drawn) in
        let same : turn_left stands f start.state r.place choice (start.given n) ≡ s = cc in
        subst (λ (z : State). IsSeenAs z new) same
        (turn_leaves p stepped own lawful memory start.state r.place now stack r.at now_state form n choice (start.given n) new after n wrong right stands y
        is left)

    pub watched : (o : Observer) (count : ℕ) (e : CalledEnding) → HasSeen o (seen_steps f form k start (suc n)) →
        seen_steps f form k start count ≡ seen_steps f form k start (suc n) → step_in e ≡ n → IsWatchedRight f form k start count e o new
    watched o count e has same last = record {
      seen = subst (HasSeen o) (sym same) has;
      left = subst (λ j. (s : State) → left_of f start (run f k start j) ≡ Some s → IsSeenAs s new) (sym last) leaves;
    }

    seen_is : (s : Stand) → seen_of f form start (standing s turns n r.place) ≡ turn_seen s f form start.state n r.place (start.choices n) (start.given n) ∷ []
    seen_is stand.Row = refl
    seen_is stand.Contract = refl

    pub has_next : (before o : Observer) (look : Option Glance) (depth later : ℕ) → depth ≡ length stack → later ≡ later_of y depth (length after) →
        HasSeen before (seen_steps f form k start n) → IsSeenBy before look (λ g. AreLow (places_at stands f now)) →
        HasSeen o (seen_steps f form k start n
        ++ seen_between form (kind_at stands) n (stored_at stands f now) (places_at stands f now) now depth new later ∷ []) →
        HasSeen o (seen_steps f form k start (suc n))
    has_next before o look depth later deep later_is has low grown =
        let steps = seen_steps f form k start n in
        let code : ℕ → trace.SeenStep =
        λ l. seen_between form (kind_at stands) n (stored_at stands f now) (places_at stands f now) now depth new l in
        let one = turn_is p stepped own lawful memory start.state r.place now stack r.at now_state form n choice (start.given n) new after n wrong right
        depth deep stands y is left (seen_fact before look (AreLow (places_at stands f now)) steps has low) in
        subst (HasSeen o)
        (ap (λ l. steps ++ code l ∷ []) later_is ∙ ap (λ z. steps ++ z ∷ []) (sym one)
        ∙ ap (λ h. steps ++ turn_seen stands f form start.state n r.place h (start.given n) ∷ []) drawn
        ∙ ap (λ l. steps ++ l) (sym (seen_is stands)) ∙ ap (λ z. steps ++ seen_of f form start z) (sym r.goes))
        grown
