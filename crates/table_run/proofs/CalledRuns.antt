-- Runs of frames that step over contracts, by their steps.
use Rattle.std.proofs.Common.{◌≡◌, ℕ, zero, suc, ◌+◌, ◌-◌, ◌≤◌, List, [], ◌∷◌, Bool, true, false, Option, Some, None, refl, sym, ap, ◌∙◌, subst, arith}
use Rattle.std.specs.Prelude.{◌==◌, ◌||◌, nat_le, reverse, if◌then◌else◌}
use Rattle.word_spec.specs.State.{State, IsState}
use Rattle.machine_spec.specs.MachineLaws.{with_memory}
use Rattle.bilv_spec.specs.Run as tables
use Rattle.bilv_spec.specs.Run.{Program, Place}
use Rattle.frame_spec.specs.Frames.{Content, Contract, Frame, contract_at}
use Rattle.frame_spec.specs.FrameRuns.{Start, Run, Going, Arriving, Calling, Exited, Failed, Turned, Cut, Broken, FrameStep, Halts, GoesTo, Calls, Leaves, Breaks, after_step, arrive, one_more, run, turn, IsOver}
use Rattle.frame_spec.specs.FrameFound.{FoundLeft, found_by, found_within}
use Rattle.frame_spec.specs.FrameReports.{WrittenCall, gifts, given_by}
use Rattle.frame_spec.proofs.OneEnd.{over_stays}
use Rattle.frame_texts_spec.specs.FrameTexts.{first_of}
use Rattle.frame_texts_spec.specs.CallReplays.{BlockCause, WrongAt, BreaksLine, block_after, block_at, first_wrong, has_called, is_calling, none_there, wrong_at}
use Rattle.table_run.specs.FrameEnds.{HasKept}
use Rattle.table_run.specs.declared.called_turns.Stand.{Stand}
use Rattle.table_run.specs.declared.called_turns.Stand.TheVariants as stand
use Rattle.table_run.specs.declared.ending.CalledEnding.{CalledEnding}
use Rattle.table_run.specs.declared.ending.CalledEnding.TheVariants as ending
use Rattle.table_run.specs.declared.ending.CalledRun.{CalledRun}
use Rattle.table_run.specs.declared.ending.CalledStepEnd.{CalledStepEnd}
use Rattle.table_run.specs.declared.ending.CalledStepEnd.TheVariants as end
use Rattle.table_run.specs.CalledFrames.{IsAt, IsGift, IsTurnEnd, called_event_of, called_frame, changed_by, is_contract, next_of, stand_after, standing, turned, turned_wrong}
use Rattle.table_run.specs.CalledRuns.{AreChanged, IsEnded, IsFoundAs, IsLast, IsRun, called_start, cause_of, cause_within}
use Rattle.table_run.proofs.ContractSteps.{no_head}

-- ---- what contract steps are given

pub gift_at : (registers : ℕ → List ℕ) (calls : List WrittenCall) (n : ℕ) (c : WrittenCall) → block_at calls n ≡ Some c →
    gifts registers calls n ≡ given_by (registers c.at) c
gift_at registers [] n c is = absurd (cc)
gift_at registers (x ∷ rest) n c is = by (x.step == n) refl (gift_at registers rest n c)
  where
    chosen : Bool → Content
    chosen b = record {
      regs = λ r. if b then (given_by (registers x.at) x).regs r else (gifts registers rest n).regs r;
      flags = λ i. if b then (given_by (registers x.at) x).flags i else (gifts registers rest n).flags i;
      mem = λ a. if b then (given_by (registers x.at) x).mem a else (gifts registers rest n).mem a;
    }

    by : (b : Bool) → (x.step == n) ≡ b → (block_at rest n ≡ Some c → gifts registers rest n ≡ given_by (registers c.at) c) →
        gifts registers (x ∷ rest) n ≡ given_by (registers c.at) c
    by true same later =
        let first : x ≡ c = (let e : Some x ≡ Some c = sym (ap (λ b. if b then Some x else block_at rest n) same) ∙ is in cc) in
        ap chosen same ∙ ap (λ (z : WrittenCall). given_by (registers z.at) z) first
    by false other later = ap chosen other ∙ later (sym (ap (λ b. if b then Some x else block_at rest n) other) ∙ is)

pub gift_is : (registers : ℕ → List ℕ) (stepped : List Contract) (calls : List WrittenCall) (n : ℕ) (o : Option WrittenCall) → AreChanged registers stepped →
    o ≡ block_at calls n → IsGift stepped o (gifts registers calls n)
gift_is registers stepped calls n None changed is = tt
gift_is registers stepped calls n (Some c) changed is = λ x found. gift_at registers calls n c (sym is) ∙ ap (λ l. given_by l c) (changed c.at x found)

-- ---- transfers

pub arrives_going : (next : ℕ → ℕ → Place → Run) (b : Bool) (k turns n at more : ℕ) (d : Place) → tables.arrive b k turns n at d ≡ tables.Going more (n + 1) d →
    arrive next b k turns n at d ≡ next more (n + 1) d
arrives_going next false k turns n at more d is = let same : turns ≡ more = cc in ap (λ t. next t (n + 1) d) same
arrives_going next true k turns n at more d is = by (turns == k) is
  where
    by : (b : Bool) → tables.turn b turns n at d ≡ tables.Going more (n + 1) d → turn next b turns n at d ≡ next more (n + 1) d
    by true is = absurd (cc)
    by false is = let same : turns + 1 ≡ more = cc in ap (λ t. next t (n + 1) d) same

pub arrives_turned : (next : ℕ → ℕ → Place → Run) (b : Bool) (k turns n at : ℕ) (d : Place) → tables.arrive b k turns n at d ≡ tables.Turned at n →
    arrive next b k turns n at d ≡ Turned at n
arrives_turned next false k turns n at d is = absurd (cc)
arrives_turned next true k turns n at d is = by (turns == k) is
  where
    by : (b : Bool) → tables.turn b turns n at d ≡ tables.Turned at n → turn next b turns n at d ≡ Turned at n
    by true is = refl
    by false is = absurd (cc)

-- ---- causes

first_assoc : (a b c : Option BlockCause) → first_of (first_of a b) c ≡ first_of a (first_of b c)
first_assoc (Some x) b c = refl
first_assoc None b c = refl

over_not_calling : (r : Run) → IsOver r → is_calling r ≡ false
over_not_calling (Going turns n c) over = refl
over_not_calling (Arriving turns n c) over = refl
over_not_calling (Calling turns n c) over = absurd over
over_not_calling (Exited at n) over = refl
over_not_calling (Failed e at n) over = refl
over_not_calling (Turned at n) over = refl
over_not_calling (Cut at n) over = refl
over_not_calling (Broken l at n) over = refl

over_none : (f : Frame) (start : Start) (calls : List WrittenCall) (n : ℕ) (r : Run) → IsOver r → wrong_at f start calls n r ≡ none_there (block_at calls n) n
over_none f start calls n (Going turns m c) over = absurd over
over_none f start calls n (Arriving turns m c) over = absurd over
over_none f start calls n (Calling turns m c) over = absurd over
over_none f start calls n (Exited at m) over = refl
over_none f start calls n (Failed e at m) over = refl
over_none f start calls n (Turned at m) over = refl
over_none f start calls n (Cut at m) over = refl
over_none f start calls n (Broken l at m) over = refl

or_false : (b : Bool) → (b || false) ≡ b
or_false true = refl
or_false false = refl

-- the run stands at a place that is the code's but for bytes that no machine sees; no block was wrong so far
pub record IsRunning (f : Frame) (k : ℕ) (start : Start) (calls : List WrittenCall) (p : Program) (stands : Stand) (turns n : ℕ) (called : Bool) (now : State)
    (stack : List ℕ) : Type 0 where
  pub place : Place
  pub goes : run f k start n ≡ standing stands turns n place
  pub at : IsAt p place now stack
  pub none : first_wrong f k start calls n ≡ None
  pub called_is : called ≡ has_called f k start n

module _ (f : Frame) (k : ℕ) (start : Start) (calls : List WrittenCall)
    (nexts : (a : ℕ) → first_of (none_there (block_at calls (suc a)) (suc a)) (block_after calls (suc a)) ≡ block_after calls a) where
  -- ---- after the end

  module _ (a : ℕ) (r : Run) (over : IsOver r) (is : run f k start (suc a) ≡ r) where
    at_over : (d m : ℕ) → m ≡ d + a → run f k start (suc m) ≡ r
    at_over d m same =
        let place : d + suc a ≡ suc m = omega (arith, same) in subst (λ j. run f k start j ≡ r) place (over_stays f k start (suc a) d r over is)

    called_rest : (d m : ℕ) → m ≡ d + a → has_called f k start (suc m) ≡ has_called f k start (suc a)
    called_rest zero m same = let here : m ≡ a = omega (arith, same) in ap (λ j. has_called f k start (suc j)) here
    called_rest (suc d) zero same = absurd (omega (arith, same))
    called_rest (suc d) (suc m) same =
        let before : m ≡ d + a = omega (arith, same) in
        ap (λ z. has_called f k start (suc m) || is_calling z) (at_over d m before)
        ∙ ap (λ b. has_called f k start (suc m) || b) (over_not_calling r over) ∙ or_false (has_called f k start (suc m)) ∙ called_rest d m before

    wrong_rest : first_wrong f k start calls (suc a) ≡ None → (d m : ℕ) → m ≡ d + a →
        first_of (first_wrong f k start calls (suc m)) (block_after calls m) ≡ block_after calls a
    wrong_rest none zero m same =
        let here : m ≡ a = omega (arith, same) in
        ap (λ j. first_of (first_wrong f k start calls (suc j)) (block_after calls j)) here ∙ ap (λ o. first_of o (block_after calls a)) none
    wrong_rest none (suc d) zero same = absurd (omega (arith, same))
    wrong_rest none (suc d) (suc m) same =
        let before : m ≡ d + a = omega (arith, same) in
        let w = first_wrong f k start calls (suc m) in
        ap (λ z. first_of (first_of w (wrong_at f start calls (suc m) z)) (block_after calls (suc m))) (at_over d m before)
        ∙ ap (λ z. first_of (first_of w z) (block_after calls (suc m))) (over_none f start calls (suc m) r over)
        ∙ first_assoc w (none_there (block_at calls (suc m)) (suc m)) (block_after calls (suc m))
        ∙ ap (first_of w) (nexts m) ∙ wrong_rest none d m before

    module _ (last : ℕ) (le : a ≤ last) where
      abbrev up : suc last ≡ last + 1
      up = omega arith

      gap : last ≡ (last - a) + a
      gap = omega (arith, le)

      cause_over : first_wrong f k start calls (suc a) ≡ None → cause_within f k start calls last ≡ block_after calls a
      cause_over none =
          ap (λ j. first_of (first_wrong f k start calls j) (block_after calls last)) (sym up) ∙ wrong_rest none (last - a) last gap

      called_over : has_called f k start (last + 1) ≡ has_called f k start (suc a)
      called_over = ap (has_called f k start) (sym up) ∙ called_rest (last - a) last gap

      found_over : found_within f k start last ≡ found_by (run f k start last) r
      found_over = ap (λ j. found_by (run f k start last) (run f k start j)) (sym up) ∙ ap (found_by (run f k start last)) (at_over (last - a) last gap)

  -- a cause stays the first
  wrong_stays : (n : ℕ) (w : BlockCause) → first_wrong f k start calls (suc n) ≡ Some w → (d m : ℕ) → m ≡ d + n → first_wrong f k start calls (suc m) ≡ Some w
  wrong_stays n w is zero m same = let here : m ≡ n = omega (arith, same) in ap (λ j. first_wrong f k start calls (suc j)) here ∙ is
  wrong_stays n w is (suc d) zero same = absurd (omega (arith, same))
  wrong_stays n w is (suc d) (suc m) same =
      let before : m ≡ d + n = omega (arith, same) in
      ap (λ o. first_of o (wrong_at f start calls (suc m) (run f k start (suc m)))) (wrong_stays n w is d m before)

  cause_stays : (n last : ℕ) (w : BlockCause) → n ≤ last → first_wrong f k start calls (suc n) ≡ Some w → cause_within f k start calls last ≡ Some w
  cause_stays n last w le is =
      let up : suc last ≡ last + 1 = omega arith in
      let gap : last ≡ (last - n) + n = omega (arith, le) in
      ap (λ j. first_of (first_wrong f k start calls j) (block_after calls last)) (sym up)
      ∙ ap (λ o. first_of o (block_after calls last)) (wrong_stays n w is (last - n) last gap)

  -- ---- endings

  finish : (last : ℕ) (b : Bool) (e other : CalledEnding) → cause_of e ≡ None → (after : Option BlockCause) → cause_within f k start calls last ≡ after →
      IsFoundAs e (found_within f k start last) → b ≡ has_called f k start (last + 1) → IsEnded after e other →
      IsRun f k start calls last (record { called = b; ending = other })
  finish last b e other none None cause found called same = record {
    cause = ap cause_of same ∙ none ∙ sym cause;
    found = subst (λ z. IsFoundAs z (found_within f k start last)) (sym same) found;
    called = λ h. called;
  }
  finish last b e other none (Some (WrongAt step)) cause found called same = record {
    cause = ap cause_of same ∙ sym cause;
    found = subst (λ z. IsFoundAs z (found_within f k start last)) (sym same) tt;
    called = λ h. called;
  }
  finish last b e other none (Some (BreaksLine line)) cause found called same = absurd same

  -- ---- a run that goes on

  module _ (p : Program) (stands : Stand) (turns n : ℕ) (called : Bool) (now : State) (stack : List ℕ)
      (r : IsRunning f k start calls p stands turns n called now stack)
      (choice at : ℕ) (drawn : choice ≡ start.choices n) (here : at ≡ now.pc) where
    abbrev c : Place
    c = r.place

    abbrev x : FrameStep
    x = turned stands f start.state c choice (start.given n)

    abbrev wrong : Option BlockCause
    wrong = turned_wrong stands f start.state c (block_at calls n) (start.given n) n

    abbrev b : Bool
    b = called || is_contract stands

    here_is : at ≡ c.state.pc
    here_is = here ∙ ap (λ (z : State). z.pc) r.at.seen.rest

    more_is : (s : Stand) → one_more f k start (standing s turns n c) ≡ after_step k turns n c.state.pc (turned s f start.state c (start.choices n)
        (start.given n))
    more_is stand.Row = refl
    more_is stand.Contract = refl

    next : run f k start (suc n) ≡ after_step k turns n c.state.pc x
    unfolding run
    next =
        ap (one_more f k start) r.goes ∙ more_is stands
        ∙ ap (λ h. after_step k turns n c.state.pc (turned stands f start.state c h (start.given n))) (sym drawn)

    pub next_as : (y : FrameStep) → x ≡ y → run f k start (suc n) ≡ after_step k turns n at y
    next_as y is = next ∙ ap (after_step k turns n c.state.pc) is ∙ ap (λ a. after_step k turns n a y) (sym here_is)

    wrong_is : (s : Stand) → wrong_at f start calls n (standing s turns n c) ≡ turned_wrong s f start.state c (block_at calls n) (start.given n) n
    wrong_is stand.Row = refl
    wrong_is stand.Contract = refl

    wrong_next : first_wrong f k start calls (suc n) ≡ wrong
    wrong_next = ap (λ o. first_of o (wrong_at f start calls n (run f k start n))) r.none ∙ ap (wrong_at f start calls n) r.goes ∙ wrong_is stands

    calling_is : (s : Stand) → is_calling (standing s turns n c) ≡ is_contract s
    calling_is stand.Row = refl
    calling_is stand.Contract = refl

    called_next : b ≡ has_called f k start (suc n)
    called_next =
        ap (λ z. z || is_contract stands) r.called_is ∙ ap (λ z. has_called f k start n || z) (sym (ap is_calling r.goes ∙ calling_is stands))

    module _ (last : ℕ) (le : n ≤ last) (e : CalledEnding) where
      -- it ends with an ending of its own
      over_end : (z : Run) → IsOver z → run f k start (suc n) ≡ z → wrong ≡ None → (own : CalledEnding) → cause_of own ≡ None →
          IsFoundAs own (found_by (run f k start last) z) → IsEnded (block_after calls n) own e → IsRun f k start calls last (record { called = b; ending = e })
      over_end z over is none own no_cause found same =
          finish last b own e no_cause (block_after calls n) (cause_over n z over is last le (wrong_next ∙ none))
          (subst (IsFoundAs own) (sym (found_over n z over is last le)) found) (called_next ∙ sym (called_over n z over is last le)) same

      pub ends : (y : CalledStepEnd) (state : State) (after : List ℕ) → IsTurnEnd y p state after n x wrong → IsLast y at n (block_after calls n) e →
          IsRun f k start calls last (record { called = b; ending = e })
      ends (end.Halts g) state after is same =
          over_end (Failed (called_event_of g) at n) tt (next_as (Halts (called_event_of g)) is.0) is.1 (ending.Failed g at n) refl refl same
      ends end.Leaves state after is same = over_end (Exited at n) tt (next_as (Leaves is.0) is.1) is.2 (ending.Exit at n) refl refl same
      ends (end.Breaks line) state after is same = record {
        cause = ap cause_of same ∙ sym (cause_stays n last (BreaksLine line) le (wrong_next ∙ is.1));
        found = subst (λ z. IsFoundAs z (found_within f k start last)) (sym same)
            (found_over n (Broken line at n) tt (next_as (Breaks line) is.0) last le);
        called = λ h. called_next ∙ sym (called_over n (Broken line at n) tt (next_as (Breaks line) is.0) last le);
      }
      ends end.NoCall state after is same = record {
        cause = ap cause_of same ∙ sym (cause_stays n last (WrongAt n) le (wrong_next ∙ is));
        found = subst (λ z. IsFoundAs z (found_within f k start last)) (sym same) tt;
        called = λ h. absurd (let none : Some (WrongAt n) ≡ None = sym (ap cause_of same) ∙ h in cc);
      }
      ends end.GoesTo state after is same = absurd same
      ends end.Calls state after is same = absurd same

    -- where it goes on
    abbrev onto : Stand → Place → FrameStep
    onto stand.Row d = GoesTo d
    onto stand.Contract d = Calls d

    pub record IsOn (s : Stand) (state : State) (after : List ℕ) : Type 0 where
      pub d : Place
      pub comes : x ≡ onto s d
      pub stays_at : IsAt p d state after
      pub right : wrong ≡ None

    pub goes_on : (y : CalledStepEnd) (s : Stand) (state : State) (after : List ℕ) → next_of y ≡ Some s → IsTurnEnd y p state after n x wrong →
        IsOn s state after
    goes_on end.GoesTo s state after on is =
        let same : stand.Row ≡ s = cc in subst (λ z. IsOn z state after) same (record { d = is.0; comes = is.1; stays_at = is.2; right = is.3 })
    goes_on end.Calls s state after on is =
        let same : stand.Contract ≡ s = cc in subst (λ z. IsOn z state after) same (record { d = is.0; comes = is.1; stays_at = is.2; right = is.3 })
    goes_on (end.Halts g) s state after on is = absurd (cc)
    goes_on end.Leaves s state after on is = absurd (cc)
    goes_on (end.Breaks line) s state after on is = absurd (cc)
    goes_on end.NoCall s state after on is = absurd (cc)

    module _ (s : Stand) (state : State) (after : List ℕ) (on : IsOn s state after) (to : ℕ) (there : to ≡ state.pc) where
      to_is : to ≡ on.d.state.pc
      to_is = there ∙ ap (λ (z : State). z.pc) on.stays_at.seen.rest

      onto_is : (s : Stand) (z : Run) → ((next : ℕ → ℕ → Place → Run) → arrive next (nat_le to at) k turns n at on.d ≡ z) →
          after_step k turns n at (onto s on.d) ≡ z
      onto_is stand.Row z h = ap (λ a. arrive Going (nat_le a at) k turns n at on.d) (sym to_is) ∙ h Going
      onto_is stand.Contract z h = ap (λ a. arrive Calling (nat_le a at) k turns n at on.d) (sym to_is) ∙ h Calling

      pub turned_out : tables.arrive (nat_le to at) k turns n at on.d ≡ tables.Turned at n → run f k start (suc n) ≡ Turned at n
      turned_out out = next_as (onto s on.d) on.comes ∙ onto_is s (Turned at n) (λ next. arrives_turned next (nat_le to at) k turns n at on.d out)

      pub turns_out : (last : ℕ) → n ≤ last → (e : CalledEnding) → tables.arrive (nat_le to at) k turns n at on.d ≡ tables.Turned at n →
          IsEnded (block_after calls n) (ending.Turned at n) e → IsRun f k start calls last (record { called = b; ending = e })
      turns_out last le e out same = over_end last le e (Turned at n) tt (turned_out out) on.right (ending.Turned at n) refl refl same

      module _ (more : ℕ) (stays : tables.arrive (nat_le to at) k turns n at on.d ≡ tables.Going more (n + 1) on.d) where
        stands_at : (s : Stand) → after_step k turns n at (onto s on.d) ≡ standing s more (n + 1) on.d
        stands_at stand.Row =
            ap (λ a. arrive Going (nat_le a at) k turns n at on.d) (sym to_is) ∙ arrives_going Going (nat_le to at) k turns n at more on.d stays
        stands_at stand.Contract =
            ap (λ a. arrive Calling (nat_le a at) k turns n at on.d) (sym to_is) ∙ arrives_going Calling (nat_le to at) k turns n at more on.d stays

        abbrev one_up : suc n ≡ n + 1
        one_up = omega arith

        steps_on : run f k start (n + 1) ≡ standing s more (n + 1) on.d
        steps_on = ap (run f k start) (sym one_up) ∙ next_as (onto s on.d) on.comes ∙ stands_at s

        pub runs_on : IsRunning f k start calls p s more (n + 1) b state after
        runs_on = record {
          place = on.d;
          goes = steps_on;
          at = on.stays_at;
          none = ap (first_wrong f k start calls) (sym one_up) ∙ wrong_next ∙ on.right;
          called_is = called_next ∙ ap (has_called f k start) one_up;
        }

        left_by : (s z : Stand) → found_by (standing z turns n c) (standing s more (n + 1) on.d) ≡ FoundLeft c.state.pc n
        left_by stand.Row stand.Row = refl
        left_by stand.Row stand.Contract = refl
        left_by stand.Contract stand.Row = refl
        left_by stand.Contract stand.Contract = refl

        pub leaves_it : (last : ℕ) → n ≡ last → (e : CalledEnding) → IsEnded (block_after calls n) (ending.Left at n) e →
            IsRun f k start calls last (record { called = b; ending = e })
        leaves_it last same e ended =
            finish last b (ending.Left at n) e refl (block_after calls n)
            (ap (cause_within f k start calls) (sym same) ∙ ap (λ j. first_of (first_wrong f k start calls j) (block_after calls n)) (sym one_up)
            ∙ ap (λ o. first_of o (block_after calls n)) (wrong_next ∙ on.right))
            (ap (found_within f k start) (sym same) ∙ ap (λ z. found_by z (run f k start (n + 1))) r.goes ∙ ap (found_by (standing stands turns n c)) steps_on
            ∙ left_by s stands ∙ ap (λ a. FoundLeft a n) (sym here_is))
            (called_next ∙ ap (has_called f k start) one_up ∙ ap (λ j. has_called f k start (j + 1)) same) ended

-- the run from an entry state
module _ (p : Program) (stepped : List Contract) (own : Option Contract) (k : ℕ) (entry now : State) (choices : List (ℕ × ℕ)) (registers : ℕ → List ℕ)
    (calls : List WrittenCall) where
  abbrev fr : Frame
  fr = called_frame p stepped own

  first : run fr k (called_start entry choices registers calls) 0 ≡ Going 0 0 (record { state = entry; stack = [] })
  unfolding run
  first =
      let there : Place = record { state = entry; stack = [] } in
      ap (λ b. if b then Arriving 0 0 there else Going 0 0 there) (no_head p stepped own entry.pc)

  pub begins_running : (items : List ℕ) → now ≡ entry → items ≡ [] → IsState entry → HasKept p entry →
      IsRunning fr k (called_start entry choices registers calls) calls p stand.Row 0 0 false now (reverse items)
  begins_running items same none is kept = record {
    place = record { state = entry; stack = [] };
    goes = first;
    at = record {
      seen = record {
        rest = same ∙ ap (λ z. with_memory entry z) (sym (ap (λ (z : State). z.mem) same));
        mem = λ a low. sym (ap (λ
            (z : State). z.mem a) same);
      };
      stack_is = sym (ap reverse none);
      is_state = is;
      kept = kept;
    };
    none = refl;
    called_is = refl;
  }

-- ---- what the code answers

pub run_as : (f : Frame) (k : ℕ) (start : Start) (calls : List WrittenCall) (last : ℕ) (b : Bool) (r : CalledRun) → r.called ≡ b →
    IsRun f k start calls last (record { called = b; ending = r.ending }) → IsRun f k start calls last r
run_as f k start calls last b r same is = record { cause = is.cause; found = is.found; called = λ h. same ∙ is.called h }

pub stands_next : (y : CalledStepEnd) (s : Stand) → next_of y ≡ Some s → stand_after y ≡ s
stands_next end.GoesTo s is = cc
stands_next end.Calls s is = cc
stands_next (end.Halts g) s is = absurd (cc)
stands_next end.Leaves s is = absurd (cc)
stands_next (end.Breaks line) s is = absurd (cc)
stands_next end.NoCall s is = absurd (cc)

-- the registers that the contracts of a frame may change
abbrev pub changed_of : Option Contract → List ℕ
changed_of None = []
changed_of (Some x) = changed_by x

abbrev pub own_registers : List Contract → ℕ → List ℕ
own_registers stepped at = changed_of (contract_at stepped at)

pub own_changed : (stepped : List Contract) → AreChanged (own_registers stepped) stepped
own_changed stepped at x is = ap changed_of is
