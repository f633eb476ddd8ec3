-- What is shown of a frame that may step over contracts, as runs with contract steps take it.
use Rattle.std.proofs.Common.{◌≡◌, ◌≢◌, refl, sym, ap, subst, ◌∙◌, arith, ℕ, zero, suc, ◌-◌, ◌<◌, ◌≤◌, Bool, List, [], ◌∷◌, Option, Some, None, map, length}
use Rattle.std.specs.Prelude.{All, AllPairs, IfSome, get_or, option_map}
use Rattle.std.proofs.lemmas.List.{length-map}
use Rattle.bilv_spec.specs.Points.{is_known_at}
use Rattle.machine_spec.specs.StateText.{Layout, IsWritten}
use Rattle.call_form.specs.declared.budget.Budget.{Budget}
use Rattle.frame_spec.specs.FrameFound.{Found, found}
use Rattle.frame_spec.specs.FrameReports as reports
use Rattle.frame_spec.specs.FrameReports.{AreMade, IsWrittenCall, WrittenCall}
use Rattle.frame_spec.specs.FrameRuns.{IsOver, run}
use Rattle.frame_spec.specs.FrameVerdict.{Whole, frame_of}
use Rattle.frame_texts_spec.specs.CallReplays.{WrongAt, has_called}
use Rattle.start_value.specs.Starts.{written_of}
use Rattle.state_text.specs.Starts.{written_call_of, written_head_of}
use Rattle.state_text.specs.declared.start.CallState.{CallState}
use Rattle.state_text.specs.declared.start.HeadStart.{HeadStart}
use Rattle.table_run.specs.CalledRuns.{IsFoundAs, cause_of, cause_within}
use Rattle.table_run.specs.FrameEnds.{whole_of}
use Rattle.table_run.specs.MadeCalls.{AreAlike, AreListed}
use Rattle.notes_value.specs.FrameViews.{contract_of}
use Rattle.frame_spec.specs.Frames.{Contract}
use Rattle.table_run.specs.declared.ending.CalledEnding.{CalledEnding}
use Rattle.frame_verdict.specs.FrameFunctions.{contracts_of, program_of_framed, whole_of_framed}
use Rattle.frame_verdict.specs.FrameVerdicts.{named_of, shown_with}
use Rattle.frame_verdict.specs.ShownEnds.{CanEnd, IsCame, IsHeadFor, IsShownAt, begun, named_in, shown_of}
use Rattle.frame_verdict.specs.declared.framed.Framed.{Framed}
use Rattle.frame_verdict.specs.declared.judged.Ended.{Ended}
use Rattle.frame_verdict.specs.declared.segments.Shown.{Shown}
use Rattle.frame_verdict.specs.declared.verdicts.Named as declared
use Rattle.frame_verdict.proofs.CameTo.{ends_named, otherwise}

-- ---- lists of blocks

module _ (P : WrittenCall → Type 0) where
  pub all_of : (l : List CallState) → All P (map written_call_of l) → All (λ c. P (written_call_of c)) l
  all_of [] h i d less = absurd (omega arith)
  all_of (c ∷ l) h zero d less = h zero (written_call_of c) (omega arith)
  all_of (c ∷ l) h (suc i) d less = all_of l (λ j e m. h (suc j) e (omega arith)) i d (omega arith)

  pub all_to : (l : List CallState) → All (λ c. P (written_call_of c)) l → All P (map written_call_of l)
  all_to [] h i d less = absurd (omega arith)
  all_to (c ∷ l) h zero d less = h zero c (omega arith)
  all_to (c ∷ l) h (suc i) d less = all_to l (λ j e m. h (suc j) e (omega arith)) i d (omega arith)

step_of : (l : List CallState) (i : ℕ) (d : CallState) (e : WrittenCall) → i < length l → (get_or (map written_call_of l) i e).step ≡ (get_or l i d).step
step_of [] i d e less = absurd (omega arith)
step_of (c ∷ l) zero d e less = refl
step_of (c ∷ l) (suc i) d e less = step_of l i d e (omega arith)

pub rise_of : (l : List CallState) → AllPairs (λ (x y : WrittenCall). x.step < y.step) (map written_call_of l) →
    AllPairs (λ (x y : CallState). x.step < y.step) l
rise_of l h i j d less m =
    let count = length-map l written_call_of in
    let q = h i j (written_call_of d) less (omega arith) in
    let a = step_of l i d (written_call_of d) (omega arith) in
    let b = step_of l j d (written_call_of d) m in
    omega arith

pub rise_to : (l : List CallState) → AllPairs (λ (x y : CallState). x.step < y.step) l →
    AllPairs (λ (x y : WrittenCall). x.step < y.step) (map written_call_of l)
rise_to [] h i j e less m = absurd (omega arith)
rise_to (c ∷ l) h i j e less m =
    let count = length-map (c ∷ l) written_call_of in
    let inside : j < length (c ∷ l) = omega arith in
    let q = h i j c less inside in
    let a = step_of (c ∷ l) i c e (omega arith) in
    let b = step_of (c ∷ l) j c e inside in
    omega arith

-- so an equal list
module _ (made told : List CallState) (is : told ≡ made) where
  pub told_written : (w : Whole) (form : Layout) → All (λ c. IsWrittenCall w form (written_call_of c)) made →
      All (λ c. IsWrittenCall w form (written_call_of c)) told
  told_written w form h = subst (λ (l : List CallState). All (λ c. IsWrittenCall w form (written_call_of c)) l) (sym is) h

  pub told_rising : AllPairs (λ (c d : CallState). c.step < d.step) made → AllPairs (λ (c d : CallState). c.step < d.step) told
  told_rising h = subst (λ (l : List CallState). AllPairs (λ (c d : CallState). c.step < d.step) l) (sym is) h

-- ---- the frame of a rank

module _ {M I S : Type 0} {ms : _} {vs : _} (form : Layout) (x : Framed M I S ms vs) (b : Budget) (rank : ℕ) (sh : Shown) (plain : x.invariants.now ≡ []) (some : x.contracts.now ≢ [])
    (h : CanEnd form x b rank sh) where
  -- without invariants
  abbrev bare : Whole
  bare = record { program = program_of_framed x; invariants = []; contracts = contracts_of x }

  abbrev of_calls : List CallState → reports.Shown
  of_calls calls = record { start = written_of sh.start; head = None; calls = map written_call_of calls }

  same : whole_of_framed x ≡ bare
  same = ap (λ (z : List ℕ). record { program = program_of_framed x; invariants = z; contracts = contracts_of x }) plain

  no_head : (calls : List CallState) → shown_with sh.start sh.head calls ≡ of_calls calls
  no_head calls =
      ap (λ (o : Option HeadStart). record { start = written_of sh.start; head = option_map written_head_of o; calls = map written_call_of calls }) (h.alone some)

  pub shown_bare : IsShownAt bare rank form (of_calls sh.calls.items)
  shown_bare =
      subst (λ (w : Whole). IsShownAt w rank form (of_calls sh.calls.items)) same
      (subst (λ (z : reports.Shown). IsShownAt (whole_of_framed x) rank form z) (no_head sh.calls.items) h.shown)

  pub start_written : IsWritten form (is_known_at (frame_of bare rank).program) (written_of sh.start)
  start_written = shown_bare.entry

  its_listed : AreListed (frame_of bare rank) b.unroll (begun bare rank form (of_calls sh.calls.items)) (map written_call_of sh.calls.items) b.points
  its_listed =
      subst (λ (w : Whole). AreListed (frame_of w rank) b.unroll (begun w rank form (of_calls sh.calls.items)) (map written_call_of sh.calls.items) b.points) same
      (subst (λ (z : reports.Shown). AreListed (frame_of (whole_of_framed x) rank) b.unroll (begun (whole_of_framed x) rank form z)
      (map written_call_of sh.calls.items) b.points) (no_head sh.calls.items) (h.listed some))

  module _ (first : List CallState) (first_is : first ≡ sh.calls.items) where
    pub blocks : All (λ c. IsWrittenCall bare form (written_call_of c)) first
    blocks =
        subst (λ (l : List CallState). All (λ c. IsWrittenCall bare form (written_call_of c)) l) (sym first_is)
        (all_of (IsWrittenCall bare form) sh.calls.items shown_bare.calls)

    pub rising : AllPairs (λ (c d : CallState). c.step < d.step) first
    rising =
        subst (λ (l : List CallState). AllPairs (λ (c d : CallState). c.step < d.step) l) (sym first_is)
        (rise_of sh.calls.items shown_bare.calls_rise)

    pub listed : AreListed (frame_of bare rank) b.unroll (begun bare rank form (of_calls first)) (map written_call_of first) b.points
    listed =
        subst (λ (l : List CallState). AreListed (frame_of bare rank) b.unroll (begun bare rank form (of_calls l)) (map written_call_of l) b.points)
        (sym first_is) its_listed

  over : IsOver (run (frame_of bare rank) b.unroll (begun bare rank form (of_calls sh.calls.items)) b.points)
  over =
      subst (λ (w : Whole). IsOver (run (frame_of w rank) b.unroll (begun w rank form (of_calls sh.calls.items)) b.points)) same
      (subst (λ (z : reports.Shown). IsOver (run (frame_of (whole_of_framed x) rank) b.unroll (begun (whole_of_framed x) rank form z) b.points))
      (no_head sh.calls.items) (h.over (begins sh.head (h.alone some))))
    where
      begins : (o : Option HeadStart) → o ≡ None → IsHeadFor (frame_of (whole_of_framed x) rank)
          (begun (whole_of_framed x) rank form (shown_with sh.start o sh.calls.items)).state
          (begun (whole_of_framed x) rank form (shown_with sh.start o sh.calls.items)).head
      begins None e = tt
      begins (Some z) e = absurd (cc)

  -- with the contract steps that are made
  module _ (first : List CallState) (first_is : first ≡ sh.calls.items) (made : List CallState)
      (written : All (λ c. IsWrittenCall bare form (written_call_of c)) made) (rise : AllPairs (λ (c d : CallState). c.step < d.step) made)
      (alike : (n : ℕ) → n ≤ b.points → AreAlike (run (frame_of bare rank) b.unroll (begun bare rank form (of_calls first)) n)
      (run (frame_of bare rank) b.unroll (begun bare rank form (of_calls made)) n))
      (are : (n : ℕ) → n ≤ b.points → IsOver (run (frame_of bare rank) b.unroll (begun bare rank form (of_calls first)) n) →
      AreMade (frame_of bare rank) b.unroll (begun bare rank form (of_calls made)) (map written_call_of made))
      (ending : CalledEnding) (told : List CallState) (told_is : told ≡ made)
      (cause : cause_of ending ≡ cause_within (frame_of bare rank) b.unroll (begun bare rank form (of_calls told)) (map written_call_of told) (b.points - 1))
      (finds : IsFoundAs ending (found (frame_of bare rank) (Some b.unroll) (begun bare rank form (of_calls told)) (b.points - 1)))
      (n : Option declared.Named) where
    abbrev its_end : Found
    its_end = found (frame_of bare rank) (Some b.unroll) (begun bare rank form (of_calls made)) (b.points - 1)

    back : (o : Option Ended) → IsCame bare rank b.unroll b.points form (of_calls sh.calls.items) o →
        IsCame (whole_of_framed x) rank b.unroll b.points form (shown_of sh) o
    back o came =
        subst (λ (z : reports.Shown). IsCame (whole_of_framed x) rank b.unroll b.points form z o) (sym (no_head sh.calls.items))
        (subst (λ (w : Whole). IsCame w rank b.unroll b.points form (of_calls sh.calls.items) o) (sym same) came)

    its_alike : AreAlike (run (frame_of bare rank) b.unroll (begun bare rank form (of_calls sh.calls.items)) b.points)
        (run (frame_of bare rank) b.unroll (begun bare rank form (of_calls made)) b.points)
    its_alike =
        subst (λ (l : List CallState). AreAlike (run (frame_of bare rank) b.unroll (begun bare rank form (of_calls l)) b.points)
        (run (frame_of bare rank) b.unroll (begun bare rank form (of_calls made)) b.points)) first_is (alike b.points (omega arith))

    its_made : AreMade (frame_of bare rank) b.unroll (begun bare rank form (of_calls made)) (map written_call_of made)
    its_made =
        are b.points (omega arith)
        (subst (λ (l : List CallState). IsOver (run (frame_of bare rank) b.unroll (begun bare rank form (of_calls l)) b.points)) (sym first_is) over)

    its_cause : cause_of ending
        ≡ cause_within (frame_of bare rank) b.unroll (begun bare rank form (of_calls made)) (map written_call_of made) (b.points - 1)
    its_cause =
        subst (λ (l : List CallState). cause_of ending
        ≡ cause_within (frame_of bare rank) b.unroll (begun bare rank form (of_calls l)) (map written_call_of l) (b.points - 1)) told_is cause

    its_found : IsFoundAs ending its_end
    its_found =
        subst (λ (l : List CallState). IsFoundAs ending
        (found (frame_of bare rank) (Some b.unroll) (begun bare rank form (of_calls l)) (b.points - 1))) told_is finds

    pub came_otherwise : ((z : Found) → IsFoundAs ending z → ((step : ℕ) → cause_of ending ≢ Some (WrongAt step)) → n ≡ None → named_in z ≡ None) → n ≡ None →
        IsCame (whole_of_framed x) rank b.unroll b.points form (shown_of sh) None
    came_otherwise none is =
        back None (otherwise bare rank b.unroll b.points b.in_range.points.0 form sh.start None sh.calls.items made shown_bare over its_alike its_made ending its_cause
        (λ right. none its_end its_found right is))

    shown_made : IsShownAt bare rank form (of_calls made)
    shown_made = record {
      entry = shown_bare.entry;
      head = λ z e. absurd (cc);
      choices = λ z. absurd (z refl);
      calls = all_to (IsWrittenCall bare form) made written;
      calls_rise = rise_to made rise;
    }

    some_named : (v : declared.Named) → n ≡ Some v → IfSome n (λ y. named_in its_end ≡ Some (named_of y)) → named_in its_end ≡ Some (named_of v)
    some_named v e h = subst (λ (z : Option declared.Named). IfSome z (λ y. named_in its_end ≡ Some (named_of y))) e h

    some_right : (v : declared.Named) → n ≡ Some v → IfSome n (λ y. cause_of ending ≡ None) → cause_of ending ≡ None
    some_right v e h = subst (λ (z : Option declared.Named). IfSome z (λ y. cause_of ending ≡ None)) e h

    pub came_named : ((z : Found) → IsFoundAs ending z → IfSome n (λ y. named_in z ≡ Some (named_of y))) → IfSome n (λ y. cause_of ending ≡ None) →
        (called : Bool) → (cause_of ending ≡ None → called ≡ has_called (frame_of bare rank) b.unroll (begun bare rank form (of_calls told)) b.points) →
        (v : declared.Named) → n ≡ Some v → (e : Ended) → shown_of e.shown ≡ shown_with sh.start sh.head made → e.called ≡ called → e.ending ≡ v →
        IsCame (whole_of_framed x) rank b.unroll b.points form (shown_of sh) (Some e)
    came_named said right called was v is_v e is c v_is =
        back (Some e) (ends_named bare rank b.unroll b.points b.in_range.points.0 form sh.start None sh.calls.items made shown_bare over its_alike its_made
        (all_to (IsWrittenCall bare form) made written) shown_made called v tt (some_named v is_v (said its_end its_found))
        (subst (λ (l : List CallState). called ≡ has_called (frame_of bare rank) b.unroll (begun bare rank form (of_calls l)) b.points) told_is
        (was (some_right v is_v right))) e
        (is ∙ no_head made) c v_is)

-- ---- where there are no contracts

module _ {M I S : Type 0} {ms : _} {vs : _} (x : Framed M I S ms vs) (none : x.contracts.now ≡ []) (rank : ℕ) (low : rank ≤ length x.contracts.now) where
  abbrev whole_without : List Contract → Whole
  whole_without l = record { program = program_of_framed x; invariants = x.invariants.now; contracts = l }

  no_contracts : contracts_of x ≡ []
  no_contracts = ap (map contract_of) none

  first_rank : rank ≡ 0
  first_rank = let e = ap length none in omega arith

  pub came_plain : (k points : ℕ) (form : Layout) (s : reports.Shown) (o : Option Ended) →
      IsCame (whole_of (program_of_framed x) x.invariants.now) 0 k points form s o → IsCame (whole_of_framed x) rank k points form s o
  came_plain k points form s o came =
      subst (λ (r : ℕ). IsCame (whole_of_framed x) r k points form s o) (sym first_rank)
      (subst (λ (l : List Contract). IsCame (whole_without l) 0 k points form s o) (sym no_contracts) came)

  pub shown_plain : (form : Layout) (s : reports.Shown) → IsShownAt (whole_of_framed x) rank form s →
      IsShownAt (whole_of (program_of_framed x) x.invariants.now) 0 form s
  shown_plain form s h =
      subst (λ (l : List Contract). IsShownAt (whole_without l) 0 form s) no_contracts
      (subst (λ (r : ℕ). IsShownAt (whole_of_framed x) r form s) first_rank h)
