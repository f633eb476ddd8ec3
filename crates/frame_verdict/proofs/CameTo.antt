-- What the runs of what is shown come to, in frames without contracts and in those with them.
use Rattle.std.proofs.Common.{◌≡◌, ◌≢◌, inl, inr, refl, sym, ap, subst, ◌∙◌, ℕ, ◌-◌, ◌≤◌, Bool, true, false, List, [], Option, Some, None, map}
use Rattle.std.specs.Prelude.{All, option_map}
use Rattle.bilv_spec.specs.Run.{Program}
use Rattle.machine_spec.specs.StateText.{Layout}
use Rattle.frame_spec.specs.Frames.{Frame}
use Rattle.frame_spec.specs.FrameFound.{found}
use Rattle.frame_spec.specs.FrameReports as reports
use Rattle.frame_spec.specs.FrameReports.{AreMade, IsWrittenCall, MakesContractStep}
use Rattle.frame_spec.specs.FrameRuns as runs
use Rattle.frame_spec.specs.FrameRuns.{IsOver, run}
use Rattle.frame_spec.specs.FrameVerdict.{Whole, frame_of}
use Rattle.frame_texts_spec.specs.CallReplays.{WrongAt, has_called}
use Rattle.start_value.specs.Starts.{written_of}
use Rattle.start_value.specs.declared.start.Start.{Start}
use Rattle.state_text.specs.Starts.{written_call_of, written_head_of}
use Rattle.state_text.specs.declared.start.CallState.{CallState}
use Rattle.state_text.specs.declared.start.HeadStart.{HeadStart}
use Rattle.table_run.specs.CalledRuns.{cause_of, cause_within}
use Rattle.table_run.specs.FrameEnds as plain
use Rattle.table_run.specs.FrameEnds.{frame_found_of, whole_of}
use Rattle.table_run.specs.MadeCalls.{AreAlike}
use Rattle.table_run.specs.declared.ending.CalledEnding.{CalledEnding}
use Rattle.table_run.specs.declared.ending.FrameEnding.{FrameEnding}
use Rattle.frame_verdict.specs.FrameVerdicts as verdicts
use Rattle.frame_verdict.specs.FrameVerdicts.{named_of}
use Rattle.frame_verdict.specs.ShownEnds.{IsCame, IsEndOf, IsHeadFor, IsShownAt, begun, named_in, shown_of, start_of}
use Rattle.frame_verdict.specs.declared.judged.Ended.{Ended}
use Rattle.frame_verdict.specs.declared.segments.Shown.{Shown}
use Rattle.frame_verdict.specs.declared.verdicts.Named as declared
use Rattle.frame_verdict.proofs.EndedRuns.{end_named, found_is}
use Rattle.frame_verdict.proofs.CalledEnds.{alike_over, cause_none, has_made, made_none, never_made, none_stepped}

-- ---- without contracts

module _ (p : Program) (invariants : List ℕ) (k points : ℕ) (layout : Layout) (s : Shown) (none : s.calls.items ≡ []) where
  abbrev w : Whole
  w = whole_of p invariants

  start_same : begun w 0 layout (shown_of s) ≡ start_of p invariants layout s
  start_same =
      ap (λ (l : List CallState). begun w 0 layout (record { start = written_of s.start; head = option_map written_head_of s.head; calls = map written_call_of l }))
      none

  fits : IsHeadFor (frame_of w 0) (begun w 0 layout (shown_of s)).state (begun w 0 layout (shown_of s)).head →
      IsHeadFor (frame_of w 0) (start_of p invariants layout s).state (start_of p invariants layout s).head
  fits h = subst (λ (z : runs.Start). IsHeadFor (frame_of w 0) z.state z.head) start_same h

  -- it begins in no head state, or ends otherwise
  pub no_head_state : (o : Option FrameEnding) → IsEndOf (plain.frame_of p invariants) k (points - 1) (start_of p invariants layout s) o → o ≡ None →
      IsCame w 0 k points layout (shown_of s) None
  no_head_state None end e h = absurd (end (fits h))
  no_head_state (Some x) end e h = absurd (cc)

  module _ (o : Option FrameEnding) (x : FrameEnding) (is : o ≡ Some x)
      (end : IsEndOf (plain.frame_of p invariants) k (points - 1) (start_of p invariants layout s) o) where
    ends : IsEndOf (plain.frame_of p invariants) k (points - 1) (start_of p invariants layout s) (Some x)
    ends = subst (IsEndOf (plain.frame_of p invariants) k (points - 1) (start_of p invariants layout s)) is end

    found_same : named_in (frame_found_of x) ≡ named_in (found (frame_of w 0) (Some k) (begun w 0 layout (shown_of s)) (points - 1))
    found_same =
        ap named_in (ends.1 ∙ ap (λ (z : runs.Start). found (frame_of w 0) (Some k) z (points - 1)) (sym start_same))

    pub other_end : (n : Option declared.Named) → option_map named_of n ≡ named_in (frame_found_of x) → n ≡ None → IsCame w 0 k points layout (shown_of s) None
    other_end n told e h = sym found_same ∙ sym told ∙ ap (option_map named_of) e

    pub named_end : (n : Option declared.Named) (v : declared.Named) → option_map named_of n ≡ named_in (frame_found_of x) → n ≡ Some v →
        IsShownAt w 0 layout (shown_of s) → IsCame w 0 k points layout (shown_of s) (Some (record { shown = s; called = false; ending = v }))
    named_end n v told e shown = (
      subst (λ (z : runs.Start). IsHeadFor (frame_of w 0) z.state z.head) (sym start_same) ends.0,
      sym found_same ∙ sym told ∙ ap (option_map named_of) e,
      record {
        start = refl;
        head = refl;
        shown = shown;
        same = refl;
        made = subst (AreMade (frame_of w 0) k (begun w 0 layout (shown_of s))) (sym (ap (map written_call_of) none))
            (made_none (frame_of w 0) k (begun w 0 layout (shown_of s)) refl);
        called = λ q. absurd (let z : false ≡ true = q in cc);
        uncalled = λ q. none_stepped (frame_of w 0) k (begun w 0 layout (shown_of s)) refl;
      },
    )

-- ---- with contracts

module _ (w : Whole) (rank k points : ℕ) (some : 1 ≤ points) (layout : Layout) (start : Start) (head : Option HeadStart) (listed made : List CallState)
    (shown : IsShownAt w rank layout (verdicts.shown_with start head listed))
    (over : IsOver (run (frame_of w rank) k (begun w rank layout (verdicts.shown_with start head listed)) points))
    (alike : AreAlike (run (frame_of w rank) k (begun w rank layout (verdicts.shown_with start head listed)) points)
    (run (frame_of w rank) k (begun w rank layout (verdicts.shown_with start head made)) points))
    (are : AreMade (frame_of w rank) k (begun w rank layout (verdicts.shown_with start head made)) (map written_call_of made)) where
  abbrev f : Frame
  f = frame_of w rank

  abbrev first : runs.Start
  first = begun w rank layout (verdicts.shown_with start head listed)

  abbrev told : runs.Start
  told = begun w rank layout (verdicts.shown_with start head made)

  same : run f k told points ≡ run f k first points
  same = sym (alike_over (run f k first points) (run f k told points) alike over)

  told_over : IsOver (run f k told points)
  told_over = subst IsOver (sym same) over

  named_same : named_in (found f (Some k) first (points - 1)) ≡ named_in (found f (Some k) told (points - 1))
  named_same = found_is f k first points some over ∙ ap end_named (sym same) ∙ sym (found_is f k told points some told_over)

  -- it ends otherwise
  pub otherwise : (ending : CalledEnding) → cause_of ending ≡ cause_within f k told (map written_call_of made) (points - 1) →
      (((step : ℕ) → cause_of ending ≢ Some (WrongAt step)) → named_in (found f (Some k) told (points - 1)) ≡ None) →
      IsHeadFor f first.state first.head → named_in (found f (Some k) first (points - 1)) ≡ None
  otherwise ending cause if h = named_same ∙ elim (cause_none f k told points some told_over (map written_call_of made) are) [
    | inl c ↦ if (λ step e. (let z = sym (cause ∙ c) ∙ e in cc))
    | inr n ↦ found_is f k told points some told_over ∙ n
  ]

  module _ (written : All (IsWrittenCall w layout) (map written_call_of made))
      (rise : reports.IsShown w f layout (verdicts.shown_with start head made)) where
    -- or so
    pub ends_named : (called : Bool) (v : declared.Named) → IsHeadFor f first.state first.head →
        named_in (found f (Some k) told (points - 1)) ≡ Some (named_of v) → called ≡ has_called f k told points →
        (e : Ended) → shown_of e.shown ≡ verdicts.shown_with start head made → e.called ≡ called → e.ending ≡ v →
        IsCame w rank k points layout (verdicts.shown_with start head listed) (Some e)
    ends_named called v begins named was e is c v_is = (
      begins,
      named_same ∙ named ∙ ap (λ (z : declared.Named). Some (named_of z)) (sym v_is),
      record {
        start = ap (λ (z : reports.Shown). z.start) is;
        head = ap (λ (z : reports.Shown). z.head) is;
        shown = subst (λ (z : reports.Shown). IsShownAt w rank layout z) (sym is) rise;
        same = ap (λ (z : reports.Shown). run f k (begun w rank layout z) points) is ∙ same;
        made = subst (λ (z : reports.Shown). AreMade f k (begun w rank layout z) z.calls) (sym is) are;
        called = λ q. subst (λ (z : reports.Shown). MakesContractStep f k (begun w rank layout z)) (sym is) (has_made f k told points (sym was ∙ sym c ∙ q));
        uncalled = λ q. subst (λ (z : reports.Shown). ¬ MakesContractStep f k (begun w rank layout z)) (sym is)
            (never_made f k told points told_over (sym was ∙ sym c ∙ q));
      },
    )
