-- The verdict by what the frames of the ranks have come to.
use Rattle.std.proofs.Common.{◌≡◌, ◌≢◌, inl, inr, refl, sym, ap, subst, ◌∙◌, arith, ℕ, ◌+◌, ◌<◌, ◌≤◌, true, false, List, [], ◌∷◌, ◌++◌, Option, Some, None, map, length}
use Rattle.std.specs.Prelude.{option_map}
use Rattle.std.specs.List.{AllZip}
use Rattle.std.proofs.lemmas.List.{length-map}
use Rattle.notes_value.specs.FrameViews.{contract_of}
use Rattle.word_spec.specs.RowFiles.{from_to}
use Rattle.call_form.specs.Views.{budget_of}
use Rattle.call_form.specs.declared.budget.Budget.{Budget}
use Rattle.call_form.specs.declared.kind.Asked.{Asked}
use Rattle.cnf_form.specs.Views.{proof_of}
use Rattle.cnf_form.specs.declared.form.Proof.{Proof}
use Rattle.machine_spec.specs.StateText.{Layout}
use Rattle.frame_spec.specs.Frames.{Contract}
use Rattle.frame_spec.specs.FramePoints.{has_heads}
use Rattle.frame_spec.specs.FrameReports as reports
use Rattle.frame_spec.specs.FrameReports.{AreMade, EndsAs, IsPassed, IsRightReport, IsShown, IsWithin, MakesContractStep, PassBelow, Shown, ShownBy, UnprovedReport, WrittenHead, last_rank}
use Rattle.frame_spec.specs.FrameVerdict as frames
use Rattle.frame_spec.specs.FrameVerdict.{IsStart, Whole, frame_of}
use Rattle.frame_spec.specs.FrameReports.{ByEvent, ByTurn, Named}
use Rattle.frame_text.specs.Texts.{framed_event_of}
use Rattle.frame_text.specs.declared.text.FramedEvent.{FramedEvent}
use Rattle.question_form.specs.Asked.{frame_question}
use Rattle.start_value.specs.Starts.{written_of}
use Rattle.start_value.specs.declared.start.Start.{Start}
use Rattle.state_text.specs.Starts.{written_call_of, written_head_of}
use Rattle.state_text.specs.declared.start.CallState.{CallState}
use Rattle.state_text.specs.declared.start.HeadStart.{HeadStart}
use Rattle.frame_verdict.specs.FrameVerdicts.{IsFrameVerdict, named_of, passed_of, shown_with}
use Rattle.frame_verdict.specs.JudgedFrames.{ArePassed, ArePassedTo, IsJudged, IsPassing, IsShownEnd, IsVerdictBy}
use Rattle.frame_verdict.specs.ShownEnds.{begun, shown_of}
use Rattle.frame_verdict.specs.declared.judged.Ended.{Ended}
use Rattle.frame_verdict.specs.declared.judged.Judged.{Judged}
use Rattle.frame_verdict.specs.declared.judged.Judged.TheVariants as judged
use Rattle.frame_verdict.specs.declared.verdicts.FrameVerdict.TheVariants as verdict
use Rattle.frame_verdict.specs.declared.verdicts.Named as declared
use Rattle.frame_verdict.specs.declared.verdicts.Named.TheVariants.{Failed, Turned}
use Rattle.frame_verdict.specs.declared.verdicts.Passed.{Passed}
use Rattle.frame_verdict.specs.declared.verdicts.Passed.TheVariants as passes
use Rattle.frame_verdict.specs.declared.framed.Framed.{Framed}
use Rattle.frame_verdict.specs.FrameFunctions.{contracts_of}
use Rattle.frame_verdict.specs.declared.ranking.AllPassing.{AllPassing}
use Rattle.frame_verdict.specs.declared.ranking.AllPassing.TheVariants as all_passing
use Rattle.frame_verdict.specs.declared.ranking.Passing.{Passing}
use Rattle.frame_verdict.specs.declared.ranking.Passing.TheVariants as passing
use Rattle.frame_verdict.specs.declared.verdicts.FrameVerdict.{FrameVerdict}
use Rattle.frame_verdict.proofs.Wholes.{zip_next}
use Rattle.frame_verdict.proofs.RightReports as right
use Rattle.frame_verdict.proofs.Unheaded.{invariants_same, no_heads, none_shown}
use Rattle.std.specs.Global.{Vec}

-- ---- a frame that is not proved

unproved_as : (w : Whole) (layout : Layout) (b : Budget) (rank : ℕ) (n : declared.Named) (start : Start) (calls : List CallState) (s : Shown) →
    s ≡ shown_with start None calls → IsWithin w (budget_of b) → rank ≤ last_rank w → PassBelow w b.unroll rank →
    IsShown w (frame_of w rank) layout s → IsStart (frame_of w rank) b.unroll (begun w rank layout s) →
    EndsAs (frame_of w rank) b.unroll (begun w rank layout s) (named_of n) → AreMade (frame_of w rank) b.unroll (begun w rank layout s) s.calls →
    IsVerdictBy (frame_of w rank) b.unroll s.head (named_of n) → (rank ≡ last_rank w → MakesContractStep (frame_of w rank) b.unroll (begun w rank layout s)) →
    IsRightReport w layout (budget_of b) (UnprovedReport rank (named_of n)) (ShownBy (shown_with start None calls))
unproved_as w layout b rank n start calls s is within low below shown begins ends made verdict last =
    subst (λ (z : Shown). IsRightReport w layout (budget_of b) (UnprovedReport rank (named_of n)) (ShownBy z)) is
    (right.unproved w layout (budget_of b) within rank low below (named_of n) s (ap (λ (z : Shown). z.head) is) shown begins ends made last verdict)

more_mapped : (xs : List Passed) (x : Passed) → map passed_of (xs ++ x ∷ []) ≡ map passed_of xs ++ passed_of x ∷ []
more_mapped [] x = refl
more_mapped (y ∷ xs) x = ap (λ z. passed_of y ∷ z) (more_mapped xs x)

-- ---- a contract's frame

module _ (w : Whole) (rank : ℕ) (layout : Layout) (b : Budget) (plain : w.invariants ≡ []) (low : rank < length w.contracts)
    (within : IsWithin w (budget_of b)) (below : PassBelow w b.unroll rank) (j : Judged) (h : IsJudged w rank layout (budget_of b) j) where
  headless : has_heads (frame_of w rank) ≡ false
  headless = no_heads (frame_of w rank) (invariants_same w rank ∙ plain)

  pub own_holds : (start : Start) (fail turn : Proof) → j ≡ judged.Holds start fail turn →
      frames.Passes (frame_of w rank) b.unroll × IsPassed layout b.unroll (frame_of w rank) (passed_of (passes.Refutations start fail turn))
  own_holds start fail turn e = let q = subst (IsJudged w rank layout (budget_of b)) e h in (inl q.0, q.1)

  pub own_partial : (start : Start) (fail step turn : Proof) → j ≡ judged.Partial start fail step turn →
      frames.Passes (frame_of w rank) b.unroll × IsPassed layout b.unroll (frame_of w rank) (passed_of (passes.Refutations start fail turn))
  own_partial start fail step turn e =
      let q = subst (IsJudged w rank layout (budget_of b)) e h in let z : true ≡ false = sym q.0.0 ∙ headless in absurd (cc)

  pub own_vacuous : (proof : Proof) → j ≡ judged.Vacuous proof →
      frames.Passes (frame_of w rank) b.unroll × IsPassed layout b.unroll (frame_of w rank) (passed_of (passes.EntryRefuted proof))
  own_vacuous proof e = let q = subst (IsJudged w rank layout (budget_of b)) e h in (inr q.0, q)

  pub own_spent : (question : Asked) (proof : Proof) → j ≡ judged.Spent question proof → IsFrameVerdict w layout b (verdict.Conflicts rank question proof)
  own_spent question proof e =
      let q = subst (IsJudged w rank layout (budget_of b)) e h in
      right.conflicts w layout (budget_of b) within rank (omega arith) below (frame_question question) (proof_of proof) q.0 q.1 q.2

  -- nothing that is shown has a head state
  pub own_shows : (e : Ended) → j ≡ judged.Shows e → IsFrameVerdict w layout b (verdict.Unproved rank e.ending e.shown.start e.shown.calls)
  own_shows e is =
      let q = subst (IsJudged w rank layout (budget_of b)) is h in
      let none = none_shown (frame_of w rank) (invariants_same w rank ∙ plain) w b.unroll layout (shown_of e.shown) q.start in
      unproved_as w layout b rank e.ending e.shown.start e.shown.calls.items (shown_of e.shown) (bare e none) within (omega arith) below q.shown q.start
      q.ends q.made q.verdict (λ last. absurd (omega arith))
    where
      bare : (e : Ended) → (shown_of e.shown).head ≡ None → shown_of e.shown ≡ shown_with e.shown.start None e.shown.calls.items
      bare e none =
          ap (λ (o : Option WrittenHead). record { start = written_of e.shown.start; head = o; calls = map written_call_of e.shown.calls.items }) none

-- ---- the function's own frame

module _ (w : Whole) (rank : ℕ) (layout : Layout) (b : Budget) (is_last : rank ≡ last_rank w) (alone : w.contracts ≢ [] → w.invariants ≡ [])
    (within : IsWithin w (budget_of b)) where
  module _ (below : PassBelow w b.unroll rank) (e : Ended) (h : IsShownEnd w rank b.unroll layout e) where
    its_below : PassBelow w b.unroll (last_rank w)
    its_below = subst (PassBelow w b.unroll) is_last below

    its : IsShownEnd w (last_rank w) b.unroll layout e
    its = subst (λ (r : ℕ). IsShownEnd w r b.unroll layout e) is_last h

    no_calls : e.called ≡ false → (shown_of e.shown).calls ≡ []
    no_calls c = right.none_made (frame_of w (last_rank w)) b.unroll (begun w (last_rank w) layout (shown_of e.shown)) (shown_of e.shown).calls its.made
        (its.uncalled c)

    -- a contract step is made: there are contracts, so no head
    contracts_some : e.called ≡ true → w.contracts ≢ []
    contracts_some c none =
        right.never_without w none (last_rank w) b.unroll (begun w (last_rank w) layout (shown_of e.shown)) (its.called c)

    pub last_called : e.called ≡ true → IsFrameVerdict w layout b (verdict.Unproved rank e.ending e.shown.start e.shown.calls)
    last_called c =
        let plain = invariants_same w rank ∙ alone (contracts_some c) in
        let none = none_shown (frame_of w rank) plain w b.unroll layout (shown_of e.shown) h.start in
        unproved_as w layout b rank e.ending e.shown.start e.shown.calls.items (shown_of e.shown)
        (ap (λ (o : Option WrittenHead). record { start = written_of e.shown.start; head = o; calls = map written_call_of e.shown.calls.items }) none) within
        (let q = is_last in omega arith) below h.shown h.start h.ends h.made h.verdict (λ q. h.called c)

    module _ (c : e.called ≡ false) (o : Option HeadStart) (at : e.shown.head ≡ o) where
      bare : shown_of e.shown ≡ record { start = written_of e.shown.start; head = option_map written_head_of o; calls = [] }
      bare =
          ap (λ (l : _). record { start = written_of e.shown.start; head = option_map written_head_of e.shown.head; calls = l }) (no_calls c)
          ∙ ap (λ (p : Option HeadStart). record { start = written_of e.shown.start; head = option_map written_head_of p; calls = [] }) at

    pub last_turns : (c : e.called ≡ false) (at step : ℕ) → e.ending ≡ Turned at step → IsFrameVerdict w layout b (verdict.Unroll at step e.shown.start e.shown.head)
    last_turns c at step n =
        let m : named_of e.ending ≡ ByTurn at step = ap named_of n in
        right.turns w layout (budget_of b) within (option_map written_head_of e.shown.head) its_below at step (written_of e.shown.start) (shown_of e.shown)
        (bare c e.shown.head refl) its.shown its.start
        (subst (λ (z : Named). EndsAs (frame_of w (last_rank w)) b.unroll (begun w (last_rank w) layout (shown_of e.shown)) z) m its.ends)
        (its.uncalled c) (subst (λ (z : Named). IsVerdictBy (frame_of w (last_rank w)) b.unroll (shown_of e.shown).head z) m its.verdict)

    pub last_fails : (c : e.called ≡ false) (v : FramedEvent) (at step : ℕ) → e.ending ≡ Failed v at step → e.shown.head ≡ None →
        IsFrameVerdict w layout b (verdict.Fails v at step e.shown.start)
    last_fails c v at step n none =
        let m : named_of e.ending ≡ ByEvent (framed_event_of v) at step = ap named_of n in
        right.fails w layout (budget_of b) within its_below (framed_event_of v) at step (written_of e.shown.start) (shown_of e.shown) (bare c None none)
        its.shown its.start
        (subst (λ (z : Named). EndsAs (frame_of w (last_rank w)) b.unroll (begun w (last_rank w) layout (shown_of e.shown)) z) m its.ends)
        (its.uncalled c) (subst (λ (z : Named). IsVerdictBy (frame_of w (last_rank w)) b.unroll (shown_of e.shown).head z) m its.verdict)

    pub last_inductive : (c : e.called ≡ false) (v : FramedEvent) (at step : ℕ) → e.ending ≡ Failed v at step → (head : HeadStart) → e.shown.head ≡ Some head →
        IsFrameVerdict w layout b (verdict.NotInductive v at step e.shown.start head)
    last_inductive c v at step n head some =
        let m : named_of e.ending ≡ ByEvent (framed_event_of v) at step = ap named_of n in
        right.not_inductive w layout (budget_of b) within alone (framed_event_of v) at step (written_of e.shown.start) (written_head_of head)
        (shown_of e.shown) (bare c (Some head) some) its.shown its.start
        (subst (λ (z : Named). EndsAs (frame_of w (last_rank w)) b.unroll (begun w (last_rank w) layout (shown_of e.shown)) z) m its.ends)
        (subst (λ (z : Named). IsVerdictBy (frame_of w (last_rank w)) b.unroll (shown_of e.shown).head z) m its.verdict)

  module _ (passed : List Passed) (all : ArePassedTo w layout b.unroll rank passed) (j : Judged) (h : IsJudged w rank layout (budget_of b) j) where
    at_last : IsJudged w (last_rank w) layout (budget_of b) j
    at_last = subst (λ (r : ℕ). IsJudged w r layout (budget_of b) j) is_last h

    passed_all : ArePassedTo w layout b.unroll (last_rank w) passed
    passed_all = subst (λ (r : ℕ). ArePassedTo w layout b.unroll r passed) is_last all

    none_by : (l : List Contract) → length l ≡ 0 → l ≡ []
    none_by [] e = refl
    none_by (x ∷ l) e = absurd (omega arith)

    pub last_holds : (start : Start) (fail turn : Proof) → j ≡ judged.Holds start fail turn → rank ≡ 0 →
        IsFrameVerdict w layout b (verdict.Holds start fail turn)
    last_holds start fail turn e first =
        let q = subst (IsJudged w (last_rank w) layout (budget_of b)) e at_last in
        right.holds_alone w layout (budget_of b) within (none_by w.contracts (sym is_last ∙ first))
        (passed_of (passes.Refutations start fail turn)) q.0 q.1

    pub last_by_frames : (start : Start) (fail turn : Proof) → j ≡ judged.Holds start fail turn → rank ≢ 0 → (v : Vec Passed) →
        v.items ≡ passed ++ passes.Refutations start fail turn ∷ [] → IsFrameVerdict w layout b (verdict.ByFrames v)
    last_by_frames start fail turn e later v is =
        let q = subst (IsJudged w (last_rank w) layout (budget_of b)) e at_last in
        let some : w.contracts ≢ [] = λ none. later (is_last ∙ ap length none) in
        let list : map passed_of v.items ≡ map passed_of passed ++ passed_of (passes.Refutations start fail turn) ∷ [] =
        ap (map passed_of) is ∙ more_mapped passed (passes.Refutations start fail turn) in
        subst (λ (z : List reports.Passed). IsRightReport w layout (budget_of b) reports.HoldsReport (reports.Frames z)) (sym list)
        (right.holds_by_frames w layout (budget_of b) within some passed_all.0 (map passed_of passed) (passed_of (passes.Refutations start fail turn))
        passed_all.1 q.0 q.1)

    pub last_partial : (start : Start) (fail step turn : Proof) → j ≡ judged.Partial start fail step turn →
        IsFrameVerdict w layout b (verdict.Partial start fail step turn)
    last_partial start fail step turn e =
        let q = subst (IsJudged w (last_rank w) layout (budget_of b)) e at_last in
        right.partial w layout (budget_of b) within alone (reports.Refutations (written_of start) (proof_of fail ∷ proof_of step ∷ proof_of turn ∷ [])) q.0 q.1

    pub last_vacuous : (proof : Proof) → j ≡ judged.Vacuous proof → IsFrameVerdict w layout b (verdict.Vacuous proof)
    last_vacuous proof e =
        right.vacuous w layout (budget_of b) within passed_all.0 (proof_of proof) (subst (IsJudged w (last_rank w) layout (budget_of b)) e at_last)

    pub last_spent : (question : Asked) (proof : Proof) → j ≡ judged.Spent question proof → IsFrameVerdict w layout b (verdict.Conflicts rank question proof)
    last_spent question proof e =
        let q = subst (IsJudged w rank layout (budget_of b)) e h in
        right.conflicts w layout (budget_of b) within rank (let l = is_last in omega arith) all.0 (frame_question question) (proof_of proof) q.0 q.1 q.2

-- ---- the contracts in turn

-- there is a contract of a rank, so no invariants
pub plain_at : {M I S : Type 0} {ms : _} {vs : _} (x : Framed M I S ms vs) → (x.contracts.now ≢ [] → x.invariants.now ≡ []) → (rank : ℕ) → rank < length x.contracts.now → x.invariants.now ≡ []
plain_at x alone rank low = alone (λ e. (let n = ap length e in absurd (omega arith)))

pub low_at : {M I S : Type 0} {ms : _} {vs : _} (x : Framed M I S ms vs) (rank : ℕ) → rank < length x.contracts.now → rank < length (contracts_of x)
low_at x rank low = let e = length-map x.contracts.now contract_of in omega arith

pub last_at : {M I S : Type 0} {ms : _} {vs : _} (x : Framed M I S ms vs) → length x.contracts.now ≡ length (contracts_of x)
last_at x = sym (length-map x.contracts.now contract_of)

-- there are contracts where those of the whole are some
pub alone_at : {M I S : Type 0} {ms : _} {vs : _} (x : Framed M I S ms vs) → (x.contracts.now ≢ [] → x.invariants.now ≡ []) → contracts_of x ≢ [] → x.invariants.now ≡ []
alone_at x alone some = alone (λ e. some (ap (map contract_of) e))

module _ (w : Whole) (layout : Layout) (b : Budget) where
  pub none_passed : (list : List Passed) → list ≡ [] → ArePassedTo w layout b.unroll 0 list
  none_passed list none = (
    right.none_below w b.unroll,
    subst (λ (z : List Passed). AllZip (λ r x. IsPassed layout b.unroll (frame_of w r) x) (from_to 0 0) (map passed_of z)) (sym none) tt,
  )

  -- one more passes
  pub passed_more : (rank : ℕ) (before after : List Passed) (p : Passed) (y : Passing) → ArePassedTo w layout b.unroll rank before →
      IsPassing w rank layout b y → y ≡ passing.Passes p → after ≡ before ++ p ∷ [] → ArePassedTo w layout b.unroll (rank + 1) after
  passed_more rank before after p y all one e is =
      let q = subst (IsPassing w rank layout b) e one in (
        right.below_more w b.unroll rank all.0 q.0,
        subst (λ (z : List reports.Passed). AllZip (λ r x. IsPassed layout b.unroll (frame_of w r) x) (from_to 0 (rank + 1)) z)
            (sym (ap (map passed_of) is ∙ more_mapped before p))
            (zip_next (λ r x. IsPassed layout b.unroll (frame_of w r) x) rank (map passed_of before) (passed_of p) all.1 q.1),
      )

  -- the verdict of one that does not
  pub ends_with : (rank : ℕ) (v : FrameVerdict) (y : Passing) → IsPassing w rank layout b y → y ≡ passing.Ends v → IsFrameVerdict w layout b v
  ends_with rank v y one e = subst (IsPassing w rank layout b) e one

  pub all_end : (v : FrameVerdict) (y : AllPassing) → ArePassed w layout b y → y ≡ all_passing.End v → IsFrameVerdict w layout b v
  all_end v y h e = subst (ArePassed w layout b) e h

  pub all_pass : (v : Vec Passed) (y : AllPassing) → ArePassed w layout b y → y ≡ all_passing.Pass v → (rank : ℕ) → rank ≡ last_rank w →
      ArePassedTo w layout b.unroll rank v.items
  all_pass v y h e rank last = subst (λ (r : ℕ). ArePassedTo w layout b.unroll r v.items) (sym last) (subst (ArePassed w layout b) e h)

pub at_most : {M I S : Type 0} {ms : _} {vs : _} (x : Framed M I S ms vs) (rank : ℕ) → rank ≤ length x.contracts.now → rank ≤ length (contracts_of x)
at_most x rank low = let e = length-map x.contracts.now contract_of in omega arith
