-- Two right reports over frames say the same but for the segment that they show.
use Rattle.std.proofs.Common.{◌≡◌, ◌⊎◌, inl, inr, ℕ, ◌<◌, ◌≤◌, refl, ap, sym, ◌∙◌, subst, arith, Bool, true, false, List, [], ◌∷◌, length, Option, Some, None}
use Rattle.std.specs.Prelude.{codes, nat_lt, slice_get}
use Rattle.std.proofs.lemmas.Bool.Decides.{nat_tests}
use Rattle.word_spec.specs.State.{Written}
use Rattle.word_spec.specs.Texts.{line}
use Rattle.machine_spec.specs.StateText.{Layout}
use Rattle.bilv_spec.specs.Answers.{budget_text}
use Rattle.bilv_spec.specs.PointLaws.{HasLawfulRows, ReadsMemory}
use Rattle.call_spec.specs.Calls.{Answer, Budget, WithCalls, passed_evidence, segment_evidence}
use Rattle.call_spec.specs.Calls as calls
use Rattle.answer_spec.specs.FrameAnswers.{IsFrameReported, frame_report_answer, frame_report_text, frame_status, report_evidence}
use Rattle.frame_spec.specs.Frames.{Contract, FrameEvent}
use Rattle.frame_spec.specs.FrameReports.{Evidence, EndsAs, HasMore, IsRightReport, IsWholePrice, IsWithin, Named, ByEvent, ByTurn, PassBelow, Passed, Report, HoldsReport, PartialReport, VacuousReport, NamedReport, NotInductiveReport, UnprovedReport, PointsReport, SizeReport, ConflictsReport, Refutations, EntryRefuted, PassedBy, Frames, Shown, ShownBy, SpentOn, Count, WrittenHead, WrittenCall, last_rank, shown_start}
use Rattle.frame_spec.specs.FrameRuns.{Failed, Turned}
use Rattle.frame_spec.specs.FrameVerdict.{IsRight, Verdict, Holds, Vacuous, Fails, NotInductive, Unroll, Partial, Whole, Passes, entry_frame, frame_by, frame_of}
use Rattle.frame_spec.proofs.OneEnd.{one_end}
use Rattle.frame_spec.proofs.OneVerdict.{one_frame_verdict}
use Rattle.frame_laws.proofs.OneFramePrice.{one_whole_price}
use Rattle.answer_laws.specs.Completeness.{AreSameButRun, IsSpentEvidence, ShowsRun}

-- equal answers
pub same_answer : (a c : Answer) → a ≡ c → AreSameButRun a c
same_answer a c e = record {
  status = ap (λ x. x.status) e;
  shows = (λ h. subst (λ (x : Answer). ShowsRun x.evidence) e h, λ h. subst (λ (x : Answer). ShowsRun x.evidence) (sym e) h);
  text = λ none. ap (λ x. x.text) e;
  whole = λ d. e;
}

-- what shows that a frame passes shows no segment
pub passed_shows_none : (x : Passed) → ShowsRun (passed_evidence x) → ⊥
passed_shows_none (EntryRefuted proof) shows = shows
passed_shows_none (Refutations start []) shows = shows
passed_shows_none (Refutations start (x ∷ [])) shows = shows
passed_shows_none (Refutations start (x ∷ y ∷ [])) shows = shows
passed_shows_none (Refutations start (x ∷ y ∷ z ∷ [])) shows = shows
passed_shows_none (Refutations start (x ∷ y ∷ z ∷ v ∷ rest)) shows = shows

segment_shows : (rank : ℕ) (start : Written) (o : Option WrittenHead) (calls : List WrittenCall) → ShowsRun (segment_evidence rank start o calls)
segment_shows rank start None [] = tt
segment_shows rank start (Some h) [] = tt
segment_shows rank start None (c ∷ calls) = tt
segment_shows rank start (Some h) (c ∷ calls) = tt

-- of the entry's frame nothing stands behind the last contract
no_more : (xs : List Contract) → slice_get xs (length xs) ≡ None
no_more [] = refl
no_more (x ∷ xs) = no_more xs

entry_is : (w : Whole) → frame_of w (last_rank w) ≡ entry_frame w
entry_is w = ap (frame_by w (last_rank w)) (no_more w.contracts)

-- the order of two ranks
data Order (m n : ℕ) : Type 0 where
  is_below : m < n → Order m n
  is_same : m ≡ n → Order m n
  is_above : n < m → Order m n

order : (m n : ℕ) → Order m n
order m n = by (nat_lt m n) (nat_lt n m) refl refl
  where
    by : (s t : Bool) → nat_lt m n ≡ s → nat_lt n m ≡ t → Order m n
    by true t e d = is_below (grind (arith, nat_tests, e))
    by false true e d = is_above (grind (arith, nat_tests, d))
    by false false e d = is_same (grind (arith, nat_tests, e, d))

-- What the frames of notes come to. The verdict is that of the entry's frame where all others pass, and else of the first one that does not.
data Finding : Type 0 where
  MorePoints : Finding
  AbovePrice : ℕ → Finding
  HasVerdict : (rank : ℕ) → Verdict → Finding

-- a contract's frame that has it does not pass
abbrev IsNoPass : Verdict → Type 0
IsNoPass Holds = ⊥
IsNoPass Vacuous = ⊥
IsNoPass other = Unit {0}

-- the status, whether a segment is shown, and the text where none is
abbrev status_by : Finding → ℕ
status_by (HasVerdict rank Holds) = 0
status_by (HasVerdict rank Partial) = 0
status_by (HasVerdict rank Vacuous) = 0
status_by (HasVerdict rank Fails) = 1
status_by (HasVerdict rank NotInductive) = 1
status_by other = 3

abbrev is_bright : Finding → Bool
is_bright (HasVerdict rank Fails) = true
is_bright (HasVerdict rank NotInductive) = true
is_bright (HasVerdict rank Unroll) = true
is_bright other = false

abbrev text_by : Budget → Finding → List ℕ
text_by b MorePoints = budget_text (codes "points") b.points
text_by b (AbovePrice n) = budget_text (codes "size") b.size
text_by b (HasVerdict rank Holds) = line (codes "holds")
text_by b (HasVerdict rank Partial) = line (codes "holds partially")
text_by b (HasVerdict rank other) = line (codes "vacuous")

module _ (w : Whole) (layout : Layout) (b : Budget) (lawful : HasLawfulRows w.program) (memory : ReadsMemory w.program) where
  lawful_of : (rank : ℕ) (o : Option Contract) → HasLawfulRows (frame_by w rank o).program
  lawful_of rank None = lawful
  lawful_of rank (Some x) = lawful

  memory_of : (rank : ℕ) (o : Option Contract) → ReadsMemory (frame_by w rank o).program
  memory_of rank None = memory
  memory_of rank (Some x) = record { word = memory.word; little = memory.little }

  one_verdict : (rank : ℕ) (v u : Verdict) → IsRight (frame_of w rank) b.unroll v → IsRight (frame_of w rank) b.unroll u → v ≡ u
  one_verdict rank v u x y =
      one_frame_verdict (frame_of w rank) (lawful_of rank (slice_get w.contracts rank)) (memory_of rank (slice_get w.contracts rank)) b.unroll v u x y

  abbrev ComeTo : Finding → Type 0
  ComeTo MorePoints = HasMore w b.unroll b.points
  ComeTo (AbovePrice n) = (¬ HasMore w b.unroll b.points) × IsWholePrice w b.unroll n × (b.size < n)
  ComeTo (HasVerdict rank v) =
      IsWithin w b × (rank ≤ last_rank w) × PassBelow w b.unroll rank × IsRight (frame_of w rank) b.unroll v × (rank < last_rank w → IsNoPass v)

  above_size : (n m : ℕ) → IsWholePrice w b.unroll n → IsWholePrice w b.unroll m → n ≤ b.size → b.size < m → ⊥
  above_size n m x y low high = let e = one_whole_price w b.unroll n m x y in omega (arith, e, low, high)

  -- a frame of lower rank passes, so that it has no other verdict
  passes_not : (rank : ℕ) (v : Verdict) → IsRight (frame_of w rank) b.unroll v → IsNoPass v → Passes (frame_of w rank) b.unroll → ⊥
  passes_not rank v right fails (inl holds) = subst IsNoPass (one_verdict rank v Holds right holds) fails
  passes_not rank v right fails (inr vacuous) = subst IsNoPass (one_verdict rank v Vacuous right vacuous) fails

  below_not : (r s : ℕ) (v u : Verdict) → ComeTo (HasVerdict r v) → ComeTo (HasVerdict s u) → r < s → ⊥
  below_not r s v u x y less = passes_not r v x.3 (x.4 (omega (arith, less, y.1))) (y.2 r less)

  same_verdict : (r s : ℕ) (v u : Verdict) → r ≡ s → ComeTo (HasVerdict r v) → ComeTo (HasVerdict s u) → HasVerdict r v ≡ HasVerdict s u
  same_verdict r s v u same x y =
      ap (λ n. HasVerdict n v) same
      ∙ ap (HasVerdict s) (one_verdict s v u (subst (λ n. IsRight (frame_of w n) b.unroll v) same x.3) y.3)

  by_order : (r s : ℕ) (v u : Verdict) → Order r s → ComeTo (HasVerdict r v) → ComeTo (HasVerdict s u) → HasVerdict r v ≡ HasVerdict s u
  by_order r s v u (is_below less) x y = absurd (below_not r s v u x y less)
  by_order r s v u (is_same is) x y = same_verdict r s v u is x y
  by_order r s v u (is_above more) x y = absurd (below_not s r u v y x more)

  one_finding : (f g : Finding) → ComeTo f → ComeTo g → f ≡ g
  one_finding MorePoints MorePoints x y = refl
  one_finding MorePoints (AbovePrice m) x y = absurd (y.0 x)
  one_finding MorePoints (HasVerdict s u) x y = absurd (y.0.points x)
  one_finding (AbovePrice n) MorePoints x y = absurd (x.0 y)
  one_finding (AbovePrice n) (AbovePrice m) x y = ap AbovePrice (one_whole_price w b.unroll n m x.1 y.1)
  one_finding (AbovePrice n) (HasVerdict s u) x y = absurd (above_size y.0.price n y.0.is_price x.1 y.0.size x.2)
  one_finding (HasVerdict r v) MorePoints x y = absurd (x.0.points y)
  one_finding (HasVerdict r v) (AbovePrice m) x y = absurd (above_size x.0.price m x.0.is_price y.1 x.0.size y.2)
  one_finding (HasVerdict r v) (HasVerdict s u) x y = by_order r s v u (order r s) x y

  -- what a report says that shows no segment, with what shows it
  data Dark : Report → Evidence → Finding → Type 0 where
    says_points : (n : ℕ) → Dark PointsReport (Count n) MorePoints
    says_size : (n m : ℕ) → Dark SizeReport (Count n) (AbovePrice m)
    says_holds : (x : Passed) → Dark HoldsReport (PassedBy x) (HasVerdict (last_rank w) Holds)
    says_frames : (list : List Passed) → Dark HoldsReport (Frames list) (HasVerdict (last_rank w) Holds)
    says_partial : (x : Passed) → Dark PartialReport (PassedBy x) (HasVerdict (last_rank w) Partial)
    says_vacuous : (x : Passed) → Dark VacuousReport (PassedBy x) (HasVerdict (last_rank w) Vacuous)

  -- the shown segment of the frame of a rank ends so
  abbrev Ends : (rank : ℕ) → Shown → Named → Type 0
  Ends rank s n = EndsAs (frame_of w rank) b.unroll (shown_start w (frame_of w rank) layout s) n

  -- and one that shows a segment
  data Bright : Report → Evidence → Finding → Type 0 where
    says_fails : (v : FrameEvent) (at n : ℕ) (s : Shown) → s.calls ≡ [] → Ends (last_rank w) s (ByEvent v at n) →
        Bright (NamedReport (ByEvent v at n)) (ShownBy s) (HasVerdict (last_rank w) Fails)
    says_turns : (at n : ℕ) (s : Shown) → s.calls ≡ [] → Ends (last_rank w) s (ByTurn at n) →
        Bright (NamedReport (ByTurn at n)) (ShownBy s) (HasVerdict (last_rank w) Unroll)
    says_steps : (v : FrameEvent) (at n : ℕ) (s : Shown) → s.calls ≡ [] → Ends (last_rank w) s (ByEvent v at n) →
        Bright (NotInductiveReport v at n) (ShownBy s) (HasVerdict (last_rank w) NotInductive)
    says_unproved : (rank : ℕ) (v : FrameEvent) (at n : ℕ) (s : Shown) → s.head ≡ None → Ends rank s (ByEvent v at n) →
        Bright (UnprovedReport rank (ByEvent v at n)) (ShownBy s) (HasVerdict rank Fails)
    says_turned : (rank at n : ℕ) (s : Shown) → s.head ≡ None → Ends rank s (ByTurn at n) →
        Bright (UnprovedReport rank (ByTurn at n)) (ShownBy s) (HasVerdict rank Unroll)

  abbrev Found : Report → Evidence → Type 0
  Found r e = (f : Finding) × ComeTo f × (Dark r e f ⊎ Bright r e f)

  -- all contracts' frames pass where there are none
  none_below : w.contracts ≡ [] → PassBelow w b.unroll (last_rank w)
  none_below free i less =
      let none : i < 0 = subst (λ (cs : List Contract). i < length cs) free less in absurd (omega (arith, none))

  of_entry : (v : Verdict) → IsWithin w b → PassBelow w b.unroll (last_rank w) → IsRight (entry_frame w) b.unroll v → ComeTo (HasVerdict (last_rank w) v)
  of_entry v within pass right = (
    within,
    (let l : last_rank w ≤ last_rank w = omega arith in l),
    pass,
    subst (λ f. IsRight f b.unroll v) (sym (entry_is w)) right,
    λ less. absurd (omega (arith, less)),
  )

  ends_entry : (s : Shown) (n : Named) → EndsAs (entry_frame w) b.unroll (shown_start w (entry_frame w) layout s) n → Ends (last_rank w) s n
  ends_entry s n ends = subst (λ f. EndsAs f b.unroll (shown_start w f layout s) n) (sym (entry_is w)) ends

  turned : (at n : ℕ) (start : Written) (o : Option WrittenHead) (calls : List WrittenCall) →
      IsRightReport w layout b (NamedReport (ByTurn at n)) (ShownBy (record { start = start; head = o; calls = calls })) →
      Found (NamedReport (ByTurn at n)) (ShownBy (record { start = start; head = o; calls = calls }))
  turned at n start None calls right =
      let s : Shown = record { start = start; head = None; calls = calls } in
      (HasVerdict (last_rank w) Unroll, of_entry Unroll right.0 right.1 right.7, inr (says_turns at n s right.2 (ends_entry s (ByTurn at n) right.5)))
  turned at n start (Some h) calls right =
      let s : Shown = record { start = start; head = Some h; calls = calls } in
      (HasVerdict (last_rank w) Unroll, of_entry Unroll right.0 right.1 right.7, inr (says_turns at n s right.2 (ends_entry s (ByTurn at n) right.5)))

  failed : (v : FrameEvent) (at n : ℕ) (start : Written) (o : Option WrittenHead) (calls : List WrittenCall) →
      IsRightReport w layout b (NamedReport (ByEvent v at n)) (ShownBy (record { start = start; head = o; calls = calls })) →
      Found (NamedReport (ByEvent v at n)) (ShownBy (record { start = start; head = o; calls = calls }))
  failed v at n start None calls right =
      let s : Shown = record { start = start; head = None; calls = calls } in
      (HasVerdict (last_rank w) Fails, of_entry Fails right.0 right.1 right.7, inr (says_fails v at n s right.2 (ends_entry s (ByEvent v at n) right.5)))
  failed v at n start (Some h) calls right = absurd right.7

  found : (r : Report) (e : Evidence) → (¬ IsSpentEvidence (report_evidence w r e)) → IsRightReport w layout b r e → Found r e
  found PointsReport (Count n) spent right = (MorePoints, right.0, inl (says_points n))
  found SizeReport (Count n) spent right = (AbovePrice n, right, inl (says_size n n))
  found HoldsReport (PassedBy x) spent right =
      (HasVerdict (last_rank w) Holds, of_entry Holds right.0 (none_below right.1) right.2, inl (says_holds x))
  found HoldsReport (Frames list) spent right = (HasVerdict (last_rank w) Holds, of_entry Holds right.0 right.2 right.3, inl (says_frames list))
  found PartialReport (PassedBy x) spent right =
      (HasVerdict (last_rank w) Partial, of_entry Partial right.0 (none_below right.1) right.2, inl (says_partial x))
  found VacuousReport (PassedBy x) spent right = (HasVerdict (last_rank w) Vacuous, of_entry Vacuous right.0 right.1 right.2, inl (says_vacuous x))
  found (NamedReport (ByEvent v at n)) (ShownBy s) spent right = failed v at n s.start s.head s.calls right
  found (NamedReport (ByTurn at n)) (ShownBy s) spent right = turned at n s.start s.head s.calls right
  found (NotInductiveReport v at n) (ShownBy s) spent right = (
    HasVerdict (last_rank w) NotInductive,
    of_entry NotInductive right.0 (none_below right.1) right.2,
    inr (says_steps v at n s right.4 (ends_entry s (ByEvent v at n) right.7)),
  )
  found (UnprovedReport rank (ByEvent v at n)) (ShownBy s) spent right =
      (HasVerdict rank Fails, (right.0, right.1, right.2, right.9, λ less. tt), inr (says_unproved rank v at n s right.3 right.6))
  found (UnprovedReport rank (ByTurn at n)) (ShownBy s) spent right =
      (HasVerdict rank Unroll, (right.0, right.1, right.2, right.9, λ less. tt), inr (says_turned rank at n s right.3 right.6))
  found ConflictsReport (SpentOn rank question proof) spent right = absurd (spent tt)
  found PointsReport (PassedBy x) spent right = absurd right
  found PointsReport (Frames list) spent right = absurd right
  found PointsReport (ShownBy s) spent right = absurd right
  found PointsReport (SpentOn k q proof) spent right = absurd right
  found SizeReport (PassedBy x) spent right = absurd right
  found SizeReport (Frames list) spent right = absurd right
  found SizeReport (ShownBy s) spent right = absurd right
  found SizeReport (SpentOn k q proof) spent right = absurd right
  found HoldsReport (ShownBy s) spent right = absurd right
  found HoldsReport (SpentOn k q proof) spent right = absurd right
  found HoldsReport (Count n) spent right = absurd right
  found PartialReport (Frames list) spent right = absurd right
  found PartialReport (ShownBy s) spent right = absurd right
  found PartialReport (SpentOn k q proof) spent right = absurd right
  found PartialReport (Count n) spent right = absurd right
  found VacuousReport (Frames list) spent right = absurd right
  found VacuousReport (ShownBy s) spent right = absurd right
  found VacuousReport (SpentOn k q proof) spent right = absurd right
  found VacuousReport (Count n) spent right = absurd right
  found (NamedReport m) (PassedBy x) spent right = absurd right
  found (NamedReport m) (Frames list) spent right = absurd right
  found (NamedReport m) (SpentOn k q proof) spent right = absurd right
  found (NamedReport m) (Count n) spent right = absurd right
  found (NotInductiveReport v at n) (PassedBy x) spent right = absurd right
  found (NotInductiveReport v at n) (Frames list) spent right = absurd right
  found (NotInductiveReport v at n) (SpentOn k q proof) spent right = absurd right
  found (NotInductiveReport v at n) (Count c) spent right = absurd right
  found (UnprovedReport rank m) (PassedBy x) spent right = absurd right
  found (UnprovedReport rank m) (Frames list) spent right = absurd right
  found (UnprovedReport rank m) (SpentOn k q proof) spent right = absurd right
  found (UnprovedReport rank m) (Count n) spent right = absurd right
  found ConflictsReport (PassedBy x) spent right = absurd right
  found ConflictsReport (Frames list) spent right = absurd right
  found ConflictsReport (ShownBy s) spent right = absurd right
  found ConflictsReport (Count n) spent right = absurd right

  abbrev answer : Report → Evidence → Answer
  answer r e = frame_report_answer w layout b r e

  -- ---- reports that show no segment

  dark_status : (r : Report) (e : Evidence) (f : Finding) → Dark r e f → frame_status r ≡ status_by f
  dark_status r e f (says_points n) = refl
  dark_status r e f (says_size n m) = refl
  dark_status r e f (says_holds x) = refl
  dark_status r e f (says_frames list) = refl
  dark_status r e f (says_partial x) = refl
  dark_status r e f (says_vacuous x) = refl

  dark_text : (r : Report) (e : Evidence) (f : Finding) → Dark r e f → frame_report_text w layout b r e ≡ text_by b f
  dark_text r e f (says_points n) = refl
  dark_text r e f (says_size n m) = refl
  dark_text r e f (says_holds x) = refl
  dark_text r e f (says_frames list) = refl
  dark_text r e f (says_partial x) = refl
  dark_text r e f (says_vacuous x) = refl

  is_dark : (r : Report) (e : Evidence) (f : Finding) → Dark r e f → is_bright f ≡ false
  is_dark r e f (says_points n) = refl
  is_dark r e f (says_size n m) = refl
  is_dark r e f (says_holds x) = refl
  is_dark r e f (says_frames list) = refl
  is_dark r e f (says_partial x) = refl
  is_dark r e f (says_vacuous x) = refl

  dark_shows : (r : Report) (e : Evidence) (f : Finding) → Dark r e f → ShowsRun (report_evidence w r e) → ⊥
  dark_shows r e f (says_points n) shows = shows
  dark_shows r e f (says_size n m) shows = shows
  dark_shows r e f (says_holds x) shows = passed_shows_none x shows
  dark_shows r e f (says_frames list) shows = shows
  dark_shows r e f (says_partial x) shows = passed_shows_none x shows
  dark_shows r e f (says_vacuous x) shows = passed_shows_none x shows

  both_dark : (f g : Finding) → f ≡ g → (r t : Report) (e d : Evidence) → Dark r e f → Dark t d g → AreSameButRun (answer r e) (answer t d)
  both_dark f g same r t e d x y =
      let status = dark_status r e f x ∙ ap status_by same ∙ sym (dark_status t d g y) in
      let text = dark_text r e f x ∙ ap (text_by b) same ∙ sym (dark_text t d g y) in
      record {
        status = status;
        shows = (λ h. absurd (dark_shows r e f x h), λ h. absurd (dark_shows t d g y h));
        text = λ none. text;
        whole = λ shown i. record { status = status i; text = text i; evidence = shown i };
      }

  -- ---- reports that show one

  bright_status : (r : Report) (e : Evidence) (f : Finding) → Bright r e f → frame_status r ≡ status_by f
  bright_status r e f (says_fails v at n s none ends) = refl
  bright_status r e f (says_turns at n s none ends) = refl
  bright_status r e f (says_steps v at n s none ends) = refl
  bright_status r e f (says_unproved rank v at n s none ends) = refl
  bright_status r e f (says_turned rank at n s none ends) = refl

  is_lit : (r : Report) (e : Evidence) (f : Finding) → Bright r e f → is_bright f ≡ true
  is_lit r e f (says_fails v at n s none ends) = refl
  is_lit r e f (says_turns at n s none ends) = refl
  is_lit r e f (says_steps v at n s none ends) = refl
  is_lit r e f (says_unproved rank v at n s none ends) = refl
  is_lit r e f (says_turned rank at n s none ends) = refl

  bright_shows : (r : Report) (e : Evidence) (f : Finding) → Bright r e f → ShowsRun (report_evidence w r e)
  bright_shows r e f (says_fails v at n s none ends) = segment_shows (last_rank w) s.start s.head s.calls
  bright_shows r e f (says_turns at n s none ends) = segment_shows (last_rank w) s.start s.head s.calls
  bright_shows r e f (says_steps v at n s none ends) = segment_shows (last_rank w) s.start s.head s.calls
  bright_shows r e f (says_unproved rank v at n s none ends) = tt
  bright_shows r e f (says_turned rank at n s none ends) = tt

  -- what is shown of two segments is one where the evidence is
  one_shown : (rank : ℕ) (x y : Written) (o p : Option WrittenHead) → segment_evidence rank x o [] ≡ segment_evidence rank y p [] → (x ≡ y) × (o ≡ p)
  one_shown rank x y None None e = (cc, refl)
  one_shown rank x y (Some h) (Some i) e = (let z : x ≡ y = cc in z, let z : h ≡ i = cc in ap Some z)
  one_shown rank x y None (Some i) e = absurd (let no : ⊥ = cc in no)
  one_shown rank x y (Some h) None e = absurd (let no : ⊥ = cc in no)

  same_parts : (s t : Shown) → s.start ≡ t.start → s.head ≡ t.head → s.calls ≡ t.calls → s ≡ t
  same_parts s t x y z = λ i. record { start = x i; head = y i; calls = z i }

  same_shown : (rank : ℕ) (s t : Shown) → s.calls ≡ [] → t.calls ≡ [] →
      segment_evidence rank s.start s.head s.calls ≡ segment_evidence rank t.start t.head t.calls → s ≡ t
  same_shown rank s t none empty e =
      let both = one_shown rank s.start t.start s.head t.head
      (sym (ap (λ (l : List WrittenCall). segment_evidence rank s.start s.head l) none) ∙ e
      ∙ ap (λ (l : List WrittenCall). segment_evidence rank t.start t.head l) empty) in
      same_parts s t both.0 both.1 (none ∙ sym empty)

  -- a segment without contract steps is shown otherwise than one of a frame that is not proved
  shown_apart : (rank : ℕ) (x : Written) (o : Option WrittenHead) (e : calls.Evidence) (r : ℕ) (y : Written) (l : List WrittenCall) →
      segment_evidence rank x o [] ≡ e → e ≡ WithCalls r y l → ⊥
  shown_apart rank x None e r y l a c = cc
  shown_apart rank x (Some h) e r y l a c = cc

  apart : (s : Shown) (r : ℕ) (t : Shown) → s.calls ≡ [] → segment_evidence (last_rank w) s.start s.head s.calls ≡ WithCalls r t.start t.calls → ⊥
  apart s r t none e =
      shown_apart (last_rank w) s.start s.head _ r t.start t.calls
      (sym (ap (λ (l : List WrittenCall). segment_evidence (last_rank w) s.start s.head l) none)) e

  -- two steps over calls that are shown alike
  one_called : (r q : ℕ) (s t : Shown) → s.head ≡ None → t.head ≡ None → WithCalls r s.start s.calls ≡ WithCalls q t.start t.calls → (r ≡ q) × (s ≡ t)
  one_called r q s t none empty e =
      let rank : r ≡ q = cc in
      let start : s.start ≡ t.start = cc in
      let calls : s.calls ≡ t.calls = cc in
      (rank, same_parts s t start (none ∙ sym empty) calls)

  -- two ends of one segment are one
  one_event : (rank : ℕ) (s t : Shown) (v u : FrameEvent) (at n at' n' : ℕ) → s ≡ t → Ends rank s (ByEvent v at n) → Ends rank t (ByEvent u at' n') →
      Failed v at n ≡ Failed u at' n'
  one_event rank s t v u at n at' n' same x y =
      let z = subst (λ (q : Shown). Ends rank q (ByEvent v at n)) same x in
      one_end (frame_of w rank) b.unroll (shown_start w (frame_of w rank) layout t) z.0 y.0 (Failed v at n) (Failed u at' n') tt tt z.1 y.1

  one_turn : (rank : ℕ) (s t : Shown) (at n at' n' : ℕ) → s ≡ t → Ends rank s (ByTurn at n) → Ends rank t (ByTurn at' n') → Turned at n ≡ Turned at' n'
  one_turn rank s t at n at' n' same x y =
      let z = subst (λ (q : Shown). Ends rank q (ByTurn at n)) same x in
      one_end (frame_of w rank) b.unroll (shown_start w (frame_of w rank) layout t) z.0 y.0 (Turned at n) (Turned at' n') tt tt z.1 y.1

  by_event : (make : FrameEvent → ℕ → ℕ → Report) (v u : FrameEvent) (at n at' n' : ℕ) (s t : Shown) → s ≡ t → Failed v at n ≡ Failed u at' n' →
      answer (make v at n) (ShownBy s) ≡ answer (make u at' n') (ShownBy t)
  by_event make v u at n at' n' s t same ends =
      let first : v ≡ u = cc in
      let second : at ≡ at' = cc in
      let third : n ≡ n' = cc in
      ap (λ z. answer (make z at n) (ShownBy s)) first ∙ ap (λ z. answer (make u z n) (ShownBy s)) second
      ∙ ap (λ z. answer (make u at' z) (ShownBy s)) third ∙ ap (λ z. answer (make u at' n') (ShownBy z)) same

  by_turn : (make : ℕ → ℕ → Report) (at n at' n' : ℕ) (s t : Shown) → s ≡ t → Turned at n ≡ Turned at' n' →
      answer (make at n) (ShownBy s) ≡ answer (make at' n') (ShownBy t)
  by_turn make at n at' n' s t same ends =
      let second : at ≡ at' = cc in
      let third : n ≡ n' = cc in
      ap (λ z. answer (make z n) (ShownBy s)) second ∙ ap (λ z. answer (make at' z) (ShownBy s)) third
      ∙ ap (λ z. answer (make at' n') (ShownBy z)) same

  abbrev Alike : Report → Evidence → Report → Evidence → Type 0
  Alike r e t d = report_evidence w r e ≡ report_evidence w t d → answer r e ≡ answer t d

  same_bright : (f g : Finding) → f ≡ g → (r t : Report) (e d : Evidence) → Bright r e f → Bright t d g → Alike r e t d
  same_bright f g same r t e d (says_fails v at n s none x) (says_fails u at' n' s' empty y) shown =
      let one = same_shown (last_rank w) s s' none empty shown in
      by_event (λ z i j. NamedReport (ByEvent z i j)) v u at n at' n' s s' one (one_event (last_rank w) s s' v u at n at' n' one x y)
  same_bright f g same r t e d (says_turns at n s none x) (says_turns at' n' s' empty y) shown =
      let one = same_shown (last_rank w) s s' none empty shown in
      by_turn (λ i j. NamedReport (ByTurn i j)) at n at' n' s s' one (one_turn (last_rank w) s s' at n at' n' one x y)
  same_bright f g same r t e d (says_steps v at n s none x) (says_steps u at' n' s' empty y) shown =
      let one = same_shown (last_rank w) s s' none empty shown in
      by_event (λ z i j. NotInductiveReport z i j) v u at n at' n' s s' one (one_event (last_rank w) s s' v u at n at' n' one x y)
  same_bright f g same r t e d (says_unproved rank v at n s none x) (says_unproved other u at' n' s' empty y) shown =
      let one = one_called rank other s s' none empty shown in
      let ends = subst (λ q. Ends q s (ByEvent v at n)) one.0 x in
      ap (λ q. answer (UnprovedReport q (ByEvent v at n)) (ShownBy s)) one.0
      ∙ by_event (λ z i j. UnprovedReport other (ByEvent z i j)) v u at n at' n' s s' one.1 (one_event other s s' v u at n at' n' one.1 ends y)
  same_bright f g same r t e d (says_turned rank at n s none x) (says_turned other at' n' s' empty y) shown =
      let one = one_called rank other s s' none empty shown in
      let ends = subst (λ q. Ends q s (ByTurn at n)) one.0 x in
      ap (λ q. answer (UnprovedReport q (ByTurn at n)) (ShownBy s)) one.0
      ∙ by_turn (λ i j. UnprovedReport other (ByTurn i j)) at n at' n' s s' one.1 (one_turn other s s' at n at' n' one.1 ends y)
  same_bright f g same r t e d (says_fails v at n s none x) (says_unproved other u at' n' s' empty y) shown = absurd (apart s other s' none shown)
  same_bright f g same r t e d (says_unproved rank v at n s none x) (says_fails u at' n' s' empty y) shown = absurd (apart s' rank s empty (sym shown))
  same_bright f g same r t e d (says_turns at n s none x) (says_turned other at' n' s' empty y) shown = absurd (apart s other s' none shown)
  same_bright f g same r t e d (says_turned rank at n s none x) (says_turns at' n' s' empty y) shown = absurd (apart s' rank s empty (sym shown))
  same_bright f g same r t e d (says_fails v at n s none x) (says_turns at' n' s' empty y) shown = absurd (let no : ⊥ = cc in no)
  same_bright f g same r t e d (says_fails v at n s none x) (says_steps u at' n' s' empty y) shown = absurd (let no : ⊥ = cc in no)
  same_bright f g same r t e d (says_fails v at n s none x) (says_turned other at' n' s' empty y) shown = absurd (let no : ⊥ = cc in no)
  same_bright f g same r t e d (says_turns at n s none x) (says_fails u at' n' s' empty y) shown = absurd (let no : ⊥ = cc in no)
  same_bright f g same r t e d (says_turns at n s none x) (says_steps u at' n' s' empty y) shown = absurd (let no : ⊥ = cc in no)
  same_bright f g same r t e d (says_turns at n s none x) (says_unproved other u at' n' s' empty y) shown = absurd (let no : ⊥ = cc in no)
  same_bright f g same r t e d (says_steps v at n s none x) (says_fails u at' n' s' empty y) shown = absurd (let no : ⊥ = cc in no)
  same_bright f g same r t e d (says_steps v at n s none x) (says_turns at' n' s' empty y) shown = absurd (let no : ⊥ = cc in no)
  same_bright f g same r t e d (says_steps v at n s none x) (says_unproved other u at' n' s' empty y) shown = absurd (let no : ⊥ = cc in no)
  same_bright f g same r t e d (says_steps v at n s none x) (says_turned other at' n' s' empty y) shown = absurd (let no : ⊥ = cc in no)
  same_bright f g same r t e d (says_unproved rank v at n s none x) (says_turns at' n' s' empty y) shown = absurd (let no : ⊥ = cc in no)
  same_bright f g same r t e d (says_unproved rank v at n s none x) (says_steps u at' n' s' empty y) shown = absurd (let no : ⊥ = cc in no)
  same_bright f g same r t e d (says_unproved rank v at n s none x) (says_turned other at' n' s' empty y) shown = absurd (let no : ⊥ = cc in no)
  same_bright f g same r t e d (says_turned rank at n s none x) (says_fails u at' n' s' empty y) shown = absurd (let no : ⊥ = cc in no)
  same_bright f g same r t e d (says_turned rank at n s none x) (says_steps u at' n' s' empty y) shown = absurd (let no : ⊥ = cc in no)
  same_bright f g same r t e d (says_turned rank at n s none x) (says_unproved other u at' n' s' empty y) shown = absurd (let no : ⊥ = cc in no)

  both_bright : (f g : Finding) → f ≡ g → (r t : Report) (e d : Evidence) → Bright r e f → Bright t d g → AreSameButRun (answer r e) (answer t d)
  both_bright f g same r t e d x y = record {
    status = bright_status r e f x ∙ ap status_by same ∙ sym (bright_status t d g y);
    shows = (λ h. bright_shows t d g y, λ h. bright_shows r e f x);
    text = λ dark. absurd (dark (bright_shows r e f x));
    whole = same_bright f g same r t e d x y;
  }

  -- a finding is shown by a segment or not
  mixed : (f g : Finding) → f ≡ g → (r t : Report) (e d : Evidence) → Dark r e f → Bright t d g → ⊥
  mixed f g same r t e d x y =
      let z : false ≡ true = sym (is_dark r e f x) ∙ ap is_bright same ∙ is_lit t d g y in cc

  -- two reports of one finding
  alike : (f g : Finding) → f ≡ g → (r t : Report) (e d : Evidence) → Dark r e f ⊎ Bright r e f → Dark t d g ⊎ Bright t d g →
      AreSameButRun (answer r e) (answer t d)
  alike f g same r t e d (inl x) (inl y) = both_dark f g same r t e d x y
  alike f g same r t e d (inr x) (inr y) = both_bright f g same r t e d x y
  alike f g same r t e d (inl x) (inr y) = absurd (mixed f g same r t e d x y)
  alike f g same r t e d (inr x) (inl y) = absurd (mixed g f (sym same) t r d e y x)

  pub frames_alike : (a c : Answer) → (¬ IsSpentEvidence a.evidence) → (¬ IsSpentEvidence c.evidence) → IsFrameReported w layout b a →
      IsFrameReported w layout b c → AreSameButRun a c
  frames_alike a c calm quiet (r, e, right, is) (t, d, other, also) =
      let x = found r e (λ h. calm (subst (λ (z : Answer). IsSpentEvidence z.evidence) (sym is) h)) right in
      let y = found t d (λ h. quiet (subst (λ (z : Answer). IsSpentEvidence z.evidence) (sym also) h)) other in
      subst (λ (z : Answer). AreSameButRun z c) (sym is)
      (subst (λ (z : Answer). AreSameButRun (answer r e) z) (sym also) (alike x.0 y.0 (one_finding x.0 y.0 x.1 y.1) r t e d x.2 y.2))
