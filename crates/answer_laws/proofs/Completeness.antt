-- A verification's answer is the report of what the program comes to, and there is one such answer but for the run that it shows.
use Rattle.std.proofs.Common.{◌≡◌, ◌≢◌, ℕ, ◌<◌, ◌≤◌, refl, ap, sym, ◌∙◌, subst, arith, List, Some}
use Rattle.call_spec.specs.Outside.{Held, Bytes, Agrees, Rose, Appends}
use Rattle.bilv_spec.specs.Run.{Program, Run, Failed, Turned, IsOver}
use Rattle.machine_spec.specs.Endings.{Event}
use Rattle.bilv_spec.specs.Verdict.{Holds, Vacuous, Fails, Unroll}
use Rattle.bilv_spec.specs.Points.{IsPrice}
use Rattle.machine_spec.specs.StateText.{Layout}
use Rattle.word_spec.specs.State.{Written}
use Rattle.call_spec.specs.Calls.{Options, Budget, Evidence, Refutations, EntryRefuted, RunOf, SpentOn, Count, Answer, plain_answer, Surroundings, AfterRead, read_failed, was_read}
use Rattle.bilv_spec.specs.Files.{layout_of}
use Rattle.bilv_spec.specs.Answers.{Report, HoldsReport, VacuousReport, FailsReport, UnrollReport, PointsReport, SizeReport, ConflictsReport, IsRightReport, EndsAs, start_in, report_answer, report_text, status_of, IsReported}
use Rattle.frame_spec.specs.FrameVerdict.{Whole}
use Rattle.notes_spec.specs.Verified.{IsAccepted, IsFound, AfterImage, elf_refused, elf_accepted}
use Rattle.command_spec.specs.Commands.{Verify}
use Rattle.answer_spec.specs.FrameAnswers.{dialect_for, IsFrameFound, AfterFrames, frames_refused, frames_found, IsFrameReported, IsVerifiedWhole}
use Rattle.answer_spec.specs.Outcomes.{IsOutcome, whole, cut, no_memory}
use Rattle.answer_spec.proofs.Wholes.{by_frames, found_program, one_whole, programs_are_whole}
use Rattle.bilv_spec.proofs.AllPoints.{one_price}
use Rattle.bilv_spec.proofs.One.{one_verdict}
use Rattle.bilv_spec.proofs.Over.{one_end}
use Rattle.answer_laws.specs.Completeness.{Finding, TooManyPoints, TooLarge, HasVerdict, ComesTo, Says, IsSpentEvidence, Answers, elf_is_refused, notes_are_refused, is_reported, frames_are_reported, AreTold, HasFrames, HasBytes, AreSameButRun}
use Rattle.answer_laws.proofs.FoundFrames.{rows_of, reads_of}
use Rattle.answer_laws.proofs.SameFrames.{frames_alike, same_answer}
use Rattle.answer_laws.proofs.OneProgram.{one_program, one_elf_refusal, refused_or_accepted, one_refusal_in, not_refused, not_refused_whole}

-- two prices of a program are one, so that it can't be both within the size and above it
one_above : (p : Program) (k n m size : ℕ) → IsPrice p k n → IsPrice p k m → n ≤ size → size < m → ⊥
one_above p k n m size x y a b = let e = one_price p k n m x y in omega arith

pub one_finding : (p : Program) (b : Budget) (f g : Finding) → ComesTo p b f → ComesTo p b g → f ≡ g
one_finding p b TooManyPoints TooManyPoints x y = refl
one_finding p b TooManyPoints (TooLarge m) x y = absurd (y.0 x)
one_finding p b TooManyPoints (HasVerdict w) x y = absurd (y.0.points x)
one_finding p b (TooLarge n) TooManyPoints x y = absurd (x.0 y)
one_finding p b (TooLarge n) (TooLarge m) x y = ap TooLarge (one_price p b.unroll n m x.1 y.1)
one_finding p b (TooLarge n) (HasVerdict w) x y = absurd (one_above p b.unroll y.0.price n b.size y.0.is_price x.1 y.0.size x.2)
one_finding p b (HasVerdict v) TooManyPoints x y = absurd (x.0.points y)
one_finding p b (HasVerdict v) (TooLarge m) x y = absurd (one_above p b.unroll x.0.price m b.size x.0.is_price y.1 x.0.size y.2)
one_finding p b (HasVerdict v) (HasVerdict w) x y = ap HasVerdict (one_verdict p b.unroll v w x.1 y.1)

-- a right report without spent conflicts says what its program comes to
finding_of : (p : Program) (layout : Layout) (b : Budget) (r : Report) (e : Evidence) → (¬ IsSpentEvidence e) → IsRightReport p layout b r e →
    (f : Finding) × ComesTo p b f × Says r f
finding_of p layout b PointsReport (Count n) s a = (TooManyPoints, a.0, tt)
finding_of p layout b PointsReport other s a = absurd a
finding_of p layout b SizeReport (Count n) s a = (TooLarge n, (a.0, a.1, a.2), tt)
finding_of p layout b SizeReport other s a = absurd a
finding_of p layout b ConflictsReport (SpentOn kind proof) s a = absurd (s tt)
finding_of p layout b ConflictsReport other s a = absurd a
finding_of p layout b HoldsReport (Refutations w fail turn) s a = (HasVerdict Holds, (a.0, a.1), tt)
finding_of p layout b HoldsReport other s a = absurd a
finding_of p layout b VacuousReport (EntryRefuted proof) s a = (HasVerdict Vacuous, (a.0, a.1), tt)
finding_of p layout b VacuousReport other s a = absurd a
finding_of p layout b (FailsReport event at step) (RunOf w) s a = (HasVerdict Fails, (a.0, a.1), tt)
finding_of p layout b (FailsReport event at step) other s a = absurd a
finding_of p layout b (UnrollReport at step) (RunOf w) s a = (HasVerdict Unroll, (a.0, a.1), tt)
finding_of p layout b (UnrollReport at step) other s a = absurd a

reported : (o : Options) (file text : List ℕ) (b : Budget) (a : Answer) (p : Program) → (¬ IsSpentEvidence a.evidence) → IsFound o file text p →
    IsReported p (layout_of o file) b a → Answers o file text b a
reported o file text b a p unspent found (r, e, right, is) =
    let f = finding_of p (layout_of o file) b r e (λ s. unspent (subst (λ (x : Answer). IsSpentEvidence x.evidence) (sym is) s)) right in
    is_reported p f.0 r e found f.1 f.2 right is

by_notes : (o : Options) (file text : List ℕ) (b : Budget) (a : Answer) → (¬ IsSpentEvidence a.evidence) → IsAccepted file →
    AfterFrames o file text (IsVerifiedWhole (layout_of o file) b) a → Answers o file text b a
by_notes o file text b a unspent accepted (frames_refused written h is) = notes_are_refused written accepted h is
by_notes o file text b a unspent accepted (frames_found w found next) =
    by_frames w.invariants w.contracts _ _ (Answers o file text b a)
    (λ none free right. reported o file text b a w.program unspent (found_program o file text w none free found) right)
    (λ some right. frames_are_reported w found some right unspent) next

pub read_calm : {Next : List ℕ → Answer → Type 0} {a : Answer} (s : Surroundings) (name file : List ℕ) → s.held name ≡ Bytes file →
    (¬ Rose (s.shelf_before name) (s.shelf_after name)) → AfterRead s name Next a → Next file a
read_calm {Next} {a} s name file held calm (read_failed rose is) = absurd (calm rose)
read_calm {Next} {a} s name file held calm (was_read bytes agrees next) =
    let is : bytes ≡ file = subst (λ (h : Held). Agrees h bytes) held agrees in subst (λ (x : List ℕ). Next x a) is next

by_image : (s : Surroundings) (o : Options) (elf notes file text : List ℕ) (b : Budget) (a : Answer) → AreTold s elf notes file text →
    (¬ IsSpentEvidence a.evidence) →
    AfterImage file (AfterRead s notes (λ text. AfterFrames o file text (IsVerifiedWhole (layout_of o file) b))) a → Answers o file text b a
by_image s o elf notes file text b a told unspent (elf_refused written h is) = elf_is_refused written h is
by_image s o elf notes file text b a told unspent (elf_accepted accepted next) =
    by_notes o file text b a unspent accepted (read_calm s notes text told.notes_held told.notes_calm next)

pub verify_is_complete : (s : Surroundings) (o : Options) (elf notes file text : List ℕ) (b : Budget) (status : ℕ) (shown : Evidence) →
    AreTold s elf notes file text →
    (status ≡ 7 → ¬ Rose s.sink_before s.sink_after) → status ≢ 8 → (¬ IsSpentEvidence shown) → IsOutcome s (Some (Verify o elf notes b)) status shown →
    (a : Answer) × Answers o file text b a × (status ≡ a.status) × (shown ≡ a.evidence) × Appends s.text_before a.text s.text_after
verify_is_complete s o elf notes file text b status shown told calm memory unspent (whole a due appends e d) = (
  a,
  by_image s o elf notes file text b a told (λ h. unspent (subst IsSpentEvidence (sym d) h)) (read_calm s elf file told.elf_held told.elf_calm due),
  e,
  d,
  appends,
)
verify_is_complete s o elf notes file text b status shown told calm memory unspent (cut a n due l appends rose e d) = absurd (calm e rose)
verify_is_complete s o elf notes file text b status shown told calm memory unspent (no_memory appends e d) = absurd (memory e)

-- two reports of one finding
module _ (p : Program) (layout : Layout) (b : Budget) where
  abbrev Same : (r : Report) (e : Evidence) (t : Report) (d : Evidence) → Type 0
  Same r e t d = AreSameButRun (report_answer layout b r e) (report_answer layout b t d)

  run_end : (w : Written) (x y : Run) → EndsAs p b.unroll (start_in p layout w) x → EndsAs p b.unroll (start_in p layout w) y → IsOver x → IsOver y → x ≡ y
  run_end w x y i j over_x over_y = one_end p b.unroll (start_in p layout w) i.0 j.0 x y over_x over_y i.1 j.1

  by_fails : (event other : Event) (at step at' step' : ℕ) (w v : Written) → EndsAs p b.unroll (start_in p layout w) (Failed event at step) →
      EndsAs p b.unroll (start_in p layout v) (Failed other at' step') → Same (FailsReport event at step) (RunOf w) (FailsReport other at' step') (RunOf v)
  by_fails event other at step at' step' w v x y = record {
    status = refl;
    shows = (λ h. h, λ h. h);
    text = λ none. absurd (none tt);
    whole = λ e.
        let same : w ≡ v = cc in
        let ends : Failed event at step ≡ Failed other at' step' =
        run_end v (Failed event at step) (Failed other at' step')
        (subst (λ (z : Written). EndsAs p b.unroll (start_in p layout z) (Failed event at step)) same x) y tt tt in
        let first : event ≡ other = cc in
        let second : at ≡ at' = cc in
        let third : step ≡ step' = cc in
        ap (λ z. report_answer layout b (FailsReport z at step) (RunOf w)) first ∙ ap (λ z. report_answer layout b (FailsReport other z step) (RunOf w)) second
        ∙ ap (λ z. report_answer layout b (FailsReport other at' z) (RunOf w)) third
        ∙ ap (λ z. report_answer layout b (FailsReport other at' step') (RunOf z)) same;
  }

  by_turns : (at step at' step' : ℕ) (w v : Written) → EndsAs p b.unroll (start_in p layout w) (Turned at step) →
      EndsAs p b.unroll (start_in p layout v) (Turned at' step') → Same (UnrollReport at step) (RunOf w) (UnrollReport at' step') (RunOf v)
  by_turns at step at' step' w v x y = record {
    status = refl;
    shows = (λ h. h, λ h. h);
    text = λ none. absurd (none tt);
    whole = λ e.
        let same : w ≡ v = cc in
        let ends : Turned at step ≡ Turned at' step' =
        run_end v (Turned at step) (Turned at' step') (subst (λ (z : Written). EndsAs p b.unroll (start_in p layout z) (Turned at step)) same x) y tt tt in
        let second : at ≡ at' = cc in
        let third : step ≡ step' = cc in
        ap (λ z. report_answer layout b (UnrollReport z step) (RunOf w)) second ∙ ap (λ z. report_answer layout b (UnrollReport at' z) (RunOf w)) third
        ∙ ap (λ z. report_answer layout b (UnrollReport at' step') (RunOf z)) same;
  }

  -- two right reports that say one finding are the same
  abbrev AreOne : Finding → (r t : Report) → (e d : Evidence) → Type 0
  AreOne f r t e d = Says r f → Says t f → IsRightReport p layout b r e → IsRightReport p layout b t d → Same r e t d

  by_points : (r t : Report) (e d : Evidence) → AreOne TooManyPoints r t e d
  by_points PointsReport PointsReport (Count n) (Count m) s u x y =
      let same : n ≡ m = x.1 ∙ sym y.1 in
      same_answer (report_answer layout b PointsReport (Count n)) (report_answer layout b PointsReport (Count m))
      (ap (λ z. report_answer layout b PointsReport (Count z)) same)
  by_points PointsReport PointsReport (Count n) d s u x y = absurd y
  by_points PointsReport PointsReport e d s u x y = absurd x
  by_points PointsReport t e d s u x y = absurd u
  by_points r t e d s u x y = absurd s

  by_size : (price : ℕ) (r t : Report) (e d : Evidence) → AreOne (TooLarge price) r t e d
  by_size price SizeReport SizeReport (Count n) (Count m) s u x y =
      let same : n ≡ m = one_price p b.unroll n m x.1 y.1 in
      same_answer (report_answer layout b SizeReport (Count n)) (report_answer layout b SizeReport (Count m))
      (ap (λ z. report_answer layout b SizeReport (Count z)) same)
  by_size price SizeReport SizeReport (Count n) d s u x y = absurd y
  by_size price SizeReport SizeReport e d s u x y = absurd x
  by_size price SizeReport t e d s u x y = absurd u
  by_size price r t e d s u x y = absurd s

  by_holds : (r t : Report) (e d : Evidence) → AreOne (HasVerdict Holds) r t e d
  by_holds HoldsReport HoldsReport (Refutations w fail turn) (Refutations v left over) s u x y = record {
    status = refl;
    shows = (λ h. h, λ h. h);
    text = λ none. refl;
    whole = λ e. ap (λ z. report_answer layout b HoldsReport z) e;
  }
  by_holds HoldsReport HoldsReport (Refutations w fail turn) d s u x y = absurd y
  by_holds HoldsReport HoldsReport e d s u x y = absurd x
  by_holds HoldsReport t e d s u x y = absurd u
  by_holds r t e d s u x y = absurd s

  by_vacuous : (r t : Report) (e d : Evidence) → AreOne (HasVerdict Vacuous) r t e d
  by_vacuous VacuousReport VacuousReport (EntryRefuted proof) (EntryRefuted other) s u x y = record {
    status = refl;
    shows = (λ h. h, λ h. h);
    text = λ none. refl;
    whole = λ e. ap (λ z. report_answer layout b VacuousReport z) e;
  }
  by_vacuous VacuousReport VacuousReport (EntryRefuted proof) d s u x y = absurd y
  by_vacuous VacuousReport VacuousReport e d s u x y = absurd x
  by_vacuous VacuousReport t e d s u x y = absurd u
  by_vacuous r t e d s u x y = absurd s

  by_failing : (r t : Report) (e d : Evidence) → AreOne (HasVerdict Fails) r t e d
  by_failing (FailsReport event at step) (FailsReport other at' step') (RunOf w) (RunOf v) s u x y = by_fails event other at step at' step' w v x.4 y.4
  by_failing (FailsReport event at step) (FailsReport other at' step') (RunOf w) d s u x y = absurd y
  by_failing (FailsReport event at step) (FailsReport other at' step') e d s u x y = absurd x
  by_failing (FailsReport event at step) t e d s u x y = absurd u
  by_failing r t e d s u x y = absurd s

  by_turning : (r t : Report) (e d : Evidence) → AreOne (HasVerdict Unroll) r t e d
  by_turning (UnrollReport at step) (UnrollReport at' step') (RunOf w) (RunOf v) s u x y = by_turns at step at' step' w v x.4 y.4
  by_turning (UnrollReport at step) (UnrollReport at' step') (RunOf w) d s u x y = absurd y
  by_turning (UnrollReport at step) (UnrollReport at' step') e d s u x y = absurd x
  by_turning (UnrollReport at step) t e d s u x y = absurd u
  by_turning r t e d s u x y = absurd s

  pub one_report : (f : Finding) (r t : Report) (e d : Evidence) → AreOne f r t e d
  one_report TooManyPoints r t e d s u x y = by_points r t e d s u x y
  one_report (TooLarge price) r t e d s u x y = by_size price r t e d s u x y
  one_report (HasVerdict Holds) r t e d s u x y = by_holds r t e d s u x y
  one_report (HasVerdict Vacuous) r t e d s u x y = by_vacuous r t e d s u x y
  one_report (HasVerdict Fails) r t e d s u x y = by_failing r t e d s u x y
  one_report (HasVerdict Unroll) r t e d s u x y = by_turning r t e d s u x y

-- two reports of two files
two_reports : (o : Options) (file : List ℕ) (b : Budget) (p q : Program) (f g : Finding) (r t : Report) (e d : Evidence) → p ≡ q →
    ComesTo p b f → ComesTo q b g → Says r f → Says t g → IsRightReport p (layout_of o file) b r e → IsRightReport q (layout_of o file) b t d →
    AreSameButRun (report_answer (layout_of o file) b r e) (report_answer (layout_of o file) b t d)
two_reports o file b p q f g r t e d same x y s u right other =
    let finding : f ≡ g = one_finding q b f g (subst (λ (z : Program). ComesTo z b f) same x) y in
    one_report q (layout_of o file) b g r t e d (subst (Says r) finding s) u
    (subst (λ (z : Program). IsRightReport z (layout_of o file) b r e) same right) other

-- a program has neither invariants nor contracts
no_frames : (o : Options) (file text : List ℕ) (w : Whole) (p : Program) → IsFrameFound o file text w → HasFrames w → IsFound o file text p → ⊥
no_frames o file text w p found some is = let none = (programs_are_whole o file text p is).1 w found in some none.1 none.2

pub one_answer : (o : Options) (file text : List ℕ) (b : Budget) (a c : Answer) → HasBytes o file text → Answers o file text b a →
    Answers o file text b c → AreSameButRun a c
one_answer o file text b a c bytes (elf_is_refused v x i) (elf_is_refused w y j) =
    same_answer a c (i ∙ ap (plain_answer 4) (one_elf_refusal file v w x y) ∙ sym j)
one_answer o file text b a c bytes (elf_is_refused v x i) (notes_are_refused w accepted y j) = absurd (refused_or_accepted file v x accepted)
one_answer o file text b a c bytes (elf_is_refused v x i) (is_reported p f r e found y s right j) = absurd (refused_or_accepted file v x found.0)
one_answer o file text b a c bytes (notes_are_refused v accepted x i) (elf_is_refused w y j) = absurd (refused_or_accepted file w y accepted)
one_answer o file text b a c bytes (notes_are_refused v accepted x i) (notes_are_refused w too y j) =
    same_answer a c (i ∙ ap (plain_answer 5) (one_refusal_in (dialect_for text) o file text v w x y) ∙ sym j)
one_answer o file text b a c bytes (notes_are_refused v accepted x i) (is_reported p f r e found y s right j) =
    absurd (not_refused o file text v p x found)
one_answer o file text b a c bytes (is_reported p f r e found x s right i) (elf_is_refused w y j) = absurd (refused_or_accepted file w y found.0)
one_answer o file text b a c bytes (is_reported p f r e found x s right i) (notes_are_refused w accepted y j) =
    absurd (not_refused o file text w p y found)
one_answer o file text b a c bytes (is_reported p f r e found x s right i) (is_reported q g t d too y u other j) =
    subst (λ (z : Answer). AreSameButRun z c) (sym i)
    (subst (λ (z : Answer). AreSameButRun (report_answer (layout_of o file) b r e) z) (sym j)
    (two_reports o file b p q f g r t e d (one_program o file text p q found too) x y s u right other))
one_answer o file text b a c bytes (frames_are_reported w found some right unspent) (elf_is_refused v x i) =
    absurd (refused_or_accepted file v x found.0)
one_answer o file text b a c bytes (frames_are_reported w found some right unspent) (notes_are_refused v accepted x i) =
    absurd (not_refused_whole o file text v w x found)
one_answer o file text b a c bytes (frames_are_reported w found some right unspent) (is_reported p f r e too x s other i) =
    absurd (no_frames o file text w p found some too)
one_answer o file text b a c bytes (frames_are_reported w found some right unspent) (frames_are_reported v too any other calm) =
    let same : v ≡ w = one_whole o file text w v found too in
    frames_alike w (layout_of o file) b (rows_of o file text w (bytes w found some) found) (reads_of o file text w (bytes w found some) found) a c unspent
    calm right (subst (λ (z : Whole). IsFrameReported z (layout_of o file) b c) same other)
one_answer o file text b a c bytes (elf_is_refused v x i) (frames_are_reported w found some right unspent) =
    absurd (refused_or_accepted file v x found.0)
one_answer o file text b a c bytes (notes_are_refused v accepted x i) (frames_are_reported w found some right unspent) =
    absurd (not_refused_whole o file text v w x found)
one_answer o file text b a c bytes (is_reported p f r e too x s other i) (frames_are_reported w found some right unspent) =
    absurd (no_frames o file text w p found some too)

-- what is reported of the files' program is what it comes to
reported_as : (s : Surroundings) (o : Options) (file text : List ℕ) (b : Budget) (status : ℕ) (shown : Evidence) (p : Program) → IsFound o file text p →
    (f : Finding) → ComesTo p b f → (a : Answer) → Answers o file text b a → status ≡ a.status → shown ≡ a.evidence →
    Appends s.text_before a.text s.text_after →
    (r : Report) × Says r f × IsRightReport p (layout_of o file) b r shown × (status ≡ status_of r)
    × Appends s.text_before (report_text (layout_of o file) b r shown) s.text_after
reported_as s o file text b status shown p found f comes a (elf_is_refused w x i) e d appends = absurd (refused_or_accepted file w x found.0)
reported_as s o file text b status shown p found f comes a (notes_are_refused w accepted x i) e d appends = absurd (not_refused o file text w p x found)
reported_as s o file text b status shown p found f comes a (frames_are_reported w too some right unspent) e d appends = absurd (no_frames o file text w p too some found)
reported_as s o file text b status shown p found f comes a (is_reported q g r t too other says right i) e d appends =
    let same : q ≡ p = one_program o file text q p too found in
    let finding : g ≡ f = one_finding p b g f (subst (λ (z : Program). ComesTo z b g) same other) comes in
    let evidence_is : t ≡ shown = sym (d ∙ ap (λ x. x.evidence) i) in (
      r,
      subst (Says r) finding says,
      subst (λ (z : Evidence). IsRightReport p (layout_of o file) b r z) evidence_is
          (subst (λ (z : Program). IsRightReport z (layout_of o file) b r t) same right),
      e ∙ ap (λ x. x.status) i,
      subst (λ (z : List ℕ). Appends s.text_before z s.text_after) (ap (λ x. x.text) i ∙ ap (report_text (layout_of o file) b r) evidence_is) appends,
    )

pub finding_is_reported : (s : Surroundings) (o : Options) (elf notes file text : List ℕ) (b : Budget) (status : ℕ) (shown : Evidence) →
    AreTold s elf notes file text →
    (status ≡ 7 → ¬ Rose s.sink_before s.sink_after) → status ≢ 8 → (¬ IsSpentEvidence shown) → (p : Program) → IsFound o file text p →
    (f : Finding) → ComesTo p b f → IsOutcome s (Some (Verify o elf notes b)) status shown →
    (r : Report) × Says r f × IsRightReport p (layout_of o file) b r shown × (status ≡ status_of r)
    × Appends s.text_before (report_text (layout_of o file) b r shown) s.text_after
finding_is_reported s o elf notes file text b status shown told calm memory unspent p found f comes outcome =
    let c = verify_is_complete s o elf notes file text b status shown told calm memory unspent outcome in
    reported_as s o file text b status shown p found f comes c.0 c.1 c.2 c.3 c.4
