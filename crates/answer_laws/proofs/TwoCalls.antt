-- What two calls answer, of which the second reads what the first one wrote.
use Rattle.std.proofs.Common.{◌≡◌, ◌≢◌, ◌≤◌, ◌^◌, ℕ, Bool, true, false, List, [], ◌∷◌, ◌++◌, length, Option, Some, None, refl, ap, sym, subst, ◌∙◌, arith, inl, inr}
use Rattle.std.specs.Prelude.{codes, ◌⊎◌, if◌then◌else◌}
use Rattle.std.proofs.lemmas.List.{append_cancel_left}
use Rattle.answer_laws.specs.Completeness.{HasFrames, ShowsRun}
use Rattle.answer_laws.specs.Replayed.{AreBytes, IsReplayable}
use Rattle.answer_laws.proofs.EndingNames.{names_can_be_written, right_report_replays}
use Rattle.answer_laws.specs.FrameReplayed.{ending_of_report}
use Rattle.answer_laws.proofs.FrameReplays.{frame_report_replays}
use Rattle.answer_laws.proofs.OneProgram.{not_refused, not_refused_whole, refused_or_accepted}
use Rattle.answer_spec.specs.AnswerLaws.{named_of}
use Rattle.call_spec.specs.Calls.{Answer, Budget, Evidence, NoEvidence, RunOf, Refutations, EntryRefuted, SpentOn, Count, Inductive, FromHead, Frames, WithCalls, SpentOnFrame, Two, Both, SpentOnPair, plain_answer, Options, Surroundings, AfterRead, read_failed, was_read, program_question}
use Rattle.call_spec.specs.Calls as plain
use Rattle.call_spec.specs.Framed.{Question}
use Rattle.bilv_spec.specs.Answers.{Report, HoldsReport, VacuousReport, FailsReport, UnrollReport, PointsReport, SizeReport, ConflictsReport, IsRightReport, report_answer, report_text}
use Rattle.clause_spec.specs.Certificates.{certificate_text}
use Rattle.bilv_spec.specs.Certified as certified
use Rattle.bilv_spec.specs.Certified.{IsCertified}
use Rattle.clause_spec.specs.Refutation.{IsRefutation, Proof}
use Rattle.clause_spec.specs.Clauses.{AreOnVariables}
use Rattle.frame_spec.specs.FrameCertified as framed
use Rattle.frame_spec.specs.FrameCertified.{IsFrameCertified}
use Rattle.frame_spec.specs.FrameReports as frames
use Rattle.frame_spec.specs.Frames.{Contract}
use Rattle.frame_spec.specs.FrameVerdict.{Whole}
use Rattle.frame_texts_spec.specs.CallReplays.{call_replay_answer}
use Rattle.frame_texts_spec.specs.CallTexts.{CallEnding, Plain, call_ending_words}
use Rattle.frame_texts_spec.specs.FrameReplays.{TellsReturns}
use Rattle.frame_texts_spec.specs.FrameTexts.{FramedFails, FramedTurns, NotInductiveBy, ending_words, framed}
use Rattle.frame_texts_spec.specs.FrameTextLaws.{HasNoHeadPart, IsPlainFirst}
use Rattle.frame_texts_spec.specs.ReplayLaws.{IsPlainPrintedIn}
use Rattle.answer_laws.proofs.CallLess.{HasNoCallIn, callless_in}
use Rattle.answer_laws.proofs.SameFrames.{passed_shows_none}
use Rattle.machine_spec.proofs.StateLines.{arm_is_layout, rv_is_layout}
use Rattle.frame_texts_spec.proofs.HeadlessReplays.{headless_replay}
use Rattle.frame_texts_spec.proofs.PlainPrinted.{plain_printed}
use Rattle.bilv_spec.specs.Points.{is_known_at}
use Rattle.word_spec.specs.Memory.{Endian}
use Rattle.word_spec.specs.State.{Written}
use Rattle.machine_spec.specs.StateText.{Layout, IsNamed, IsWritten, arm_layout, printed, rv_layout, StateText}
use Rattle.bilv_spec.specs.Elf.{file_endian}
use Rattle.bilv_spec.specs.Files.{is_rv, layout_of}
use Rattle.command_spec.specs.Commands.{Verify, Replay, Certify, Check}
use Rattle.answer_spec.specs.Outcomes.{IsRightAnswer, IsOutcome, whole, cut, no_memory}
use Rattle.call_spec.specs.Outside.{Appends}
use Rattle.bilv_spec.specs.Replays.{replay_answer}
use Rattle.clause_spec.specs.Checks.{text_limit, IsChecked}
use Rattle.machine_spec.specs.Endings.{NamedEnding, FailsBy, UnknownBy, named_line}
use Rattle.bilv_spec.specs.Run.{Program}
use Rattle.word_spec.specs.Texts.{joined, line, split_lines}
use Rattle.notes_spec.specs.Verified.{AfterImage, elf_refused, elf_accepted, IsFound}
use Rattle.answer_spec.specs.FrameAnswers.{AfterFrame, asked_rank, AfterFrames, frames_refused, frames_found, ByQuestion, IsFrameFound, IsFrameReplayed, too_long, judged, frame_report_answer, frame_report_text, name_of, report_evidence, unproved_ending, IsVerifiedWhole, IsReplayedWhole, IsCertifiedWhole}
use Rattle.answer_spec.specs.FrameAnswerLaws.{HasNoCall}
use Rattle.answer_spec.proofs.Wholes.{by_frames, by_invariants, found_program, one_whole, programs_are_whole, replayed_without_calls, without_invariants}
use Rattle.clause_spec.proofs.AcceptedCertificates.{printed_is_accepted}
use Rattle.clause_spec.proofs.OneCheck.{one_check}
use Rattle.answer_laws.specs.Told.{AreToldTo, AfterWholeFiles}
use Rattle.answer_laws.specs.TwoCalls.{ReportIsReplayed, Writes, Sufficed, IsPrinted}
use Rattle.answer_laws.proofs.Told.{answer_told, outcome_told}

-- what was appended is what was printed
pub printed_is : (s : Surroundings) (text written : List ℕ) → IsPrinted s text → Appends s.text_before written s.text_after → written ≡ text
printed_is s text written (before, is, after) appends =
    let grown : s.text_after ≡ Some (before ++ written) = subst (λ (x : Option (List ℕ)). Appends x written s.text_after) is appends in
    let both : Some (before ++ written) ≡ Some (before ++ text) = sym grown ∙ after in
    append_cancel_left before _ _ (let e : before ++ written ≡ before ++ text = cc in e)

-- a status of an answer without evidence
status_is : (a : Answer) (status : ℕ) (written : List ℕ) → a ≡ plain_answer status written → a.status ≡ status
status_is a status written is = ap (λ (x : Answer). x.status) is

-- what makes a proof's certificate accepted
record IsSound (proof : Proof) : Type 0 where
  pub over : AreOnVariables proof.clauses.variables proof.clauses.clauses
  pub refutation : IsRefutation proof.clauses.variables proof.clauses.clauses proof.log

-- the certificate of a question, where the status is 0
proof_of : (p : Program) (b : Budget) (kind : plain.Question) (status : ℕ) (text : List ℕ) (e : Evidence) → IsCertified p b kind status text e → status ≡ 0 →
    (proof : Proof) × (text ≡ certificate_text proof.clauses proof.log) × IsSound proof
proof_of p b kind _ _ _ (certified.points more) zero = absurd (omega (arith, zero))
proof_of p b kind _ _ _ (certified.size price few is above) zero = absurd (omega (arith, zero))
proof_of p b kind _ _ _ (certified.conflicts proof within spends) zero = absurd (omega (arith, zero))
proof_of p b kind _ _ _ (certified.satisfiable within is) zero = absurd (omega (arith, zero))
proof_of p b kind _ _ _ (certified.certified proof within never refutes) zero =
    (proof, refl, record { over = refutes.of_question.extends.over; refutation = refutes.refutation })

-- so of a question of a frame
framed_proof : (w : Whole) (rank : ℕ) (b : Budget) (question : Question) (status : ℕ) (text : List ℕ) (e : Evidence) →
    IsFrameCertified w rank b question status text e → status ≡ 0 → (proof : Proof) × (text ≡ certificate_text proof.clauses proof.log) × IsSound proof
framed_proof w rank b question _ _ _ (framed.points more) zero = absurd (omega (arith, zero))
framed_proof w rank b question _ _ _ (framed.size price few is above) zero = absurd (omega (arith, zero))
framed_proof w rank b question _ _ _ (framed.conflicts proof within spends) zero = absurd (omega (arith, zero))
framed_proof w rank b question _ _ _ (framed.satisfiable within is) zero = absurd (omega (arith, zero))
framed_proof w rank b question _ _ _ (framed.certified proof within never refutes) zero =
    (proof, refl, record { over = refutes.of_question.extends.over; refutation = refutes.refutation })

-- of either, of the frame that is asked about
module _ (w : Whole) (b : Budget) (question : Question) (a : Answer) (zero : a.status ≡ 0) where
  abbrev Found : Type 0
  Found = (proof : Proof) × (a.text ≡ certificate_text proof.clauses proof.log) × IsSound proof

  by_lines : (rank : ℕ) (invariants : List ℕ) (contracts : List Contract) (o : Option plain.Question) →
      ByQuestion invariants contracts o (λ kind. IsCertified w.program b kind a.status a.text a.evidence)
      (IsFrameCertified w rank b question a.status a.text a.evidence) → Found
  by_lines rank [] [] (Some kind) is = proof_of w.program b kind a.status a.text a.evidence is zero
  by_lines rank [] [] None is = framed_proof w rank b question a.status a.text a.evidence is zero
  by_lines rank [] (x ∷ rest) o is = framed_proof w rank b question a.status a.text a.evidence is zero
  by_lines rank (n ∷ rest) contracts o is = framed_proof w rank b question a.status a.text a.evidence is zero

  by_rank : (o : Option ℕ) →
      AfterFrame o
      (λ rank. ByQuestion w.invariants w.contracts (program_question question) (λ kind. IsCertified w.program b kind a.status a.text a.evidence)
      (IsFrameCertified w rank b question a.status a.text a.evidence)) a → Found
  by_rank None is = let e = status_is a 5 _ is in absurd (omega (arith, e, zero))
  by_rank (Some rank) is = by_lines rank w.invariants w.contracts (program_question question) is

  whole_proof : (frame : Option (List ℕ)) → IsCertifiedWhole b frame question w a →
      (proof : Proof) × (a.text ≡ certificate_text proof.clauses proof.log) × IsSound proof
  whole_proof frame is = by_rank (asked_rank w frame) is

-- a proof whose certificate an answer is
record IsOfProof (a : Answer) : Type 0 where
  pub proof : Proof
  pub text : a.text ≡ certificate_text proof.clauses proof.log
  pub sound : IsSound proof

module _ (s : Surroundings) (o : Options) (elf notes : List ℕ) (kind : Question) (frame : Option (List ℕ)) (b : Budget) (a : Answer)
    (zero : a.status ≡ 0) where
  of_status : (status : ℕ) (written : List ℕ) → (status ≡ 0 → ⊥) → a ≡ plain_answer status written → IsOfProof a
  of_status status written other is = absurd (other (sym (status_is a status written is) ∙ zero))

  of_notes : (file text : List ℕ) → AfterFrames o file text (IsCertifiedWhole b frame kind) a → IsOfProof a
  of_notes file text (frames_refused written x is) = of_status 5 written (λ h. omega (arith, h)) is
  of_notes file text (frames_found w x is) =
      let found = whole_proof w b kind a zero frame is in record { proof = found.0; text = found.1; sound = found.2 }

  of_texts : (file : List ℕ) → AfterRead s notes (λ text. AfterFrames o file text (IsCertifiedWhole b frame kind)) a → IsOfProof a
  of_texts file (read_failed rose is) = of_status 6 _ (λ h. omega (arith, h)) is
  of_texts file (was_read text agrees next) = of_notes file text next

  of_image : (file : List ℕ) → AfterImage file (AfterRead s notes (λ text. AfterFrames o file text (IsCertifiedWhole b frame kind))) a → IsOfProof a
  of_image file (elf_refused written x is) = of_status 4 written (λ h. omega (arith, h)) is
  of_image file (elf_accepted x next) = of_texts file next

  of_files : IsRightAnswer s (Certify o elf notes kind frame b) a → IsOfProof a
  of_files (read_failed rose is) = of_status 6 _ (λ h. omega (arith, h)) is
  of_files (was_read file agrees next) = of_image file next

-- the answer of a call that ended with status 0
certificate_written : (s : Surroundings) (o : Options) (elf notes : List ℕ) (kind : Question) (frame : Option (List ℕ)) (b : Budget) (e : Evidence) →
    IsOutcome s (Some (Certify o elf notes kind frame b)) 0 e → (a : Answer) × IsOfProof a × Appends s.text_before a.text s.text_after
certificate_written s o elf notes kind frame b e (whole a due appends status evidence) = (a, of_files s o elf notes kind frame b a (sym status) due, appends)
certificate_written s o elf notes kind frame b e (cut a n due l appends rose status evidence) = absurd (omega (arith, status))
certificate_written s o elf notes kind frame b e (no_memory appends status evidence) = absurd (omega (arith, status))

accepted_by : (t : Surroundings) (content : List ℕ → List ℕ) (name : List ℕ) (proof : Proof) (status : ℕ) (f : Evidence) →
    content name ≡ certificate_text proof.clauses proof.log → IsSound proof → proof.clauses.variables ≤ 2 ^ 30 →
    length proof.clauses.clauses ≤ 2 ^ 30 → length (content name) ≤ text_limit → AreToldTo t content (Check name) → Sufficed t status →
    IsOutcome t (Some (Check name)) status f → Writes t status (line (codes "accepted"))
accepted_by t content name proof status f is sound variables clauses short told sufficed outcome =
    let answered = outcome_told t content (Check name) status f told sufficed.0 sufficed.1 outcome in
    let a = answered.0 in
    let short_too : length (certificate_text proof.clauses proof.log) ≤ text_limit = subst (λ x. length x ≤ text_limit) is short in
    let due : IsChecked (content name) 0 (line (codes "accepted")) =
    subst (λ x. IsChecked x 0 (line (codes "accepted"))) (sym is)
    (printed_is_accepted proof.clauses proof.log (record { variables = variables; clauses = clauses; over = sound.over }) sound.refutation short_too) in
    let same = (one_check (content name)).1 a.status 0 a.text (line (codes "accepted")) answered.1.0 due in
    (answered.2 ∙ same.0, subst (λ x. Appends t.text_before x t.text_after) same.1 answered.4)

pub certificate_is_accepted : (s t : Surroundings) (o : Options) (content : List ℕ → List ℕ) (elf notes name : List ℕ) (kind : Question)
    (frame : Option (List ℕ)) (b : Budget) (status : ℕ) (e f : Evidence) → IsOutcome s (Some (Certify o elf notes kind frame b)) 0 e → IsPrinted s (content name) →
    (proof : Proof) × (content name ≡ certificate_text proof.clauses proof.log)
    × (proof.clauses.variables ≤ 2 ^ 30 → length proof.clauses.clauses ≤ 2 ^ 30 → length (content name) ≤ text_limit →
    AreToldTo t content (Check name) → Sufficed t status → IsOutcome t (Some (Check name)) status f → Writes t status (line (codes "accepted")))
certificate_is_accepted s t o content elf notes name kind frame b status e f outcome printed =
    let written = certificate_written s o elf notes kind frame b e outcome in
    let of = written.1 in
    let is : content name ≡ certificate_text of.proof.clauses of.proof.log = sym (printed_is s (content name) written.0.text printed written.2) ∙ of.text in
    (of.proof, is, accepted_by t content name of.proof status f is of.sound)

names_none : (n : NamedEnding) → ◌≡◌ {A = Option NamedEnding} None (Some n) → ⊥
names_none n e = cc

-- the ending that a report names, where its evidence is a run
names_ending : (p : Program) (o : Options) (file : List ℕ) (b : Budget) (r : Report) (e : Evidence) → IsRightReport p (layout_of o file) b r e → ShowsRun e →
    (n : NamedEnding) × (named_of b r ≡ Some n)
names_ending p o file b (FailsReport event at step) (RunOf w) right shows = (FailsBy event at step, refl)
names_ending p o file b (UnrollReport at step) (RunOf w) right shows = (UnknownBy b.unroll at step, refl)
names_ending p o file b HoldsReport (RunOf w) right shows = absurd right
names_ending p o file b VacuousReport (RunOf w) right shows = absurd right
names_ending p o file b PointsReport (RunOf w) right shows = absurd right
names_ending p o file b SizeReport (RunOf w) right shows = absurd right
names_ending p o file b ConflictsReport (RunOf w) right shows = absurd right
names_ending p o file b r NoEvidence right shows = absurd shows
names_ending p o file b r (Refutations w fail turn) right shows = absurd shows
names_ending p o file b r (EntryRefuted proof) right shows = absurd shows
names_ending p o file b r (SpentOn kind proof) right shows = absurd shows
names_ending p o file b r (Count n) right shows = absurd shows
names_ending p o file b r (Two x y) right shows = absurd shows
names_ending p o file b r (Both x y v w proof) right shows = absurd shows
names_ending p o file b r (SpentOnPair kind proof) right shows = absurd shows
names_ending p o file b r (Inductive w fail step turn) right shows = absurd shows
names_ending p o file b HoldsReport (FromHead w head) right shows = absurd right
names_ending p o file b HoldsReport (WithCalls rank w calls) right shows = absurd right
names_ending p o file b VacuousReport (FromHead w head) right shows = absurd right
names_ending p o file b VacuousReport (WithCalls rank w calls) right shows = absurd right
names_ending p o file b (FailsReport event at step) (FromHead w head) right shows = absurd right
names_ending p o file b (FailsReport event at step) (WithCalls rank w calls) right shows = absurd right
names_ending p o file b (UnrollReport at step) (FromHead w head) right shows = absurd right
names_ending p o file b (UnrollReport at step) (WithCalls rank w calls) right shows = absurd right
names_ending p o file b PointsReport (FromHead w head) right shows = absurd right
names_ending p o file b PointsReport (WithCalls rank w calls) right shows = absurd right
names_ending p o file b SizeReport (FromHead w head) right shows = absurd right
names_ending p o file b SizeReport (WithCalls rank w calls) right shows = absurd right
names_ending p o file b ConflictsReport (FromHead w head) right shows = absurd right
names_ending p o file b ConflictsReport (WithCalls rank w calls) right shows = absurd right
names_ending p o file b r (Frames list) right shows = absurd shows
names_ending p o file b r (SpentOnFrame rank question proof) right shows = absurd shows

-- what a report of a program that shows a run is of
record IsOfRun (o : Options) (file text : List ℕ) (b : Budget) (a : Answer) : Type 0 where
  pub program : Program
  pub found : IsFound o file text program
  pub report : Report
  pub evidence : Evidence
  pub right : IsRightReport program (layout_of o file) b report evidence
  pub is : a ≡ report_answer (layout_of o file) b report evidence
  pub shows : ShowsRun evidence

-- and one over frames that shows a segment
record IsOfSegment (o : Options) (file text : List ℕ) (b : Budget) (a : Answer) : Type 0 where
  pub function : Whole
  pub found : IsFrameFound o file text function
  pub some : HasFrames function
  pub report : frames.Report
  pub evidence : frames.Evidence
  pub right : frames.IsRightReport function (layout_of o file) b report evidence
  pub is : a ≡ frame_report_answer function (layout_of o file) b report evidence
  pub ending : CallEnding
  pub named : ending_of_report function b report ≡ Some ending

pub bare : (a : Answer) (status : ℕ) (written : List ℕ) → a ≡ plain_answer status written → ShowsRun a.evidence → ⊥
bare a status written is shows = subst ShowsRun (ap (λ (x : Answer). x.evidence) is) shows

-- the ending that a report over frames names, where its evidence is a segment
named_segment : (w : Whole) (layout : Layout) (b : Budget) (r : frames.Report) (e : frames.Evidence) →
    frames.IsRightReport w layout b r e → ShowsRun (report_evidence w r e) → (n : CallEnding) × (ending_of_report w b r ≡ Some n)
named_segment w layout b (frames.NamedReport (frames.ByEvent event at step)) e right shows = (Plain (FramedFails event at step), refl)
named_segment w layout b (frames.NamedReport (frames.ByTurn at step)) e right shows = (Plain (FramedTurns b.unroll at step), refl)
named_segment w layout b (frames.NotInductiveReport event at step) e right shows = (Plain (NotInductiveBy event at step), refl)
named_segment w layout b (frames.UnprovedReport rank n) e right shows = (unproved_ending (name_of w rank) b n, refl)
named_segment w layout b frames.HoldsReport (frames.PassedBy x) right shows = absurd (passed_shows_none x shows)
named_segment w layout b frames.HoldsReport (frames.Frames list) right shows = absurd shows
named_segment w layout b frames.HoldsReport (frames.ShownBy s) right shows = absurd right
named_segment w layout b frames.HoldsReport (frames.SpentOn k question proof) right shows = absurd shows
named_segment w layout b frames.HoldsReport (frames.Count c) right shows = absurd shows
named_segment w layout b frames.PartialReport (frames.PassedBy x) right shows = absurd (passed_shows_none x shows)
named_segment w layout b frames.PartialReport (frames.Frames list) right shows = absurd shows
named_segment w layout b frames.PartialReport (frames.ShownBy s) right shows = absurd right
named_segment w layout b frames.PartialReport (frames.SpentOn k question proof) right shows = absurd shows
named_segment w layout b frames.PartialReport (frames.Count c) right shows = absurd shows
named_segment w layout b frames.VacuousReport (frames.PassedBy x) right shows = absurd (passed_shows_none x shows)
named_segment w layout b frames.VacuousReport (frames.Frames list) right shows = absurd shows
named_segment w layout b frames.VacuousReport (frames.ShownBy s) right shows = absurd right
named_segment w layout b frames.VacuousReport (frames.SpentOn k question proof) right shows = absurd shows
named_segment w layout b frames.VacuousReport (frames.Count c) right shows = absurd shows
named_segment w layout b frames.PointsReport (frames.PassedBy x) right shows = absurd (passed_shows_none x shows)
named_segment w layout b frames.PointsReport (frames.Frames list) right shows = absurd shows
named_segment w layout b frames.PointsReport (frames.ShownBy s) right shows = absurd right
named_segment w layout b frames.PointsReport (frames.SpentOn k question proof) right shows = absurd shows
named_segment w layout b frames.PointsReport (frames.Count c) right shows = absurd shows
named_segment w layout b frames.SizeReport (frames.PassedBy x) right shows = absurd (passed_shows_none x shows)
named_segment w layout b frames.SizeReport (frames.Frames list) right shows = absurd shows
named_segment w layout b frames.SizeReport (frames.ShownBy s) right shows = absurd right
named_segment w layout b frames.SizeReport (frames.SpentOn k question proof) right shows = absurd shows
named_segment w layout b frames.SizeReport (frames.Count c) right shows = absurd shows
named_segment w layout b frames.ConflictsReport (frames.PassedBy x) right shows = absurd (passed_shows_none x shows)
named_segment w layout b frames.ConflictsReport (frames.Frames list) right shows = absurd shows
named_segment w layout b frames.ConflictsReport (frames.ShownBy s) right shows = absurd right
named_segment w layout b frames.ConflictsReport (frames.SpentOn k question proof) right shows = absurd shows
named_segment w layout b frames.ConflictsReport (frames.Count c) right shows = absurd shows

abbrev IsOfEither : Options → (file text : List ℕ) → Budget → Answer → Type 0
IsOfEither o file text b a = IsOfRun o file text b a ⊎ IsOfSegment o file text b a

run_of_notes : (o : Options) (file text : List ℕ) (b : Budget) (a : Answer) → ShowsRun a.evidence →
    AfterFrames o file text (IsVerifiedWhole (layout_of o file) b) a → IsOfEither o file text b a
run_of_notes o file text b a shows (frames_refused written x is) = absurd (bare a 5 written is shows)
run_of_notes o file text b a shows (frames_found w x next) =
    by_frames w.invariants w.contracts _ _ (IsOfEither o file text b a)
    (λ none free is. inl (record {
      program = w.program;
      found = found_program o file text w none free x;
      report = is.0;
      evidence = is.1;
      right = is.2;
      is = is.3;
      shows = subst ShowsRun (ap (λ (x : Answer). x.evidence) is.3) shows;
    }))
    (λ some is.
    let named = named_segment w (layout_of o file) b is.0 is.1 is.2
    (subst ShowsRun (ap (λ (x : Answer). x.evidence) is.3) shows) in
    inr (record {
      function = w;
      found = x;
      some = some;
      report = is.0;
      evidence = is.1;
      right = is.2;
      is = is.3;
      ending = named.0;
      named = named.1;
    })) next

run_of_file : (o : Options) (file text : List ℕ) (b : Budget) (a : Answer) → ShowsRun a.evidence →
    AfterWholeFiles o file text (IsVerifiedWhole (layout_of o file) b) a → IsOfEither o file text b a
run_of_file o file text b a shows (elf_refused written x is) = absurd (bare a 4 written is shows)
run_of_file o file text b a shows (elf_accepted x next) = run_of_notes o file text b a shows next

report_written : (s : Surroundings) (o : Options) (content : List ℕ → List ℕ) (elf notes : List ℕ) (b : Budget) (first : ℕ) (e : Evidence) →
    AreToldTo s content (Verify o elf notes b) → IsOutcome s (Some (Verify o elf notes b)) first e → ShowsRun e →
    (a : Answer) × IsOfEither o (content elf) (content notes) b a × Appends s.text_before a.text s.text_after
report_written s o content elf notes b first e told (whole a due appends status evidence) shows =
    (a, run_of_file o (content elf) (content notes) b a (subst ShowsRun evidence shows) (answer_told s content (Verify o elf notes b) a told due), appends)
report_written s o content elf notes b first e told (cut a n due l appends rose status evidence) shows = absurd (subst ShowsRun evidence shows)
report_written s o content elf notes b first e told (no_memory appends status evidence) shows = absurd (subst ShowsRun evidence shows)

-- ---- the text of a report of a program has neither a head part nor blocks

plain_layout : (v : Bool) (e : Endian) (o : Options) → IsPlainPrintedIn (if v then rv_layout o.compressed else arm_layout e o.profile)
plain_layout true e o = plain_printed.0 o.compressed
plain_layout false e o = plain_printed.1 e o.profile

callless_layout : (v : Bool) (e : Endian) (o : Options) → HasNoCallIn (if v then rv_layout o.compressed else arm_layout e o.profile)
callless_layout true e o = callless_in (rv_layout o.compressed) (rv_is_layout o.compressed)
callless_layout false e o = callless_in (arm_layout e o.profile) (arm_is_layout e o.profile)

-- a text is one of a run of the tables
abbrev pub IsPlainReport : Options → (file report : List ℕ) → Type 0
IsPlainReport o file report = IsPlainFirst (split_lines report) × HasNoHeadPart (layout_of o file) (split_lines report) × HasNoCall (split_lines report)

pub printed_plain : (o : Options) (file : List ℕ) (known : ℕ → Bool) (n : NamedEnding) (w : Written) → IsNamed n → IsWritten (layout_of o file) known w →
    IsPlainReport o file (printed (layout_of o file) (record { named = n; start = w }))
printed_plain o file known n w named written =
    let t : StateText = record { named = n; start = w } in
    let plain = plain_layout (is_rv file) (file_endian file) o known t named written in
    (plain.0, plain.1, callless_layout (is_rv file) (file_endian file) o known t named written)

plain_report : (o : Options) (file : List ℕ) (p : Program) (b : Budget) (r : Report) (e : Evidence) (n : NamedEnding) →
    IsRightReport p (layout_of o file) b r e → named_of b r ≡ Some n → IsNamed n → IsPlainReport o file (report_text (layout_of o file) b r e)
plain_report o file p b (FailsReport event at step) (RunOf w) n right is named =
    let same : FailsBy event at step ≡ n = cc in
    printed_plain o file (is_known_at p) (FailsBy event at step) w (subst IsNamed (sym same) named) right.2
plain_report o file p b (UnrollReport at step) (RunOf w) n right is named =
    let same : UnknownBy b.unroll at step ≡ n = cc in
    printed_plain o file (is_known_at p) (UnknownBy b.unroll at step) w (subst IsNamed (sym same) named) right.2
plain_report o file p b (FailsReport event at step) other n right is named = absurd right
plain_report o file p b (UnrollReport at step) other n right is named = absurd right
plain_report o file p b HoldsReport e n right is named = absurd (names_none n is)
plain_report o file p b VacuousReport e n right is named = absurd (names_none n is)
plain_report o file p b PointsReport e n right is named = absurd (names_none n is)
plain_report o file p b SizeReport e n right is named = absurd (names_none n is)
plain_report o file p b ConflictsReport e n right is named = absurd (names_none n is)

-- ---- the second call

-- the answer to a report over files that are a program
replay_found : (o : Options) (file text report : List ℕ) (p : Program) (a : Answer) → IsFound o file text p → IsPlainReport o file report →
    AfterWholeFiles o file text (IsReplayedWhole (layout_of o file) report) a → a ≡ replay_answer p (layout_of o file) report
replay_found o file text report p a found plain (elf_refused written x is) = absurd (refused_or_accepted file written x found.0)
replay_found o file text report p a found plain (elf_accepted accepted (frames_refused written x is)) = absurd (not_refused o file text written p x found)
replay_found o file text report p a found plain (elf_accepted accepted (frames_found w x next)) =
    let same = (programs_are_whole o file text p found).1 w x in
    let due = (without_invariants w.invariants (a ≡ call_replay_answer w (λ x. false) (layout_of o file) report) _ same.1).0 next in
    due ∙ replayed_without_calls w (layout_of o file) report same.2 plain.2 (λ x. false)
    ∙ headless_replay w same.1 same.2 (λ x. false) (layout_of o file) report plain.0 plain.1
    ∙ ap (λ q. replay_answer q (layout_of o file) report) same.0

-- and over files with invariants or contracts
segment_found : (o : Options) (file text report : List ℕ) (w : Whole) (a replayed : Answer) → IsFrameFound o file text w → length report ≤ text_limit →
    ((returns : ℕ → Bool) → (w.invariants ≢ [] → TellsReturns w.program returns) → call_replay_answer w returns (layout_of o file) report ≡ replayed) →
    AfterWholeFiles o file text (IsReplayedWhole (layout_of o file) report) a → a ≡ replayed
segment_found o file text report w a replayed found short is (elf_refused written x e) = absurd (refused_or_accepted file written x found.0)
segment_found o file text report w a replayed found short is (elf_accepted accepted (frames_refused written x e)) =
    absurd (not_refused_whole o file text written w x found)
segment_found o file text report w a replayed found short is (elf_accepted accepted (frames_found v x next)) =
    let same : v ≡ w = one_whole o file text w v found x in
    by_invariants w.invariants (a ≡ call_replay_answer w (λ x. false) (layout_of o file) report) (IsFrameReplayed w (layout_of o file) report a) (a ≡ replayed)
    (λ none e. e ∙ is (λ x. false) (λ some. absurd (some none))) (λ any. judged_by)
    (subst (λ (z : Whole). IsReplayedWhole (layout_of o file) report z a) same next)
  where
    judged_by : IsFrameReplayed w (layout_of o file) report a → a ≡ replayed
    judged_by (too_long long e) = absurd (omega (arith, long, short))
    judged_by (judged returns tells e) = e ∙ is returns (λ some. tells)

module _ (t : Surroundings) (o : Options) (content : List ℕ → List ℕ) (elf notes report : List ℕ) (status : ℕ) (f : Evidence) where
  written_by : (text : List ℕ) → (told : AreToldTo t content (Replay o elf notes report)) → Sufficed t status →
      ((a : Answer) → AfterWholeFiles o (content elf) (content notes) (IsReplayedWhole (layout_of o (content elf)) (content report)) a →
      a ≡ plain_answer 0 text) → IsOutcome t (Some (Replay o elf notes report)) status f → Writes t status text
  written_by text told sufficed is outcome =
      let answered = outcome_told t content (Replay o elf notes report) status f told sufficed.0 sufficed.1 outcome in
      let same = is answered.0 answered.1 in
      let written = subst (λ x. Appends t.text_before x t.text_after) (ap (λ (x : Answer). x.text) same) answered.4 in
      (answered.2 ∙ ap (λ (x : Answer). x.status) same, written)

  -- the answer to a report that is replayed over a program is written
  pub replay_written : (p : Program) (n : NamedEnding) → IsFound o (content elf) (content notes) p → IsPlainReport o (content elf) (content report) →
      replay_answer p (layout_of o (content elf)) (content report) ≡ plain_answer 0 (line (codes "replayed " ++ named_line n)) →
      AreToldTo t content (Replay o elf notes report) → Sufficed t status →
      IsOutcome t (Some (Replay o elf notes report)) status f → Writes t status (line (codes "replayed " ++ named_line n))
  replay_written p n found plain replays told sufficed outcome =
      written_by (line (codes "replayed " ++ named_line n)) told sufficed
      (λ a due. replay_found o (content elf) (content notes) (content report) p a found plain due ∙ replays) outcome

  abbrev IsReplayedBy : Type 0
  IsReplayedBy = (n : CallEnding) × Writes t status (line (codes "replayed " ++ joined (call_ending_words n)))

  replayed_by : (b : Budget) (a : Answer) → AreBytes (content elf) → IsReplayable b → IsOfRun o (content elf) (content notes) b a →
      a.text ≡ content report → length (content report) ≤ text_limit → AreToldTo t content (Replay o elf notes report) → Sufficed t status →
      IsOutcome t (Some (Replay o elf notes report)) status f → IsReplayedBy
  replayed_by b a bytes small of printed short told sufficed outcome =
      let file = content elf in
      let p = of.program in
      let text = report_text (layout_of o file) b of.report of.evidence in
      let named = names_ending p o file b of.report of.evidence of.right of.shows in
      let is : content report ≡ text = sym printed ∙ ap (λ (x : Answer). x.text) of.is in
      let replays = right_report_replays o file (content notes) p bytes of.found.2 b small of.report of.evidence named.0 of.right named.1
      (subst (λ x. length x ≤ text_limit) is short) in
      let lawful = names_can_be_written o file (content notes) p bytes of.found.2 (layout_of o file) b small of.report of.evidence named.0 of.right named.1 in
      let plain = subst (IsPlainReport o file) (sym is) (plain_report o file p b of.report of.evidence named.0 of.right named.1 lawful) in
      let written = replay_written p named.0 of.found plain (ap (λ x. replay_answer p (layout_of o file) x) is ∙ replays) told sufficed outcome in
      (Plain (framed named.0), subst (λ ws. Writes t status (line (codes "replayed " ++ ws))) (same_line named.0) written)
    where
      same_line : (n : NamedEnding) → named_line n ≡ joined (ending_words (framed n))
      same_line (FailsBy e at step) = refl
      same_line (UnknownBy k at step) = refl

  segment_replayed : (b : Budget) (a : Answer) → AreBytes (content elf) → IsReplayable b → IsOfSegment o (content elf) (content notes) b a →
      a.text ≡ content report → length (content report) ≤ text_limit → AreToldTo t content (Replay o elf notes report) → Sufficed t status →
      IsOutcome t (Some (Replay o elf notes report)) status f → IsReplayedBy
  segment_replayed b a bytes small of printed short told sufficed outcome =
      let file = content elf in
      let w = of.function in
      let text = frame_report_text w (layout_of o file) b of.report of.evidence in
      let is : content report ≡ text = sym printed ∙ ap (λ (x : Answer). x.text) of.is in
      let replays = λ (returns : ℕ → Bool) (tells : w.invariants ≢ [] → TellsReturns w.program returns).
      ap (call_replay_answer w returns (layout_of o file)) is
      ∙ frame_report_replays o file (content notes) w bytes of.found b small of.report of.evidence of.ending of.right of.named
      (subst (λ x. length x ≤ text_limit) is short) returns tells in (
        of.ending,
        written_by (line (codes "replayed " ++ joined (call_ending_words of.ending))) told sufficed
            (λ x due. segment_found o file (content notes) (content report) w x
            (plain_answer 0 (line (codes "replayed " ++ joined (call_ending_words of.ending)))) of.found short replays due)
            outcome,
      )

  either_replayed : (b : Budget) (a : Answer) → AreBytes (content elf) → IsReplayable b → IsOfEither o (content elf) (content notes) b a →
      a.text ≡ content report → length (content report) ≤ text_limit → AreToldTo t content (Replay o elf notes report) → Sufficed t status →
      IsOutcome t (Some (Replay o elf notes report)) status f → IsReplayedBy
  either_replayed b a bytes small (inl of) printed short told sufficed outcome = replayed_by b a bytes small of printed short told sufficed outcome
  either_replayed b a bytes small (inr of) printed short told sufficed outcome = segment_replayed b a bytes small of printed short told sufficed outcome

pub report_is_replayed : ReportIsReplayed
report_is_replayed s t o content elf notes report b first status e f bytes small told outcome shows printed short told_too sufficed outcome_too =
    let written = report_written s o content elf notes b first e told outcome shows in
    either_replayed t o content elf notes report status f b written.0 bytes small written.1 (printed_is s (content report) written.0.text printed written.2)
    short told_too sufficed outcome_too
