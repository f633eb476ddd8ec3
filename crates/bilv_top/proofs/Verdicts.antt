-- What verdicts and certified questions answer.
use Rattle.std.proofs.Common.{◌≡◌, ℕ, List, Option, Some, None, ap, refl, sym, subst, ◌∙◌}
use Rattle.std.specs.Prelude.{codes}
use Rattle.bilv_spec.specs.Run.{Program}
use Rattle.answer_spec.specs.FrameAnswers.{frame_report_answer, frame_status, name_of, unproved_ending}
use Rattle.call_spec.specs.Calls.{Question, Answer, Budget, Count, SpentOnFrame, WithCalls, plain_answer, program_question}
use Rattle.call_spec.specs.Framed.{WrittenCall}
use Rattle.machine_spec.specs.StateText.{Layout}
use Rattle.word_spec.specs.State.{Written}
use Rattle.word_spec.specs.Texts.{line}
use Rattle.bilv_spec.specs.Answers.{budget_text, report_answer}
use Rattle.clause_spec.specs.Certificates.{certificate_text}
use Rattle.bilv_spec.specs.Certified as spec
use Rattle.bilv_spec.specs.Certified.{IsCertified}
use Rattle.cnf_form.specs.Views.{cnf_of, lines_of, proof_of}
use Rattle.cnf_form.specs.declared.form.Proof.{Proof}
use Rattle.frame_spec.specs.FrameCertified as frames
use Rattle.frame_spec.specs.FrameCertified.{IsFrameCertified}
use Rattle.frame_spec.specs.FrameQuestions.{Question as FrameQuestion}
use Rattle.frame_spec.specs.FrameReports as reports
use Rattle.frame_spec.specs.FrameReports.{IsWithin}
use Rattle.frame_spec.specs.FrameScripts as scripts
use Rattle.frame_spec.specs.FrameScripts.{IsFrameScript, IsFrameScriptAnswer}
use Rattle.frame_spec.specs.FrameVerdict.{Whole, frame_of}
use Rattle.frame_texts_spec.specs.CallReplays.{changes_of}
use Rattle.frame_texts_spec.specs.CallTexts.{CallEnding, FrameName, call_printed}
use Rattle.frame_verdict.specs.FrameCertificates.{IsFrameCertificate}
use Rattle.frame_verdict.specs.FrameScripted.{IsFrameScripted}
use Rattle.frame_verdict.specs.FrameVerdicts as over
use Rattle.frame_verdict.specs.declared.verdicts.FrameVerdict.{FrameVerdict}
use Rattle.frame_verdict.specs.declared.verdicts.FrameVerdict.TheVariants as over_frames
use Rattle.verdict.specs.Verdicts.{report_of, evidence_of, exceeded_report, exceeded_count, IsCertificate}
use Rattle.verdict.specs.declared.verdicts.Verdict.{Verdict}
use Rattle.verdict.specs.declared.verdicts.Scripted.TheVariants as scripted
use Rattle.verdict.specs.declared.verdicts.Certified.TheVariants.{Exceeded, Conflicts, Satisfiable, Refuted}
use Rattle.verdict.specs.declared.verdicts.Exceeded as past
use Rattle.verdict.specs.declared.verdicts.Exceeded.TheVariants.{Points, Size}
use Rattle.verdict.specs.declared.verdicts.Verdict.TheVariants as verdict
use Rattle.bilv_top.specs.Answers.{exceeded_answer, program_answer, spent_on}

-- the report that a budget is exceeded
as_report : (layout : Layout) (b : Budget) (e : past.Exceeded) → exceeded_answer b e ≡ report_answer layout b (exceeded_report e) (Count (exceeded_count e))
as_report layout b (Points count) = refl
as_report layout b (Size price) = refl

pub exceeded_reported : (layout : Layout) (b : Budget) (v : Verdict) (e : past.Exceeded) (a : Answer) → v ≡ verdict.Exceeded e → a ≡ exceeded_answer b e →
    a ≡ report_answer layout b (report_of v) (evidence_of v)
exceeded_reported layout b v e a same is =
    subst (λ w. a ≡ report_answer layout b (report_of w) (evidence_of w)) (sym same) (is ∙ as_report layout b e)

-- so over frames
as_framed : (w : Whole) (layout : Layout) (b : Budget) (e : past.Exceeded) →
    exceeded_answer b e ≡ frame_report_answer w layout b (over.exceeded_report e) (reports.Count (exceeded_count e))
as_framed w layout b (Points count) = refl
as_framed w layout b (Size price) = refl

module _ (w : Whole) (layout : Layout) (b : Budget) (a : Answer) where
  pub exceeded_over_frames : (v : FrameVerdict) (e : past.Exceeded) → v ≡ over_frames.Exceeded e → a ≡ exceeded_answer b e →
      a ≡ frame_report_answer w layout b (over.report_of v) (over.evidence_of v)
  exceeded_over_frames v e same is =
      subst (λ x. a ≡ frame_report_answer w layout b (over.report_of x) (over.evidence_of x)) (sym same) (is ∙ as_framed w layout b e)

  -- and the report of a frame that is not proved
  pub unproved_reported : (rank : ℕ) (n : reports.Named) (status : ℕ) (f : FrameName) (ending : CallEnding) (start : Written) (calls : List WrittenCall) →
      status ≡ frame_status (reports.UnprovedReport rank n) → f ≡ name_of w rank → ending ≡ unproved_ending f b n →
      a ≡ record {
        status = status;
        text = call_printed layout (changes_of w) (record { named = ending; start = start; head = None; calls = calls });
        evidence = WithCalls rank start calls;
      } →
      a ≡ frame_report_answer w layout b (reports.UnprovedReport rank n) (reports.ShownBy (record { start = start; head = None; calls = calls }))
  unproved_reported rank n status f ending start calls status_is f_is ending_is is =
      let text = λ (x : CallEnding). call_printed layout (changes_of w) (record { named = x; start = start; head = None; calls = calls }) in
      is ∙ ap (λ (x : ℕ). record { status = x; text = text ending; evidence = WithCalls rank start calls }) status_is
      ∙ ap (λ (x : CallEnding). record {
        status = frame_status (reports.UnprovedReport rank n);
        text = text x;
        evidence = WithCalls rank start calls;
      })
      (ending_is ∙ ap (λ (x : FrameName). unproved_ending x b n) f_is)

-- the answer to a question, told of the one frame of a program as one about the program
abbrev pub IsSaid : Program → Budget → Question → Answer → Type 0
IsSaid p b q a = let told = program_answer a in IsCertified p b q told.status told.text told.evidence

module _ (p : Program) (b : Budget) (q : Question) (a : Answer) where
  pub exceeded_said : (e : past.Exceeded) → a ≡ exceeded_answer b e → IsCertificate p b q (Exceeded e) → IsSaid p b q a
  exceeded_said (Points count) is came =
      subst (IsSaid p b q) (sym (is ∙ ap (λ n. record { status = 3; text = budget_text (codes "points") b.points; evidence = Count n }) came.1))
      (spec.points came.0)
  exceeded_said (Size price) is came = subst (IsSaid p b q) (sym is) (spec.size price came.0 came.1 came.2)

  pub conflicts_said : (rank : ℕ) (question : FrameQuestion) (proof : Proof) → program_question question ≡ Some q →
      a ≡ record { status = 3; text = budget_text (codes "conflicts") b.conflicts; evidence = SpentOnFrame rank question (proof_of proof) } →
      IsCertificate p b q (Conflicts proof) → IsSaid p b q a
  conflicts_said rank question proof asked is came =
      subst (IsSaid p b q) (sym is)
      (subst (λ (o : Option Question). IsCertified p b q 3 (budget_text (codes "conflicts") b.conflicts) (spent_on o rank question (proof_of proof)))
      (sym asked) (spec.conflicts (proof_of proof) came.0 came.1))

  pub satisfiable_said : a ≡ plain_answer 1 (line (codes "satisfiable")) → IsCertificate p b q Satisfiable → IsSaid p b q a
  satisfiable_said is came = subst (IsSaid p b q) (sym is) (spec.satisfiable came.0 came.1)

  pub refuted_said : (proof : Proof) → a ≡ plain_answer 0 (certificate_text (cnf_of proof.clauses) (lines_of proof.log)) →
      IsCertificate p b q (Refuted proof) → IsSaid p b q a
  refuted_said proof is came = subst (IsSaid p b q) (sym is) (spec.certified (proof_of proof) came.0 came.1 came.2)

-- so over frames, of a question of the frame of a rank
abbrev IsFrameSaid : Whole → (rank : ℕ) → Budget → FrameQuestion → Answer → Type 0
IsFrameSaid w rank b q a = IsFrameCertified w rank b q a.status a.text a.evidence

module _ (w : Whole) (rank : ℕ) (b : Budget) (q : FrameQuestion) (a : Answer) where
  pub exceeded_framed : (e : past.Exceeded) → a ≡ exceeded_answer b e → IsFrameCertificate w rank b q (Exceeded e) →
      IsFrameCertified w rank b q a.status a.text a.evidence
  exceeded_framed (Points count) is came =
      subst (IsFrameSaid w rank b q)
      (sym (is ∙ ap (λ n. record { status = 3; text = budget_text (codes "points") b.points; evidence = Count n }) came.1)) (frames.points came.0)
  exceeded_framed (Size price) is came = subst (IsFrameSaid w rank b q) (sym is) (frames.size price came.0 came.1 came.2)

  pub conflicts_framed : (proof : Proof) →
      a ≡ record { status = 3; text = budget_text (codes "conflicts") b.conflicts; evidence = SpentOnFrame rank q (proof_of proof) } →
      IsFrameCertificate w rank b q (Conflicts proof) → IsFrameCertified w rank b q a.status a.text a.evidence
  conflicts_framed proof is came = subst (IsFrameSaid w rank b q) (sym is) (frames.conflicts (proof_of proof) came.0 came.1)

  pub satisfiable_framed : a ≡ plain_answer 1 (line (codes "satisfiable")) → IsFrameCertificate w rank b q Satisfiable →
      IsFrameCertified w rank b q a.status a.text a.evidence
  satisfiable_framed is came = subst (IsFrameSaid w rank b q) (sym is) (frames.satisfiable came.0 came.1)

  pub refuted_framed : (proof : Proof) → a ≡ plain_answer 0 (certificate_text (cnf_of proof.clauses) (lines_of proof.log)) →
      IsFrameCertificate w rank b q (Refuted proof) → IsFrameCertified w rank b q a.status a.text a.evidence
  refuted_framed proof is came = subst (IsFrameSaid w rank b q) (sym is) (frames.certified (proof_of proof) came.0 came.1 came.2)

-- what the script of a question of the frame of a rank answers
module _ (w : Whole) (rank : ℕ) (layout : Layout) (b : Budget) (q : FrameQuestion) (a : Answer) where
  pub exceeded_frame_scripted : (e : past.Exceeded) → a ≡ exceeded_answer b e → IsFrameScripted w rank layout b q (scripted.Exceeded e) →
      IsFrameScriptAnswer w rank layout b q a
  exceeded_frame_scripted (Points count) is came =
      scripts.too_many_points came.0
      (is ∙ ap (λ n. record { status = 3; text = budget_text (codes "points") b.points; evidence = Count n }) came.1)
  exceeded_frame_scripted (Size price) is came = scripts.too_large price came.0 came.1 came.2 is

  pub printed_framed : (text : List ℕ) → IsWithin w b → IsFrameScript (frame_of w rank) layout b.unroll q text → a ≡ plain_answer 0 text →
      IsFrameScriptAnswer w rank layout b q a
  printed_framed text within is same = scripts.is_printed text within is same
