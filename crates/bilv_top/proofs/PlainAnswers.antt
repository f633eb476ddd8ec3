-- Without invariants and contracts the answers over frames are those about the program.
use Rattle.std.proofs.Common.{◌≡◌, ◌∙◌, ℕ, refl, ap, sym, subst, List, [], ◌∷◌, Option, Some, None}
use Rattle.std.specs.Prelude.{codes, map}
use Rattle.answer_spec.specs.FrameAnswers.{ByFrames, ByQuestion, IsFrameReported, IsVerifiedWhole, frame_report_answer}
use Rattle.bilv_spec.specs.Answers.{IsReported, IsRightReport, budget_text, report_answer}
use Rattle.bilv_spec.specs.Certified.{IsCertified}
use Rattle.bilv_spec.specs.Run.{Program}
use Rattle.bilv_spec.specs.Scripts.{IsScriptAnswer}
use Rattle.call_form.specs.declared.kind.Asked.TheVariants.{Entry, Fail, Step, Turn}
use Rattle.call_spec.specs.Framed.{WrittenHead}
use Rattle.call_spec.specs.Calls.{Answer, Budget, Evidence, EntryQuestion, FailQuestion, Question, RunOf, TurnQuestion, program_question}
use Rattle.frame_laws.specs.HeadlessLaws.{as_evidence, as_question, headless_whole}
use Rattle.frame_spec.specs.FrameCertified as certified
use Rattle.frame_spec.specs.FrameCertified.{IsFrameCertified}
use Rattle.frame_spec.specs.FrameQuestions as frames
use Rattle.frame_spec.specs.FrameQuestions.{Question as FrameQuestion}
use Rattle.frame_spec.specs.FrameReports as reports
use Rattle.frame_spec.specs.FrameScripts.{IsFrameScriptAnswer}
use Rattle.frame_spec.specs.FrameVerdict.{Whole}
use Rattle.frame_spec.specs.Frames.{Contract}
use Rattle.frame_text.specs.declared.text.FramedEvent.TheVariants.{OfStep, InvariantFails, NeedsFails, WritesFails, GivesFails, ModifiesFails}
use Rattle.frame_texts_spec.specs.FrameTexts as texts
use Rattle.frame_texts_spec.specs.FrameTexts.{framed_printed}
use Rattle.frame_verdict.proofs.PlainReports.{plain_whole}
use Rattle.frame_verdict.specs.FrameCertificates.{IsFrameCertificate}
use Rattle.frame_verdict.specs.FrameVerdicts.{evidence_of, report_of}
use Rattle.frame_verdict.specs.PlainVerdicts.{PlainCertificates, PlainScripts, PlainVerdicts, plain_evidence_of, plain_report_of}
use Rattle.frame_verdict.specs.declared.verdicts.FrameVerdict.{FrameVerdict}
use Rattle.frame_verdict.specs.declared.verdicts.FrameVerdict.TheVariants.{Holds, ByFrames as HoldsByFrames, Partial, Vacuous, Fails, NotInductive, Unroll, Unproved, Exceeded, Conflicts}
use Rattle.machine_spec.specs.Endings.{NamedEnding, FailsBy, UnknownBy}
use Rattle.machine_spec.specs.StateText.{Layout, printed}
use Rattle.notes_value.specs.FrameViews.{contract_of}
use Rattle.start_value.specs.Starts.{written_of}
use Rattle.state_text.specs.Starts.{event_of, written_head_of}
use Rattle.verdict.specs.Verdicts.{IsCertificate}
use Rattle.verdict.specs.declared.verdicts.Certified.{Certified}
use Rattle.verdict.specs.declared.verdicts.Exceeded.TheVariants.{Points, Size}
use Rattle.word_spec.specs.State.{Written}
use Rattle.bilv_top.specs.Answers.{program_answer, program_evidence, spent_on}
use Rattle.bilv_top.specs.Frames.{HasSome, IsCertifiedAt, IsScriptAt, whole_with}
use Rattle.bilv_top.specs.declared.framed.Framed.{Framed}
use Rattle.bilv_top.proofs.Segments.{no_contract}

-- what is printed of a segment of the tables from the entry is what is printed of the run
same_text : (layout : Layout) (n : NamedEnding) (w : Written) →
    framed_printed layout (record { named = texts.framed n; start = w; head = None }) ≡ printed layout (record { named = n; start = w })
unfolding framed_printed printed
same_text layout (FailsBy e at step) w = refl
same_text layout (UnknownBy k at step) w = refl

-- ---- reports

-- what a program's report shows has no head state
headless : (start : Written) (head : WrittenHead) →
    ¬ (reports.ShownBy (record { start = start; head = None; calls = [] }) ≡ reports.ShownBy (record { start = start; head = Some head; calls = [] }))
headless start head same = let e = ap head_in same in cc
  where
    head_in : reports.Evidence → Option WrittenHead
    head_in (reports.ShownBy s) = s.head
    head_in other = None

module _ (p : Program) (layout : Layout) (b : Budget) where
  -- a report over frames that is one on the program
  plain_said : (w : Whole) (v : FrameVerdict) → IsRightReport p layout b (plain_report_of v) (plain_evidence_of v) →
      as_evidence (plain_evidence_of v) ≡ evidence_of v →
      program_answer (frame_report_answer w layout b (report_of v) (evidence_of v)) ≡ report_answer layout b (plain_report_of v) (plain_evidence_of v)
  plain_said w (Holds start fail turn) right shown = refl
  plain_said w (HoldsByFrames passed) right shown = absurd right
  plain_said w (Partial start fail step turn) right shown = absurd right
  plain_said w (Vacuous proof) right shown = refl
  plain_said w (Fails (OfStep e) at step start) right shown =
      ap (λ t. record { status = 1; text = t; evidence = RunOf (written_of start) }) (same_text layout (FailsBy (event_of e) at step) (written_of start))
  plain_said w (Fails (InvariantFails line) at step start) right shown = absurd right
  plain_said w (Fails (NeedsFails line) at step start) right shown = absurd right
  plain_said w (Fails WritesFails at step start) right shown = absurd right
  plain_said w (Fails (GivesFails line) at step start) right shown = absurd right
  plain_said w (Fails ModifiesFails at step start) right shown = absurd right
  plain_said w (NotInductive event at step start head) right shown = absurd right
  plain_said w (Unroll at step start None) right shown =
      ap (λ t. record { status = 3; text = t; evidence = RunOf (written_of start) }) (same_text layout (UnknownBy b.unroll at step) (written_of start))
  plain_said w (Unroll at step start (Some head)) right shown = absurd (headless (written_of start) (written_head_of head) shown)
  plain_said w (Unproved rank ending start calls) right shown = absurd right
  plain_said w (Exceeded (Points count)) right shown = refl
  plain_said w (Exceeded (Size price)) right shown = refl
  plain_said w (Conflicts rank Entry proof) right shown = refl
  plain_said w (Conflicts rank Fail proof) right shown = refl
  plain_said w (Conflicts rank Step proof) right shown = absurd right
  plain_said w (Conflicts rank Turn proof) right shown = refl

-- what is due to notes with neither, and to others
frames_due : (invariants : List ℕ) (contracts : List Contract) (Plain Framed : Type 0) → ((invariants ≡ []) × (contracts ≡ []) → Plain) →
    (HasSome invariants contracts → Framed) → ByFrames invariants contracts Plain Framed
frames_due [] [] Plain Framed plain framed = plain (refl, refl)
frames_due [] (x ∷ rest) Plain Framed plain framed = framed (λ none. (let e = none.1 in cc))
frames_due (n ∷ rest) contracts Plain Framed plain framed = framed (λ none. (let e = none.0 in cc))

-- the answer that is due to a whole, by the one over its frames
abbrev pub IsDueTo : Whole → (over due : Answer) → Type 0
IsDueTo w over due =
    ((w.invariants ≡ []) × (w.contracts ≡ []) → due ≡ program_answer over) × (HasSome w.invariants w.contracts → due ≡ over)

-- so of notes that were found
pub due_found : (p : Program) (f : Framed) (over due : Answer) → ((f.invariants.items ≡ []) × (f.contracts.items ≡ []) → due ≡ program_answer over) →
    (HasSome f.invariants.items f.contracts.items → due ≡ over) → IsDueTo (whole_with p f) over due
due_found p f over due plain framed = (
  (λ none. plain (none.0, no_contract f.contracts.items none.1)),
  (λ some. framed (λ none. some (none.0, ap (map contract_of) none.1))),
)

module _ (w : Whole) (layout : Layout) (b : Budget) (over due : Answer) (is_due : IsDueTo w over due) where
  pub verified_due : PlainVerdicts → (v : FrameVerdict) → reports.IsRightReport w layout b (report_of v) (evidence_of v) →
      over ≡ frame_report_answer w layout b (report_of v) (evidence_of v) → IsVerifiedWhole layout b w due
  verified_due plain_verdicts v right said = frames_due w.invariants w.contracts _ _ plain framed
    where
      plain : (w.invariants ≡ []) × (w.contracts ≡ []) → IsReported w.program layout b due
      plain none =
          let it = plain_verdicts w.program layout b v
          (subst (λ (x : Whole). reports.IsRightReport x layout b (report_of v) (evidence_of v)) (plain_whole w none.0 none.1) right) in (
            plain_report_of v,
            plain_evidence_of v,
            it.2,
            is_due.0 none ∙ ap program_answer said ∙ plain_said w.program layout b w v it.2 it.1,
          )

      framed : HasSome w.invariants w.contracts → IsFrameReported w layout b due
      framed some = (report_of v, evidence_of v, right, is_due.1 some ∙ said)

-- ---- questions

-- the question of a frame is that of the program
asked_is : (question : FrameQuestion) (kind : Question) → program_question question ≡ Some kind → question ≡ as_question kind
asked_is frames.EntryQuestion EntryQuestion is = refl
asked_is frames.FailQuestion FailQuestion is = refl
asked_is frames.TurnQuestion TurnQuestion is = refl
asked_is frames.EntryQuestion FailQuestion is = absurd (let x : ⊥ = cc in x)
asked_is frames.EntryQuestion TurnQuestion is = absurd (let x : ⊥ = cc in x)
asked_is frames.FailQuestion EntryQuestion is = absurd (let x : ⊥ = cc in x)
asked_is frames.FailQuestion TurnQuestion is = absurd (let x : ⊥ = cc in x)
asked_is frames.TurnQuestion EntryQuestion is = absurd (let x : ⊥ = cc in x)
asked_is frames.TurnQuestion FailQuestion is = absurd (let x : ⊥ = cc in x)
asked_is frames.StepQuestion kind is = absurd (let x : ⊥ = cc in x)

-- what is due to a question
question_due : (invariants : List ℕ) (contracts : List Contract) (o : Option Question) (Plain : Question → Type 0) (Framed : Type 0) →
    ((invariants ≡ []) × (contracts ≡ []) → (kind : Question) → o ≡ Some kind → Plain kind) →
    ((invariants ≡ []) × (contracts ≡ []) → o ≡ None → Framed) → (HasSome invariants contracts → Framed) → ByQuestion invariants contracts o Plain Framed
question_due [] [] (Some kind) Plain Framed plain step framed = plain (refl, refl) kind refl
question_due [] [] None Plain Framed plain step framed = step (refl, refl) refl
question_due [] (x ∷ rest) o Plain Framed plain step framed = framed (λ none. (let e = none.1 in cc))
question_due (n ∷ rest) contracts o Plain Framed plain step framed = framed (λ none. (let e = none.0 in cc))

pub scripted_due : PlainScripts → (w : Whole) (rank : ℕ) (layout : Layout) (b : Budget) (question : FrameQuestion) (a : Answer) →
    IsFrameScriptAnswer w rank layout b question a → IsScriptAt w rank layout b question a
scripted_due plain_scripts w rank layout b question a said =
    question_due w.invariants w.contracts (program_question question) _ _
    (λ none kind is. plain_scripts w.program rank layout b kind a
    (subst (λ (q : FrameQuestion). IsFrameScriptAnswer (headless_whole w.program) rank layout b q a) (asked_is question kind is)
    (subst (λ (x : Whole). IsFrameScriptAnswer x rank layout b question a) (plain_whole w none.0 none.1) said))) (λ none is. said) (λ some. said)

module _ (w : Whole) (rank : ℕ) (b : Budget) (question : FrameQuestion) where
  -- what shows the answer to a question that is none of a program shows it as it is
  kept_evidence : (status : ℕ) (text : List ℕ) (e : Evidence) → program_question question ≡ None → IsFrameCertified w rank b question status text e →
      IsFrameCertified w rank b question status text (program_evidence e)
  kept_evidence _ _ _ none (certified.points more) = certified.points more
  kept_evidence _ _ _ none (certified.size price few is above) = certified.size price few is above
  kept_evidence _ _ _ none (certified.conflicts proof within spends) =
      subst (λ (o : Option Question). IsFrameCertified w rank b question 3 (budget_text (codes "conflicts") b.conflicts) (spent_on o rank question proof))
      (sym none) (certified.conflicts proof within spends)
  kept_evidence _ _ _ none (certified.satisfiable within is) = certified.satisfiable within is
  kept_evidence _ _ _ none (certified.certified proof within never refutes) = certified.certified proof within never refutes

  pub certified_due : (over due : Answer) → IsDueTo w over due → IsFrameCertified w rank b question over.status over.text over.evidence →
      ((w.invariants ≡ []) × (w.contracts ≡ []) → (kind : Question) → program_question question ≡ Some kind →
      IsCertified w.program b kind (program_answer over).status (program_answer over).text (program_answer over).evidence) → IsCertifiedAt w rank b question due
  certified_due over due is_due framed plain =
      question_due w.invariants w.contracts (program_question question) (λ kind. IsCertified w.program b kind due.status due.text due.evidence)
      (IsFrameCertified w rank b question due.status due.text due.evidence)
      (λ none kind is. subst (λ (a : Answer). IsCertified w.program b kind a.status a.text a.evidence) (sym (is_due.0 none)) (plain none kind is))
      (λ none is. subst (λ (a : Answer). IsFrameCertified w rank b question a.status a.text a.evidence) (sym (is_due.0 none))
      (kept_evidence over.status over.text over.evidence is framed))
      (λ some. subst (λ (a : Answer). IsFrameCertified w rank b question a.status a.text a.evidence) (sym (is_due.1 some)) framed)

-- what a question of the frame of a rank comes to, the question of the program comes to
pub plain_certificate : PlainCertificates → (w : Whole) (rank : ℕ) (b : Budget) (question : FrameQuestion) (c : Certified) →
    IsFrameCertificate w rank b question c → (w.invariants ≡ []) × (w.contracts ≡ []) → (kind : Question) → program_question question ≡ Some kind →
    IsCertificate w.program b kind c
plain_certificate plain_certificates w rank b question c came none kind is =
    plain_certificates w.program rank b kind c
    (subst (λ (q : FrameQuestion). IsFrameCertificate (headless_whole w.program) rank b q c) (asked_is question kind is)
    (subst (λ (x : Whole). IsFrameCertificate x rank b question c) (plain_whole w none.0 none.1) came))
