-- How a call ends.
use Rattle.std.proofs.Common.{◌≡◌, ◌≢◌, ℕ, List, [], Option, Some, None, refl, ap, sym, subst}
use Rattle.std.proofs.lemmas.List.{append-nil}
use Rattle.bilv_spec.specs.Run.{Program}
use Rattle.call_spec.specs.Calls.{Options, Answer, Budget, NoEvidence, Surroundings, AfterRead, program_question}
use Rattle.bilv_spec.specs.Files.{layout_of}
use Rattle.call_spec.specs.Outside.{Appends, Rose}
use Rattle.notes_spec.specs.Verified.{AfterImage, elf_refused, elf_accepted, AfterNotes, notes_refused, program_found}
use Rattle.clause_spec.specs.Checks.{IsChecked}
use Rattle.frame_spec.specs.FrameVerdict.{Whole}
use Rattle.command_spec.specs.Commands.{Command, Verify, Lift, Graph, Script, Replay, Certify, Check, SelfRun, Upgrade, Model, Equal, Differ}
use Rattle.answer_spec.specs.FrameAnswers.{AfterFrames, frames_refused, frames_found, IsVerifiedWhole, IsReplayedWhole, IsCertifiedWhole, IsScriptWhole}
use Rattle.answer_spec.specs.Outcomes.{AfterBoth, AfterWhole, IsLifted, IsGraphedWhole, upgrade_answer, IsDueAnswer, IsOutcome, whole, cut, no_memory}
use Rattle.answer_laws.specs.Completeness.{AreTold, IsSpentEvidence}
use Rattle.answer_laws.specs.Told.{AreToldTo, IsAnswered}
use Rattle.answer_laws.specs.Upgrading.{KeepsVerdict}
use Rattle.answer_laws.proofs.Completeness.{verify_is_complete}
use Rattle.answer_laws.proofs.Told.{outcome_told}
use Rattle.answer_laws.proofs.Upgraded.{upgrade_is_printed}
use Rattle.io_edges.specs.Met.{met}
use Rattle.io_edges.specs.WriteFaults.{Stopped}
use Rattle.io_edges.specs.declared.WriteFault.{WriteFault}
use Rattle.io_edges.proofs.Meeting.{read_met, front_of_stopped}
use Rattle.model_spec.specs.Models.{AfterBudgets, IsAskedModelAnswer}
use Rattle.pair_spec.specs.Differs.{differ_answer}
use Rattle.pair_spec.specs.Equals.{side_of, IsPairReported}
use Rattle.bilv_top.specs.Ends.{AreAnswered}
use Rattle.bilv_top.proofs.Done.{budgets_next}
use Rattle.bilv_top.proofs.MetPairs.{pair_met}

-- what comes next behind the image of a file, and behind notes
image_next : (file : List ℕ) (Next Other : Answer → Type 0) (a : Answer) → (Next a → Other a) → AfterImage file Next a → AfterImage file Other a
image_next file Next Other a step (elf_refused written x is) = elf_refused written x is
image_next file Next Other a step (elf_accepted x next) = elf_accepted x (step next)

notes_next : (o : Options) (file text : List ℕ) (Next Other : Program → Answer → Type 0) (a : Answer) → ((p : Program) → Next p a → Other p a) →
    AfterNotes o file text Next a → AfterNotes o file text Other a
notes_next o file text Next Other a step (notes_refused written x is) = notes_refused written x is
notes_next o file text Next Other a step (program_found p x next) = program_found p x (step p next)

frames_next : (o : Options) (file text : List ℕ) (Next Other : Whole → Answer → Type 0) (a : Answer) → ((w : Whole) → Next w a → Other w a) →
    AfterFrames o file text Next a → AfterFrames o file text Other a
frames_next o file text Next Other a step (frames_refused written x is) = frames_refused written x is
frames_next o file text Next Other a step (frames_found w x next) = frames_found w x (step w next)

nothing_appended : (text : Option (List ℕ)) → Appends text [] text
nothing_appended None = refl
nothing_appended (Some text) = ap Some (sym (append-nil text))

module _ (s : Surroundings) (before after : Option (List ℕ)) (sink_before sink_after : ℕ) where
  abbrev there : Surroundings
  there = met s before after sink_before sink_after

  both_met : (o : Options) (elf notes : List ℕ) (Next Other : List ℕ → Program → Answer → Type 0) (a : Answer) →
      ((file : List ℕ) (p : Program) → Next file p a → Other file p a) → AfterBoth s o elf notes Next a → AfterBoth there o elf notes Other a
  both_met o elf notes Next Other a step =
      read_met s before after sink_before sink_after elf (λ file. AfterImage file (AfterRead s notes (λ text. AfterNotes o file text (Next file))))
      (λ file. AfterImage file (AfterRead there notes (λ text. AfterNotes o file text (Other file)))) a
      (λ file. image_next file (AfterRead s notes (λ text. AfterNotes o file text (Next file)))
      (AfterRead there notes (λ text. AfterNotes o file text (Other file))) a
      (read_met s before after sink_before sink_after notes (λ text. AfterNotes o file text (Next file)) (λ text. AfterNotes o file text (Other file)) a
      (λ text. notes_next o file text (Next file) (Other file) a (step file))))

  whole_met : (o : Options) (elf notes : List ℕ) (Next Other : List ℕ → Whole → Answer → Type 0) (a : Answer) →
      ((file : List ℕ) (w : Whole) → Next file w a → Other file w a) → AfterWhole s o elf notes Next a → AfterWhole there o elf notes Other a
  whole_met o elf notes Next Other a step =
      read_met s before after sink_before sink_after elf (λ file. AfterImage file (AfterRead s notes (λ text. AfterFrames o file text (Next file))))
      (λ file. AfterImage file (AfterRead there notes (λ text. AfterFrames o file text (Other file)))) a
      (λ file. image_next file (AfterRead s notes (λ text. AfterFrames o file text (Next file)))
      (AfterRead there notes (λ text. AfterFrames o file text (Other file))) a
      (read_met s before after sink_before sink_after notes (λ text. AfterFrames o file text (Next file)) (λ text. AfterFrames o file text (Other file)) a
      (λ text. frames_next o file text (Next file) (Other file) a (step file))))

  read_same : (name : List ℕ) (Next : List ℕ → Answer → Type 0) (a : Answer) → AfterRead s name Next a → AfterRead there name Next a
  read_same name Next a = read_met s before after sink_before sink_after name Next Next a (λ bytes next. next)

  whole_same : (o : Options) (elf notes : List ℕ) (Next : List ℕ → Whole → Answer → Type 0) (a : Answer) → AfterWhole s o elf notes Next a →
      AfterWhole there o elf notes Next a
  whole_same o elf notes Next a = whole_met o elf notes Next Next a (λ file w next. next)

  -- what is written changes no answer that is due
  due_met : (c : Option Command) (a : Answer) → IsDueAnswer s c a → IsDueAnswer there c a
  due_met None a due = due
  due_met (Some (Verify o elf notes b)) a due =
      whole_met o elf notes (λ file. IsVerifiedWhole (layout_of o file) b) (λ file. IsVerifiedWhole (layout_of o file) b) a (λ file w is. is) due
  due_met (Some (Lift o elf)) a due = read_same elf (λ file. AfterImage file (IsLifted o file)) a due
  due_met (Some (Graph o elf notes)) a due = whole_same o elf notes (λ file. IsGraphedWhole) a due
  due_met (Some (Script o elf notes q frame b)) a due = whole_same o elf notes (λ file. IsScriptWhole (layout_of o file) b frame q) a due
  due_met (Some (Replay o elf notes report)) a due =
      whole_met o elf notes (λ file w. AfterRead s report (λ text. IsReplayedWhole (layout_of o file) text w))
      (λ file w. AfterRead there report (λ text. IsReplayedWhole (layout_of o file) text w)) a
      (λ file w. read_same report (λ text. IsReplayedWhole (layout_of o file) text w) a) due
  due_met (Some (Certify o elf notes q frame b)) a due = whole_same o elf notes (λ file. IsCertifiedWhole b frame q) a due
  due_met (Some (Check name)) a due = read_same name (λ text x. IsChecked text x.status x.text × (x.evidence ≡ NoEvidence)) a due
  due_met (Some (SelfRun seed count)) a due = due
  due_met (Some (Upgrade o elf notes)) a due =
      read_met s before after sink_before sink_after elf
      (λ file. AfterImage file (AfterRead s notes (λ text. AfterFrames o file text (λ w x. x ≡ upgrade_answer text))))
      (λ file. AfterImage file (AfterRead there notes (λ text. AfterFrames o file text (λ w x. x ≡ upgrade_answer text)))) a
      (λ file. image_next file (AfterRead s notes (λ text. AfterFrames o file text (λ w x. x ≡ upgrade_answer text)))
      (AfterRead there notes (λ text. AfterFrames o file text (λ w x. x ≡ upgrade_answer text))) a
      (read_same notes (λ text. AfterFrames o file text (λ w x. x ≡ upgrade_answer text)) a)) due
  due_met (Some (Model o elf notes answer q b)) a due =
      both_met o elf notes (λ file p. AfterBudgets p b (AfterRead s answer (IsAskedModelAnswer p (layout_of o file) b (program_question q))))
      (λ file p. AfterBudgets p b (AfterRead there answer (IsAskedModelAnswer p (layout_of o file) b (program_question q)))) a
      (λ file p. budgets_next p b (AfterRead s answer (IsAskedModelAnswer p (layout_of o file) b (program_question q))) (AfterRead there answer (IsAskedModelAnswer p (layout_of o file) b (program_question q))) a
      (read_same answer (IsAskedModelAnswer p (layout_of o file) b (program_question q)) a)) due
  due_met (Some (Equal o names b)) a due =
      pair_met s before after sink_before sink_after o names a (λ f g p q links. IsPairReported (side_of o f p) (side_of o g q) links b)
      (λ f g p q links. IsPairReported (side_of o f p) (side_of o g q) links b) (λ f g p q links x. x) due
  due_met (Some (Differ o names report)) a due =
      pair_met s before after sink_before sink_after o names a
      (λ f g p q links. AfterRead s report (λ text x. x ≡ differ_answer (side_of o f p) (side_of o g q) links text))
      (λ f g p q links. AfterRead there report (λ text x. x ≡ differ_answer (side_of o f p) (side_of o g q) links text))
      (λ f g p q links. read_same report (λ text x. x ≡ differ_answer (side_of o f p) (side_of o g q) links text) a) due

  pub whole_of : (c : Option Command) (a : Answer) → IsDueAnswer s c a → Appends before a.text after → IsOutcome there c a.status a.evidence
  whole_of c a due appends = whole a (due_met c a due) appends refl refl

  pub cut_of : (c : Option Command) (a : Answer) (e : WriteFault) → IsDueAnswer s c a → Stopped before a.text after e → Rose sink_before sink_after →
      IsOutcome there c 7 NoEvidence
  cut_of c a e due told risen =
      let front = front_of_stopped before a.text after e told in
      cut a front.0 (due_met c a due) front.1 front.2 risen refl refl

  -- a verification of files that are told is answered where its answer was written
  pub complete_of : (c : Option Command) (a : Answer) → IsDueAnswer s c a → Appends before a.text after →
      (o : Options) (elf notes file text : List ℕ) (b : Budget) → c ≡ Some (Verify o elf notes b) → AreTold s elf notes file text →
      (a.status ≡ 7 → ¬ Rose sink_before sink_after) → a.status ≢ 8 →
      (¬ IsSpentEvidence a.evidence) → AreAnswered o file text b before after a.status a.evidence
  complete_of c a due appends o elf notes file text b is told calm memory unspent =
      let here : AreTold there elf notes file text =
      record { elf_held = told.elf_held; notes_held = told.notes_held; elf_calm = told.elf_calm; notes_calm = told.notes_calm } in
      verify_is_complete there o elf notes file text b a.status a.evidence here calm memory unspent
      (subst (λ (x : Option Command). IsOutcome there x a.status a.evidence) is (whole_of c a due appends))

  here_told : (content : List ℕ → List ℕ) (c : Command) → AreToldTo s content c → AreToldTo there content c
  here_told content (Verify o elf notes b) told = told
  here_told content (Lift o elf) told = told
  here_told content (Graph o elf notes) told = told
  here_told content (Script o elf notes q frame b) told = told
  here_told content (Replay o elf notes report) told = told
  here_told content (Certify o elf notes q frame b) told = told
  here_told content (Check name) told = told
  here_told content (SelfRun seed count) told = told
  here_told content (Upgrade o elf notes) told = told
  here_told content (Model o elf notes answer q b) told = told
  here_told content (Equal o names b) told = told
  here_told content (Differ o names report) told = told

  -- any command over files that are told is answered where its answer was written
  pub answered_of : (c : Option Command) (a : Answer) → IsDueAnswer s c a → Appends before a.text after → (content : List ℕ → List ℕ) (x : Command) →
      c ≡ Some x → AreToldTo s content x → (a.status ≡ 7 → ¬ Rose sink_before sink_after) → a.status ≢ 8 →
      IsAnswered content x before after a.status a.evidence
  answered_of c a due appends content x is told calm memory =
      outcome_told there content x a.status a.evidence (here_told content x told) calm memory
      (subst (λ (y : Option Command). IsOutcome there y a.status a.evidence) is (whole_of c a due appends))

  -- notes that are printed again keep the verdict
  pub upgraded_of : (c : Option Command) (a : Answer) → IsDueAnswer s c a → Appends before a.text after → (o : Options) (elf notes file text : List ℕ) →
      c ≡ Some (Upgrade o elf notes) → AreTold s elf notes file text → a.status ≡ 0 → (q : List ℕ) × Appends before q after × KeepsVerdict o file text q
  upgraded_of c a due appends o elf notes file text is told zero =
      let here : AreTold there elf notes file text =
      record { elf_held = told.elf_held; notes_held = told.notes_held; elf_calm = told.elf_calm; notes_calm = told.notes_calm } in
      let printed = upgrade_is_printed there o elf notes file text a.status a.evidence here
      (subst (λ (y : Option Command). IsOutcome there y a.status a.evidence) is (whole_of c a due appends)) zero in
      (printed.0, printed.1, printed.4)

-- memory ran out before anything was written
pub memory_of : (s : Surroundings) (text : Option (List ℕ)) (sink : ℕ) (c : Option Command) → IsOutcome (met s text text sink sink) c 8 NoEvidence
memory_of s text sink c = no_memory (nothing_appended text) refl refl
