-- What is answered over files that are told.
use Rattle.std.proofs.Common.{◌≡◌, ◌≢◌, ℕ, List, Some, subst}
use Rattle.std.specs.Prelude.{codes}
use Rattle.call_spec.specs.Calls.{Answer, Evidence, NoEvidence, Options, Surroundings, AfterRead, read_failed, was_read, program_question}
use Rattle.bilv_spec.specs.Files.{layout_of}
use Rattle.command_spec.specs.Commands.{Command, Verify, Lift, Graph, Script, Replay, Certify, Check, SelfRun, Upgrade, Model, Equal, Differ, PairNames}
use Rattle.frame_spec.specs.FrameVerdict.{Whole}
use Rattle.answer_spec.specs.FrameAnswers.{AfterFrames, frames_refused, frames_found, IsVerifiedWhole, IsReplayedWhole, IsCertifiedWhole, IsScriptWhole}
use Rattle.answer_spec.specs.Outcomes.{AfterBoth, AfterWhole, AfterPair, IsLifted, IsGraphedWhole, IsRightAnswer, upgrade_answer, IsOutcome, whole, cut, no_memory}
use Rattle.call_spec.specs.Outside.{Agrees, Rose}
use Rattle.call_spec.specs.Calls.{Budget}
use Rattle.model_spec.specs.Models.{AfterBudgets, points, size, within, IsAskedModelAnswer}
use Rattle.pair_spec.specs.Differs.{differ_answer}
use Rattle.pair_spec.specs.Equals as pairs
use Rattle.pair_spec.specs.Equals.{side_of, IsPairReported, AfterElfOf, AfterNotesOf, AfterLinks}
use Rattle.pair_spec.specs.Links.{Link}
use Rattle.clause_spec.specs.Checks.{IsChecked}
use Rattle.bilv_spec.specs.Run.{Program}
use Rattle.notes_spec.specs.Verified.{AfterImage, elf_refused, elf_accepted, AfterNotes, notes_refused, program_found}
use Rattle.answer_laws.specs.Told.{IsTold, IsPairTold, AreToldTo, AfterFiles, AfterWholeFiles, AfterPairFiles, IsAnswerTo, IsAnswered}

budgets_met : (p : Program) (b : Budget) (Next Other : Answer → Type 0) (a : Answer) → (Next a → Other a) → AfterBudgets p b Next a →
    AfterBudgets p b Other a
budgets_met p b Next Other a step (points more is) = points more is
budgets_met p b Next Other a step (size price few is_price above is) = size price few is_price above is
budgets_met p b Next Other a step (within is next) = within is (step next)

module _ (s : Surroundings) (content : List ℕ → List ℕ) where
  -- what comes next behind the reading of a file that is told
  read_told : (name : List ℕ) (Next : List ℕ → Answer → Type 0) (a : Answer) → IsTold s content name → AfterRead s name Next a → Next (content name) a
  read_told name Next a told (read_failed rose is) = absurd (told.1 rose)
  read_told name Next a told (was_read bytes agrees next) =
      let same : bytes ≡ content name = subst (λ h. Agrees h bytes) told.0 agrees in subst (λ x. Next x a) same next

  image_told : (elf : List ℕ) (Next Other : Answer → Type 0) (a : Answer) → (Next a → Other a) → AfterImage (content elf) Next a →
      AfterImage (content elf) Other a
  image_told elf Next Other a step (elf_refused written x is) = elf_refused written x is
  image_told elf Next Other a step (elf_accepted x next) = elf_accepted x (step next)

  notes_told : (o : Options) (elf notes : List ℕ) (Next Other : Program → Answer → Type 0) (a : Answer) → ((p : Program) → Next p a → Other p a) →
      AfterNotes o (content elf) (content notes) Next a → AfterNotes o (content elf) (content notes) Other a
  notes_told o elf notes Next Other a step (notes_refused written x is) = notes_refused written x is
  notes_told o elf notes Next Other a step (program_found p x next) = program_found p x (step p next)

  both_told : (o : Options) (elf notes : List ℕ) (Next : List ℕ → Program → Answer → Type 0) (Other : Program → Answer → Type 0) (a : Answer) →
      ((p : Program) → Next (content elf) p a → Other p a) → IsTold s content elf → IsTold s content notes → AfterBoth s o elf notes Next a →
      AfterFiles o (content elf) (content notes) Other a
  both_told o elf notes Next Other a step elf_is notes_is due =
      let notes_next : List ℕ → Answer → Type 0 = λ text. AfterNotes o (content elf) text (Next (content elf)) in
      image_told elf (AfterRead s notes notes_next) (AfterNotes o (content elf) (content notes) Other) a
      (λ next. notes_told o elf notes (Next (content elf)) Other a step (read_told notes notes_next a notes_is next))
      (read_told elf (λ file. AfterImage file (AfterRead s notes (λ text. AfterNotes o file text (Next file)))) a elf_is due)

  -- the same where the notes may have invariants or contracts
  frames_told : (o : Options) (elf notes : List ℕ) (Next Other : Whole → Answer → Type 0) (a : Answer) → ((w : Whole) → Next w a → Other w a) →
      AfterFrames o (content elf) (content notes) Next a → AfterFrames o (content elf) (content notes) Other a
  frames_told o elf notes Next Other a step (frames_refused written x is) = frames_refused written x is
  frames_told o elf notes Next Other a step (frames_found w x next) = frames_found w x (step w next)

  whole_told : (o : Options) (elf notes : List ℕ) (Next : List ℕ → Whole → Answer → Type 0) (Other : Whole → Answer → Type 0) (a : Answer) →
      ((w : Whole) → Next (content elf) w a → Other w a) → IsTold s content elf → IsTold s content notes → AfterWhole s o elf notes Next a →
      AfterWholeFiles o (content elf) (content notes) Other a
  whole_told o elf notes Next Other a step elf_is notes_is due =
      let notes_next : List ℕ → Answer → Type 0 = λ text. AfterFrames o (content elf) text (Next (content elf)) in
      image_told elf (AfterRead s notes notes_next) (AfterFrames o (content elf) (content notes) Other) a
      (λ next. frames_told o elf notes (Next (content elf)) Other a step (read_told notes notes_next a notes_is next))
      (read_told elf (λ file. AfterImage file (AfterRead s notes (λ text. AfterFrames o file text (Next file)))) a elf_is due)

  -- the same behind the files of a pair
  elf_of_told : (word file : List ℕ) (Next Other : Answer → Type 0) (a : Answer) → (Next a → Other a) → AfterElfOf word file Next a →
      AfterElfOf word file Other a
  elf_of_told word file Next Other a step (pairs.elf_refused written x is) = pairs.elf_refused written x is
  elf_of_told word file Next Other a step (pairs.elf_accepted x next) = pairs.elf_accepted x (step next)

  notes_of_told : (o : Options) (word file text : List ℕ) (Next Other : Program → Answer → Type 0) (a : Answer) →
      ((p : Program) → Next p a → Other p a) → AfterNotesOf o word file text Next a → AfterNotesOf o word file text Other a
  notes_of_told o word file text Next Other a step (pairs.notes_refused written x is) = pairs.notes_refused written x is
  notes_of_told o word file text Next Other a step (pairs.program_found p x next) = pairs.program_found p x (step p next)

  links_told : (f g text : List ℕ) (Next Other : List Link → Answer → Type 0) (a : Answer) → ((links : List Link) → Next links a → Other links a) →
      AfterLinks f g text Next a → AfterLinks f g text Other a
  links_told f g text Next Other a step (pairs.too_large large is) = pairs.too_large large is
  links_told f g text Next Other a step (pairs.refused n fault short first is) = pairs.refused n fault short first is
  links_told f g text Next Other a step (pairs.linked links short says next) = pairs.linked links short says (step links next)

  pair_told : (o : Options) (names : PairNames) (Next : (f g : List ℕ) → (p q : Program) → List Link → Answer → Type 0)
      (Other : (p q : Program) → List Link → Answer → Type 0) (a : Answer) →
      ((p q : Program) (links : List Link) → Next (content names.elf) (content names.other_elf) p q links a → Other p q links a) →
      IsPairTold s content names → AfterPair s o names Next a → AfterPairFiles o content names Other a
  pair_told o names Next Other a step told due =
      let f = content names.elf in
      let g = content names.other_elf in
      elf_of_told (codes "first") f _ _ a
      (λ x. elf_of_told (codes "second") g _ _ a
      (λ y. notes_of_told o (codes "first") f (content names.notes) _ _ a
      (λ p z. notes_of_told o (codes "second") g (content names.other_notes) _ _ a
      (λ q v. links_told f g (content names.links) (Next f g p q) (Other p q) a (step p q) (read_told names.links _ a told.4 v))
      (read_told names.other_notes _ a told.3 z)) (read_told names.notes _ a told.2 y)) (read_told names.other_elf _ a told.1 x))
      (read_told names.elf _ a told.0 due)

  pub answer_told : (c : Command) (a : Answer) → AreToldTo s content c → IsRightAnswer s c a → IsAnswerTo content c a
  answer_told (Verify o elf notes b) a told due =
      whole_told o elf notes (λ file. IsVerifiedWhole (layout_of o file) b) (IsVerifiedWhole (layout_of o (content elf)) b) a (λ w is. is) told.0 told.1 due
  answer_told (Lift o elf) a told due = read_told elf (λ file. AfterImage file (IsLifted o file)) a told due
  answer_told (Graph o elf notes) a told due =
      whole_told o elf notes (λ file. IsGraphedWhole) IsGraphedWhole a (λ w is. is) told.0 told.1 due
  answer_told (Script o elf notes question frame b) a told due =
      whole_told o elf notes (λ file. IsScriptWhole (layout_of o file) b frame question) (IsScriptWhole (layout_of o (content elf)) b frame question) a (λ w is. is)
      told.0 told.1 due
  answer_told (Replay o elf notes report) a told due =
      whole_told o elf notes (λ file w. AfterRead s report (λ text. IsReplayedWhole (layout_of o file) text w))
      (IsReplayedWhole (layout_of o (content elf)) (content report)) a
      (λ w is. read_told report (λ text. IsReplayedWhole (layout_of o (content elf)) text w) a told.2 is) told.0 told.1 due
  answer_told (Certify o elf notes question frame b) a told due =
      whole_told o elf notes (λ file. IsCertifiedWhole b frame question) (IsCertifiedWhole b frame question) a (λ w is. is) told.0 told.1 due
  answer_told (Check name) a told due = read_told name (λ text x. IsChecked text x.status x.text × (x.evidence ≡ NoEvidence)) a told due
  answer_told (SelfRun seed count) a told due = due
  answer_told (Upgrade o elf notes) a told due =
      let notes_next : List ℕ → List ℕ → Answer → Type 0 = λ file text. AfterFrames o file text (λ w x. x ≡ upgrade_answer text) in
      image_told elf (AfterRead s notes (notes_next (content elf))) (notes_next (content elf) (content notes)) a
      (λ next. read_told notes (notes_next (content elf)) a told.1 next)
      (read_told elf (λ file. AfterImage file (AfterRead s notes (notes_next file))) a told.0 due)
  answer_told (Model o elf notes answer question b) a told due =
      let kind = program_question question in
      both_told o elf notes (λ file p. AfterBudgets p b (AfterRead s answer (IsAskedModelAnswer p (layout_of o file) b kind)))
      (λ p. AfterBudgets p b (IsAskedModelAnswer p (layout_of o (content elf)) b kind (content answer))) a
      (λ p. budgets_met p b (AfterRead s answer (IsAskedModelAnswer p (layout_of o (content elf)) b kind))
      (IsAskedModelAnswer p (layout_of o (content elf)) b kind (content answer)) a
      (λ next. read_told answer (IsAskedModelAnswer p (layout_of o (content elf)) b kind) a told.2 next))
      told.0 told.1 due
  answer_told (Equal o names b) a told due =
      pair_told o names (λ f g p q links. IsPairReported (side_of o f p) (side_of o g q) links b)
      (λ p q links. IsPairReported (side_of o (content names.elf) p) (side_of o (content names.other_elf) q) links b) a (λ p q links is. is) told due
  answer_told (Differ o names report) a told due =
      pair_told o names (λ f g p q links. AfterRead s report (λ text x. x ≡ differ_answer (side_of o f p) (side_of o g q) links text))
      (λ p q links x. x ≡ differ_answer (side_of o (content names.elf) p) (side_of o (content names.other_elf) q) links (content report)) a
      (λ p q links is. read_told report
      (λ text x. x ≡ differ_answer (side_of o (content names.elf) p) (side_of o (content names.other_elf) q) links text) a told.1 is) told.0 due

  -- so an outcome is that answer, where no write failed and memory did not run out
  pub outcome_told : (c : Command) (status : ℕ) (evidence : Evidence) → AreToldTo s content c → (status ≡ 7 → ¬ Rose s.sink_before s.sink_after) → status ≢ 8 →
      IsOutcome s (Some c) status evidence → IsAnswered content c s.text_before s.text_after status evidence
  outcome_told c status evidence told calm memory (whole a due appends e d) = (a, answer_told c a told due, e, d, appends)
  outcome_told c status evidence told calm memory (cut a n due l appends rose e d) = absurd (calm e rose)
  outcome_told c status evidence told calm memory (no_memory appends e d) = absurd (memory e)
