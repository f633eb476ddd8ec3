-- What a call says of a function whose notes have invariants.
use Rattle.std.proofs.Common.{◌≡◌, ℕ, ◌≤◌, refl, ap, sym, ◌∙◌, arith, List, length}
use Rattle.std.specs.Prelude.{codes}
use Rattle.answer_laws.specs.Invariants.{NeverFails, InvariantsMean}
use Rattle.answer_laws.specs.Replayed.{AreBytes}
use Rattle.answer_laws.specs.Told.{AfterWholeFiles}
use Rattle.answer_laws.proofs.FoundFrames.{rows_of, reads_of}
use Rattle.answer_laws.proofs.Told.{answer_told}
use Rattle.answer_laws.proofs.TwoCalls.{printed_is}
use Rattle.answer_spec.specs.FrameAnswers.{IsFrameFound, AfterFrames, frames_refused, frames_found, IsVerifiedWhole, IsFrameReported}
use Rattle.answer_spec.specs.Outcomes.{whole, cut, no_memory}
use Rattle.answer_spec.proofs.Wholes.{by_frames}
use Rattle.bilv_spec.specs.Answers as plain
use Rattle.bilv_spec.specs.Files.{layout_of}
use Rattle.bilv_spec.specs.Run.{Program}
use Rattle.call_spec.specs.Calls.{Answer, Budget, Options, plain_answer}
use Rattle.command_spec.specs.Commands.{Verify}
use Rattle.frame_spec.specs.FrameReports.{HoldsReport, PartialReport, VacuousReport, NamedReport, ByEvent, ByTurn, NotInductiveReport, UnprovedReport, PointsReport, SizeReport, ConflictsReport, Evidence, PassedBy, Frames, ShownBy, SpentOn, Count, IsRightReport}
use Rattle.frame_spec.specs.FrameVerdict.{Whole}
use Rattle.frame_spec.proofs.ReportMeans.{partial_means}
use Rattle.machine_spec.specs.StateText.{Layout}
use Rattle.notes_spec.specs.Verified.{elf_refused, elf_accepted}
use Rattle.word_spec.specs.Texts.{line}

module _ (o : Options) (file text : List ℕ) (b : Budget) (bytes : AreBytes file) (a : Answer) (zero_is : a.status ≡ 0)
    (text_is : a.text ≡ line (codes "holds partially")) where
  -- no other answer has this status and this text
  other_status : (n : ℕ) → 1 ≤ n → a.status ≡ n → ⊥
  other_status n above is = omega (arith, above, is, zero_is)

  other_text : (written : List ℕ) (n : ℕ) → length written ≡ n → n ≤ 15 → a.text ≡ written → ⊥
  other_text written n count short is =
      let e : 16 ≡ n = ap length (sym text_is ∙ is) ∙ count in omega (arith, e, short)

  status_by : (n : ℕ) (written : List ℕ) → a ≡ plain_answer n written → a.status ≡ n
  status_by n written is = ap (λ (x : Answer). x.status) is

  -- the report of a program
  of_program : (p : Program) (layout : Layout) → plain.IsReported p layout b a → ⊥
  of_program p layout (plain.HoldsReport, e, right, is) = other_text (line (codes "holds")) 6 refl (omega arith) (ap (λ (x : Answer). x.text) is)
  of_program p layout (plain.VacuousReport, e, right, is) = other_text (line (codes "vacuous")) 8 refl (omega arith) (ap (λ (x : Answer). x.text) is)
  of_program p layout (plain.FailsReport event at step, e, right, is) = other_status 1 (omega arith) (ap (λ (x : Answer). x.status) is)
  of_program p layout (plain.UnrollReport at step, e, right, is) = other_status 3 (omega arith) (ap (λ (x : Answer). x.status) is)
  of_program p layout (plain.PointsReport, e, right, is) = other_status 3 (omega arith) (ap (λ (x : Answer). x.status) is)
  of_program p layout (plain.SizeReport, e, right, is) = other_status 3 (omega arith) (ap (λ (x : Answer). x.status) is)
  of_program p layout (plain.ConflictsReport, e, right, is) = other_status 3 (omega arith) (ap (λ (x : Answer). x.status) is)

  -- the report over frames that it is
  of_partial : (w : Whole) → IsFrameFound o file text w → (e : Evidence) → IsRightReport w (layout_of o file) b PartialReport e → NeverFails o file text
  of_partial w found (PassedBy e) right = record {
    function = w;
    found = found;
    entered = right.2.1;
    never = partial_means w (rows_of o file text w bytes found) (reads_of o file text w bytes found) (layout_of o file) b (PassedBy e) right;
  }
  of_partial w found (Frames list) right = absurd right
  of_partial w found (ShownBy s) right = absurd right
  of_partial w found (SpentOn rank kind proof) right = absurd right
  of_partial w found (Count n) right = absurd right

  of_frames : (w : Whole) → IsFrameFound o file text w → IsFrameReported w (layout_of o file) b a → NeverFails o file text
  of_frames w found (PartialReport, e, right, is) = of_partial w found e right
  of_frames w found (HoldsReport, e, right, is) = absurd (other_text (line (codes "holds")) 6 refl (omega arith) (ap (λ (x : Answer). x.text) is))
  of_frames w found (VacuousReport, e, right, is) = absurd (other_text (line (codes "vacuous")) 8 refl (omega arith) (ap (λ (x : Answer). x.text) is))
  of_frames w found (NamedReport (ByEvent event at step), e, right, is) = absurd (other_status 1 (omega arith) (ap (λ (x : Answer). x.status) is))
  of_frames w found (NamedReport (ByTurn at step), e, right, is) = absurd (other_status 3 (omega arith) (ap (λ (x : Answer). x.status) is))
  of_frames w found (NotInductiveReport event at step, e, right, is) = absurd (other_status 1 (omega arith) (ap (λ (x : Answer). x.status) is))
  of_frames w found (UnprovedReport rank (ByEvent event at step), e, right, is) = absurd (other_status 1 (omega arith) (ap (λ (x : Answer). x.status) is))
  of_frames w found (UnprovedReport rank (ByTurn at step), e, right, is) = absurd (other_status 3 (omega arith) (ap (λ (x : Answer). x.status) is))
  of_frames w found (PointsReport, e, right, is) = absurd (other_status 3 (omega arith) (ap (λ (x : Answer). x.status) is))
  of_frames w found (SizeReport, e, right, is) = absurd (other_status 3 (omega arith) (ap (λ (x : Answer). x.status) is))
  of_frames w found (ConflictsReport, e, right, is) = absurd (other_status 3 (omega arith) (ap (λ (x : Answer). x.status) is))

  of_notes : AfterFrames o file text (IsVerifiedWhole (layout_of o file) b) a → NeverFails o file text
  of_notes (frames_refused written refused is) = absurd (other_status 5 (omega arith) (status_by 5 written is))
  of_notes (frames_found w found next) =
      by_frames w.invariants w.contracts _ _ (NeverFails o file text) (λ none free is. absurd (of_program w.program (layout_of o file) is))
      (λ some is. of_frames w found is) next

  of_files : AfterWholeFiles o file text (IsVerifiedWhole (layout_of o file) b) a → NeverFails o file text
  of_files (elf_refused written refused is) = absurd (other_status 4 (omega arith) (status_by 4 written is))
  of_files (elf_accepted accepted next) = of_notes next

pub invariants_mean : InvariantsMean
invariants_mean s o content elf notes b e bytes told (whole a due appends status evidence) printed =
    of_files o (content elf) (content notes) b bytes a (sym status) (printed_is s (line (codes "holds partially")) a.text printed appends)
    (answer_told s content (Verify o elf notes b) a told due)
invariants_mean s o content elf notes b e bytes told (cut a n due l appends rose status evidence) printed = absurd (omega (arith, status))
invariants_mean s o content elf notes b e bytes told (no_memory appends status evidence) printed = absurd (omega (arith, status))
