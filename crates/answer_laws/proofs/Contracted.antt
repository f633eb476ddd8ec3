-- What a call says of a function whose notes have contracts.
use Rattle.std.proofs.Common.{◌≡◌, ◌≢◌, ℕ, ◌≤◌, refl, ap, sym, ◌∙◌, subst, arith, List, [], length}
use Rattle.std.specs.Prelude.{codes}
use Rattle.word_spec.specs.State.{State}
use Rattle.word_spec.specs.Texts.{line}
use Rattle.machine_spec.specs.Endings.{Start}
use Rattle.bilv_spec.specs.Files.{layout_of}
use Rattle.bilv_spec.specs.Verdict.{IsEntryState, IsStart}
use Rattle.call_spec.specs.Calls.{Answer, Budget, Options, plain_answer}
use Rattle.command_spec.specs.Commands.{Verify}
use Rattle.frame_spec.specs.FrameReports.{HoldsReport, PartialReport, VacuousReport, NamedReport, ByEvent, ByTurn, NotInductiveReport, UnprovedReport, PointsReport, SizeReport, ConflictsReport, Evidence, PassedBy, Frames, ShownBy, SpentOn, Count, IsRightReport}
use Rattle.frame_spec.specs.FrameVerdict.{Whole}
use Rattle.frame_spec.proofs.Contracts.{exit_is_run}
use Rattle.frame_spec.proofs.ReportMeans.{holds_means}
use Rattle.notes_spec.specs.Verified.{elf_refused, elf_accepted}
use Rattle.answer_spec.specs.FrameAnswers.{IsFrameFound, AfterFrames, frames_refused, frames_found, IsVerifiedWhole, IsFrameReported}
use Rattle.answer_spec.specs.Outcomes.{whole, cut, no_memory}
use Rattle.answer_spec.proofs.Wholes.{by_frames, one_whole}
use Rattle.answer_laws.specs.Contracted.{AreKept, FramesMean}
use Rattle.answer_laws.specs.Replayed.{AreBytes}
use Rattle.answer_laws.specs.Told.{AfterWholeFiles}
use Rattle.answer_laws.proofs.Told.{answer_told}
use Rattle.answer_laws.proofs.TwoCalls.{printed_is}
use Rattle.answer_laws.proofs.OfMachine.{wholes_are_contracted}

module _ (o : Options) (file text : List ℕ) (b : Budget) (bytes : AreBytes file) (w : Whole) (found : IsFrameFound o file text w) (free : w.contracts ≢ [])
    (a : Answer) (zero_is : a.status ≡ 0) (text_is : a.text ≡ line (codes "holds")) where
  -- no other answer has this status and this text
  other_status : (n : ℕ) → 1 ≤ n → a.status ≡ n → ⊥
  other_status n above is = omega (arith, above, is, zero_is)

  other_text : (written : List ℕ) (n : ℕ) → length written ≡ n → 7 ≤ n → a.text ≡ written → ⊥
  other_text written n count long is =
      let e : 6 ≡ n = ap length (sym text_is ∙ is) ∙ count in omega (arith, e, long)

  status_by : (n : ℕ) (written : List ℕ) → a ≡ plain_answer n written → a.status ≡ n
  status_by n written is = ap (λ (x : Answer). x.status) is

  kept_by : (e : Evidence) → IsRightReport w (layout_of o file) b HoldsReport e → (s : State) × IsEntryState w.program s → AreKept w
  kept_by e right entered =
      let con = wholes_are_contracted o file text w bytes found free in
      let kept = λ (start : Start) (is : IsStart w.program start). holds_means w con (layout_of o file) b e right start is in
      record { entered = entered; kept = kept; exits = λ start is. exit_is_run w start (kept start is) }

  of_holds : (e : Evidence) → IsRightReport w (layout_of o file) b HoldsReport e → AreKept w
  of_holds (PassedBy e) right = absurd (free right.1)
  of_holds (Frames list) right = kept_by (Frames list) right right.3.1
  of_holds (ShownBy s) right = absurd right
  of_holds (SpentOn rank kind proof) right = absurd right
  of_holds (Count n) right = absurd right

  of_frames : IsFrameReported w (layout_of o file) b a → AreKept w
  of_frames (HoldsReport, e, right, is) = of_holds e right
  of_frames (PartialReport, e, right, is) = absurd (other_text (line (codes "holds partially")) 16 refl (omega arith) (ap (λ (x : Answer). x.text) is))
  of_frames (VacuousReport, e, right, is) = absurd (other_text (line (codes "vacuous")) 8 refl (omega arith) (ap (λ (x : Answer). x.text) is))
  of_frames (NamedReport (ByEvent event at step), e, right, is) = absurd (other_status 1 (omega arith) (ap (λ (x : Answer). x.status) is))
  of_frames (NamedReport (ByTurn at step), e, right, is) = absurd (other_status 3 (omega arith) (ap (λ (x : Answer). x.status) is))
  of_frames (NotInductiveReport event at step, e, right, is) = absurd (other_status 1 (omega arith) (ap (λ (x : Answer). x.status) is))
  of_frames (UnprovedReport rank (ByEvent event at step), e, right, is) = absurd (other_status 1 (omega arith) (ap (λ (x : Answer). x.status) is))
  of_frames (UnprovedReport rank (ByTurn at step), e, right, is) = absurd (other_status 3 (omega arith) (ap (λ (x : Answer). x.status) is))
  of_frames (PointsReport, e, right, is) = absurd (other_status 3 (omega arith) (ap (λ (x : Answer). x.status) is))
  of_frames (SizeReport, e, right, is) = absurd (other_status 3 (omega arith) (ap (λ (x : Answer). x.status) is))
  of_frames (ConflictsReport, e, right, is) = absurd (other_status 3 (omega arith) (ap (λ (x : Answer). x.status) is))

  of_due : IsVerifiedWhole (layout_of o file) b w a → AreKept w
  of_due due = by_frames w.invariants w.contracts _ _ (AreKept w) (λ none empty is. absurd (free empty)) (λ some is. of_frames is) due

  of_text : AfterFrames o file text (IsVerifiedWhole (layout_of o file) b) a → AreKept w
  of_text (frames_refused written refused is) = absurd (other_status 5 (omega arith) (status_by 5 written is))
  of_text (frames_found v also next) =
      of_due (subst (λ (z : Whole). IsVerifiedWhole (layout_of o file) b z a) (one_whole o file text w v found also) next)

  of_files : AfterWholeFiles o file text (IsVerifiedWhole (layout_of o file) b) a → AreKept w
  of_files (elf_refused written refused is) = absurd (other_status 4 (omega arith) (status_by 4 written is))
  of_files (elf_accepted accepted next) = of_text next

pub frames_mean : FramesMean
frames_mean s o content elf notes b e w bytes told found some (whole a due appends status evidence) printed =
    of_files o (content elf) (content notes) b bytes w found some a (sym status) (printed_is s (line (codes "holds")) a.text printed appends)
    (answer_told s content (Verify o elf notes b) a told due)
frames_mean s o content elf notes b e w bytes told found some (cut a n due l appends rose status evidence) printed = absurd (omega (arith, status))
frames_mean s o content elf notes b e w bytes told found some (no_memory appends status evidence) printed = absurd (omega (arith, status))
