-- The replay of a report over frames that is right.
use Rattle.std.specs.Prelude.{ℕ, ◌≡◌, ◌≢◌, ◌≤◌, ◌++◌, Bool, List, [], Option, Some, None, codes, length}
use Rattle.answer_laws.specs.Replayed.{AreBytes, IsReplayable}
use Rattle.answer_spec.specs.FrameAnswers.{IsFrameFound, frame_report_text, name_of, unproved_ending}
use Rattle.bilv_spec.specs.Files.{layout_of}
use Rattle.call_spec.specs.Calls.{Options, Budget, plain_answer}
use Rattle.clause_spec.specs.Checks.{text_limit}
use Rattle.frame_spec.specs.FrameReports.{Report, NamedReport, NotInductiveReport, UnprovedReport, ByEvent, ByTurn, Evidence, IsRightReport}
use Rattle.frame_spec.specs.FrameVerdict.{Whole}
use Rattle.frame_texts_spec.specs.CallReplays.{call_replay_answer}
use Rattle.frame_texts_spec.specs.CallTexts.{CallEnding, Plain, call_ending_words}
use Rattle.frame_texts_spec.specs.FrameTexts.{FramedFails, FramedTurns, NotInductiveBy}
use Rattle.frame_texts_spec.specs.FrameReplays.{TellsReturns}
use Rattle.word_spec.specs.Texts.{line, joined}

-- the ending that a report over frames names
abbrev pub ending_of_report : Whole → Budget → Report → Option CallEnding
ending_of_report w b (NamedReport (ByEvent e at step)) = Some (Plain (FramedFails e at step))
ending_of_report w b (NamedReport (ByTurn at step)) = Some (Plain (FramedTurns b.unroll at step))
ending_of_report w b (NotInductiveReport e at step) = Some (Plain (NotInductiveBy e at step))
ending_of_report w b (UnprovedReport rank n) = Some (unproved_ending (name_of w rank) b n)
ending_of_report w b other = None

-- The text of a right report over frames that names an ending is replayed, where it is no longer than texts may be, whatever tells the addresses to which calls
-- return; without invariants it need not be told.
abbrev pub FrameReportReplays : Type 0
FrameReportReplays =
    (o : Options) (file text : List ℕ) (w : Whole) → AreBytes file → IsFrameFound o file text w → (b : Budget) → IsReplayable b →
    (r : Report) (e : Evidence) (n : CallEnding) → IsRightReport w (layout_of o file) b r e → ending_of_report w b r ≡ Some n →
    length (frame_report_text w (layout_of o file) b r e) ≤ text_limit →
    (returns : ℕ → Bool) → (w.invariants ≢ [] → TellsReturns w.program returns) →
    call_replay_answer w returns (layout_of o file) (frame_report_text w (layout_of o file) b r e)
    ≡ plain_answer 0 (line (codes "replayed " ++ joined (call_ending_words n)))
