-- What a right report names can be written, and its text is replayed.
use Rattle.std.specs.Prelude.{ℕ, ◌≡◌, ◌≤◌, ◌<◌, ◌++◌, List, Some, codes, length, slice_index}
use Rattle.bilv_spec.specs.Run.{Program}
use Rattle.call_spec.specs.Calls.{Options, Budget, Evidence, plain_answer}
use Rattle.bilv_spec.specs.Files.{layout_of}
use Rattle.notes_spec.specs.Programs.{IsProgram}
use Rattle.machine_spec.specs.StateText.{Layout, IsNamed}
use Rattle.machine_spec.specs.Endings.{NamedEnding, named_line}
use Rattle.bilv_spec.specs.Answers.{Report, IsRightReport, report_text}
use Rattle.clause_spec.specs.Checks.{text_limit}
use Rattle.bilv_spec.specs.Replays.{replay_answer}
use Rattle.word_spec.specs.Texts.{line}
use Rattle.answer_spec.specs.AnswerLaws.{named_of}

-- each number of the list is that of a byte
abbrev pub AreBytes : List ℕ → Type 0
AreBytes file = (i : ℕ) → slice_index file i < 256

-- at most 4096 backward transfers and 16777216 points, as on every lawful command line
abbrev pub IsReplayable : Budget → Type 0
IsReplayable b = (b.unroll ≤ 4096) × (b.points ≤ 16777216)

-- What a right report of a file's program names can be written: the number of its step is below that of the points, its address is a word, and notes have at
-- most 4096 lines.
abbrev pub NamesCanBeWritten : Type 0
NamesCanBeWritten =
    (o : Options) (file text : List ℕ) (p : Program) → AreBytes file → IsProgram o file text p → (layout : Layout) (b : Budget) → IsReplayable b →
    (r : Report) (e : Evidence) (n : NamedEnding) → IsRightReport p layout b r e → named_of b r ≡ Some n → IsNamed n

-- the text of a right report that names an ending is replayed, where it is no longer than texts may be
abbrev pub RightReportReplays : Type 0
RightReportReplays =
    (o : Options) (file text : List ℕ) (p : Program) → AreBytes file → IsProgram o file text p → (b : Budget) → IsReplayable b →
    (r : Report) (e : Evidence) (n : NamedEnding) → IsRightReport p (layout_of o file) b r e → named_of b r ≡ Some n →
    length (report_text (layout_of o file) b r e) ≤ text_limit →
    replay_answer p (layout_of o file) (report_text (layout_of o file) b r e) ≡ plain_answer 0 (line (codes "replayed " ++ named_line n))
