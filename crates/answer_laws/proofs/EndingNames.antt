-- What a right report names can be written.
use Rattle.std.proofs.Common.{◌≡◌, ℕ, zero, suc, ◌<◌, ◌≤◌, ◌^◌, refl, sym, ◌∙◌, subst, arith, Bool, true, false, List, Option, Some, None, length}
use Rattle.std.specs.Prelude.{◌==◌, ◌++◌, nat_le, codes}
use Rattle.bilv_spec.specs.Run.{Program, Run, Going, Exited, Failed, Turned, Place, Step, Stops, Arrives, Exits, run, one_more, after_step, arrive, turn, step, IsOver}
use Rattle.machine_spec.specs.Endings.{Start, Event, NamedEnding, FailsBy, UnknownBy, named_line}
use Rattle.bilv_spec.specs.Points.{HasMore}
use Rattle.bilv_spec.specs.Verdict.{IsEntryState}
use Rattle.bilv_spec.specs.Questions.{by_file}
use Rattle.bilv_spec.specs.PointLaws.{HasLawfulRows, ReadsMemory}
use Rattle.call_spec.specs.Calls.{Options, Budget, Evidence, RunOf, plain_answer}
use Rattle.bilv_spec.specs.Files.{is_rv, layout_of}
use Rattle.notes_spec.specs.Programs.{IsProgram}
use Rattle.bilv_spec.specs.Elf.{file_endian}
use Rattle.machine_spec.specs.StateText.{Layout, IsEvent, IsNamed, last_step}
use Rattle.word_spec.specs.Texts.{line}
use Rattle.bilv_spec.specs.Answers.{Report, HoldsReport, VacuousReport, FailsReport, UnrollReport, PointsReport, SizeReport, ConflictsReport, IsRightReport, EndsAs, report_text, start_in}
use Rattle.clause_spec.specs.Checks.{text_limit}
use Rattle.bilv_spec.specs.Replays.{replay_answer}
use Rattle.answer_spec.specs.AnswerLaws.{named_of}
use Rattle.bilv_spec.proofs.Over.{one_end}
use Rattle.bilv_spec.proofs.PointRuns.{Stands, stands}
use Rattle.bilv_spec.proofs.ReadingRuns.{Numbered, numbered}
use Rattle.bilv_spec.proofs.FileWords.{runs_by_file}
use Rattle.bilv_spec.proofs.ProgramRows.{machine_lawful}
use Rattle.notes_spec.proofs.ProgramTexts.{program_rows_are_lawful}
use Rattle.answer_spec.proofs.Replayed.{report_replays}
use Rattle.answer_laws.specs.Replayed.{AreBytes, IsReplayable}
use Rattle.walk_laws.proofs.RunEnds.{few_points_end_runs}
use Rattle.answer_laws.proofs.NoteLines.{HasFewLines, few_note_lines, IsFineStep, steps_are_fine}

-- the end of a run after so many steps can be written, but for the size of its step's number, which is below theirs
abbrev IsFine : ℕ → Run → Type 0
IsFine n (Going turns m c) = Unit {0}
IsFine n (Exited at m) = m < n
IsFine n (Failed e at m) = IsEvent e × (at < 2 ^ 32) × (m < n)
IsFine n (Turned at m) = (at < 2 ^ 32) × (m < n)

turned : (b : Bool) (n turns m at : ℕ) (c : Place) → m ≡ n → at < 2 ^ 32 → IsFine (suc n) (turn b turns m at c)
turned true n turns m at c e l = (l, omega arith)
turned false n turns m at c e l = tt

arrived : (b : Bool) (n k turns m at : ℕ) (c : Place) → m ≡ n → at < 2 ^ 32 → IsFine (suc n) (arrive b k turns m at c)
arrived false n k turns m at c e l = tt
arrived true n k turns m at c e l = turned (turns == k) n turns m at c e l

stepped : (n k turns m at : ℕ) (s : Step) → IsFineStep s → m ≡ n → at < 2 ^ 32 → IsFine (suc n) (after_step k turns m at s)
stepped n k turns m at (Stops e) f h l = (f, l, omega arith)
stepped n k turns m at (Exits s) f h l = omega arith
stepped n k turns m at (Arrives c) f h l = arrived (nat_le c.state.pc at) n k turns m at c h l

module _ (p : Program) (k : ℕ) (lawful : HasLawfulRows p) (few : HasFewLines p) (start : Start) where
  by_few : HasFewLines (by_file p)
  by_few = record { asserts = few.asserts; ensures = few.ensures }

  more : (n : ℕ) (x : Run) → IsFine n x → Stands p k x → Numbered n x → IsFine (suc n) (one_more (by_file p) k start x)
  more n (Going turns m c) h s e =
      stepped n k turns m c.state.pc (step (by_file p) start.state c (start.choices m))
      (steps_are_fine (by_file p) by_few start.state c (start.choices m)) e s.1.pc
  more n (Exited at m) h s e = omega arith
  more n (Failed v at m) h s e = (h.0, h.1, let l = h.2 in omega arith)
  more n (Turned at m) h s e = (h.0, let l = h.1 in omega arith)

  fine : IsEntryState p start.state → (n : ℕ) → IsFine n (run (by_file p) k start n)
  unfolding run
  fine is zero = tt
  fine is (suc n) = more n (run (by_file p) k start n) (fine is n) (stands p k lawful start is.state is.pc n) (numbered (by_file p) k start n)

  -- the end of a run can be written
  pub end_is_fine : ReadsMemory p → IsEntryState p start.state → (max : ℕ) → ¬ HasMore p k max → (r : Run) → IsOver r → EndsAs p k start r → IsFine max r
  end_is_fine memory is max enough r over ends =
      let last = few_points_end_runs p lawful memory k start is max enough in
      let same : run p k start max ≡ r = one_end p k start max ends.0 (run p k start max) r last over refl ends.1 in
      subst (IsFine max) (sym (runs_by_file p lawful memory k start is max) ∙ same) (fine is max)

reads_memory : (o : Options) (file text : List ℕ) (p : Program) → IsProgram o file text p → ReadsMemory p
reads_memory o file text p is =
    subst ReadsMemory (sym is.4) (record { word = λ s a. refl; little = (machine_lawful (is_rv file) (file_endian file) o).little })

no_name : (n : NamedEnding) → ◌≡◌ {A = Option NamedEnding} None (Some n) → ⊥
no_name n e = cc

below_last : (m max : ℕ) → m < max → max ≤ 16777216 → m ≤ 16777215
below_last m max l h = omega arith

module _ (o : Options) (file text : List ℕ) (p : Program) (bytes : AreBytes file) (is : IsProgram o file text p) (b : Budget) (small : IsReplayable b)
    (enough : ¬ HasMore p b.unroll b.points) (start : Start) (entry : IsEntryState p start.state) where
  fine_end : (r : Run) → IsOver r → EndsAs p b.unroll start r → IsFine b.points r
  fine_end =
      end_is_fine p b.unroll (program_rows_are_lawful o file text p bytes is) (few_note_lines o file text p is) start (reads_memory o file text p is) entry
      b.points enough

  -- the event of a run can be written
  pub failing_is_named : (event : Event) (at j : ℕ) → EndsAs p b.unroll start (Failed event at j) → IsNamed (FailsBy event at j)
  failing_is_named event at j ends =
      let end = fine_end (Failed event at j) tt ends in (end.0, end.1, below_last j b.points end.2 small.1)

  -- so can the step by which it exits
  pub exit_is_written : (at j : ℕ) → EndsAs p b.unroll start (Exited at j) → j ≤ last_step
  exit_is_written at j ends = below_last j b.points (fine_end (Exited at j) tt ends) small.1

  -- so can its last step, where it makes one backward transfer too many
  pub turning_is_named : (at j : ℕ) → EndsAs p b.unroll start (Turned at j) → IsNamed (UnknownBy b.unroll at j)
  turning_is_named at j ends = let end = fine_end (Turned at j) tt ends in (small.0, end.0, below_last j b.points end.1 small.1)

pub names_can_be_written : (o : Options) (file text : List ℕ) (p : Program) → AreBytes file → IsProgram o file text p →
    (layout : Layout) (b : Budget) → IsReplayable b →
    (r : Report) (e : Evidence) (n : NamedEnding) → IsRightReport p layout b r e → named_of b r ≡ Some n → IsNamed n
names_can_be_written o file text p bytes is layout b small HoldsReport e n a f = absurd (no_name n f)
names_can_be_written o file text p bytes is layout b small VacuousReport e n a f = absurd (no_name n f)
names_can_be_written o file text p bytes is layout b small PointsReport e n a f = absurd (no_name n f)
names_can_be_written o file text p bytes is layout b small SizeReport e n a f = absurd (no_name n f)
names_can_be_written o file text p bytes is layout b small ConflictsReport e n a f = absurd (no_name n f)
names_can_be_written o file text p bytes is layout b small (FailsReport event at j) (RunOf w) n a f =
    let same : FailsBy event at j ≡ n = cc in
    subst IsNamed same (failing_is_named o file text p bytes is b small a.0.points (start_in p layout w) a.3.entry event at j a.4)
names_can_be_written o file text p bytes is layout b small (FailsReport event at j) other n a f = absurd a
names_can_be_written o file text p bytes is layout b small (UnrollReport at j) (RunOf w) n a f =
    let same : UnknownBy b.unroll at j ≡ n = cc in
    subst IsNamed same (turning_is_named o file text p bytes is b small a.0.points (start_in p layout w) a.3.entry at j a.4)
names_can_be_written o file text p bytes is layout b small (UnrollReport at j) other n a f = absurd a

pub right_report_replays : (o : Options) (file text : List ℕ) (p : Program) → AreBytes file → IsProgram o file text p → (b : Budget) → IsReplayable b →
    (r : Report) (e : Evidence) (n : NamedEnding) → IsRightReport p (layout_of o file) b r e → named_of b r ≡ Some n →
    length (report_text (layout_of o file) b r e) ≤ text_limit →
    replay_answer p (layout_of o file) (report_text (layout_of o file) b r e) ≡ plain_answer 0 (line (codes "replayed " ++ named_line n))
right_report_replays o file text p bytes is b small r e n right name room =
    report_replays o file p b r e n right name (names_can_be_written o file text p bytes is (layout_of o file) b small r e n right name) room
