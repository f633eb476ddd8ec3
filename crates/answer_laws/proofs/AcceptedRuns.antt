-- What a call that judges an answer wrote behind its first line is replayed by another.
use Rattle.std.proofs.Common.{◌≡◌, ◌≢◌, ◌≤◌, ◌+◌, ℕ, List, ◌++◌, length, Option, Some, None, refl, ap, sym, subst, ◌∙◌}
use Rattle.std.specs.Prelude.{codes}
use Rattle.std.proofs.lemmas.List.{append_cancel_left}
use Rattle.word_spec.specs.State.{Written}
use Rattle.word_spec.specs.Texts.{line}
use Rattle.machine_spec.specs.Endings.{NamedEnding, FailsBy, UnknownBy, named_line}
use Rattle.clause_spec.specs.Checks.{text_limit}
use Rattle.call_spec.specs.Calls.{Answer, Budget, Evidence, Question, EntryQuestion, FailQuestion, TurnQuestion, plain_answer, program_question, Options, Surroundings}
use Rattle.call_spec.specs.Framed as framed
use Rattle.bilv_spec.specs.Points.{is_known_at}
use Rattle.call_spec.specs.Outside.{Appends}
use Rattle.command_spec.specs.Commands.{Model, Replay}
use Rattle.bilv_spec.specs.Answers.{IsWithin, start_in}
use Rattle.bilv_spec.specs.Files.{layout_of}
use Rattle.bilv_spec.specs.Questions.{IsTrue, Reading}
use Rattle.bilv_spec.specs.Replays.{replay_answer}
use Rattle.bilv_spec.specs.Run.{Program}
use Rattle.bilv_spec.specs.Verdict.{IsStart}
use Rattle.notes_spec.specs.Verified.{AfterNotes, IsFound, elf_accepted, elf_refused, notes_refused, program_found}
use Rattle.answer_spec.specs.Outcomes.{IsOutcome, cut, no_memory, whole}
use Rattle.answer_spec.proofs.Replayed.{failing_replays, turning_replays}
use Rattle.model_spec.specs.Models as models
use Rattle.model_spec.specs.Models.{AfterBudgets, Ending, EndsAtEntry, EndsFailed, EndsTurned, IsAskedModelAnswer, IsEndOf, IsModelAnswer, ending_text, last_of, steps_of}
use Rattle.answer_laws.specs.Completeness.{ShowsRun}
use Rattle.answer_laws.specs.Replayed.{AreBytes, IsReplayable}
use Rattle.answer_laws.specs.Told.{AfterFiles, AreToldTo}
use Rattle.answer_laws.specs.TwoCalls.{IsPrinted, Sufficed, Writes}
use Rattle.answer_laws.proofs.AcceptedStarts.{printed_is_start}
use Rattle.answer_laws.proofs.EndingNames.{failing_is_named, turning_is_named}
use Rattle.answer_laws.proofs.Told.{answer_told}
use Rattle.answer_laws.proofs.TwoCalls.{IsPlainReport, bare, printed_is, printed_plain, replay_written}

-- what an answer that shows a run is of: a reading of which the question is true, and the end of the run of the start that is printed of it
record IsOfModel (o : Options) (file text : List ℕ) (question : framed.Question) (b : Budget) (a : Answer) : Type 0 where
  pub kind : Question
  pub asked : program_question question ≡ Some kind
  pub program : Program
  pub found : IsFound o file text program
  pub within : IsWithin program b
  pub reading : Reading
  pub is_true : IsTrue program b.unroll reading kind
  pub start : Written
  pub ending : Ending
  pub ends : IsEndOf program b.unroll (start_in program (layout_of o file) start) kind ending
  pub printed_of : models.IsPrinted program (layout_of o file) b.unroll reading (steps_of kind (last_of ending)) start
  pub text_is : a.text ≡ line (codes "accepted") ++ ending_text (layout_of o file) b ending start

no_run : (a : Answer) (e : Evidence) → a.evidence ≡ e → ShowsRun a.evidence → ShowsRun e
no_run a e is shows = subst ShowsRun is shows

module _ (o : Options) (file text : List ℕ) (question : framed.Question) (b : Budget) (answer : List ℕ) (a : Answer) (shows : ShowsRun a.evidence) where
  of_answer : (p : Program) (kind : Question) → program_question question ≡ Some kind → IsFound o file text p → IsWithin p b →
      IsModelAnswer p (layout_of o file) b kind answer a → IsOfModel o file text question b a
  of_answer p kind asked found within (models.large above is) = absurd (bare a 9 _ is shows)
  of_answer p kind asked found within (models.refused n f short numbered declared fault is) = absurd (bare a 9 _ is shows)
  of_answer p kind asked found within (models.untrue r short numbered declared answer_is reading untrue is) = absurd (bare a 9 _ is shows)
  of_answer p kind asked found within (models.accepted r w ending short numbered declared answer_is reading holds ends printed_of is) = record {
    kind = kind;
    asked = asked;
    program = p;
    found = found;
    within = within;
    reading = r;
    is_true = holds;
    start = w;
    ending = ending;
    ends = ends;
    printed_of = printed_of;
    text_is = ap (λ (x : Answer). x.text) is;
  }

  -- a question that is true of no reading shows no run
  of_asked : (p : Program) (k : Option Question) → program_question question ≡ k → IsFound o file text p → IsWithin p b →
      IsAskedModelAnswer p (layout_of o file) b k answer a → IsOfModel o file text question b a
  of_asked p (Some kind) asked found within due = of_answer p kind asked found within due
  of_asked p None asked found within (models.too_large above is) = absurd (bare a 9 _ is shows)
  of_asked p None asked found within (models.faulty n f short numbered declared fault is) = absurd (bare a 9 _ is shows)
  of_asked p None asked found within (models.never_true short numbered declared answer_is is) = absurd (bare a 9 _ is shows)

  of_budgets : (p : Program) → IsFound o file text p →
      AfterBudgets p b (IsAskedModelAnswer p (layout_of o file) b (program_question question) answer) a → IsOfModel o file text question b a
  of_budgets p found (models.points more is) = absurd (no_run a _ (ap (λ (x : Answer). x.evidence) is) shows)
  of_budgets p found (models.size price few is_price above is) = absurd (no_run a _ (ap (λ (x : Answer). x.evidence) is) shows)
  of_budgets p found (models.within within next) = of_asked p (program_question question) refl found within next

  of_notes : AfterNotes o file text (λ p. AfterBudgets p b (IsAskedModelAnswer p (layout_of o file) b (program_question question) answer)) a →
      IsOfModel o file text question b a
  of_notes (notes_refused written x is) = absurd (bare a 5 written is shows)
  of_notes (program_found p found next) = of_budgets p found next

  of_file : AfterFiles o file text (λ p. AfterBudgets p b (IsAskedModelAnswer p (layout_of o file) b (program_question question) answer)) a →
      IsOfModel o file text question b a
  of_file (elf_refused written x is) = absurd (bare a 4 written is shows)
  of_file (elf_accepted x next) = of_notes next

-- the answer of a call that ended with a run as evidence
model_written : (s : Surroundings) (o : Options) (content : List ℕ → List ℕ) (elf notes answer : List ℕ) (kind : framed.Question) (b : Budget) (first : ℕ)
    (e : Evidence) → AreToldTo s content (Model o elf notes answer kind b) → IsOutcome s (Some (Model o elf notes answer kind b)) first e → ShowsRun e →
    (a : Answer) × IsOfModel o (content elf) (content notes) kind b a × Appends s.text_before a.text s.text_after
model_written s o content elf notes answer kind b first e told (whole a due appends status evidence) shows = (
  a,
  of_file o (content elf) (content notes) kind b (content answer) a (subst ShowsRun evidence shows)
      (answer_told s content (Model o elf notes answer kind b) a told due),
  appends,
)
model_written s o content elf notes answer kind b first e told (cut a n due l appends rose status evidence) shows =
    absurd (subst ShowsRun evidence shows)
model_written s o content elf notes answer kind b first e told (no_memory appends status evidence) shows = absurd (subst ShowsRun evidence shows)

-- the report behind the line is replayed
module _ (o : Options) (file text : List ℕ) (bytes : AreBytes file) (b : Budget) (small : IsReplayable b) (p : Program) (found : IsFound o file text p)
    (within : IsWithin p b) (r : Reading) (w : Written) where
  abbrev Replays : Ending → Type 0
  Replays ending =
      length (ending_text (layout_of o file) b ending w) ≤ text_limit →
      (n : NamedEnding) × (replay_answer p (layout_of o file) (ending_text (layout_of o file) b ending w)
      ≡ plain_answer 0 (line (codes "replayed " ++ named_line n))) × IsPlainReport o file (ending_text (layout_of o file) b ending w)

  report_replays : (kind : Question) → kind ≢ EntryQuestion → IsTrue p b.unroll r kind → (ending : Ending) →
      IsEndOf p b.unroll (start_in p (layout_of o file) w) kind ending →
      models.IsPrinted p (layout_of o file) b.unroll r (steps_of kind (last_of ending)) w → Replays ending
  report_replays EntryQuestion other holds ending ends printed_of short = absurd (other refl)
  report_replays FailQuestion other holds (EndsFailed event at j) ends printed_of short =
      let starts : IsStart p (start_in p (layout_of o file) w) =
      printed_is_start o file text p found.2 b.unroll (j + 1) r w (record { state = holds.entry.state; choice = holds.choice }) holds.entry printed_of in
      let named = failing_is_named o file text p bytes found.2 b small within.points (start_in p (layout_of o file) w) starts.entry event at j ends in (
        FailsBy event at j,
        failing_replays o file p b.unroll w printed_of.written starts event at j ends named short,
        printed_plain o file (is_known_at p) (FailsBy event at j) w named printed_of.written,
      )
  report_replays TurnQuestion other holds (EndsTurned at j) ends printed_of short =
      let starts : IsStart p (start_in p (layout_of o file) w) =
      printed_is_start o file text p found.2 b.unroll (j + 1) r w (record { state = holds.entry.state; choice = holds.choice }) holds.entry printed_of in
      let named = turning_is_named o file text p bytes found.2 b small within.points (start_in p (layout_of o file) w) starts.entry at j ends in (
        UnknownBy b.unroll at j,
        turning_replays o file p b.unroll w printed_of.written starts at j ends named short,
        printed_plain o file (is_known_at p) (UnknownBy b.unroll at j) w named printed_of.written,
      )
  report_replays FailQuestion other holds EndsAtEntry ends printed_of short = absurd ends
  report_replays FailQuestion other holds (EndsTurned at j) ends printed_of short = absurd ends
  report_replays TurnQuestion other holds EndsAtEntry ends printed_of short = absurd ends
  report_replays TurnQuestion other holds (EndsFailed event at j) ends printed_of short = absurd ends

-- the question is not that of entry states
other_kind : (q : framed.Question) (kind : Question) → program_question q ≡ Some kind → q ≢ framed.EntryQuestion → kind ≢ EntryQuestion
other_kind framed.EntryQuestion kind is other = absurd (other refl)
other_kind framed.FailQuestion kind is other = λ e. cc
other_kind framed.StepQuestion kind is other = λ e. cc
other_kind framed.TurnQuestion kind is other = λ e. cc

pub accepted_is_replayed : (s t : Surroundings) (o : Options) (content : List ℕ → List ℕ) (elf notes answer report : List ℕ) (kind : framed.Question)
    (b : Budget) (first status : ℕ) (e f : Evidence) → AreBytes (content elf) → IsReplayable b → kind ≢ framed.EntryQuestion →
    AreToldTo s content (Model o elf notes answer kind b) → IsOutcome s (Some (Model o elf notes answer kind b)) first e → ShowsRun e →
    IsPrinted s (line (codes "accepted") ++ content report) → length (content report) ≤ text_limit → AreToldTo t content (Replay o elf notes report) →
    Sufficed t status → IsOutcome t (Some (Replay o elf notes report)) status f →
    (n : NamedEnding) × Writes t status (line (codes "replayed " ++ named_line n))
accepted_is_replayed s t o content elf notes answer report kind b first status e f bytes small other told outcome shows written short told_too sufficed
    outcome_too =
    let called = model_written s o content elf notes answer kind b first e told outcome shows in
    let of = called.1 in
    let layout = layout_of o (content elf) in
    let text = ending_text layout b of.ending of.start in
    let whole_is : line (codes "accepted") ++ text ≡ line (codes "accepted") ++ content report =
    sym of.text_is ∙ printed_is s (line (codes "accepted") ++ content report) called.0.text written called.2 in
    let is : text ≡ content report = append_cancel_left (line (codes "accepted")) text (content report) whole_is in
    let replays = report_replays o (content elf) (content notes) bytes b small of.program of.found of.within of.reading of.start of.kind
    (other_kind kind of.kind of.asked other) of.is_true of.ending
    of.ends of.printed_of (subst (λ x. length x ≤ text_limit) (sym is) short) in (
      replays.0,
      replay_written t o content elf notes report status f of.program replays.0 of.found (subst (IsPlainReport o (content elf)) is replays.2)
          (ap (replay_answer of.program layout) (sym is) ∙ replays.1) told_too sufficed outcome_too,
    )
