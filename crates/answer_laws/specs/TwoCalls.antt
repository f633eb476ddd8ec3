-- What two calls answer, of which the second reads what the first one printed.
use Rattle.std.specs.Prelude.{ℕ, ◌≡◌, ◌≢◌, ◌≤◌, ◌^◌, ◌++◌, List, Option, Some, codes, length}
use Rattle.answer_laws.specs.Completeness.{ShowsRun}
use Rattle.answer_laws.specs.Replayed.{AreBytes, IsReplayable}
use Rattle.call_spec.specs.Framed.{EntryQuestion, Question}
use Rattle.call_spec.specs.Calls.{Budget, Evidence, Options, Surroundings}
use Rattle.clause_spec.specs.Certificates.{certificate_text}
use Rattle.clause_spec.specs.Refutation.{Proof}
use Rattle.command_spec.specs.Commands.{Verify, Replay, Certify, Check, Model}
use Rattle.answer_spec.specs.Outcomes.{IsOutcome}
use Rattle.call_spec.specs.Outside.{Rose, Appends}
use Rattle.clause_spec.specs.Checks.{text_limit}
use Rattle.machine_spec.specs.Endings.{NamedEnding, named_line}
use Rattle.word_spec.specs.Texts.{joined, line}
use Rattle.frame_texts_spec.specs.CallTexts.{CallEnding, call_ending_words}
use Rattle.answer_laws.specs.Told.{AreToldTo}

-- a call of a command wrote this text whole, with status 0
abbrev pub Writes : Surroundings → (status : ℕ) → List ℕ → Type 0
Writes s status text = (status ≡ 0) × Appends s.text_before text s.text_after

-- no write of a call failed, and memory sufficed
abbrev pub Sufficed : Surroundings → (status : ℕ) → Type 0
Sufficed s status = (status ≡ 7 → ¬ Rose s.sink_before s.sink_after) × (status ≢ 8)

-- the text of a name's file is what a call wrote
abbrev pub IsPrinted : Surroundings → (text : List ℕ) → Type 0
IsPrinted s text = (before : List ℕ) × (s.text_before ≡ Some before) × (s.text_after ≡ Some (before ++ text))

-- What a call that certifies wrote with status 0 is the certificate of a proof, and a call that checks it accepts it, within the bounds of the grammar and the
-- limit of bytes.
abbrev pub CertificateIsAccepted : Type 0
CertificateIsAccepted =
    (s t : Surroundings) (o : Options) (content : List ℕ → List ℕ) (elf notes name : List ℕ) (kind : Question) (frame : Option (List ℕ)) (b : Budget)
    (status : ℕ) (e f : Evidence) →
    IsOutcome s (Some (Certify o elf notes kind frame b)) 0 e → IsPrinted s (content name) →
    (proof : Proof) × (content name ≡ certificate_text proof.clauses proof.log)
    × (proof.clauses.variables ≤ 2 ^ 30 → length proof.clauses.clauses ≤ 2 ^ 30 → length (content name) ≤ text_limit →
    AreToldTo t content (Check name) → Sufficed t status → IsOutcome t (Some (Check name)) status f → Writes t status (line (codes "accepted")))

-- The report that a call that verifies wrote, where it shows a run or a segment, is replayed by a call over the same files, within the limit of bytes.
abbrev pub ReportIsReplayed : Type 0
ReportIsReplayed =
    (s t : Surroundings) (o : Options) (content : List ℕ → List ℕ) (elf notes report : List ℕ) (b : Budget) (first status : ℕ) (e f : Evidence) →
    AreBytes (content elf) → IsReplayable b → AreToldTo s content (Verify o elf notes b) → IsOutcome s (Some (Verify o elf notes b)) first e → ShowsRun e →
    IsPrinted s (content report) → length (content report) ≤ text_limit → AreToldTo t content (Replay o elf notes report) → Sufficed t status →
    IsOutcome t (Some (Replay o elf notes report)) status f →
    (n : CallEnding) × Writes t status (line (codes "replayed " ++ joined (call_ending_words n)))

-- What a call that judges an answer wrote behind its first line, where it shows a run, is a report, which is replayed by a call over the same files, within the
-- limit of bytes. The question is not that of entry states, whose start has no run.
abbrev pub AcceptedIsReplayed : Type 0
AcceptedIsReplayed =
    (s t : Surroundings) (o : Options) (content : List ℕ → List ℕ) (elf notes answer report : List ℕ) (kind : Question) (b : Budget) (first status : ℕ)
    (e f : Evidence) → AreBytes (content elf) → IsReplayable b → kind ≢ EntryQuestion → AreToldTo s content (Model o elf notes answer kind b) →
    IsOutcome s (Some (Model o elf notes answer kind b)) first e → ShowsRun e → IsPrinted s (line (codes "accepted") ++ content report) →
    length (content report) ≤ text_limit → AreToldTo t content (Replay o elf notes report) → Sufficed t status →
    IsOutcome t (Some (Replay o elf notes report)) status f →
    (n : NamedEnding) × Writes t status (line (codes "replayed " ++ named_line n))
