-- How a call and the program end.
use Rattle.std.specs.Prelude.{ℕ, ◌≡◌, List, Option}
use Rattle.call_spec.specs.Outside.{Appends}
use Rattle.call_spec.specs.Calls.{Answer, Budget, Evidence, Options, Surroundings}
use Rattle.answer_spec.specs.Outcomes.{IsOutcome}
use Rattle.answer_laws.specs.Completeness.{Answers}
use Rattle.command_line.specs.Lines.{lawful_command}

-- The answer to two files and options, by what they are, was written whole, and its status and its evidence are those of the call. There is one such
-- answer, but for the run that it shows.
abbrev pub AreAnswered : Options → (file text : List ℕ) → Budget → (before after : Option (List ℕ)) → (status : ℕ) → Evidence → Type 0
AreAnswered o file text b before after status evidence =
    (a : Answer) × Answers o file text b a × (status ≡ a.status) × (evidence ≡ a.evidence) × Appends before a.text after

-- the outcome for the words of a command line, with some evidence
abbrev pub IsProgramEnd : Surroundings → (words : List (List ℕ)) → (status : ℕ) → Type 0
IsProgramEnd s words status = (evidence : Evidence) × IsOutcome s (lawful_command words) status evidence
