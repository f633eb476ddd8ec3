-- What is read of the text of a report over frames with contracts, as definitions see it.
use Rattle.std.specs.Prelude.{ℕ, Bool, if◌then◌else◌, List, [], ◌∷◌, filter, map, nat_eq}
use Rattle.std.specs.List.{list_any}
use Rattle.word_spec.specs.RowFiles.{from_to}
use Rattle.bilv_spec.specs.Files.{program_of}
use Rattle.bilv_spec.specs.Points.{is_kept_at, is_known_at}
use Rattle.bilv_spec.specs.Run.{Program}
use Rattle.machine_spec.specs.Machine.{Machine}
use Rattle.frame_spec.specs.Frames as frames
use Rattle.frame_spec.specs.FrameVerdict.{Whole}
use Rattle.frame_texts_spec.specs.CallTexts.{CallTold, CallIs, CallRefused, Changes}
use Rattle.notes_value.specs.FrameViews.{contract_of}
use Rattle.notes_value.specs.NoteViews.{notes_of}
use Rattle.notes_value.specs.declared.notes.Contract.{Contract}
use Rattle.notes_value.specs.declared.notes.Notes.{Notes}
use Rattle.call_text.specs.Blocks.{call_fault_of}
use Rattle.call_text.specs.Texts.{called_text_of, changes_of}
use Rattle.call_text.specs.declared.text.ContractChanges.{ContractChanges}
use Rattle.call_replay.specs.declared.judging.Refusal.{Refusal}
use Rattle.call_replay.specs.declared.reading.Reading.{Reading}
use Rattle.call_replay.specs.declared.reading.Reading.TheVariants.{State, Refused}

-- a program with contracts, and that of a file and notes
abbrev pub whole_with : Program → List Contract → Whole
whole_with p contracts = record { program = p; invariants = []; contracts = map contract_of contracts }

abbrev pub whole_by : Machine → (file : List ℕ) → Notes → List Contract → (entry : ℕ) → Whole
whole_by m file notes contracts entry = whole_with (program_of m file (notes_of notes) entry) contracts

-- what a contract may change
abbrev pub changes_in : frames.Contract → Changes
changes_in x = record {
  registers = filter (λ r. list_any (nat_eq r) x.registers) (from_to 0 32);
  flags = filter (λ f. list_any (nat_eq f) x.flags) (3 ∷ 2 ∷ 1 ∷ 0 ∷ []);
}

-- with its address, as the code has it
abbrev pub told_change : ContractChanges → ℕ × Changes
told_change c = (c.at, changes_of c)

abbrev pub said_of : Contract → ℕ × Changes
said_of x = (x.at, changes_in (contract_of x))

-- the bytes that are known where the run of a frame begins, of its own contract or of the function
abbrev pub known_in : Program → (own : Bool) → ℕ → Bool
known_in p own a = if own then is_kept_at p a else is_known_at p a

-- what is told
abbrev pub refusal_of : Refusal → CallTold
refusal_of r = CallRefused r.line (call_fault_of r.kind)

abbrev pub told_of : Reading → CallTold
told_of (State text) = CallIs (called_text_of text)
told_of (Refused r) = refusal_of r
