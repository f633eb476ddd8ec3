-- What a call says of a function whose notes have contracts.
use Rattle.std.specs.Prelude.{ℕ, ◌≢◌, All, List, [], Some, codes}
use Rattle.answer_laws.specs.Replayed.{AreBytes}
use Rattle.answer_laws.specs.Told.{AreToldTo}
use Rattle.answer_laws.specs.TwoCalls.{IsPrinted}
use Rattle.answer_spec.specs.FrameAnswers.{IsFrameFound}
use Rattle.answer_spec.specs.Outcomes.{IsOutcome}
use Rattle.bilv_spec.specs.Files.{layout_of}
use Rattle.bilv_spec.specs.Verdict.{IsEntryState, IsStart, RunExits}
use Rattle.call_spec.specs.Calls.{Budget, Evidence, Options, Surroundings}
use Rattle.command_spec.specs.Commands.{Verify}
use Rattle.frame_spec.specs.FrameVerdict.{Whole}
use Rattle.frame_spec.specs.Theorems.{IsContracted, ExitsByFrames}
use Rattle.frame_texts_spec.specs.CallTextLaws.{HasContracts}
use Rattle.machine_spec.specs.Endings.{Start}
use Rattle.notes_lang.specs.Framed.{IsContractOver}
use Rattle.notes_value.specs.Reads.{AreOver, AreReadable, IsReadableContract}
use Rattle.word_spec.specs.State.{State}
use Rattle.word_spec.specs.Texts.{line}

-- What notes that were read have of their machine: their lines and those of their contracts read its registers and flags alone, and contracts change no others; so
-- what they may change can be written in state texts.
pub record IsOfMachine (o : Options) (file : List ℕ) (w : Whole) : Type 0 where
  pub readable : AreReadable w.program.machine.has_register w.program.notes
  pub over : AreOver w.program.machine.has_register w.program.machine.has_flag w.program.notes
  pub contracts : All (IsReadableContract w.program.machine.has_register) w.contracts
  pub changes : All (IsContractOver w.program.machine.has_register w.program.machine.has_flag) w.contracts
  pub written : HasContracts (layout_of o file) w

abbrev pub WholesAreOfMachine : Type 0
WholesAreOfMachine = (o : Options) (file text : List ℕ) (w : Whole) → IsFrameFound o file text w → IsOfMachine o file w

-- Where they have contracts, they have all that is asked of the frames of contracts: lawful rows and no invariants among it.
abbrev pub WholesAreContracted : Type 0
WholesAreContracted =
    (o : Options) (file text : List ℕ) (w : Whole) → AreBytes file → IsFrameFound o file text w → w.contracts ≢ [] → IsContracted w

-- There is an entry state, and every run of the tables from each of them, whatever its choices, exits without an event: the calls of contracts on it meet what they
-- need, come back to the address that they pushed, in a state that meets what they give, and changed only what they may.
pub record AreKept (w : Whole) : Type 0 where
  pub entered : (s : State) × IsEntryState w.program s
  pub kept : (start : Start) → IsStart w.program start → ExitsByFrames w start
  pub exits : (start : Start) → IsStart w.program start → (bound : ℕ) × RunExits w.program bound start

-- where a call over files that are told, whose notes have contracts, wrote that the function holds, with status 0, it is so
abbrev pub FramesMean : Type 0
FramesMean =
    (s : Surroundings) (o : Options) (content : List ℕ → List ℕ) (elf notes : List ℕ) (b : Budget) (e : Evidence) (w : Whole) → AreBytes (content elf) →
    AreToldTo s content (Verify o elf notes b) → IsFrameFound o (content elf) (content notes) w → w.contracts ≢ [] →
    IsOutcome s (Some (Verify o elf notes b)) 0 e → IsPrinted s (line (codes "holds")) → AreKept w
