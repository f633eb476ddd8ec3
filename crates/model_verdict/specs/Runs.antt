-- The run of a reading, and the start that is printed of it.
use Rattle.std.specs.Prelude.{ℕ, ◌≡◌, ◌≤◌, ◌<◌, ◌+◌, ◌^◌, All, true, List, Contains}
use Rattle.word_spec.specs.Memory.{byte_in}
use Rattle.word_spec.specs.State.{Written}
use Rattle.machine_spec.specs.StateText.{Layout, AreRising, last_step}
use Rattle.bilv_spec.specs.Run.{Program, Place, Going, IsOver}
use Rattle.bilv_spec.specs.Points.{file_row}
use Rattle.bilv_spec.specs.Questions.{Reading, IsReading, IsTrue, point_of, read_run}
use Rattle.bilv_spec.specs.Answers.{start_in}
use Rattle.bilv_spec.specs.Scripts.{draws}
use Rattle.call_spec.specs.Calls.{Question}
use Rattle.machine_law.specs.Facts.{IsFit}
use Rattle.model_spec.specs.Models.{DrawsAt, Ending, EndsAtEntry, EndsFailed, EndsTurned, IsEndOf, IsPrinted, all_reads, last_of, steps_of}
use Rattle.start_value.specs.Starts.{written_of}
use Rattle.state_text.specs.Starts.{event_of}
use Rattle.table_run.specs.Traces as traces
use Rattle.table_run.specs.Traces.{AreListed, ComesTo}
use Rattle.table_run.specs.declared.tracing.Traced.{Traced}
use Rattle.model_verdict.specs.declared.judged.End.{End}
use Rattle.model_verdict.specs.declared.judged.End.TheVariants as ends
use Rattle.model_verdict.specs.declared.judged.Judged.{Judged}
use Rattle.model_verdict.specs.declared.judged.Judged.TheVariants.{Accepted, Refused, Untrue}

-- The choices of a run, by their steps: where it draws, the choice is that of the point; no other is listed.
pub record AreRunChoices (p : Program) (k : ℕ) (r : Reading) (xs : List (ℕ × ℕ)) : Type 0 where
  pub within : All (λ x. (x.0 ≤ last_step) × (1 ≤ x.1) × (x.1 ≤ 3)) xs
  pub rise : AreRising xs
  pub each : (n turns : ℕ) (c : Place) → read_run p k r n ≡ Going turns n c → draws (file_row p c.state.pc) ≡ true → byte_in xs n ≡ r.choice (point_of turns c)
  pub only : (i c : ℕ) → Contains xs (i, c) → DrawsAt p k r i c

-- A start has the registers and flags of a reading that makes a question true, whose memory has these bytes where the file gives none.
pub record IsStartBy (p : Program) (layout : Layout) (k : ℕ) (question : Question) (w : Written) (fill : ℕ) (bytes : List (ℕ × ℕ)) (r : Reading) : Type 0 where
  pub reading : IsReading r
  pub is_true : IsTrue p k r question
  pub fit : IsFit layout w
  pub words : All (λ v. v < 2 ^ 32) w.regs
  pub regs : r.state.regs ≡ (start_in p layout w).state.regs
  pub flags : r.state.flags ≡ (start_in p layout w).state.flags
  pub mem : traces.IsOver p fill bytes r.state.mem

-- So it has, with the choices of the reading's run, which ends within so many steps.
pub record IsRunBy (p : Program) (layout : Layout) (k limit : ℕ) (question : Question) (w : Written) (fill : ℕ) (bytes : List (ℕ × ℕ))
    (r : Reading) : Type 0 where
  pub start : IsStartBy p layout k question w fill bytes r
  pub choices : AreRunChoices p k r w.choices
  pub ended : IsOver (read_run p k r limit)

-- The run of a reading comes to an ending, and these are the bytes that it and the require lines read, but for those that the file gives and for those that are
-- 0.
pub record IsTracedBy (p : Program) (k limit : ℕ) (r : Reading) (t : Traced) : Type 0 where
  pub comes : ComesTo (read_run p k r) limit t.ending
  pub bytes : AreListed p r.state.mem (all_reads p k r (traces.last_of t.ending + 1)) t.bytes.items
  pub rise : AreRising t.bytes.items

-- how the run of a start ends
abbrev pub ending_of : End → Ending
ending_of ends.AtEntry = EndsAtEntry
ending_of (ends.Failed event at step) = EndsFailed (event_of event) at step
ending_of (ends.Turned at step) = EndsTurned at step

-- the start is printed of a reading, and ends as the question asks
pub record IsShown (p : Program) (layout : Layout) (k : ℕ) (question : Question) (r : Reading) (end : End) (w : Written) : Type 0 where
  pub ends : IsEndOf p k (start_in p layout w) question (ending_of end)
  pub printed : IsPrinted p layout k r (steps_of question (last_of (ending_of end))) w

-- what is judged is that
abbrev pub IsShownAs : Program → Layout → (k : ℕ) → Question → Reading → Judged → Type 0
IsShownAs p layout k question r (Accepted end start) = IsShown p layout k question r end (written_of start)
IsShownAs p layout k question r Untrue = ⊥
IsShownAs p layout k question r (Refused line kind) = ⊥

-- a reading is judged: the question is not true of it, or the start shows that it is
abbrev pub IsFound : Program → Layout → (k : ℕ) → Question → Reading → Judged → Type 0
IsFound p layout k question r (Accepted end start) = IsTrue p k r question × IsShown p layout k question r end (written_of start)
IsFound p layout k question r Untrue = ¬ IsTrue p k r question
IsFound p layout k question r (Refused line kind) = ⊥
