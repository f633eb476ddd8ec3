-- What a start of one of two functions comes to.
use Rattle.std.specs.Prelude.{ℕ, ◌≡◌, true, List, Option, Some, None}
use Rattle.std.specs.Global.{Vec}
use Rattle.word_spec.specs.State.{State}
use Rattle.machine_spec.specs.Machine.{is_place}
use Rattle.machine_spec.specs.Endings as runs
use Rattle.machine_spec.specs.StateText.{IsWritten}
use Rattle.bilv_spec.specs.Run.{Program}
use Rattle.bilv_spec.specs.Points.{is_known_at}
use Rattle.bilv_spec.specs.EntryFaults.{IsEntryStateFault, false_require}
use Rattle.bilv_spec.specs.Answers.{start_in}
use Rattle.pair_spec.specs.Differs.{exit_at}
use Rattle.start_value.specs.Starts.{layout_of, written_of}
use Rattle.start_value.specs.declared.start.Start.{Start}
use Rattle.table_run.specs.Endings.{fault_of, IsLinesFault}
use Rattle.pair_sides.specs.Sides.{IsSided, program_of_side}
use Rattle.pair_sides.specs.declared.sides.Sided.{Sided}
use Rattle.difference_replay.specs.Probes.{values_on}
use Rattle.difference_replay.specs.declared.probes.Half.{Half}
use Rattle.difference_replay.specs.declared.probes.Probe.{Probe}
use Rattle.difference_replay.specs.declared.sides.Entered.{Entered}
use Rattle.difference_replay.specs.declared.sides.Entered.TheVariants.{Values, Faulty}

-- the start of a side
abbrev pub start_of_side : Sided → Start → runs.Start
start_of_side side start = start_in (program_of_side side) (layout_of side.layout) (written_of start)

-- a side, and a start that is written for it
pub record IsBegun (side : Sided) (start : Start) : Type 0 where
  pub sided : IsSided side
  pub written : IsWritten (layout_of side.layout) (is_known_at (program_of_side side)) (written_of start)

-- an entry state has these values at the places of a half, or the state has this first fault
abbrev pub IsEntered : Half → Program → State → List Probe → Entered → Type 0
IsEntered half p s probes (Values v) =
    (is_place p.machine.narrow (s.regs p.machine.link) ≡ true) × (false_require p s ≡ None) × (v.items ≡ values_on half s probes)
IsEntered half p s probes (Faulty f) = IsLinesFault f × IsEntryStateFault p s (fault_of f)

-- the run exits by the step of a number in a state that has these values at the places of a half, or in none
abbrev pub IsLeft : Half → Program → runs.Start → ℕ → List Probe → Option (Vec ℕ) → Type 0
IsLeft half p start number probes (Some v) = (s : State) × (exit_at p start number ≡ Some s) × (v.items ≡ values_on half s probes)
IsLeft half p start number probes None = exit_at p start number ≡ None
