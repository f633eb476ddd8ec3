-- The definitions' values that endings and faults stand for.
use Rattle.bilv_spec.specs.EntryFaults as faults
use Rattle.bilv_spec.specs.Reports as reports
use Rattle.state_text.specs.Starts.{event_of}
use Rattle.table_run.specs.declared.ending.EntryFault.{EntryFault}
use Rattle.table_run.specs.declared.ending.EntryFault.TheVariants as fault
use Rattle.table_run.specs.declared.ending.Ending.{Ending}
use Rattle.table_run.specs.declared.ending.Ending.TheVariants as ending

-- a fault
abbrev pub fault_of : EntryFault → faults.EntryStateFault
fault_of fault.Link = faults.UnalignedLink
fault_of (fault.Require line) = faults.FalseRequire line
fault_of (fault.Byte at) = faults.WrongByte at

-- an ending
abbrev pub found_of : Ending → reports.Found
found_of (ending.Exit at step) = reports.FoundExit at step
found_of (ending.Failed event at step) = reports.FoundEvent (event_of event) at step
found_of (ending.Turned at step) = reports.FoundTurn at step
found_of (ending.Left at step) = reports.FoundLeft at step

-- a fault that the bytes have no part in
abbrev pub IsLinesFault : EntryFault → Type 0
IsLinesFault (fault.Byte at) = ⊥
IsLinesFault other = Unit {0}
