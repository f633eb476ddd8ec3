-- What reports over frames say of runs of the tables.
use Rattle.std.specs.Prelude.{ℕ}
use Rattle.machine_spec.specs.Endings.{Start}
use Rattle.machine_spec.specs.StateText.{Layout}
use Rattle.call_spec.specs.Calls.{Budget}
use Rattle.bilv_spec.specs.Verdict.{IsStart, RunFails}
use Rattle.bilv_spec.specs.PointLaws.{HasLawfulRows, ReadsMemory}
use Rattle.frame_spec.specs.FrameVerdict.{Whole}
use Rattle.frame_spec.specs.Theorems.{IsContracted, ExitsByFrames}
use Rattle.frame_spec.specs.FrameReports.{HoldsReport, PartialReport, Evidence, IsRightReport}

-- Where the right report is holds, every run of the tables from every entry state exits, and each call of a contract on it is kept.
abbrev pub HoldsMeans : Type 0
HoldsMeans = (w : Whole) → IsContracted w → (layout : Layout) (b : Budget) (e : Evidence) → IsRightReport w layout b HoldsReport e →
    (start : Start) → IsStart w.program start → ExitsByFrames w start

-- Where it is partial, no run of the tables from an entry state, however long, has an event.
abbrev pub PartialMeans : Type 0
PartialMeans = (w : Whole) → HasLawfulRows w.program → ReadsMemory w.program → (layout : Layout) (b : Budget) (e : Evidence) →
    IsRightReport w layout b PartialReport e → (start : Start) → IsStart w.program start → (bound : ℕ) → ¬ RunFails w.program bound start
