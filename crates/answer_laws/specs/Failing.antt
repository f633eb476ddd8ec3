-- What a report that names an ending of the entry's own frame says of the run of the tables.
use Rattle.std.specs.Prelude.{ℕ, suc, ◌≡◌, None}
use Rattle.machine_spec.specs.Endings as endings
use Rattle.machine_spec.specs.Endings.{Event}
use Rattle.machine_spec.specs.StateText.{Layout}
use Rattle.call_spec.specs.Calls.{Budget}
use Rattle.bilv_spec.specs.Run as tables
use Rattle.bilv_spec.specs.Run.{Place}
use Rattle.bilv_spec.specs.Verdict.{IsStart}
use Rattle.frame_spec.specs.Frames.{FrameEvent, event_of}
use Rattle.frame_spec.specs.FrameReports.{NamedReport, ByEvent, ByTurn, Shown, ShownBy, IsRightReport, shown_start}
use Rattle.frame_spec.specs.FrameVerdict.{Whole, entry_frame}
use Rattle.frame_spec.specs.Theorems.{as_start}

-- the start of the tables that is shown
abbrev pub table_start : Whole → Layout → Shown → endings.Start
table_start w layout s = as_start (shown_start w (entry_frame w) layout s)

-- The run of the tables from the start that is shown, for enough backward transfers, ends at the address and the step in the event that is named; an invariant
-- that is false is a false assert line.
pub record TableFails (w : Whole) (layout : Layout) (s : Shown) (e : FrameEvent) (at step : ℕ) : Type 0 where
  pub start : IsStart w.program (table_start w layout s)
  pub bound : ℕ
  pub event : Event
  pub named : event_of (entry_frame w) event ≡ e
  pub fails : tables.run w.program bound (table_start w layout s) (suc step) ≡ tables.Failed event at step

-- It makes all steps up to the one that is named without an event and without the exit.
pub record TableGoesOn (w : Whole) (layout : Layout) (s : Shown) (step : ℕ) : Type 0 where
  pub start : IsStart w.program (table_start w layout s)
  pub bound : ℕ
  pub turns : ℕ
  pub place : Place
  pub goes : tables.run w.program bound (table_start w layout s) (suc step) ≡ tables.Going turns (suc step) place

-- Where notes with invariants or contracts are reported to fail, the shown state is an entry state whose run of the tables ends in the printed event.
abbrev pub FailsMean : Type 0
FailsMean =
    (w : Whole) (layout : Layout) (b : Budget) (e : FrameEvent) (at step : ℕ) (s : Shown) →
    IsRightReport w layout b (NamedReport (ByEvent e at step)) (ShownBy s) → TableFails w layout s e at step

-- Where a run from the entry is reported that makes one backward transfer too many, the run of the tables makes as many steps without an event or an exit.
abbrev pub TurnsMean : Type 0
TurnsMean =
    (w : Whole) (layout : Layout) (b : Budget) (at step : ℕ) (s : Shown) → s.head ≡ None →
    IsRightReport w layout b (NamedReport (ByTurn at step)) (ShownBy s) → TableGoesOn w layout s step
