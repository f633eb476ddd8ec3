-- Where a run exits.
use Rattle.std.specs.Prelude.{ℕ, ◌≡◌, ◌+◌}
use Rattle.word_spec.specs.State.{State}
use Rattle.machine_spec.specs.Endings.{Start}
use Rattle.bilv_spec.specs.Run.{Program, Place, Going, Exits, run, step}

-- The run goes on from some place after so many steps, and exits in a state by the next one. It may make one backward transfer more than there are steps, so that
-- it is never over for these.
pub record IsExit (p : Program) (start : Start) (number : ℕ) (s : State) : Type 0 where
  pub turns : ℕ
  pub place : Place
  pub before : run p (number + 1) start number ≡ Going turns number place
  pub leaves : step p start.state place (start.choices number) ≡ Exits s

-- it exits in no state by that step
abbrev pub IsNoExit : Program → Start → ℕ → Type 0
IsNoExit p start number =
    (turns n : ℕ) (place : Place) (s : State) → run p (number + 1) start number ≡ Going turns n place → step p start.state place (start.choices n) ≡ Exits s → ⊥
