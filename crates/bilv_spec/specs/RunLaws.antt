-- Laws of runs and verdicts.
use Rattle.std.specs.Prelude.{ℕ, ◌≡◌}
use Rattle.bilv_spec.specs.Run.{Program, Run, IsOver, run}
use Rattle.machine_spec.specs.Endings.{Start}
use Rattle.bilv_spec.specs.Verdict.{Verdict, IsRight}

-- a program has at most one right verdict
abbrev pub OneVerdict : Type 0
OneVerdict = (p : Program) (k : ℕ) (v w : Verdict) → IsRight p k v → IsRight p k w → v ≡ w

-- a run has at most one end
abbrev pub OneEnd : Type 0
OneEnd = (p : Program) (k : ℕ) (start : Start) (i j : ℕ) (r t : Run) → IsOver r → IsOver t → run p k start i ≡ r → run p k start j ≡ t → r ≡ t
