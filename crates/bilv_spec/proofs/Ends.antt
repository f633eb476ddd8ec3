-- A run from an entry state ends: the number of backward transfers and then the address rise, and both are bounded.
use Rattle.std.proofs.Common.{inl, inr, ℕ, zero, suc, ◌+◌, ◌*◌, ◌≤◌, ◌<◌, sym, subst, arith}
use Rattle.bilv_spec.specs.Run.{Program, Run, Going, Exited, Failed, Turned, run, one_more, IsOver}
use Rattle.machine_spec.specs.Endings.{Start}
use Rattle.bilv_spec.specs.Points.{Point}
use Rattle.bilv_spec.specs.Verdict.{IsEntryState}
use Rattle.bilv_spec.specs.Questions.{by_file, point_of}
use Rattle.bilv_spec.specs.PointLaws.{HasLawfulRows, ReadsMemory, ComesBefore}
use Rattle.bilv_spec.proofs.PointOrder.{Between, one_later}
use Rattle.bilv_spec.proofs.PointRuns.{Stands, stands}
use Rattle.bilv_spec.proofs.FileWords.{runs_by_file}

-- after n steps at least n pairs of a number of transfers and an address are passed
abbrev Passed : ℕ → Run → Type 0
Passed n (Going turns m c) = n ≤ turns * 4294967296 + c.state.pc
Passed n x = Unit {0}

passed_by : (n t u a b : ℕ) → n ≤ t * 4294967296 + a → a < 4294967296 → t < u → suc n ≤ u * 4294967296 + b
passed_by n t u a b h l m = omega arith

passed_on : (n : ℕ) (x y : Point) → n ≤ x.turns * 4294967296 + x.at → x.at < 4294967296 → ComesBefore x y → suc n ≤ y.turns * 4294967296 + y.at
passed_on n x y h l (inl m) = passed_by n x.turns y.turns x.at y.at h l m
passed_on n x y h l (inr m) = let e = m.0 in let g = m.1 in omega arith

module _ (p : Program) (k : ℕ) where
  more : (n : ℕ) (x y : Run) → Passed n x → Stands p k x → Between x y → Passed (suc n) y
  more n (Going turns m c) (Going later o d) h s b = passed_on n (point_of turns c) (point_of later d) h s.1.pc b
  more n x (Exited at m) h s b = tt
  more n x (Failed e at m) h s b = tt
  more n x (Turned at m) h s b = tt
  more n (Exited at m) (Going later o d) h s b = absurd b
  more n (Failed e at m) (Going later o d) h s b = absurd b
  more n (Turned at m) (Going later o d) h s b = absurd b

  ended : (x : Run) → Passed (suc k * 4294967296) x → Stands p k x → IsOver x
  ended (Going turns m c) h s = let l = s.1.pc in let w = s.2 in absurd (omega arith)
  ended (Exited at m) h s = tt
  ended (Failed e at m) h s = tt
  ended (Turned at m) h s = tt

  module _ (lawful : HasLawfulRows p) (start : Start) (is : IsEntryState p start.state) where
    all : (n : ℕ) → Stands p k (run (by_file p) k start n)
    all n = stands p k lawful start is.state is.pc n

    passed : (n : ℕ) → Passed n (run (by_file p) k start n)
    unfolding run
    passed zero = omega arith
    passed (suc n) = more n (run (by_file p) k start n) (one_more (by_file p) k start (run (by_file p) k start n)) (passed n) (all n)
        (one_later (by_file p) k start (run (by_file p) k start n))

    pub over_by_file : (steps : ℕ) × IsOver (run (by_file p) k start steps)
    over_by_file = (suc k * 4294967296, ended (run (by_file p) k start (suc k * 4294967296)) (passed (suc k * 4294967296)) (all (suc k * 4294967296)))

pub runs_end : (p : Program) → HasLawfulRows p → ReadsMemory p → (k : ℕ) (start : Start) → IsEntryState p start.state → (steps : ℕ) ×
    IsOver (run p k start steps)
runs_end p lawful memory k start is =
    let o = over_by_file p k lawful start is in
    (o.0, subst IsOver (sym (runs_by_file p lawful memory k start is o.0)) o.1)
