-- A run by the words of the file meets points alone.
use Rattle.std.proofs.Common.{◌≡◌, ℕ, zero, suc, ◌+◌, ◌≤◌, refl, sym, subst, arith, [], Bool, true, false}
use Rattle.std.specs.Prelude.{Contains, nat_le, ◌==◌, if◌then◌else◌}
use Rattle.std.proofs.lemmas.Bool.Decides.{nat_tests}
use Rattle.word_spec.specs.State.{IsState}
use Rattle.bilv_spec.specs.Run.{Program, Run, Going, Exited, Failed, Turned, Place, Step, Stops, Arrives, Exits, step, run, one_more, after_step, arrive, turn}
use Rattle.machine_spec.specs.Endings.{Start}
use Rattle.bilv_spec.specs.Points.{Point, ToAddress, edges, IsPoint, first, next}
use Rattle.bilv_spec.specs.Questions.{by_file, point_of}
use Rattle.bilv_spec.specs.PointLaws.{HasLawfulRows, GoesAlong}
use Rattle.bilv_spec.proofs.PointSteps.{steps_along}

module _ (p : Program) (k : ℕ) where
  -- a run that goes on stands at a point, in a state
  abbrev pub Stands : Run → Type 0
  Stands (Going turns n c) = IsPoint p k (point_of turns c) × IsState c.state × (turns ≤ k)
  Stands x = Unit {0}

  abbrev by : Bool → Point → Place → Point
  by b q c = record { turns = (if b then q.turns + 1 else q.turns); stack = c.stack; at = c.state.pc }

  turned : (b : Bool) (n : ℕ) (q : Point) (c : Place) → (q.turns == k) ≡ b → q.turns ≤ k → IsState c.state →
      ((q.turns + 1 ≤ k) → IsPoint p k (by true q c)) → Stands (turn b q.turns n q.at c)
  turned true n q c e h ok f = tt
  turned false n q c e h ok f = let l : q.turns + 1 ≤ k = grind (arith, nat_tests) in (f l, ok, l)

  arrived : (b : Bool) (n : ℕ) (q : Point) (c : Place) → nat_le c.state.pc q.at ≡ b → q.turns ≤ k → IsPoint p k q → IsState c.state →
      Contains (edges p q) (ToAddress c.stack c.state.pc) →
      Stands (arrive b k q.turns n q.at c)
  arrived false n q c e h is ok edge =
      (subst (λ (z : Bool). (by z q c).turns ≤ k → IsPoint p k (by z q c)) e (λ l. next is edge l) h, ok, h)
  arrived true n q c e h is ok edge =
      turned (q.turns == k) n q c refl h ok (subst (λ (z : Bool). (by z q c).turns ≤ k → IsPoint p k (by z q c)) e (λ l. next is edge l))

  pub stepped : (n : ℕ) (q : Point) (s : Step) → q.turns ≤ k → IsPoint p k q → GoesAlong p q s → Stands (after_step k q.turns n q.at s)
  stepped n q (Stops e) h is g = tt
  stepped n q (Exits s) h is g = tt
  stepped n q (Arrives c) h is g = arrived (nat_le c.state.pc q.at) n q c refl h is g.1 g.0

  module _ (lawful : HasLawfulRows p) (start : Start) where
    one : (x : Run) → Stands x → Stands (one_more (by_file p) k start x)
    one (Going turns n c) h =
        stepped n (point_of turns c) (step (by_file p) start.state c (start.choices n)) h.2 h.0 (steps_along p lawful turns (start.choices n) start.state c h.1)
    one (Exited at n) h = tt
    one (Failed e at n) h = tt
    one (Turned at n) h = tt

    pub stands : IsState start.state → start.state.pc ≡ p.entry → (n : ℕ) → Stands (run (by_file p) k start n)
    unfolding run
    stands ok e zero = (subst (λ (z : ℕ). IsPoint p k (record { turns = 0; stack = []; at = z })) (sym e) first, ok, omega arith)
    stands ok e (suc n) = one (run (by_file p) k start n) (stands ok e n)

pub runs_meet_points : (p : Program) → HasLawfulRows p → (k : ℕ) (start : Start) → IsState start.state → start.state.pc ≡ p.entry →
    (steps turns n : ℕ) (c : Place) → run (by_file p) k start steps ≡ Going turns n c → IsPoint p k (point_of turns c)
runs_meet_points p lawful k start ok e steps turns n c h = (subst (Stands p k) h (stands p k lawful start ok e steps)).0
