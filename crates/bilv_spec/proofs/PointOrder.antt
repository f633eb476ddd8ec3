-- The number of backward transfers and then the address rise along edges and along runs.
use Rattle.std.proofs.Common.{◌≡◌, inl, inr, ℕ, zero, suc, ◌+◌, ◌-◌, ◌<◌, refl, ap, sym, ◌∙◌, subst, arith, List, Bool, true, false}
use Rattle.std.specs.Prelude.{nat_le, ◌==◌, if◌then◌else◌}
use Rattle.std.proofs.lemmas.Bool.Decides.{nat_tests}
use Rattle.bilv_spec.specs.Run.{Program, Run, Going, Exited, Failed, Turned, Place, Step, Stops, Arrives, Exits, run, one_more, after_step, arrive, turn, step}
use Rattle.machine_spec.specs.Endings.{Start}
use Rattle.bilv_spec.specs.Points.{Point, end_of}
use Rattle.bilv_spec.specs.Questions.{point_of}
use Rattle.bilv_spec.specs.PointLaws.{ComesBefore}

abbrev by : Bool → Point → List ℕ → ℕ → Point
by b point stack a = record { turns = (if b then point.turns + 1 else point.turns); stack = stack; at = a }

rises_by : (point : Point) (stack : List ℕ) (a : ℕ) (b : Bool) → nat_le a point.at ≡ b → ComesBefore point (by b point stack a)
rises_by point stack a true e = inl (omega arith)
rises_by point stack a false e = inr (refl, grind (arith, nat_tests))

pub edges_rise : (point : Point) (stack : List ℕ) (a : ℕ) → ComesBefore point (end_of point stack a)
edges_rise point stack a = rises_by point stack a (nat_le a point.at) refl

pub before_trans : (x y z : Point) → ComesBefore x y → ComesBefore y z → ComesBefore x z
before_trans x y z (inl a) (inl b) = inl (omega arith)
before_trans x y z (inl a) (inr b) = let e = b.0 in inl (omega arith)
before_trans x y z (inr a) (inl b) = let e = a.0 in inl (omega arith)
before_trans x y z (inr a) (inr b) = inr (a.0 ∙ b.0, (let u = a.1 in let v = b.1 in omega arith))

-- where a run that goes on came from a place at an address, the point that it meets comes later
abbrev pub Later : Point → Run → Type 0
Later x (Going turns n c) = ComesBefore x (point_of turns c)
Later x y = Unit {0}

turned_later : (k turns n : ℕ) (x : Point) (c : Place) (b : Bool) → x.turns ≡ turns → Later x (turn b turns n x.at c)
turned_later k turns n x c true e = tt
turned_later k turns n x c false e = inl (omega arith)

arrived_later : (k turns n : ℕ) (x : Point) (c : Place) (b : Bool) → nat_le c.state.pc x.at ≡ b → x.turns ≡ turns → Later x (arrive b k turns n x.at c)
arrived_later k turns n x c true t e = turned_later k turns n x c (turns == k) e
arrived_later k turns n x c false t e = inr (e, grind (arith, nat_tests))

stepped_later : (k turns n : ℕ) (x : Point) (s : Step) → x.turns ≡ turns → Later x (after_step k turns n x.at s)
stepped_later k turns n x (Stops v) e = tt
stepped_later k turns n x (Exits s) e = tt
stepped_later k turns n x (Arrives c) e = arrived_later k turns n x c (nat_le c.state.pc x.at) refl e

-- the later of two runs has the later point
abbrev pub Between : Run → Run → Type 0
Between (Going turns n c) y = Later (point_of turns c) y
Between x (Going turns n c) = ⊥
Between x y = Unit {0}

module _ (p : Program) (k : ℕ) (start : Start) where
  pub one_later : (x : Run) → Between x (one_more p k start x)
  one_later (Going turns n c) = stepped_later k turns n (point_of turns c) (step p start.state c (start.choices n)) refl
  one_later (Exited at n) = tt
  one_later (Failed e at n) = tt
  one_later (Turned at n) = tt

  join_later : (x : Point) (y z : Run) → Later x y → Between y z → Later x z
  join_later x (Going turns n c) (Going later m d) h g = before_trans x (point_of turns c) (point_of later d) h g
  join_later x y (Exited at n) h g = tt
  join_later x y (Failed e at n) h g = tt
  join_later x y (Turned at n) h g = tt
  join_later x (Exited at n) (Going later m d) h g = absurd g
  join_later x (Failed e at n) (Going later m d) h g = absurd g
  join_later x (Turned at n) (Going later m d) h g = absurd g

  later_on : (i d : ℕ) (x : Point) → Later x (run p k start (suc i)) → Later x (run p k start (d + suc i))
  unfolding run
  later_on i zero x h = subst (λ (z : ℕ). Later x (run p k start z)) (let e : suc i ≡ 0 + suc i = omega arith in e) h
  later_on i (suc d) x h =
      subst (λ (z : ℕ). Later x (run p k start z)) (let e : suc (d + suc i) ≡ suc d + suc i = omega arith in e)
      (join_later x (run p k start (d + suc i)) (run p k start (suc (d + suc i))) (later_on i d x h) (one_later (run p k start (d + suc i))))

  next_later : (i turns n : ℕ) (c : Place) → run p k start i ≡ Going turns n c → Later (point_of turns c) (run p k start (suc i))
  unfolding run
  next_later i turns n c e = subst (λ (z : Run). Later (point_of turns c) (one_more p k start z)) (sym e) (one_later (Going turns n c))

  pub runs_rise : (i j : ℕ) → i < j → (turns n later m : ℕ) (c d : Place) → run p k start i ≡ Going turns n c → run p k start j ≡ Going later m d →
      ComesBefore (point_of turns c) (point_of later d)
  runs_rise i j h turns n later m c d e f =
      subst (Later (point_of turns c))
      (ap (run p k start) (let s : (j - suc i) + suc i ≡ j = omega arith in s) ∙ f)
      (later_on i (j - suc i) (point_of turns c) (next_later i turns n c e))
