-- A run that goes on has met as many points as it made steps, each once.
use Rattle.std.proofs.Common.{◌≡◌, ◌⊎◌, inl, inr, ℕ, zero, suc, ◌+◌, ◌-◌, ◌<◌, ◌≤◌, refl, ap, sym, ◌∙◌, subst, arith, List, [], ◌∷◌, length, Some}
use Rattle.std.specs.Prelude.{Contains}
use Rattle.bilv_spec.specs.Run.{Program, Run, Going, Exited, Failed, Turned, Place, run, one_more, IsOver}
use Rattle.machine_spec.specs.Endings.{Start}
use Rattle.bilv_spec.specs.Points.{Point, IsPoint, ArePoints, HasMore}
use Rattle.bilv_spec.specs.Verdict.{IsEntryState}
use Rattle.bilv_spec.specs.Questions.{by_file, point_of}
use Rattle.bilv_spec.specs.Reports.{found, found_by, found_going}
use Rattle.bilv_spec.specs.Answers.{EndsAs}
use Rattle.bilv_spec.specs.PointLaws.{HasLawfulRows, ReadsMemory, ComesBefore}
use Rattle.bilv_spec.proofs.Pigeons.{Once, at_in}
use Rattle.bilv_spec.proofs.AllPoints.{no_more_points}
use Rattle.bilv_spec.proofs.PointOrder.{before_trans, Between, one_later}
use Rattle.bilv_spec.proofs.PointRuns.{Stands, stands}
use Rattle.bilv_spec.proofs.FileWords.{runs_by_file}

not_before_itself : (x y : Point) → x ≡ y → ComesBefore x y → ⊥
not_before_itself x y e (inl h) = let t : x.turns ≡ y.turns = ap (λ z. z.turns) e in absurd (omega arith)
not_before_itself x y e (inr h) = let t : x.at ≡ y.at = ap (λ z. z.at) e in let l = h.1 in absurd (omega arith)

head_or_tail : (x : Point) (xs : List Point) (y : Point) → Contains (x ∷ xs) y → (x ≡ y) ⊎ Contains xs y
head_or_tail x xs y (zero, h, e) = inl e
head_or_tail x xs y (suc i, h, e) = inr (i, omega arith, e)

-- a point that a list doesn't have can be put before it
once_more : (x : Point) (xs : List Point) → Once xs → (Contains xs x → ⊥) → Once (x ∷ xs)
once_more x xs once new zero zero l h e = absurd (omega arith)
once_more x xs once new zero (suc j) l h e = new (at_in xs j x (sym e))
once_more x xs once new (suc i) zero l h e = absurd (omega arith)
once_more x xs once new (suc i) (suc j) l h e = once i j (omega arith) (omega arith) e

module _ (p : Program) (k : ℕ) where
  -- so many points, each once, all before the one at which a run goes on
  record Met (n : ℕ) (turns m : ℕ) (c : Place) : Type 0 where
    list : List Point
    count : length list ≡ n
    points : (q : Point) → Contains list q → IsPoint p k q
    once : Once list
    before : (q : Point) → Contains list q → ComesBefore q (point_of turns c)

  -- what a run has met after so many steps, where it goes on
  abbrev HasMet : ℕ → Run → Type 0
  HasMet n (Going turns m c) = Met n turns m c
  HasMet n x = Unit {0}

  meets : (n turns m later o : ℕ) (c d : Place) → Met n turns m c → IsPoint p k (point_of turns c) → ComesBefore (point_of turns c) (point_of later d) →
      Met (suc n) later o d
  meets n turns m later o c d h is b = record {
    list = point_of turns c ∷ h.list;
    count = ap suc h.count;
    points = λ q i. elim (head_or_tail (point_of turns c) h.list q i) [ inl e ↦ subst (IsPoint p k) e is | inr t ↦ h.points q t ];
    once = once_more (point_of turns c) h.list h.once (λ i. not_before_itself (point_of turns c) (point_of turns c) refl (h.before (point_of turns c) i));
    before = λ q i. elim (head_or_tail (point_of turns c) h.list q i) [
      | inl e ↦ subst (λ (z : Point). ComesBefore z (point_of later d)) e b
      | inr t ↦ before_trans q (point_of turns c) (point_of later d) (h.before q t) b
    ];
  }

  more : (n : ℕ) (x y : Run) → HasMet n x → Stands p k x → Between x y → HasMet (suc n) y
  more n (Going turns m c) (Going later o d) h s b = meets n turns m later o c d h s.0 b
  more n x (Exited at m) h s b = tt
  more n x (Failed e at m) h s b = tt
  more n x (Turned at m) h s b = tt
  more n (Exited at m) (Going later o d) h s b = absurd b
  more n (Failed e at m) (Going later o d) h s b = absurd b
  more n (Turned at m) (Going later o d) h s b = absurd b

  -- a run that goes on after so many steps has met more points than that
  has_more : (n turns m : ℕ) (c : Place) → Met n turns m c → IsPoint p k (point_of turns c) → HasMore p k n
  has_more n turns m c h is =
      let l : n < length (point_of turns c ∷ h.list) = let e = h.count in omega arith in (
        point_of turns c ∷ h.list,
        l,
        (λ q i. elim (head_or_tail (point_of turns c) h.list q i) [ inl e ↦ subst (IsPoint p k) e is | inr t ↦ h.points q t ]),
        once_more (point_of turns c) h.list h.once (λ i. not_before_itself (point_of turns c) (point_of turns c) refl (h.before (point_of turns c) i)),
      )

  ended : (n : ℕ) (x : Run) → HasMet n x → Stands p k x → ¬ HasMore p k n → IsOver x
  ended n (Going turns m c) h s few = few (has_more n turns m c h s.0)
  ended n (Exited at m) h s few = tt
  ended n (Failed e at m) h s few = tt
  ended n (Turned at m) h s few = tt

  module _ (lawful : HasLawfulRows p) (start : Start) (is : IsEntryState p start.state) where
    all : (n : ℕ) → Stands p k (run (by_file p) k start n)
    all n = stands p k lawful start is.state is.pc n

    none_yet : Met 0 0 0 (record { state = start.state; stack = [] })
    none_yet = record {
      list = [];
      count = refl;
      points = λ q i. absurd (let l = i.1 in omega arith);
      once = λ i j l h. absurd (omega arith);
      before = λ q i. absurd (let l = i.1 in omega arith);
    }

    met : (n : ℕ) → HasMet n (run (by_file p) k start n)
    unfolding run
    met zero = none_yet
    met (suc n) =
        more n (run (by_file p) k start n) (one_more (by_file p) k start (run (by_file p) k start n)) (met n) (all n)
        (one_later (by_file p) k start (run (by_file p) k start n))

    over_by_file : (n : ℕ) → ¬ HasMore p k n → IsOver (run (by_file p) k start n)
    over_by_file n few = ended n (run (by_file p) k start n) (met n) (all n) few

pub few_points_end_runs : (p : Program) → HasLawfulRows p → ReadsMemory p → (k : ℕ) (start : Start) → IsEntryState p start.state →
    (max : ℕ) → ¬ HasMore p k max → IsOver (run p k start max)
few_points_end_runs p lawful memory k start is max few =
    subst IsOver (sym (runs_by_file p lawful memory k start is max)) (over_by_file p k lawful start is max few)

pub runs_end_within : (p : Program) → HasLawfulRows p → ReadsMemory p → (k : ℕ) (start : Start) → IsEntryState p start.state →
    (points : List Point) → ArePoints p k points → IsOver (run p k start (length points))
runs_end_within p lawful memory k start is points are =
    few_points_end_runs p lawful memory k start is (length points)
    (no_more_points p k (length points) points are (let l : length points ≤ length points = omega arith in l))

found_over : (before behind : Run) → IsOver behind → found_by before behind ≡ found_going behind
found_over before (Going turns n c) over = absurd over
found_over before (Exited at n) over = refl
found_over before (Failed e at n) over = refl
found_over before (Turned at n) over = refl

pub few_points_are_found : (p : Program) → HasLawfulRows p → ReadsMemory p → (k : ℕ) (start : Start) → IsEntryState p start.state →
    (max : ℕ) → 1 ≤ max → ¬ HasMore p k max → (r : Run) × IsOver r × EndsAs p k start r × (found p (Some k) start (max - 1) ≡ found_going r)
few_points_are_found p lawful memory k start is max some few =
    let over = few_points_end_runs p lawful memory k start is max few in
    let last : max - 1 + 1 ≡ max = omega arith in (
      run p k start max,
      over,
      (max, refl),
      ap (λ n. found_by (run p k start (max - 1)) (run p k start n)) last ∙ found_over (run p k start (max - 1)) (run p k start max) over,
    )
