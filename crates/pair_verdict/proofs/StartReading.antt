-- The reading of a start: at each point it takes the choice of the step at which the start's run meets the point.
use Rattle.std.proofs.Common.{◌≡◌, inl, inr, ℕ, zero, suc, ◌+◌, ◌-◌, ◌<◌, refl, ap, sym, ◌∙◌, subst, arith, Bool, true, false}
use Rattle.std.specs.Prelude.{if◌then◌else◌, nat_lt}
use Rattle.std.proofs.lemmas.Bool.Decides.{nat_tests}
use Rattle.bilv_spec.specs.Run.{Program, Run, Going, Exited, Failed, Turned, Place, run, IsOver}
use Rattle.machine_spec.specs.Endings.{Start}
use Rattle.bilv_spec.specs.Points.{Point}
use Rattle.bilv_spec.specs.Questions.{Reading, by_file, point_of}
use Rattle.bilv_spec.specs.QuestionLaws.{Follows}
use Rattle.bilv_spec.specs.PointLaws.{ComesBefore}
use Rattle.bilv_spec.proofs.Pigeons.{truth}
use Rattle.bilv_spec.proofs.Over.{over_stays}
use Rattle.bilv_spec.proofs.PointOrder.{runs_rise}
use Rattle.bilv_spec.proofs.PointTests.{same_point, same_point_is, same_point_self}
use Rattle.bilv_spec.proofs.ReadingRuns.{Numbered, numbered}

not_before_itself : (x y : Point) → x ≡ y → ComesBefore x y → ⊥
not_before_itself x y e (inl h) = let t : x.turns ≡ y.turns = ap (λ z. z.turns) e in absurd (omega arith)
not_before_itself x y e (inr h) = let t : x.at ≡ y.at = ap (λ z. z.at) e in let l = h.1 in absurd (omega arith)

module _ (p : Program) (k : ℕ) (start : Start) where
  abbrev if_met : Run → Point → ℕ → ℕ
  if_met (Going turns n c) q else_choice = if same_point (point_of turns c) q then start.choices n else else_choice
  if_met over q else_choice = else_choice

  -- the choice that the run takes at a point, if it meets it in its first steps
  pub choice_at : ℕ → Point → ℕ
  choice_at zero q = 0
  choice_at (suc n) q = if_met (run p k start n) q (choice_at n q)

  test_small : (b : Bool) (x y : ℕ) → x < 4 → y < 4 → (if b then x else y) < 4
  test_small true x y h g = h
  test_small false x y h g = g

  small_by : ((i : ℕ) → start.choices i < 4) → (r : Run) (q : Point) (c : ℕ) → c < 4 → if_met r q c < 4
  small_by s (Going turns n c) q d h = test_small (same_point (point_of turns c) q) (start.choices n) d (s n) h
  small_by s (Exited at n) q d h = h
  small_by s (Failed e at n) q d h = h
  small_by s (Turned at n) q d h = h

  small : ((i : ℕ) → start.choices i < 4) → (n : ℕ) (q : Point) → choice_at n q < 4
  unfolding choice_at
  small s zero q = omega arith
  small s (suc n) q = small_by s (run p k start n) q (choice_at n q) (small s n q)

  met_now : (n turns m : ℕ) (c : Place) (d : ℕ) → run p k start n ≡ Going turns m c → m ≡ n → if_met (run p k start n) (point_of turns c) d ≡ start.choices n
  met_now n turns m c d e f =
      ap (λ z. if_met z (point_of turns c) d) e ∙ ap (λ z. if z then start.choices m else d) (same_point_self (point_of turns c)) ∙ ap start.choices f

  not_met : (r : Run) (q : Point) (d : ℕ) → ((turns m : ℕ) (c : Place) → r ≡ Going turns m c → point_of turns c ≡ q → ⊥) → if_met r q d ≡ d
  not_met (Going turns n c) q d h = elim (truth (same_point (point_of turns c) q)) [
    | inl t ↦ absurd (h turns n c refl (same_point_is (point_of turns c) q t))
    | inr f ↦ ap (λ z. if z then start.choices n else d) f
  ]
  not_met (Exited at n) q d h = refl
  not_met (Failed e at n) q d h = refl
  not_met (Turned at n) q d h = refl

  chosen : (most n turns m : ℕ) (c : Place) → n < most → run p k start n ≡ Going turns m c → choice_at most (point_of turns c) ≡ start.choices n
  unfolding choice_at
  chosen zero n turns m c h e = absurd (omega arith)
  chosen (suc most) n turns m c h e = elim (truth (nat_lt n most)) [
    | inl t ↦ (let l : n < most = grind (arith, nat_tests) in
        not_met (run p k start most) (point_of turns c) (choice_at most (point_of turns c))
        (λ later o d f same. not_before_itself (point_of turns c) (point_of later d) (sym same) (runs_rise p k start n most l turns m later o c d e f))
        ∙ chosen most n turns m c l e)
    | inr f ↦ (let s : most ≡ n = grind (arith, nat_tests) in
        let at : m ≡ n = subst (Numbered n) e (numbered p k start n) in
        ap (λ z. if_met (run p k start z) (point_of turns c) (choice_at most (point_of turns c))) s ∙ met_now n turns m c
        (choice_at most (point_of turns c)) e at)
  ]

  not_going : (r : Run) (turns m : ℕ) (c : Place) → IsOver r → r ≡ Going turns m c → ⊥
  not_going r turns m c o e = subst IsOver e o

-- the reading of a start whose run is over after some steps
abbrev pub reading_of : Program → ℕ → Start → ℕ → Reading
reading_of p k start steps = record { state = start.state; choice = choice_at (by_file p) k start steps }

pub reading_small : (p : Program) (k : ℕ) (start : Start) (steps : ℕ) → ((i : ℕ) → start.choices i < 4) → (q : Point) → (reading_of p k start steps).choice q < 4
reading_small p k start steps s q = small (by_file p) k start s steps q

pub reading_follows : (p : Program) (k : ℕ) (start : Start) (steps : ℕ) → IsOver (run (by_file p) k start steps) → Follows p k (reading_of p k start steps) start
reading_follows p k start steps over = record {
  state = refl;
  choices = λ n turns c e. elim (truth (nat_lt n steps)) [
    | inl t ↦ sym (chosen (by_file p) k start steps n turns n c (grind (arith, nat_tests)) e)
    | inr f ↦ (let l : n - steps + steps ≡ n = grind (arith, nat_tests) in
        absurd (not_going (by_file p) k start (run (by_file p) k start steps) turns n c over
        (sym (over_stays (by_file p) k start steps (n - steps) (run (by_file p) k start steps) over refl) ∙ ap (run (by_file p) k start) l ∙ e)))
  ];
}
