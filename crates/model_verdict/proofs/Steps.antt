-- The run of a reading that makes a question true, beside its walk.
use Rattle.std.proofs.Common.{◌≡◌, inl, inr, ℕ, zero, suc, ◌+◌, ◌-◌, ◌<◌, ◌≤◌, Bool, true, false, [], length, refl, ap, sym, ◌∙◌, subst, arith}
use Rattle.std.specs.Prelude.{if◌then◌else◌}
use Rattle.std.proofs.lemmas.Bool.{cases_lt}
use Rattle.call_spec.specs.Calls.{Question}
use Rattle.machine_spec.specs.StateText.{Layout}
use Rattle.bilv_spec.specs.Run.{Program, Place, Run, Going, Exited, Failed, Turned, IsOver, run}
use Rattle.bilv_spec.specs.Points.{is_known_at}
use Rattle.bilv_spec.specs.Questions.{Reading, IsTrue, by_file, point_of, read_run}
use Rattle.bilv_spec.proofs.AskedBytes.{true_over}
use Rattle.bilv_spec.proofs.Over.{over_stays, one_end}
use Rattle.bilv_spec.proofs.ReadingRuns.{Numbered, followed, follows, numbered, start_of}
use Rattle.walk_spec.specs.Unrolled.{Carried, UnrolledProgram, Walk, WalkIsAt, WalkExits, WalkFails, WalkTurns, point_at, walk, ExitsLeadLater}
use Rattle.walk_spec.specs.Sweep.{Held, met_below, swept}
use Rattle.term_spec.proofs.Asked.{asked_is_right}
use Rattle.walk_spec.proofs.SweepWalk.{sweep_is_walk}
use Rattle.walk_spec.proofs.WalkOrder.{places_rise}
use Rattle.walk_laws.specs.RunOfWalk.{IsSame}
use Rattle.walk_laws.proofs.WalkRuns.{walk_is_run}
use Rattle.verdict.specs.Grounds.{IsGround}

-- ---- the run of a reading ends once

module _ (p : Program) (k : ℕ) (r : Reading) where
  as_start : (n : ℕ) → run (by_file p) k (start_of p k r) n ≡ read_run p k r n
  as_start n = followed p k r (start_of p k r) (follows p k r) n

  pub read_numbered : (n : ℕ) → Numbered n (read_run p k r n)
  read_numbered n = subst (Numbered n) (as_start n) (numbered (by_file p) k (start_of p k r) n)

  pub read_one_end : (i j : ℕ) (x y : Run) → IsOver x → IsOver y → read_run p k r i ≡ x → read_run p k r j ≡ y → x ≡ y
  read_one_end i j x y a b e f = one_end (by_file p) k (start_of p k r) i j x y a b (as_start i ∙ e) (as_start j ∙ f)

  -- a step at which it goes on comes before one at which it has ended
  pub before_end : (i j turns m : ℕ) (c : Place) → read_run p k r i ≡ Going turns m c → IsOver (read_run p k r j) → i < j
  before_end i j turns m c e over = elim (cases_lt i j) [
    | inl l ↦ l
    | inr l ↦ absurd (
        let back : i - j + j ≡ i = omega (arith, l) in
        let stay = over_stays (by_file p) k (start_of p k r) j (i - j) (read_run p k r j) over (as_start j) in
        let same : Going turns m c ≡ read_run p k r j = sym e ∙ sym (as_start i) ∙ ap (run (by_file p) k (start_of p k r)) (sym back) ∙ stay in
        subst IsOver (sym same) over)
  ]

-- ---- the walk of a reading of which a question is true

-- a place that is met, with as many below it as steps were made
pub record MetAt (u : UnrolledProgram) (r : Reading) (n turns : ℕ) (d : Place) : Type 0 where
  pub place : ℕ
  pub within : place < length u.points
  pub point : (point_at u place).point ≡ point_of turns d
  pub met : (swept u r).met place ≡ true
  pub below : met_below (swept u r) place ≡ n

module _ (p : Program) (k : ℕ) (layout : Layout) (u : UnrolledProgram) (ground : IsGround p k layout u) (question : Question) (r : Reading)
    (is_true : IsTrue p k r question) where
  -- it is the run
  pub same_run : (n : ℕ) → IsSame p u (walk u r n) (read_run p k r n)
  same_run n =
      let asked = asked_is_right p k u ground.unrolling [] (λ b c. absurd (omega (arith, c.1))) in
      walk_is_run p ground.lawful k u ground.unrolling (is_known_at p) (λ a i is l. asked.0 _ (asked.1 a i is l)) r is_true.choice
      (true_over p (is_known_at p) k r question (λ a h. h) is_true).entry n

  rises : (0 < length u.points) × ExitsLeadLater u
  rises = places_rise p k u ground.unrolling

  -- where the run goes on, the walk is at the place of its point
  at_place : (x : Walk) (turns m : ℕ) (d : Place) → IsSame p u x (Going turns m d) → (i : ℕ) × (e : Carried) × (x ≡ WalkIsAt i e) × (i < length u.points) ×
      ((point_at u i).point ≡ point_of turns d)
  at_place (WalkIsAt i e) turns m d h = (i, e, refl, h.0, h.1)
  at_place WalkExits turns m d h = absurd h
  at_place (WalkFails e) turns m d h = absurd h
  at_place WalkTurns turns m d h = absurd h

  pub met_at : (n turns m : ℕ) (d : Place) → read_run p k r n ≡ Going turns m d → MetAt u r n turns d
  met_at n turns m d e =
      let at = at_place (walk u r n) turns m d (subst (λ (z : Run). IsSame p u (walk u r n) z) e (same_run n)) in
      let h = ((sweep_is_walk u rises.0 rises.1 r).2 n at.0 at.1).0 at.2 in
      record { place = at.0; within = at.3; point = at.4; met = h.1; below = h.3 }

  few_below : (h : Held) (n : ℕ) → met_below h n ≤ n
  few_below h zero = omega arith
  few_below h (suc n) = by (h.met n) (few_below h n)
    where
      by : (b : Bool) → met_below h n ≤ n → (if b then met_below h n + 1 else met_below h n) ≤ suc n
      by true l = omega arith
      by false l = omega arith

  over_by : (x : Run) → ((turns m : ℕ) (d : Place) → x ≡ Going turns m d → ⊥) → IsOver x
  over_by (Going turns m d) h = absurd (h turns m d refl)
  over_by (Exited at m) h = tt
  over_by (Failed e at m) h = tt
  over_by (Turned at m) h = tt

  -- after as many steps as there are points the run has ended
  pub has_ended : (n : ℕ) → length u.points ≤ n → IsOver (read_run p k r n)
  has_ended n l = over_by (read_run p k r n) (λ turns m d e.
      let at = met_at n turns m d e in
      let few = few_below (swept u r) at.place in
      omega (arith, l, at.within, at.below, few))

  -- the run is at the point of a place that is met
  at_point : (n i : ℕ) (e : Carried) (x : Run) → IsSame p u (WalkIsAt i e) x → Numbered n x → (turns : ℕ) × (d : Place) × (x ≡ Going turns n d) ×
      ((point_at u i).point ≡ point_of turns d)
  at_point n i e (Going turns m d) h is = (turns, d, ap (λ z. Going turns z d) is, h.1)
  at_point n i e (Exited at m) h is = absurd h
  at_point n i e (Failed x at m) h is = absurd h
  at_point n i e (Turned at m) h is = absurd h

  pub run_at : (i : ℕ) → i < length u.points → (swept u r).met i ≡ true → (turns : ℕ) × (d : Place) ×
      (read_run p k r (met_below (swept u r) i) ≡ Going turns (met_below (swept u r) i) d) × ((point_at u i).point ≡ point_of turns d)
  run_at i l met =
      let n = met_below (swept u r) i in
      let e = ((sweep_is_walk u rises.0 rises.1 r).2 n i ((swept u r).carried i)).1 (l, met, refl, refl) in
      at_point n i ((swept u r).carried i) (read_run p k r n) (subst (λ (z : Walk). IsSame p u z (read_run p k r n)) e (same_run n)) (read_numbered p k r n)
