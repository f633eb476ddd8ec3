-- What is asked on demand is known, and has the literals.
use Rattle.std.proofs.Common.{◌≡◌, ◌⊎◌, inl, inr, refl, ap, sym, subst, arith, ℕ, zero, suc, ◌<◌, [], ◌∷◌, List, Bool, true, false}
use Rattle.std.specs.Prelude.{Contains, ◌==◌, ◌&&◌, ◌||◌, is_some, nat_eq}
use Rattle.std.specs.List.{list_any}
use Rattle.std.proofs.lemmas.Bool.{or_right}
use Rattle.std.proofs.lemmas.Bool.Decides.{nat_tests}
use Rattle.word_spec.specs.Words.{add}
use Rattle.bilv_spec.specs.Verdict.{fixed}
use Rattle.bilv_spec.specs.Points.{is_known_at}
use Rattle.bilv_spec.proofs.PointSteps.{same_number}
use Rattle.bilv_spec.proofs.PointTests.{any_is}
use Rattle.bilv_spec.proofs.FileWords.{all_kept_at}
use Rattle.term_spec.specs.WalkQuestions.{is_asked}
use Rattle.frame_spec.specs.Frames.{Contract, Frame}
use Rattle.frame_spec.specs.FrameWalk.{UnrolledProgram}
use Rattle.frame_spec.specs.FrameUnrolling.{IsUnrolling}
use Rattle.frame_laws.specs.RunOfFrame.{AsksKnown, AsksLiterals}
use Rattle.frame_terms.specs.FrameLayers.{FrameAskedIsRight}
use Rattle.frame_laws.proofs.FrameExits.{some_passes}

either : (a b : Bool) → (a || b) ≡ true → (a ≡ true) ⊎ (b ≡ true)
either true b h = inl refl
either false b h = inr h

equal_self : (a : ℕ) → (a == a) ≡ true
equal_self a = grind (arith, nat_tests)

below_four : (i : ℕ) → Contains (0 ∷ 1 ∷ 2 ∷ 3 ∷ []) i → i < 4
below_four i (zero, l, e) = subst (λ (z : ℕ). z < 4) e (omega arith)
below_four i (suc zero, l, e) = subst (λ (z : ℕ). z < 4) e (omega arith)
below_four i (suc (suc zero), l, e) = subst (λ (z : ℕ). z < 4) e (omega arith)
below_four i (suc (suc (suc zero)), l, e) = subst (λ (z : ℕ). z < 4) e (omega arith)
below_four i (suc (suc (suc (suc n))), l, e) = absurd (omega arith)

of_four : (i : ℕ) → i < 4 → Contains (0 ∷ 1 ∷ 2 ∷ 3 ∷ []) i
of_four zero l = (0, omega arith, refl)
of_four (suc zero) l = (1, omega arith, refl)
of_four (suc (suc zero)) l = (2, omega arith, refl)
of_four (suc (suc (suc zero))) l = (3, omega arith, refl)
of_four (suc (suc (suc (suc i)))) l = absurd (omega arith)

module _ (f : Frame) (contracts : List Contract) (k : ℕ) (u : UnrolledProgram) (un : IsUnrolling f contracts k u) (added : List ℕ)
    (are : (a : ℕ) → Contains added a → is_known_at f.program a ≡ true) where
  abbrev byte_at : ℕ → ℕ → Bool
  byte_at a l = list_any (λ i. a == add 32 l i) (0 ∷ 1 ∷ 2 ∷ 3 ∷ [])

  of_literal : (a : ℕ) → list_any (byte_at a) u.literals ≡ true → is_known_at f.program a ≡ true
  of_literal a h =
      let q = any_is (byte_at a) u.literals h in
      let i = any_is (λ i. a == add 32 q.0 i) (0 ∷ 1 ∷ 2 ∷ 3 ∷ []) q.2 in
      let at : a ≡ add 32 q.0 i.0 = same_number a (add 32 q.0 i.0) i.2 in
      let is = (un.literals q.0).0 q.1 in
      subst (λ (z : ℕ). is_known_at f.program z ≡ true) (sym at)
      (ap (λ z. z || (is_some (f.program.loaded (add 32 q.0 i.0)) && fixed f.program.notes.fixed (add 32 q.0 i.0)))
      (all_kept_at f.program q.0 i.0 is.is_kept (below_four i.0 i.1)))

  known : AsksKnown f (is_asked added u.literals)
  known a h = elim (either (list_any (nat_eq a) added) (list_any (byte_at a) u.literals) h) [
    | inl t ↦ (let q = any_is (nat_eq a) added t in are a (subst (λ (z : ℕ). Contains added z) (sym (same_number a q.0 q.2)) q.1))
    | inr t ↦ of_literal a t
  ]

  literals : AsksLiterals f k (is_asked added u.literals)
  literals a i is l =
      or_right (list_any (nat_eq (add 32 a i)) added) (list_any (byte_at (add 32 a i)) u.literals)
      (some_passes (byte_at (add 32 a i)) u.literals a ((un.literals a).1 is)
      (some_passes (λ j. add 32 a i == add 32 a j) (0 ∷ 1 ∷ 2 ∷ 3 ∷ []) i (of_four i l) (equal_self (add 32 a i))))

pub frame_asked_is_right : FrameAskedIsRight
frame_asked_is_right f contracts k u un added are = (known f contracts k u un added are, literals f contracts k u un added are)
