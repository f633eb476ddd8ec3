-- Without invariants the question about head states is true of nothing.
use Rattle.std.proofs.Common.{◌≡◌, ℕ, sym, ◌∙◌, ap, arith, true, false, List, [], ◌∷◌, Option, Some, None}
use Rattle.std.specs.Prelude.{slice_get}
use Rattle.answer_laws.specs.Invariants.{StepIsFalse}
use Rattle.answer_spec.specs.FrameAnswers.{AfterFrame, ByQuestion, asked_rank}
use Rattle.answer_spec.proofs.CallReplays.{no_head, of_rank}
use Rattle.bilv_spec.specs.Certified.{IsCertified}
use Rattle.call_spec.specs.Calls.{Answer, Budget, Evidence, Question}
use Rattle.call_spec.specs.Framed.{StepQuestion}
use Rattle.frame_spec.specs.Frames.{Contract, Frame}
use Rattle.frame_spec.specs.FrameCertified.{IsFrameCertified, points, size, conflicts, satisfiable, certified}
use Rattle.frame_spec.specs.FrameQuestions.{IsSatisfiable}
use Rattle.frame_spec.specs.FrameVerdict.{Whole, frame_of}

-- no head state is at a head
never_true : (f : Frame) (k : ℕ) → f.invariants ≡ [] → ¬ IsSatisfiable f k StepQuestion
never_true f k none (r, is) =
    let head = is.ends.3.head in
    let z : true ≡ false = sym head ∙ no_head f is.ends.1 none in cc

never : (w : Whole) (rank : ℕ) (b : Budget) (status : ℕ) (written : List ℕ) (e : Evidence) → ¬ IsSatisfiable (frame_of w rank) b.unroll StepQuestion →
    IsFrameCertified w rank b StepQuestion status written e → status ≡ 1 → ⊥
never w rank b _ _ _ none (points more) is = omega (arith, is)
never w rank b _ _ _ none (size price few is_price above) is = omega (arith, is)
never w rank b _ _ _ none (conflicts proof within spends) is = omega (arith, is)
never w rank b _ _ _ none (satisfiable within shown) is = none shown
never w rank b _ _ _ none (certified proof within unmet refutes) is = omega (arith, is)

-- it is asked of the frame
of_frame : (invariants : List ℕ) (contracts : List Contract) (Due : Question → Type 0) (Other : Type 0) → ByQuestion invariants contracts None Due Other → Other
of_frame [] [] Due Other h = h
of_frame [] (x ∷ rest) Due Other h = h
of_frame (n ∷ rest) contracts Due Other h = h

module _ (w : Whole) (none : w.invariants ≡ []) (b : Budget) (a : Answer) where
  abbrev Next : ℕ → Type 0
  Next rank =
      ByQuestion w.invariants w.contracts None (λ kind. IsCertified w.program b kind a.status a.text a.evidence)
      (IsFrameCertified w rank b StepQuestion a.status a.text a.evidence)

  by_rank : (o : Option ℕ) → AfterFrame o Next a → a.status ≡ 1 → ⊥
  by_rank None is one = let e = ap (λ (x : Answer). x.status) is in omega (arith, e, one)
  by_rank (Some rank) is one =
      never w rank b a.status a.text a.evidence (never_true (frame_of w rank) b.unroll (of_rank w rank (slice_get w.contracts rank) none))
      (of_frame w.invariants w.contracts (λ kind. IsCertified w.program b kind a.status a.text a.evidence)
      (IsFrameCertified w rank b StepQuestion a.status a.text a.evidence) is) one

pub step_is_false : StepIsFalse
step_is_false o file text w found none b a frame due is = by_rank w none b a (asked_rank w frame) due is
