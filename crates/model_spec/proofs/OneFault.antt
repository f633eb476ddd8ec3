-- A text has at most one first fault, and an answer has none.
use Rattle.std.proofs.Common.{◌≡◌, ℕ, zero, suc, ◌≤◌, refl, ap, sym, ◌∙◌, subst, arith}
use Rattle.model_spec.specs.ModelText.{ModelFault, ModelFaultApplies, AnswerFault, SyntaxFault, SortFault, TwiceFault, fault_rank}
use Rattle.model_spec.specs.ModelLaws.{OneModelFault}

-- the fault of a rank
abbrev fault_of : ℕ → ModelFault
fault_of zero = AnswerFault
fault_of (suc zero) = AnswerFault
fault_of (suc (suc zero)) = SyntaxFault
fault_of (suc (suc (suc zero))) = SortFault
fault_of (suc (suc (suc (suc n)))) = TwiceFault

ranked : (f : ModelFault) → fault_of (fault_rank f) ≡ f
ranked AnswerFault = refl
ranked SyntaxFault = refl
ranked SortFault = refl
ranked TwiceFault = refl

both_ways : (m n : ℕ) → m ≤ n → n ≤ m → m ≡ n
both_ways m n h k = omega (arith, h, k)

pub one_model_fault : OneModelFault
one_model_fault declared text n m f g ds first = (
  (λ other.
      let lines : n ≡ m = both_ways n m (first.first m g other.applies) (other.first n f first.applies) in
      let ranks : fault_rank f ≡ fault_rank g = both_ways (fault_rank f) (fault_rank g)
      (first.least g (subst (λ (z : ℕ). ModelFaultApplies declared text z g) (sym lines) other.applies))
      (other.least f (subst (λ (z : ℕ). ModelFaultApplies declared text z f) lines first.applies)) in
      (lines, sym (ranked f) ∙ ap fault_of ranks ∙ ranked g)),
  (λ answer. answer.none n f first.applies),
)
