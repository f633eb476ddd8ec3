-- A file has at most one first fault.
use Rattle.std.proofs.Common.{◌≡◌, ℕ, zero, suc, ◌<◌, refl, ap, sym, ◌∙◌, arith, List}
use Rattle.bilv_spec.specs.ElfFaults.{FileFault, ShortFile, BadMagic, BadClass, BadData, BadVersion, BadType, BadMachine, BadHeaderTable, BadSegmentRange, BadFileSize, SegmentsOverlap, BadSymbolTable, file_fault_rank, IsFirstFileFault}

-- the fault of a rank
abbrev of_rank : ℕ → FileFault
of_rank (suc zero) = ShortFile
of_rank (suc (suc zero)) = BadMagic
of_rank (suc (suc (suc zero))) = BadClass
of_rank (suc (suc (suc (suc zero)))) = BadData
of_rank (suc (suc (suc (suc (suc zero))))) = BadVersion
of_rank (suc (suc (suc (suc (suc (suc zero)))))) = BadType
of_rank (suc (suc (suc (suc (suc (suc (suc zero))))))) = BadMachine
of_rank (suc (suc (suc (suc (suc (suc (suc (suc zero)))))))) = BadHeaderTable
of_rank (suc (suc (suc (suc (suc (suc (suc (suc (suc zero))))))))) = BadSegmentRange
of_rank (suc (suc (suc (suc (suc (suc (suc (suc (suc (suc zero)))))))))) = BadFileSize
of_rank (suc (suc (suc (suc (suc (suc (suc (suc (suc (suc (suc zero))))))))))) = SegmentsOverlap
of_rank n = BadSymbolTable

ranked : (f : FileFault) → of_rank (file_fault_rank f) ≡ f
ranked ShortFile = refl
ranked BadMagic = refl
ranked BadClass = refl
ranked BadData = refl
ranked BadVersion = refl
ranked BadType = refl
ranked BadMachine = refl
ranked BadHeaderTable = refl
ranked BadSegmentRange = refl
ranked BadFileSize = refl
ranked SegmentsOverlap = refl
ranked BadSymbolTable = refl

same_rank : (a b : ℕ) → (a < b → ⊥) → (b < a → ⊥) → a ≡ b
same_rank zero zero p q = refl
same_rank zero (suc b) p q = absurd (p (omega arith))
same_rank (suc a) zero p q = absurd (q (omega arith))
same_rank (suc a) (suc b) p q = ap suc (same_rank a b (λ x. p (omega arith)) (λ x. q (omega arith)))

pub one_fault : (file : List ℕ) (f g : FileFault) → IsFirstFileFault file f → IsFirstFileFault file g → f ≡ g
one_fault file f g a b =
    sym (ranked f) ∙ ap of_rank (same_rank (file_fault_rank f) (file_fault_rank g) (λ less. b.1 f less a.0) (λ less. a.1 g less b.0)) ∙ ranked g

-- the rank tells the fault
pub same_fault : (f g : FileFault) → file_fault_rank f ≡ file_fault_rank g → f ≡ g
same_fault f g e = sym (ranked f) ∙ ap of_rank e ∙ ranked g
