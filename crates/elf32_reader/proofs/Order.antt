-- The order of the faults: a fault that applies is the first one where all of a lower rank do not apply.
use Rattle.std.proofs.Common.{◌≡◌, ℕ, suc, List, sym, ◌∙◌, subst, arith, inl, inr}
use Rattle.std.proofs.Math.Nat.{eq-or-lt_of_le}
use Rattle.bilv_spec.specs.ElfFaults.{FileFault, ShortFile, BadMagic, BadClass, BadData, BadVersion, BadType, BadMachine, BadHeaderTable, BadSegmentRange, BadFileSize, SegmentsOverlap, BadSymbolTable, FileFaultApplies, file_fault_rank, IsFirstFileFault, IsImage}
use Rattle.bilv_spec.proofs.Faults.{same_fault}
use Rattle.elf32_reader.specs.Refusals.{IsClear}

-- one fault more does not apply
pub clear_more : (file : List ℕ) (n : ℕ) (f : FileFault) → file_fault_rank f ≡ suc n → IsClear file n → ¬ FileFaultApplies file f → IsClear file (suc n)
clear_more file n f e clear fails g h applies =
    elim (eq-or-lt_of_le h) as (λ _. ⊥) [
      | inl same ↦ fails (subst (FileFaultApplies file) (same_fault g f (same ∙ sym e)) applies)
      | inr low ↦ clear g (omega arith) applies
    ]

-- the fault behind the first n that do not apply
pub first_after : (file : List ℕ) (n : ℕ) (f : FileFault) → file_fault_rank f ≡ suc n → IsClear file n → FileFaultApplies file f → IsFirstFileFault file f
first_after file n f e clear applies = (applies, λ g less. clear g (omega arith))

-- no fault at all
pub all_clear : (file : List ℕ) → IsClear file 12 → IsImage file
all_clear file clear ShortFile = clear ShortFile (omega arith)
all_clear file clear BadMagic = clear BadMagic (omega arith)
all_clear file clear BadClass = clear BadClass (omega arith)
all_clear file clear BadData = clear BadData (omega arith)
all_clear file clear BadVersion = clear BadVersion (omega arith)
all_clear file clear BadType = clear BadType (omega arith)
all_clear file clear BadMachine = clear BadMachine (omega arith)
all_clear file clear BadHeaderTable = clear BadHeaderTable (omega arith)
all_clear file clear BadSegmentRange = clear BadSegmentRange (omega arith)
all_clear file clear BadFileSize = clear BadFileSize (omega arith)
all_clear file clear SegmentsOverlap = clear SegmentsOverlap (omega arith)
all_clear file clear BadSymbolTable = clear BadSymbolTable (omega arith)
