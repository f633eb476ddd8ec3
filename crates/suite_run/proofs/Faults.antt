-- The faults of suites.
use Rattle.std.proofs.Common.{◌≡◌, ℕ, List, Bool, true, false, Option, Some, None, is_some, refl, sym}
use Rattle.std.proofs.lemmas.Bool.{false≢true}
use Rattle.suite_file.specs.Suites.{Read, Refused, Fault}
use Rattle.suite_file.specs.Views.{IsFaultOf, fault_of}
use Rattle.suite_file.specs.declared.fault.SuiteFault.{SuiteFault}
use Rattle.suite_file.specs.declared.fault.SuiteFault.TheVariants as code

-- each error but want of memory is a fault of the text
pub told_unless : (e : SuiteFault) → (e ≡ code.Memory → ⊥) → true ≡ is_some (fault_of e)
told_unless (code.NotToml x) h = refl
told_unless (code.UnknownKey p k) h = refl
told_unless (code.WrongType p k) h = refl
told_unless (code.Missing p k) h = refl
told_unless code.Empty h = refl
told_unless (code.RepeatedName n) h = refl
told_unless code.Memory h = absurd (h refl)

pub fault_found : {A : Type 0} (r : Read A) (o : Option Fault) → is_some o ≡ true → IsFaultOf r o → (f : Fault) × (r ≡ Refused f)
fault_found r None some h = absurd (false≢true some)
fault_found r (Some f) some h = (f, h)
