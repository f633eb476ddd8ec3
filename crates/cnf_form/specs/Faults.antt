-- The faults that errors name.
use Rattle.std.specs.Prelude.{◌≡◌}
use Rattle.clause_spec.specs.CertificateGrammar as grammar
use Rattle.clause_spec.specs.CertificateGrammar.{CnfAnswer, RefusedAt}
use Rattle.cnf_form.specs.declared.fault.CnfFault.{CnfFault}
use Rattle.cnf_form.specs.declared.fault.CnfFault.TheVariants.{Token, Header, Variable, Count, Proof}
use Rattle.cnf_form.specs.declared.fault.CnfError.{CnfError}
use Rattle.cnf_form.specs.declared.fault.CnfError.TheVariants.{Refused, Memory}

-- a fault
abbrev pub fault_of : CnfFault → grammar.CnfFault
fault_of Token = grammar.TokenFault
fault_of Header = grammar.HeaderFault
fault_of Variable = grammar.VariableFault
fault_of Count = grammar.CountFault
fault_of Proof = grammar.ProofFault

-- the error is the refusal that a text has; want of memory is none
abbrev pub IsRefusal : CnfAnswer → CnfError → Type 0
IsRefusal answer (Refused line fault) = answer ≡ RefusedAt line (fault_of fault)
IsRefusal answer Memory = Unit {0}
