-- The causes and the refusal that an answer names.
use Rattle.std.specs.Prelude.{ℕ, Option, Some, None}
use Rattle.clause_spec.specs.Refutation as refutation
use Rattle.refutation_checker.specs.declared.cause.Cause.{Cause}
use Rattle.refutation_checker.specs.declared.cause.Cause.TheVariants.{NotOfGrammar, IdNotAbove, VariableAbove, Tautology, NegativeHint, UnknownHint, NotUnit, NoConflict, NoEmptyClause}
use Rattle.refutation_checker.specs.declared.cause.Checked.{Checked}
use Rattle.refutation_checker.specs.declared.cause.Checked.TheVariants.{Yes, No}

-- a cause
abbrev pub cause_of : Cause → refutation.Cause
cause_of NotOfGrammar = refutation.NotOfGrammar
cause_of IdNotAbove = refutation.IdNotAbove
cause_of VariableAbove = refutation.VariableAbove
cause_of Tautology = refutation.Tautology
cause_of NegativeHint = refutation.NegativeHint
cause_of UnknownHint = refutation.UnknownHint
cause_of NotUnit = refutation.NotUnit
cause_of NoConflict = refutation.NoConflict
cause_of NoEmptyClause = refutation.NoEmptyClause

-- the refusal that an answer names, if it isn't yes
abbrev pub refusal_of : Checked → Option (ℕ × refutation.Cause)
refusal_of Yes = None
refusal_of (No line cause) = Some (line, cause_of cause)
