use Rattle.std.proofs.Common.{◌≡◌, ◌+◌, ◌*◌, map}
use Rattle.clause_spec.specs.Clauses.{valuation}
use Rattle.word_spec.specs.RowFiles.{from_to}
use Rattle.term_spec.specs.ClauseForm.{bits_from}
use Rattle.frame_start.proofs.inputs.registers_from.Given as goal

abbrev pub invariant-loop-i : goal.invariant-loop-i
invariant-loop-i l = l.registers.items ≡ map (λ q. bits_from (valuation l.values) (l.first + 32 * q) 32) (from_to 0 l.i)
