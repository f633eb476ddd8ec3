use Rattle.std.proofs.Common.{◌≡◌, take, false}
use Rattle.clause_spec.specs.Clauses.{Literal}
use Rattle.clause_spec.specs.UnitPropagation.{negations}
use Rattle.clause_spec.specs.Refutation.{is_tautology}
use Rattle.refutation_checker.specs.Slots.{true_in, AreUpTo}
use Rattle.refutation_checker.proofs.slots.deny.Given as goal

abbrev pub invariant-loop-lit : goal.invariant-loop-lit
invariant-loop-lit l = record {
  values : (m : Literal) → true_in l.line l.names l.slots m ≡ negations (take l.lit-index l.clause) m;
  plain : is_tautology (take l.lit-index l.clause) ≡ false;
  lines : AreUpTo l.line l.fn.slots → AreUpTo l.line l.slots;
}
