use Rattle.std.proofs.Common.{◌≡◌, drop, map}
use Rattle.clause_spec.specs.Refutation.{judge_hints}
use Rattle.cnf_form.specs.Views.{hint_of}
use Rattle.refutation_checker.specs.Slots.{true_in, AreUpTo}
use Rattle.refutation_checker.specs.Entries.{look_up}
use Rattle.refutation_checker.proofs.judge.follow.Given as goal

abbrev pub invariant-loop-hint : goal.invariant-loop-hint
invariant-loop-hint l = record {
  same_rest : judge_hints (look_up l.entries) (true_in l.line l.names l.fn.slots) (map hint_of l.hints)
      ≡ judge_hints (look_up l.entries) (true_in l.line l.names l.slots) (map hint_of (drop l.hint-index l.hints));
  lines : AreUpTo l.line l.fn.slots → AreUpTo l.line l.slots;
}
