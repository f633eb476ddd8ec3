use Rattle.std.proofs.Common.{◌≡◌, ◌++◌, drop, map}
use Rattle.clause_spec.specs.Certificates.{to_zero, hint_text}
use Rattle.word_spec.specs.Texts.{joined}
use Rattle.cnf_form.specs.Views.{hint_of}
use Rattle.refutation_checker.proofs.print.print_hints.Given as goal

abbrev pub invariant-loop-hint : goal.invariant-loop-hint
invariant-loop-hint l = l.out.items ++ joined (to_zero (map hint_text (map hint_of (drop l.hint-index l.hints)))) ≡ l.fn.out.items
    ++ joined (to_zero (map hint_text (map hint_of l.hints)))
