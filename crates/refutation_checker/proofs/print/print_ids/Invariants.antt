use Rattle.std.proofs.Common.{◌≡◌, ◌++◌, drop, map}
use Rattle.word_spec.specs.Texts.{number_text, joined}
use Rattle.clause_spec.specs.Certificates.{to_zero}
use Rattle.refutation_checker.proofs.print.print_ids.Given as goal

abbrev pub invariant-loop-id : goal.invariant-loop-id
invariant-loop-id l = l.out.items ++ joined (to_zero (map number_text (drop l.id-index l.ids))) ≡ l.fn.out.items ++ joined (to_zero (map number_text l.ids))
