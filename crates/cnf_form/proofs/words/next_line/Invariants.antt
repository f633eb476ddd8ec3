use Rattle.std.proofs.Common.{◌≡◌, take, true}
use Rattle.std.specs.List.{list_all}
use Rattle.clause_spec.proofs.PrintedWords.{in_line}
use Rattle.cnf_form.proofs.words.next_line.Given as goal

abbrev pub invariant-loop-i : goal.invariant-loop-i
invariant-loop-i l = list_all in_line (take l.i l.text) ≡ true
