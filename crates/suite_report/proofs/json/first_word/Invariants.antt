use Rattle.std.proofs.Common.{◌≡◌, ◌++◌, drop, take}
use Rattle.suite_report.specs.Objects.{first_word}
use Rattle.suite_report.proofs.json.first_word.Given as goal

abbrev pub invariant-loop-i : goal.invariant-loop-i
invariant-loop-i l = take l.i l.text ++ first_word (drop l.i l.text) ≡ first_word l.text
