use Rattle.std.proofs.Common.{◌≡◌, drop}
use Rattle.suite_report.specs.Objects.{behind_word}
use Rattle.suite_report.proofs.json.behind_word.Given as goal

abbrev pub invariant-loop-i : goal.invariant-loop-i
invariant-loop-i l = behind_word (drop l.i l.text) ≡ behind_word l.text
