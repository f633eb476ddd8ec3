use Rattle.std.proofs.Common.{◌≡◌, drop}
use Rattle.suite_report.specs.Objects.{place_word}
use Rattle.suite_report.proofs.json.place_word.Given as goal

abbrev pub invariant-loop-i : goal.invariant-loop-i
invariant-loop-i l = place_word (drop l.i l.text) ≡ place_word l.text
