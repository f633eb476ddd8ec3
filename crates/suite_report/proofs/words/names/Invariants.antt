use Rattle.std.proofs.Common.{◌≡◌, drop, map, string_bytes}
use Rattle.suite_report.specs.Words.{names}
use Rattle.suite_report.proofs.words.names.Given as goal

abbrev pub invariant-loop-option : goal.invariant-loop-option
invariant-loop-option l = names l.name (map string_bytes (drop l.option-index l.options)) ≡ names l.name (map string_bytes l.options)
