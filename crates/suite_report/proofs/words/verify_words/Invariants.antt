use Rattle.std.proofs.Common.{◌≡◌, ◌++◌, drop, map, string_bytes}
use Rattle.suite_report.specs.Words.{verify_words}
use Rattle.suite_report.proofs.words.verify_words.Given as goal

abbrev pub invariant-loop-option : goal.invariant-loop-option
invariant-loop-option l =
    map string_bytes l.words.items ++ map string_bytes (drop l.option-index l.options) ≡ verify_words (map string_bytes l.options)
