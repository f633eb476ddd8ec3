use Rattle.std.proofs.Common.{◌≡◌, ◌++◌, drop}
use Rattle.suite_report.specs.Objects.{json_bytes}
use Rattle.suite_report.proofs.json.push_bytes.Given as goal

abbrev pub invariant-loop-byte : goal.invariant-loop-byte
invariant-loop-byte l = l.initial.out.items ++ json_bytes l.text ≡ l.out.items ++ json_bytes (drop l.byte-index l.text)
