use Rattle.std.proofs.Common.{◌≡◌, ◌≤◌, ◌+◌, drop}
use Rattle.model_spec.specs.ModelText.{line_after}
use Rattle.model_text.proofs.LineCounts.{more_lines}
use Rattle.model_text.proofs.read.line_after.Given as goal

abbrev pub invariant-loop-byte : goal.invariant-loop-byte
invariant-loop-byte l = record {
  lines : l.line + more_lines l.ended (drop l.byte-index l.text) ≡ line_after l.text;
  room : l.line ≤ l.byte-index + 1;
}
