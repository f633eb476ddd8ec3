use Rattle.std.proofs.Common.{◌≡◌, ◌≤◌, ◌+◌, drop}
use Rattle.model_spec.specs.ModelText.{Between, tokens_from}
use Rattle.model_text.specs.Scans.{blank_mode}
use Rattle.model_text.proofs.scanner.from_token.Given as goal

abbrev pub invariant-loop-i : goal.invariant-loop-i
invariant-loop-i l = record {
  tokens : tokens_from l.at (blank_mode l.comment) (drop l.i l.text) ≡ tokens_from l.line Between l.text;
  room : l.at ≤ l.line + l.i;
}
