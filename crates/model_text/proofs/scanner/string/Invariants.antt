use Rattle.std.proofs.Common.{◌≡◌, ◌≤◌, ◌+◌, ◌∷◌, drop}
use Rattle.model_spec.specs.ModelText.{Between, tokens_from}
use Rattle.model_text.specs.Scans.{string_mode}
use Rattle.model_text.proofs.scanner.string.Given as goal

abbrev pub invariant-loop-i : goal.invariant-loop-i
invariant-loop-i l = record {
  tokens : tokens_from l.at (string_mode l.line l.marked) (drop l.i l.text) ≡ tokens_from l.line Between (34 ∷ l.text);
  room : l.at ≤ l.line + l.i;
}
