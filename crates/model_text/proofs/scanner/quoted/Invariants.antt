use Rattle.std.proofs.Common.{◌≡◌, ◌≤◌, ◌+◌, ◌∷◌, take, drop}
use Rattle.model_spec.specs.ModelText.{Between, InQuoted, tokens_from}
use Rattle.model_text.proofs.scanner.quoted.Given as goal

abbrev pub invariant-loop-i : goal.invariant-loop-i
invariant-loop-i l = record {
  tokens : tokens_from l.at (InQuoted l.line (take l.i l.text)) (drop l.i l.text) ≡ tokens_from l.line Between (124 ∷ l.text);
  room : l.at ≤ l.line + l.i;
}
