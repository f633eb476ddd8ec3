use Rattle.std.proofs.Common.{◌≡◌, take, drop}
use Rattle.model_spec.specs.ModelText.{Between, InWord, tokens_from}
use Rattle.model_text.proofs.scanner.word.Given as goal

abbrev pub invariant-loop-i : goal.invariant-loop-i
invariant-loop-i l = tokens_from l.line (InWord (take l.i l.text)) (drop l.i l.text) ≡ tokens_from l.line Between l.text
