use Rattle.std.proofs.Common.{◌≡◌, map, take}
use Rattle.model_text.specs.Drafts.{or_zero}
use Rattle.model_text.proofs.read.registers.Given as goal

abbrev pub invariant-loop-word : goal.invariant-loop-word
invariant-loop-word l = l.found.items ≡ map or_zero (take l.word-index l.words)
