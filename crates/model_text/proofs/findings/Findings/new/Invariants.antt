use Rattle.std.proofs.Common.{◌≡◌, None, replicate}
use Rattle.model_text.proofs.findings.Findings.new.Given as goal

abbrev pub invariant-loop : goal.invariant-loop
invariant-loop l = l.words.items ≡ replicate l.counter None
