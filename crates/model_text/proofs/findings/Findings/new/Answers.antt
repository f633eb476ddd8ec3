use Rattle.std.proofs.Common.{refl, arith, rules}
use Rattle.model_text.proofs.GivenWords.{no_findings}
use Rattle.model_text.proofs.findings.Findings.new.Goals as goal

pub returns : goal.returns
returns c = λ layout kept apart. no_findings layout c.args.count kept _ c.loop.counter apart c.loop.invariant
    (omega arith) refl (search rules)
