use Rattle.std.proofs.lemmas.Result.{IfOk-weaker}
use Rattle.bilv_top.proofs.comparing.compare.Goals as goal

pub returns-in-Equal-clause-compared : goal.returns-in-Equal-clause-compared
returns-in-Equal-clause-compared g c = IfOk-weaker c.equal.result _ _ (λ a is s met. rw c.in-Equal.is is) c.equal.ensures

pub returns-in-Differ-clause-compared : goal.returns-in-Differ-clause-compared
returns-in-Differ-clause-compared g c = IfOk-weaker c.differ.result _ _ (λ a is s met. rw c.in-Differ.is (is s met)) c.differ.ensures.read

pub returns-in-Differ-clause-begun : goal.returns-in-Differ-clause-begun
returns-in-Differ-clause-begun g c = rw c.in-Differ.is c.differ.ensures.begun
