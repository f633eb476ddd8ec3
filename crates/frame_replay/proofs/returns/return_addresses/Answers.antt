use Rattle.std.proofs.Common.{◌∙◌, ap}
use Rattle.std.specs.List.{list_any}
use Rattle.frame_replay.specs.Returns.{node_returns_to}
use Rattle.frame_replay.proofs.Returned.{tells_returns}
use Rattle.frame_replay.proofs.returns.return_addresses.Goals as goal

pub returns-clause-returns : goal.returns-clause-returns
returns-clause-returns c = λ p is. tells_returns p c.args.graph.now c.in_ok-returns.returns.items is
    (λ a. c.in_ok-returns.ensures.same a ∙ c.in_ok-found.ensures a ∙ ap (list_any (node_returns_to a)) c.deref.ensures.value)
