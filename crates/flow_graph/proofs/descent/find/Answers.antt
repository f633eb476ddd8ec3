use Rattle.std.proofs.Common.{◌∙◌, sym, arith}
use Rattle.flow_graph.proofs.Walking.{find_new}
use Rattle.flow_graph.proofs.descent.find.Goals as goal

pub returns-clause-seen : goal.returns-clause-seen
returns-clause-seen c =
    (find_new c.args.found.now.items c.push.new.self.items c.args.seen.now c.insert.new.self c.args.to (omega arith)
    (sym c.contains.ensures ∙ c.if-contains.false) c.in_ok-insert.ensures.updates.0 c.in_ok-push.ensures.items c.requires).0
