use Rattle.program_value.specs.Programs.{program_of}
use Rattle.flow_graph.proofs.Walking.{alone_graph}
use Rattle.flow_graph.proofs.descent.descend.Goals as goal

pub returns-clause-graph : goal.returns-clause-graph
returns-clause-graph g c =
    alone_graph (program_of c.args.program.now) c.in_ok-graph.graph c.in_ok-graph.ensures.graph
