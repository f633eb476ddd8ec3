use Rattle.program_value.specs.Programs.{program_of}
use Rattle.contract_graph.specs.Wholes.{whole_with}
use Rattle.contract_graph.proofs.Live.{text_is}
use Rattle.contract_graph.proofs.whole.print_whole_graph.Goals as goal

pub returns : goal.returns
returns g c heads =
    text_is (whole_with (program_of c.args.program.now) heads c.args.contracts.now) c.in_ok-graph.graph c.in_ok-text.text.items
    (c.in_ok-graph.ensures.graph heads) (c.in_ok-graph.ensures.live heads) c.in_ok-text.ensures.nodes
