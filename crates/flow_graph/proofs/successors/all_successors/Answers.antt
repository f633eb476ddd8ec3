use Rattle.std.proofs.Common.{ap, map, ◌∙◌, ◌++◌}
use Rattle.word_spec.specs.Words.{add}
use Rattle.bilv_spec.specs.Graph as graph
use Rattle.graph_nodes.specs.Graphs.{letter_of, successor_of}
use Rattle.program_value.specs.Programs.{program_of}
use Rattle.flow_graph.proofs.Nodal.{all_is}
use Rattle.flow_graph.proofs.successors.all_successors.Goals as goal

pub returns : goal.returns
returns g c =
    all_is (program_of c.args.p.now) c.args.at
    (g.M.Machine.row c.args.insn.now) c.args.ways c.jump_letter-letter.result c.in_ok-targets.targets.items _
    c.then_some.result c.then_some-2.result (map successor_of c.new-found.result.items) (map successor_of c.push_some.new.found.items)
    (map successor_of c.push_some-2.new.found.items)
    (map successor_of c.push_each.new.found.items) (map successor_of c.push_some-3.new.found.items)
    (ap (add 32 c.args.at) c.requires.length) c.jump_letter-letter.ensures
    c.in_ok-targets.ensures c.then_some.ensures c.then_some-2.ensures
    (ap (map successor_of) c.new-found.ensures.items) c.in_ok-push_some.ensures c.in_ok-push_some-2.ensures
    (c.in_ok-push_each.ensures ∙ ap (λ l. map successor_of c.push_some-2.new.found.items
    ++ map (graph.successor (letter_of c.jump_letter-letter.result)) l) c.deref.ensures.value)
    c.in_ok-push_some-3.ensures
