use Rattle.std.proofs.Common.{◌∙◌, ap}
use Rattle.std.specs.Prelude.{Bool, filter}
use Rattle.machine_spec.specs.Machine.{is_place}
use Rattle.machine_law.specs.Facts as facts
use Rattle.bilv_spec.specs.Graph as graph
use Rattle.program_value.specs.Programs.{program_of}
use Rattle.flow_graph.proofs.Nodal.{sort_same}
use Rattle.flow_graph.proofs.successors.successors.Goals as goal

pub returns : goal.returns
returns g c =
    let p = program_of c.args.p.now in
    let found = graph.successors_of p c.args.at (g.M.Machine.row c.args.insn.now) in
    c.in_ok-found-2.ensures
    ∙ sort_same (λ (s : graph.Successor). is_place c.is_narrow.result s.to) _ _ c.in_ok-found.ensures
    ∙ ap (λ (n : Bool). graph.sort (filter (λ (x : graph.Successor). is_place n x.to) (found (facts.successors_of c.args.ways)))) c.is_narrow.ensures
    ∙ ap (λ s. graph.sort (filter (λ (x : graph.Successor). is_place g.M.Machine.machine.narrow x.to) (found s))) c.requires.ways
