use Rattle.std.proofs.Common.{◌≤◌, ◌<◌, ◌+◌, List, map, take, length, arith, subst, sym}
use Rattle.std.specs.List.{AllZip}
use Rattle.std.proofs.lemmas.List.{take_all}
use Rattle.std.proofs.lemmas.List.Elements.{all_zip_more}
use Rattle.frame_spec.specs.FrameUnrolling.{exit_reads}
use Rattle.graph_nodes.specs.declared.nodes.Node.{Node}
use Rattle.notes_value.specs.FrameViews.{contract_of}
use Rattle.flow_graph.proofs.FlagSets.{flags_or}
use Rattle.flag_live.specs.Contracted.{IsAsked}
use Rattle.flag_live.proofs.asking.asked_graph.Goals as goal

pub loop-i-preserved : goal.loop-i-preserved
loop-i-preserved c =
    let old = c.args.graph.now.nodes in
    let i = c.loop-i.i in
    let inside : i < length old.items = omega (arith, old.ok.0) in
    let R : Node → Node → Type 0 = IsAsked (map contract_of c.args.contracts.now) in
    subst (λ (xs : List Node). AllZip R (take (i + 1) old.items) xs) (sym c.in_ok-push.ensures.items)
    (all_zip_more R old.items c.loop-i.nodes.items i c.index.result.now c.in_ok-asked_node.field-0 inside c.index.ensures c.loop-i.invariant
    c.in_ok-asked_node.ensures)

pub returns : goal.returns
returns c =
    let old = c.args.graph.now.nodes in
    let all : length old.items ≤ c.loop-i.i = omega (arith, old.ok.0) in
    let noted = map contract_of c.args.contracts.now in
    record {
      nodes = subst (λ (xs : List Node). AllZip (IsAsked noted) xs c.loop-i.nodes.items) (take_all c.loop-i.i old.items all) c.loop-i.invariant;
      ensured = λ test own. flags_or c.args.ensured c.read_at_exits.result test (λ f. exit_reads f noted) own c.read_at_exits.ensures;
    }
