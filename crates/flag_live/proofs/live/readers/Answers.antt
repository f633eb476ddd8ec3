use Rattle.std.proofs.Common.{◌≡◌, length, arith}
use Rattle.flag_live.specs.Asked.{ensuring}
use Rattle.flag_live.proofs.Lives.{readers_are}
use Rattle.flag_live.proofs.live.readers.Goals as goal

pub returns : goal.returns
returns c rising =
    let count : c.len.result ≡ length c.args.graph.now.nodes.items = omega (arith, c.args.graph.now.nodes.ok.0) in
    readers_are (ensuring c.args.graph.now c.args.ensured) c.args.flag c.deref.result.now c.in_ok-edges_of.field-0.items
    c.in_ok-edges.edges.items c.deref-2.result.now
    c.in_ok-starts.starts.items c.deref-3.result.now
    c.len.result c.in_ok-marked.marked.items c.deref.ensures.value c.deref-2.ensures.value c.deref-3.ensures.value count
    c.in_ok-edges_of.ensures.found c.in_ok-edges_of.ensures.all c.in_ok-edges.ensures.moved c.in_ok-starts.ensures c.in_ok-marked.ensures rising
