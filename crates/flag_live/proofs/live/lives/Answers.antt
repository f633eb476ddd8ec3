use Rattle.std.proofs.Common.{◌≡◌, ◌<◌, List, Bool, true, length, arith, subst}
use Rattle.graph_nodes.specs.declared.nodes.Node.{Node}
use Rattle.graph_nodes.specs.Places.{AreRising}
use Rattle.flag_live.specs.Asked.{ensuring}
use Rattle.flag_live.specs.Meanings.{IsLiveNode}
use Rattle.flag_live.proofs.Located.{node_from_read}
use Rattle.flag_live.proofs.Lives.{live_more, lives_are}
use Rattle.flag_live.proofs.live.lives.Goals as goal

pub loop-i-preserved : goal.loop-i-preserved
loop-i-preserved c =
    let nodes = c.args.graph.now.nodes in
    let marked = c.in_ok-marked.marked.items in
    let m = c.index.result.now in
    let inside : c.loop-i.i < length nodes.items = omega (arith, nodes.ok.0) in
    live_more nodes.items marked c.args.flag c.loop-i.i c.loop-i.live.items c.push.new.self.items c.is_live.result m
    (node_from_read nodes.items c.loop-i.i m inside c.index.ensures) c.in_ok-push.ensures.items
    c.loop-i.invariant
    (subst (λ (xs : List Node). c.is_live.result ≡ true → IsLiveNode xs marked c.args.flag m) c.deref.ensures.value
    (subst (λ (xs : List Bool). c.is_live.result ≡ true → IsLiveNode c.deref.result.now xs c.args.flag m) c.deref-in-loop-i.ensures.value
    c.is_live.ensures.found))
    (subst (λ (xs : List Node). AreRising xs → IsLiveNode xs marked c.args.flag m → c.is_live.result ≡ true) c.deref.ensures.value
    (subst (λ (xs : List Bool). AreRising c.deref.result.now → IsLiveNode c.deref.result.now xs c.args.flag m →
    c.is_live.result ≡ true) c.deref-in-loop-i.ensures.value c.is_live.ensures.only))

pub returns : goal.returns
returns c rising =
    let nodes = c.args.graph.now.nodes in
    let all : c.loop-i.i ≡ length nodes.items = omega (arith, nodes.ok.0) in
    lives_are (ensuring c.args.graph.now c.args.ensured) c.args.flag c.loop-i.i c.in_ok-marked.marked.items c.loop-i.live.items all
    c.loop-i.invariant rising
    (c.in_ok-marked.ensures rising)
