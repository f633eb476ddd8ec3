use Rattle.std.proofs.Common.{◌≡◌, ℕ, ◌<◌, ◌++◌, [], ◌∷◌, length, sym, ap, ◌∙◌, arith}
use Rattle.flag_live.specs.Asked.{ensuring}
use Rattle.flag_live.proofs.Begun.{starts_more, starts_ensured, starts_only}
use Rattle.flag_live.proofs.Located.{node_from_read}
use Rattle.flag_live.proofs.paths.starts_of.Goals as goal

pub loop-i-preserved : goal.loop-i-preserved
loop-i-preserved c =
    let nodes = c.args.graph.now.nodes in
    let inside : c.loop-i.i < length nodes.items = omega (arith, nodes.ok.0) in
    let here = node_from_read nodes.items c.loop-i.i c.index.result.now inside c.index.ensures in
    starts_more nodes.items c.args.flag c.loop-i.i c.index.result.now c.loop-i.starts.items c.add.new.list.items c.start_at.result here c.in_ok-add.ensures
    c.start_at.ensures c.loop-i.invariant

pub returns-then-has_flag : goal.returns-then-has_flag
returns-then-has_flag c =
    let nodes = c.args.graph.now.nodes in
    let all : c.loop-i.i ≡ length nodes.items = omega (arith, nodes.ok.0) in
    let count : c.len.result ≡ length nodes.items = omega (arith, nodes.ok.0) in
    starts_ensured (ensuring c.args.graph.now c.args.ensured) c.args.flag c.loop-i.i c.loop-i.starts.items c.push.new.self.items all (sym c.if-has_flag.ensures)
    (c.in_ok-push.ensures.items ∙ ap (λ (n : ℕ). c.loop-i.starts.items ++ n ∷ []) count) c.loop-i.invariant

pub returns : goal.returns
returns c =
    let nodes = c.args.graph.now.nodes in
    let all : c.loop-i.i ≡ length nodes.items = omega (arith, nodes.ok.0) in
    starts_only (ensuring c.args.graph.now c.args.ensured) c.args.flag c.loop-i.i c.loop-i.starts.items all (sym c.if-has_flag.ensures) c.loop-i.invariant
