use Rattle.std.proofs.Common.{◌≤◌, ◌<◌, ◌+◌, refl, ℕ, List, take, length, map, ap, arith, subst, sym, false, get_or}
use Rattle.std.specs.List.{AllZip}
use Rattle.std.proofs.lemmas.List.Elements.{all_zip_more}
use Rattle.graph_nodes.specs.Graphs.{IsSameNode}
use Rattle.graph_nodes.specs.declared.nodes.Node.{Node}
use Rattle.flag_live.specs.Keeps.{IsSetOf}
use Rattle.flag_live.specs.Asked.{ensuring}
use Rattle.flag_live.proofs.Graphed.{asked_graph, same_graph}
use Rattle.flag_live.proofs.Lives.{kept_more, same_count, same_all}
use Rattle.flag_live.proofs.ReadWith.{stay_plain, stay_with}
use Rattle.flag_live.proofs.Stays.{live_stay}
use Rattle.flag_live.proofs.Zipped.{same_ats}
use Rattle.graph_nodes.specs.declared.nodes.Graph.{Graph}
use Rattle.notes_value.specs.FrameViews.{contract_of}
use Rattle.flag_live.proofs.trimmed.trim.Goals as goal

pub loop-i-preserved : goal.loop-i-preserved
loop-i-preserved c =
    let old = c.args.graph.now.nodes in
    let i = c.loop-i.i in
    let inside : i < length old.items = omega (arith, old.ok.0) in
    let count = same_count old.items c.loop-i.nodes.items i (omega arith) c.loop-i.invariant.same in
    record {
      same =
          subst (λ (xs : List Node). AllZip IsSameNode (take (i + 1) old.items) xs) (sym c.in_ok-push.ensures.items)
          (all_zip_more IsSameNode old.items c.loop-i.nodes.items i c.index.result.now c.in_ok-node.node inside c.index.ensures c.loop-i.invariant.same
          c.in_ok-node.ensures.same);
      kept =
          kept_more c.loop-i.nodes.items c.push.new.self.items c.in_ok-node.node i c.in_ok-lives.lives.negative.items c.in_ok-lives.lives.zero.items
          c.in_ok-lives.lives.carry.items c.in_ok-lives.lives.overflow.items
          count c.in_ok-push.ensures.items
          (subst
          (λ (set : ℕ). IsSetOf set (get_or c.in_ok-lives.lives.negative.items i false) (get_or c.in_ok-lives.lives.zero.items i false)
          (get_or c.in_ok-lives.lives.carry.items i false) (get_or c.in_ok-lives.lives.overflow.items i false))
          (sym c.in_ok-node.ensures.kept) c.keeps_at.ensures)
          c.loop-i.invariant.kept;
    }

pub returns-clause-graph : goal.returns-clause-graph
returns-clause-graph c p asked is =
    let old = c.args.graph.now.nodes in
    let all : length old.items ≤ c.loop-i.i = omega (arith, old.ok.0) in
    let same = same_all old.items c.loop-i.nodes.items c.loop-i.i all c.loop-i.invariant.same in
    same_graph p (ensuring c.args.graph.now c.joined-ensured.result)
    (record { narrow = c.args.graph.now.narrow; nodes = c.loop-i.nodes; ensured = c.joined-ensured.result })
    (record { narrow = refl; nodes = same; ensured = refl })
    (asked_graph p c.args.graph.now c.args.out c.joined-ensured.result asked c.joined-ensured.ensures is)

pub returns-clause-alive : goal.returns-clause-alive
returns-clause-alive c rising =
    let old = c.args.graph.now.nodes in
    let all : length old.items ≤ c.loop-i.i = omega (arith, old.ok.0) in
    live_stay (map contract_of c.args.contracts.now) (ensuring c.args.graph.now c.joined-ensured.result)
    (record { narrow = c.args.graph.now.narrow; nodes = c.loop-i.nodes; ensured = c.joined-ensured.result }) c.in_ok-lives.lives
    (same_all old.items c.loop-i.nodes.items c.loop-i.i all c.loop-i.invariant.same) c.loop-i.invariant.kept (c.in_ok-lives.ensures rising)

pub returns-clause-frames : goal.returns-clause-frames
returns-clause-frames c p asked is =
    let old = c.args.graph.now.nodes in
    let all : length old.items ≤ c.loop-i.i = omega (arith, old.ok.0) in
    let new : Graph = record { narrow = c.args.graph.now.narrow; nodes = c.loop-i.nodes; ensured = c.joined-ensured.result } in
    let stays = returns-clause-alive c is.rising in
    stay_with p (map contract_of c.args.contracts.now) (ensuring c.args.graph.now c.joined-ensured.result) stays.asked new stays.is
    (asked_graph p c.args.graph.now c.args.out c.joined-ensured.result asked c.joined-ensured.ensures is)
    (same_ats IsSameNode (λ o n s. s.at) old.items c.loop-i.nodes.items (same_all old.items c.loop-i.nodes.items c.loop-i.i all c.loop-i.invariant.same))
    stays.live

pub returns-clause-live : goal.returns-clause-live
returns-clause-live c p none asked is =
    stay_plain p (map contract_of c.args.contracts.now)
    (record { narrow = c.args.graph.now.narrow; nodes = c.loop-i.nodes; ensured = c.joined-ensured.result }) (ap (map contract_of) none)
    (returns-clause-frames c p asked is)
