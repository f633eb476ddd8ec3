use Rattle.std.proofs.Common.{◌≡◌, List, map, get_or, subst, arith, ap, ◌∙◌, ◌∷◌, [], ◌++◌, length}
use Rattle.std.specs.List.{list_any}
use Rattle.graph_nodes.specs.declared.nodes.Successor.{Successor}
use Rattle.flow_graph.specs.Walks.{IsMore}
use Rattle.program_value.specs.Programs.{program_of}
use Rattle.flow_graph.proofs.Walking.{walk_first, seen_first, seen_small, falls, grown_length, walk_more, walk_whole}
use Rattle.flow_graph.proofs.descent.all_nodes.Goals as goal

pub descent-init : goal.descent-init
descent-init g c =
    let found = c.in_ok-push.ensures.items ∙ ap (λ l. l ++ c.args.p.now.entry ∷ []) c.new-found.ensures.items in
    walk_first (program_of c.args.p.now) c.args.others.now c.push.new.self.items c.find_roots.new.found.items c.find_roots.new.seen
    c.new-nodes.result.items c.in_ok-find_roots.ensures.seen found c.in_ok-find_roots.ensures.more c.new-nodes.ensures.items

pub find_roots-requires : goal.find_roots-requires
find_roots-requires g c =
    seen_first c.new-seen.result c.insert.new.self c.args.p.now.entry c.push.new.self.items (omega arith)
    (λ q. ap (list_any _) c.new-seen.ensures.empty) c.in_ok-insert.ensures.updates.0
    (c.in_ok-push.ensures.items ∙ ap (λ l. l ++ c.args.p.now.entry ∷ []) c.new-found.ensures.items)

pub descent-smaller : goal.descent-smaller
descent-smaller g c =
    falls (length c.descent.nodes.items) _ (length c.descent.found.items)
    (grown_length c.descent.nodes.items c.push-in-descent.new.self.items _ c.in_ok-push-2.ensures.items) (omega arith)
    (seen_small c.descent.found.items c.descent.seen c.descent.invariant.seen_is)

pub descent-preserved : goal.descent-preserved
descent-preserved g c =
    walk_more (program_of c.args.p.now) c.args.others.now c.descent.found.items c.find_all.new.found.items c.descent.seen c.find_all.new.seen
    c.descent.nodes.items
    c.push-in-descent.new.self.items c.in_ok-next.next c.index.result.now (omega arith)
    (c.in_ok-next.ensures.at ∙ c.index.ensures ∙ ap (λ k. get_or c.descent.found.items k c.index.result.now) (let same : c.len-in-descent-2.result
    ≡ length c.descent.nodes.items = omega arith in same))
    c.in_ok-next.ensures.is
    (subst (λ (l : List Successor). IsMore c.descent.found.items (map
    (λ s. s.to) l) c.find_all.new.found.items) c.deref.ensures.value c.in_ok-find_all.ensures.more) c.descent.invariant c.in_ok-find_all.ensures.seen
    c.in_ok-next.ensures.stay
    c.in_ok-push-2.ensures.items

pub returns : goal.returns
returns g c =
    walk_whole (program_of c.args.p.now) c.args.others.now c.descent.found.items c.descent.seen c.descent.nodes.items (omega arith) c.descent.invariant
