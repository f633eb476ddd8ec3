use Rattle.std.proofs.Common.{Bool, true, false, filter, ◌∙◌, ap, sym, rules}
use Rattle.std.proofs.lemmas.List.Elements.{filter_from_retain}
use Rattle.machine_spec.specs.Machine.{is_place}
use Rattle.graph_nodes.specs.declared.nodes.Successor.{Successor}
use Rattle.flow_graph.proofs.listing.aligned.Goals as goal

pub returns-then-narrow : goal.returns-then-narrow
returns-then-narrow c =
    filter_from_retain _ (λ (s : Successor). is_place true s.to) (λ p x b q k. search rules) _ _ _ c.retain.ensures.filtered
    ∙ ap (λ (n : Bool). filter (λ (s : Successor). is_place n s.to) c.args.found.items) (sym c.if-narrow.true)

pub returns : goal.returns
returns c =
    filter_from_retain _ (λ (s : Successor). is_place false s.to) (λ p x b q k. search rules) _ _ _ c.retain-2.ensures.filtered
    ∙ ap (λ (n : Bool). filter (λ (s : Successor). is_place n s.to) c.args.found.items) (sym c.if-narrow.false)
