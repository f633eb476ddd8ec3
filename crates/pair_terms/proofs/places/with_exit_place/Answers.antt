use Rattle.std.proofs.Common.{refl, ◌∙◌, ap, arith}
use Rattle.std.specs.Prelude.{map}
use Rattle.std.specs.Vec.{with_items}
use Rattle.std.proofs.lemmas.List.{with_items_is}
use Rattle.pair_terms.specs.Places.{edge_led}
use Rattle.pair_terms.proofs.Placed.{placed_by}
use Rattle.pair_terms.proofs.PlacedRoots.{placed_headless, placed_roots}
use Rattle.pair_terms.proofs.places.with_exit_place.Goals as goal

pub returns-clause-program : goal.returns-clause-program
returns-clause-program c =
    let u = c.args.unrolled in
    (placed_by u c.push.new.self c.push-2.new.self (with_items u.edges c.lead_out.new.edges) c.new.result _ _ _
    (omega (arith, c.len-places.ensures, u.points.ok.0)) (omega (arith, c.len-codes.ensures, u.codes.ok.0)) (omega (arith, c.len-edges.ensures, u.edges.ok.0))
    c.in_ok-push.ensures.items c.in_ok-push-2.ensures.items (with_items_is u.edges c.lead_out.new.edges (omega (arith, c.lead_out.auto.edges, c.deref_mut.ensures.len)) ∙ c.lead_out.ensures
    ∙ ap (map (edge_led _)) c.deref_mut.ensures.value) c.new.ensures.items
    c.requires).0

pub returns-clause-formed : goal.returns-clause-formed
returns-clause-formed c =
    let u = c.args.unrolled in
    (placed_by u c.push.new.self c.push-2.new.self (with_items u.edges c.lead_out.new.edges) c.new.result _ _ _
    (omega (arith, c.len-places.ensures, u.points.ok.0)) (omega (arith, c.len-codes.ensures, u.codes.ok.0)) (omega (arith, c.len-edges.ensures, u.edges.ok.0))
    c.in_ok-push.ensures.items c.in_ok-push-2.ensures.items (with_items_is u.edges c.lead_out.new.edges (omega (arith, c.lead_out.auto.edges, c.deref_mut.ensures.len)) ∙ c.lead_out.ensures
    ∙ ap (map (edge_led _)) c.deref_mut.ensures.value) c.new.ensures.items
    c.requires).1

pub returns-clause-headless : goal.returns-clause-headless
returns-clause-headless c = λ h.
    let u = c.args.unrolled in
    placed_headless u c.push.new.self c.push-2.new.self (with_items u.edges c.lead_out.new.edges) _ _ c.in_ok-push-2.ensures.items
    (with_items_is u.edges c.lead_out.new.edges (omega (arith, c.lead_out.auto.edges, c.deref_mut.ensures.len)) ∙ c.lead_out.ensures
    ∙ ap (map (edge_led _)) c.deref_mut.ensures.value) refl refl h

pub returns-clause-roots : goal.returns-clause-roots
returns-clause-roots c = λ h r.
    let u = c.args.unrolled in
    placed_roots u c.push.new.self c.push-2.new.self (with_items u.edges c.lead_out.new.edges) _ _ c.in_ok-push-2.ensures.items
    (with_items_is u.edges c.lead_out.new.edges (omega (arith, c.lead_out.auto.edges, c.deref_mut.ensures.len)) ∙ c.lead_out.ensures
    ∙ ap (map (edge_led _)) c.deref_mut.ensures.value) refl refl h r
