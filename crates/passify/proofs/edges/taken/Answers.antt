use Rattle.passify.proofs.Kept.{well_keeps, terms_keep}
use Rattle.passify.proofs.Along.{edge_steps, edge_rest, edge_tries, edge_narrows}
use Rattle.passify.proofs.edges.taken.Goals as goal

pub returns-clause-steps : goal.returns-clause-steps
returns-clause-steps c =
    let e = c.in_ok-follow.ensures in
    edge_steps c.args.unrolled.now c.args.dag.now c.along.new.dag c.split.new.dag c.follow.new.dag c.args.sweep.now c.follow.new.sweep c.args.edge
    c.args.gone.now.next c.args.gone.now.jumped.0 c.args.link.0
    c.in_ok-bit.bit.0 c.args.rest.0 c.in_ok-parts.parts.on.0 c.in_ok-parts.parts.off.0 _ _ _ _ c.requires.well c.requires.next c.requires.pc c.requires.rest
    c.in_ok-bit.ensures c.in_ok-parts.ensures e.steps e.hands

pub returns-clause-bit : goal.returns-clause-bit
returns-clause-bit c =
    let e = c.in_ok-follow.ensures in
    edge_rest c.args.unrolled.now c.args.dag.now c.along.new.dag c.split.new.dag c.follow.new.dag c.args.sweep.now c.follow.new.sweep c.args.edge
    c.args.gone.now.next c.args.gone.now.jumped.0 c.args.link.0
    c.in_ok-bit.bit.0 c.args.rest.0 c.in_ok-parts.parts.on.0 c.in_ok-parts.parts.off.0 _ _ _ _ c.requires.well c.requires.next c.requires.pc c.requires.rest
    c.in_ok-bit.ensures c.in_ok-parts.ensures e.steps e.hands

pub returns-clause-tries : goal.returns-clause-tries
returns-clause-tries c =
    let e = c.in_ok-follow.ensures in
    edge_tries c.args.unrolled.now c.args.dag.now c.along.new.dag c.split.new.dag c.follow.new.dag c.args.sweep.now c.follow.new.sweep c.args.edge
    c.args.gone.now.next c.args.gone.now.jumped.0 c.args.link.0
    c.in_ok-bit.bit.0 c.args.rest.0 c.in_ok-parts.parts.on.0 c.in_ok-parts.parts.off.0 _ _ _ _ c.requires.well c.requires.next c.requires.pc c.requires.rest
    c.in_ok-bit.ensures c.in_ok-parts.ensures e.steps e.hands

pub returns-clause-narrows : goal.returns-clause-narrows
returns-clause-narrows c =
    let e = c.in_ok-follow.ensures in
    edge_narrows c.args.unrolled.now c.args.dag.now c.along.new.dag c.split.new.dag c.follow.new.dag c.args.sweep.now c.follow.new.sweep c.args.edge
    c.args.gone.now.next c.args.gone.now.jumped.0 c.args.link.0
    c.in_ok-bit.bit.0 c.args.rest.0 c.in_ok-parts.parts.on.0 c.in_ok-parts.parts.off.0 _ _ _ _ c.requires.well c.requires.next c.requires.pc c.requires.rest
    c.in_ok-bit.ensures c.in_ok-parts.ensures e.steps e.hands

pub follow-requires-clause-well : goal.follow-requires-clause-well
follow-requires-clause-well c = well_keeps c.in_ok-parts.ensures.grew c.args.sweep.now c.in_ok-parts.ensures.typed
    (well_keeps c.in_ok-bit.ensures.grew c.args.sweep.now c.in_ok-bit.ensures.typed c.requires.well)

pub follow-requires-clause-next : goal.follow-requires-clause-next
follow-requires-clause-next c =
    terms_keep c.in_ok-parts.ensures.grew c.args.sweep.now.entry c.args.gone.now.next.names.now
    (terms_keep c.in_ok-bit.ensures.grew c.args.sweep.now.entry c.args.gone.now.next.names.now c.requires.next)
