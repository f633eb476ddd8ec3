use Rattle.std.proofs.Common.{arith, refl, ap, map, length, ◌∙◌}
use Rattle.std.proofs.lemmas.Result.{err_from_is_err_and}
use Rattle.frame_spec.specs.Theorems.{headless}
use Rattle.program_points.specs.Listed.{plain_of}
use Rattle.program_points.proofs.Plain.{no_cuts, plain_points, plain_fault, plain_numbered, plain_count}
use Rattle.program_points.proofs.listing.points.Goals as goal

pub returns-clause-points : goal.returns-clause-points
returns-clause-points c = λ p is e way.
    plain_points p c.args.k c.in_ok-found.found (record { stacks = c.in_ok-found.found.stacks; points = c.in_ok-points.points }) refl
    (c.in_ok-points.ensures ∙ ap (map plain_of) c.deref.ensures.value) (c.in_ok-found.ensures.points (headless p) is e way (no_cuts p))

pub returns-clause-few : goal.returns-clause-few
returns-clause-few c =
    let count = plain_count c.in_ok-found.found.points.items c.in_ok-points.points.items (c.in_ok-points.ensures ∙ ap (map plain_of) c.deref.ensures.value) in
    let few = c.in_ok-found.ensures.few in
    omega arith

pub returns-clause-numbered : goal.returns-clause-numbered
returns-clause-numbered c =
    plain_numbered c.in_ok-found.found.points.items c.in_ok-points.points.items (length c.in_ok-found.found.stacks.frames.items)
    (c.in_ok-points.ensures ∙ ap (map plain_of) c.deref.ensures.value) c.in_ok-found.ensures.numbered

pub returns-in_err-found-clause-more : goal.returns-in_err-found-clause-more
returns-in_err-found-clause-more c =
    let e = err_from_is_err_and c.from_residual.result c.from_residual.ensures.1 in
    rw (e.1, e.2) (λ p is same way. plain_fault p c.args.k c.args.max c.in_err-found.field-0.0 (c.in_err-found.ensures.more (headless p) is same way (no_cuts p)))
