use Rattle.std.proofs.Common.{◌≡◌, None, replicate, rules}
use Rattle.sat_core.proofs.Stepping.{trail-start, none-true}
use Rattle.sat_core.proofs.trail.Trail.new.Goals as goal

pub returns-clause-trail : goal.returns-clause-trail
returns-clause-trail c =
    trail-start c.in_ok-vec.field-0.items c.in_ok-with_capacity.field-0.items c.args.size _
    (search rules) c.in_ok-with_capacity.ensures.exact c.in_ok-with_capacity.ensures.items
    (λ m. let e : c.in_ok-vec.field-0.items ≡ replicate c.args.size None = c.in_ok-vec.ensures.items_if_clones_equal (search rules)
    in rw e (none-true c.args.size m))
