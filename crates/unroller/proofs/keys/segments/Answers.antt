use Rattle.std.proofs.Common.{ℕ, List, ap, ◌∙◌, subst, map, arith}
use Rattle.std.specs.Prelude.{Contains, ◌↔◌}
use Rattle.program_points.proofs.Lists.{take_whole}
use Rattle.unroller.specs.Keys.{segment_of}
use Rattle.unroller.proofs.keys.segments.Goals as goal

pub returns-clause-same : goal.returns-clause-same
returns-clause-same c =
    subst (λ (l : List ℕ). (x : ℕ) → Contains l x ↔ Contains c.in_ok-ordered.ordered.items x)
    (c.loop-point.invariant ∙ ap (map segment_of) (take_whole c.args.points.now c.loop-point.point-index (omega arith))) c.in_ok-ordered.ensures.same
