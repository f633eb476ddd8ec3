use Rattle.std.proofs.Common.{ℕ, ◌≤◌, take}
use Rattle.std.specs.Prelude.{Contains}
use Rattle.program_points.specs.Tables.{End, target, IsListed, IsWithin, AreAdded}
use Rattle.program_points.proofs.adding.add_ends.Given as goal

abbrev pub invariant-loop-end : goal.invariant-loop-end
invariant-loop-end l = (stacks : ℕ) → IsListed l.limits.k stacks l.fn.found.points.items l.fn.found.seen → IsWithin l.limits.k stacks l.point
    → ((e : End) → Contains l.ends e → e.stack ≤ stacks) → IsListed l.limits.k stacks l.found.points.items l.found.seen
    × AreAdded (target l.limits.cuts.heads.now l.limits.cuts.stepped.now l.linked l.point) l.limits.k l.limits.max (take l.end-index l.ends)
    l.fn.found.points.items l.found.points.items
