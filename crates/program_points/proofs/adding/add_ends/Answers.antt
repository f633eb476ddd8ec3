use Rattle.std.proofs.Common.{arith}
use Rattle.program_points.specs.Tables.{target}
use Rattle.program_points.proofs.Added.{step_over, step_more, step_stop, steps_end, target_within}
use Rattle.program_points.proofs.adding.add_ends.Goals as goal
use Rattle.program_points.proofs.adding.add_ends.Goals.{in-Some+in_ok-add, in_default}

pub returns-then-len-limits : goal.returns-then-len-limits
returns-then-len-limits c = λ stacks is own low.
    let limits = c.args.limits.now in
    step_stop (target limits.cuts.heads.now limits.cuts.stepped.now c.args.linked c.args.point) limits.k limits.max stacks c.args.found.now.points.items
    c.args.ends.now c.loop-end.end-index (record { stack = 0; at = 0 }) (omega arith) c.loop-end.found.points.items
    c.loop-end.found.seen (c.loop-end.invariant stacks is own low) (omega arith)

pub loop-end-preserved : goal.loop-end-preserved
loop-end-preserved c = λ stacks is own low.
    let limits = c.args.limits.now in
    let heads = limits.cuts.heads.now in
    let stepped = limits.cuts.stepped.now in
    elim c.match-target.branch [
      | in-Some+in_ok-add w ↦
          rw (w.found-is)
          (step_more (target heads stepped c.args.linked c.args.point) limits.k limits.max stacks c.args.found.now.points.items c.args.ends.now
          c.loop-end.end-index (record { stack = 0; at = 0 }) (omega arith) c.loop-end.found.points.items
          c.loop-end.found.seen (c.loop-end.invariant stacks is own low) w.add.new.found.points.items w.add.new.found.seen w.in-Some.next w.in-Some.ensures.0
          w.in-Some.ensures.1 low (target_within heads stepped c.args.linked limits.k stacks c.args.point own)
          w.in_ok-add.ensures)
      | in_default w ↦
          rw (w.found-is)
          (step_over (target heads stepped c.args.linked c.args.point) limits.k limits.max stacks c.args.found.now.points.items c.args.ends.now
          c.loop-end.end-index (record { stack = 0; at = 0 }) (omega arith) c.loop-end.found.points.items
          c.loop-end.found.seen (c.loop-end.invariant stacks is own low) w.in_default.ensures)
    ]

pub returns : goal.returns
returns c = λ stacks is own low.
    let limits = c.args.limits.now in
    steps_end (target limits.cuts.heads.now limits.cuts.stepped.now c.args.linked c.args.point) limits.k limits.max stacks c.args.found.now.points.items
    c.args.ends.now c.loop-end.end-index c.loop-end.found.points.items c.loop-end.found.seen (omega arith) (c.loop-end.invariant stacks is own low)
