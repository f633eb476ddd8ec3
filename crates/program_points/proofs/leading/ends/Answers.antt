use Rattle.std.proofs.Common.{Some, None, arith, sym, ◌∙◌}
use Rattle.program_points.specs.Tables.{successor_end}
use Rattle.program_points.proofs.Ending.{ends_more}
use Rattle.program_points.proofs.Lists.{nothing_more}
use Rattle.program_points.proofs.leading.ends.Goals as goal
use Rattle.program_points.proofs.leading.ends.Goals.{in-Some+in_ok-push, in_default}

pub loop-successor-preserved : goal.loop-successor-preserved
loop-successor-preserved c =
    elim c.match-successor_end.branch [
      | in-Some+in_ok-push w ↦
          rw (w.found-is)
          (ends_more (successor_end c.args.node.now.returns c.frame-frame.result c.args.stack c.args.called) c.deref-successor-items.result.now
          c.loop-successor.successor-index _
          (Some w.in-Some.end) c.loop-successor.found.items w.push.new.self.items (omega arith)
          (sym w.in-Some.ensures) c.loop-successor.invariant w.in_ok-push.ensures.items)
      | in_default w ↦
          rw (w.found-is)
          (ends_more (successor_end c.args.node.now.returns c.frame-frame.result c.args.stack c.args.called) c.deref-successor-items.result.now
          c.loop-successor.successor-index _
          None c.loop-successor.found.items c.loop-successor.found.items (omega arith)
          (sym c.successor_end.ensures ∙ w.in_default.is) c.loop-successor.invariant
          (nothing_more c.loop-successor.found.items))
    ]
