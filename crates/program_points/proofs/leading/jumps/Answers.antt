use Rattle.std.proofs.Common.{Some, None, arith, sym, ◌∙◌}
use Rattle.program_points.specs.Tables.{way_end}
use Rattle.program_points.proofs.Ending.{ends_more, ways_whole}
use Rattle.program_points.proofs.Lists.{nothing_more}
use Rattle.program_points.proofs.leading.jumps.Goals as goal
use Rattle.program_points.proofs.leading.jumps.Goals.{in-Some+in_ok-push, in_default, in-Some-back_end+in_ok-push-2, in_default-back_end}

pub loop-successor-preserved : goal.loop-successor-preserved
loop-successor-preserved c =
    elim c.match-jump_end.branch [
      | in-Some+in_ok-push w ↦
          rw (w.found-is)
          (ends_more (way_end c.args.node.now.returns c.frame-frame.result c.args.stack c.args.called) c.deref-successor-items.result.now
          c.loop-successor.successor-index _
          (Some w.in-Some.end) c.loop-successor.found.items w.push.new.self.items (omega arith)
          (sym w.in-Some.ensures) c.loop-successor.invariant w.in_ok-push.ensures.items)
      | in_default w ↦
          rw (w.found-is)
          (ends_more (way_end c.args.node.now.returns c.frame-frame.result c.args.stack c.args.called) c.deref-successor-items.result.now
          c.loop-successor.successor-index _
          None c.loop-successor.found.items c.loop-successor.found.items (omega arith) (sym c.jump_end.ensures ∙ w.in_default.is) c.loop-successor.invariant
          (nothing_more c.loop-successor.found.items))
    ]

pub returns : goal.returns
returns c =
    elim c.match-back_end.branch [
      | in-Some-back_end+in_ok-push-2 w ↦
          rw (w.found-is)
          (ways_whole c.args.narrow c.args.node.now.returns c.frame-frame.result _ c.args.stack c.args.called c.args.node.now.successors.items
          c.deref-successor-items.result.now c.loop-successor.successor-index
          (Some w.in-Some-back_end.end) c.loop-successor.found.items w.push-in-Some-back_end.new.self.items c.deref-successor-items.ensures.value
          c.frame-frame.ensures (omega arith)
          (sym w.in-Some-back_end.ensures) c.loop-successor.invariant w.in_ok-push-2.ensures.items)
      | in_default-back_end w ↦
          rw (w.found-is)
          (ways_whole c.args.narrow c.args.node.now.returns c.frame-frame.result _ c.args.stack c.args.called c.args.node.now.successors.items
          c.deref-successor-items.result.now c.loop-successor.successor-index
          None c.loop-successor.found.items c.loop-successor.found.items c.deref-successor-items.ensures.value c.frame-frame.ensures (omega arith)
          (sym c.back_end.ensures ∙ w.in_default-back_end.is) c.loop-successor.invariant (nothing_more c.loop-successor.found.items))
    ]
