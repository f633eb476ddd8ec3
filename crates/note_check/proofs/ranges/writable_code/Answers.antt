use Rattle.bilv_spec.specs.Elf.{field}
use Rattle.note_check.proofs.Headers.{warned_push, warned_skip}
use Rattle.note_check.proofs.ranges.writable_code.Goals as goal
use Rattle.note_check.proofs.ranges.writable_code.Goals.{in-Some+in_ok-push, in_default}

pub loop-i-preserved : goal.loop-i-preserved
loop-i-preserved c =
    elim c.match-writable_at.branch [
      | in-Some+in_ok-push w ↦
          rw (w.found-is, w.in_ok-push.ensures.items)
          (warned_push c.args.file.now (field c.args.file.now 4 28) c.loop-i.i _ _ c.loop-i.invariant w.in-Some.ensures.0 w.in-Some.ensures.1)
      | in_default w ↦ rw w.found-is
          (warned_skip c.args.file.now (field c.args.file.now 4 28) c.loop-i.i _ c.loop-i.invariant w.in_default.ensures)
    ]
