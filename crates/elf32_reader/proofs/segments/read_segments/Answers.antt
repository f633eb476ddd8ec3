use Rattle.std.proofs.Common.{sym, ◌∙◌}
use Rattle.bilv_spec.specs.Elf.{field}
use Rattle.elf32_reader.proofs.Headers.{kept_push, kept_skip}
use Rattle.elf32_reader.proofs.segments.read_segments.Goals as goal
use Rattle.elf32_reader.proofs.segments.read_segments.Goals.{then-has_memory+in_ok-push, else-has_memory}

pub loop-i-preserved : goal.loop-i-preserved
loop-i-preserved c =
    elim c.if-has_memory.branch [
      | then-has_memory+in_ok-push w ↦
          rw (w.found-is, w.in_ok-push.ensures.items)
          (kept_push c.args.file.now (field c.args.file.now 4 28) c.loop-i.i _ _ c.loop-i.invariant c.header_at-s.ensures
          (sym c.has_memory.ensures ∙ w.if-has_memory.true))
      | else-has_memory w ↦
          rw w.found-is
          (kept_skip c.args.file.now (field c.args.file.now 4 28) c.loop-i.i _ _ c.loop-i.invariant c.header_at-s.ensures
          (sym c.has_memory.ensures ∙ w.if-has_memory.false))
    ]
