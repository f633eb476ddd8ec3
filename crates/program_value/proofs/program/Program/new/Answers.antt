use Rattle.std.proofs.Common.{◌∙◌, arith}
use Rattle.notes_value.specs.NoteViews.{notes_of}
use Rattle.program_value.proofs.Readable.{can_read_by}
use Rattle.program_value.proofs.program.Program.new.Goals as goal

pub invariant_of-result : goal.invariant_of-result
invariant_of-result g c = record {
  placed = omega arith;
  order = c.requires.order;
  big_is = c.is_big_machine.ensures ∙ c.requires.order;
  readable = can_read_by g.M.Machine.machine g.M.Machine.form g.met.M.Machine.fitted g.M.State.View.has_register g.met.M.Machine.same_registers
      (notes_of c.args.notes.now) c.requires.over;
  over = c.requires.over;
}
