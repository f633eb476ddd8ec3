use Rattle.std.proofs.Common.{◌∙◌, arith}
use Rattle.notes_value.specs.NoteViews.{notes_of}
use Rattle.program_value.proofs.Readable.{can_read_by}
use Rattle.program_value.proofs.program.Program.with_function.Goals as goal

pub invariant_of-result : goal.invariant_of-result
invariant_of-result g c = record {
  placed = omega arith;
  order = c.args.self.now.order;
  big_is = c.args.self.now.big_is;
  readable = can_read_by g.M.Machine.machine g.M.Machine.form g.met.M.Machine.fitted g.M.State.View.has_register g.met.M.Machine.same_registers
      (notes_of c.args.notes.now) c.requires;
  over = c.requires;
}
