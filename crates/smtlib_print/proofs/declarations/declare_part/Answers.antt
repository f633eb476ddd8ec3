use Rattle.std.proofs.Common.{string_bytes}
use Rattle.start_value.specs.Starts.{layout_of}
use Rattle.smtlib_print.proofs.Printed.{on_ok}
use Rattle.smtlib_print.proofs.Printing.{part_text}
use Rattle.smtlib_print.proofs.declarations.declare_part.Goals as goal

pub returns : goal.returns
returns c =
    on_ok c.declare_memory.result _ _
    (part_text (layout_of c.args.form) c.args.part (string_bytes c.args.out.now) (string_bytes c.declare_registers.new.out)
    (string_bytes c.declare_flags.new.out) (string_bytes c.declare_memory.new.out) c.in_ok-declare_registers.ensures c.in_ok-declare_flags.ensures)
    c.declare_memory.ensures
