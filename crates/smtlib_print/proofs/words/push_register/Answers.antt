use Rattle.std.proofs.Common.{string_bytes}
use Rattle.smtlib_print.specs.Commands.{part_prefix}
use Rattle.smtlib_print.proofs.Printed.{on_ok, part_added}
use Rattle.smtlib_print.proofs.words.push_register.Goals as goal

pub returns : goal.returns
returns c =
    on_ok c.push_register_name.result _ _
    (part_added (string_bytes c.args.out.now) (string_bytes c.push_part.new.out) (string_bytes c.push_register_name.new.out) (part_prefix c.args.part) _
    c.in_ok-push_part.ensures)
    c.push_register_name.ensures
