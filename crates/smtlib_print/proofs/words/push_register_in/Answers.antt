use Rattle.std.proofs.Common.{string_bytes}
use Rattle.smtlib_print.specs.Commands.{prefix_in}
use Rattle.smtlib_print.proofs.Printed.{on_ok, part_added}
use Rattle.smtlib_print.proofs.words.push_register_in.Goals as goal

pub returns : goal.returns
returns c =
    on_ok c.push_register_name.result _ _
    (part_added (string_bytes c.args.out.now) (string_bytes c.push_prefix.new.out) (string_bytes c.push_register_name.new.out)
    (prefix_in c.args.numbers.now c.args.part) _ c.in_ok-push_prefix.ensures)
    c.push_register_name.ensures
