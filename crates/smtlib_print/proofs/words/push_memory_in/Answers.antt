use Rattle.std.proofs.Common.{string_bytes}
use Rattle.std.specs.Prelude.{codes}
use Rattle.smtlib_print.specs.Commands.{prefix_in}
use Rattle.smtlib_print.proofs.Printed.{on_ok, part_added, pushed}
use Rattle.smtlib_print.proofs.words.push_memory_in.Goals as goal

pub returns : goal.returns
returns c =
    on_ok c.push_str.result _ _
    (part_added (string_bytes c.args.out.now) (string_bytes c.push_prefix.new.out) (string_bytes c.push_str.new.self)
    (prefix_in c.args.numbers.now c.args.part) (codes "mem") c.in_ok-push_prefix.ensures)
    (pushed c.push_str.result (string_bytes c.push_str.new.self) _ _ c.push_str.ensures.bytes)
