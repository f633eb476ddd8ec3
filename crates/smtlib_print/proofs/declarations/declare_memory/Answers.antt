use Rattle.std.proofs.Common.{string_bytes}
use Rattle.smtlib_print.proofs.Printed.{on_ok, pushed, memory_added}
use Rattle.smtlib_print.proofs.declarations.declare_memory.Goals as goal

pub returns : goal.returns
returns c =
    on_ok c.push_str-2.result _ _ (memory_added (string_bytes c.args.out.now) (string_bytes c.push_str.new.self) (string_bytes c.push_memory.new.out)
    (string_bytes c.push_str-2.new.self) _
    c.in_ok-push_str.ensures.bytes c.in_ok-push_memory.ensures)
    (pushed c.push_str-2.result (string_bytes c.push_str-2.new.self) _ _ c.push_str-2.ensures.bytes)
