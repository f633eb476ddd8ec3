use Rattle.std.proofs.Common.{string_bytes}
use Rattle.smtlib_print.proofs.Printed.{on_ok, pushed, flag_added}
use Rattle.smtlib_print.proofs.declarations.declare_flag.Goals as goal

pub returns : goal.returns
returns c =
    on_ok c.push_str-2.result _ _ (flag_added (string_bytes c.args.out.now) (string_bytes c.push_str.new.self) (string_bytes c.push_flag.new.out)
    (string_bytes c.push_str-2.new.self) _
    c.in_ok-push_str.ensures.bytes c.in_ok-push_flag.ensures)
    (pushed c.push_str-2.result (string_bytes c.push_str-2.new.self) _ _ c.push_str-2.ensures.bytes)
