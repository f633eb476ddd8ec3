use Rattle.std.proofs.Common.{string_bytes}
use Rattle.smtlib_print.proofs.Printed.{on_ok, pushed, division_added}
use Rattle.smtlib_print.proofs.terms.push_signed_division.Goals as goal

pub returns : goal.returns
returns c =
    on_ok c.push_str-3.result _ _ (division_added (string_bytes c.args.out.now) (string_bytes c.write.new.self) (string_bytes c.push_constant.new.out)
    (string_bytes c.push_str.new.self)
    (string_bytes c.push_constant-2.new.out) (string_bytes c.push_str-2.new.self) (string_bytes c.push_applied.new.out) (string_bytes c.push_str-3.new.self)
    c.args.width c.args.left.0 c.args.right.0 c.ones.result c.ones.ensures c.in_ok-write.ensures.bytes c.in_ok-push_constant.ensures
    c.in_ok-push_str.ensures.bytes
    c.in_ok-push_constant-2.ensures c.in_ok-push_str-2.ensures.bytes c.in_ok-push_applied.ensures)
    (pushed c.push_str-3.result (string_bytes c.push_str-3.new.self) _ _ c.push_str-3.ensures.bytes)
