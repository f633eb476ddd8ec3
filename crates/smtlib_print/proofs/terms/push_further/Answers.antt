use Rattle.std.proofs.Common.{string_bytes}
use Rattle.smtlib_print.proofs.Printed.{on_ok, pushed, further_added}
use Rattle.smtlib_print.proofs.terms.push_further.Goals as goal

pub returns : goal.returns
returns c =
    on_ok c.push_str.result _ _ (further_added (string_bytes c.args.out.now) (string_bytes c.write.new.self) (string_bytes c.push_address.new.out)
    (string_bytes c.push_str.new.self)
    c.args.address.0 c.args.distance c.in_ok-write.ensures.bytes c.in_ok-push_address.ensures)
    (pushed c.push_str.result (string_bytes c.push_str.new.self) _ _ c.push_str.ensures.bytes)
