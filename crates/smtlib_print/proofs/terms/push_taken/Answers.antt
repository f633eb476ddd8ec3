use Rattle.std.proofs.Common.{string_bytes}
use Rattle.smtlib_print.specs.Commands.{memory_in}
use Rattle.smtlib_print.proofs.Printed.{byte_taken, on_ok, pushed}
use Rattle.smtlib_print.proofs.terms.push_taken.Goals as goal

pub returns : goal.returns
returns c =
    on_ok c.push_str-3.result _ _ (byte_taken (string_bytes c.args.out.now) (string_bytes c.push_str.new.self) (string_bytes c.push_memory_in.new.out)
    (string_bytes c.push_str-2.new.self) (string_bytes c.push_behind.new.out) (string_bytes c.push_str-3.new.self)
    (memory_in c.args.numbers.now c.args.part) c.args.address.0 c.args.distance c.in_ok-push_str.ensures.bytes c.in_ok-push_memory_in.ensures
    c.in_ok-push_str-2.ensures.bytes c.in_ok-push_behind.ensures) (pushed c.push_str-3.result (string_bytes c.push_str-3.new.self) _ _
    c.push_str-3.ensures.bytes)
