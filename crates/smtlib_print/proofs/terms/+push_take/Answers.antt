use Rattle.std.proofs.Common.{string_bytes}
use Rattle.smtlib_print.specs.Commands.{memory_in}
use Rattle.smtlib_print.proofs.Printed.{on_ok, pushed, take_more}
use Rattle.smtlib_print.proofs.terms.+push_take.Goals as goal

pub returns : goal.returns
returns t c =
    on_ok c.push_str-4.result _ _ (take_more (string_bytes c.args.out.now) (string_bytes c.push_str.new.self) (string_bytes c.push_take.new.out)
    (string_bytes c.push_str-2.new.self) (string_bytes c.push_behind.new.out) (string_bytes c.push_str-3.new.self) (string_bytes c.push_taken.new.out)
    (string_bytes c.push_str-4.new.self) (memory_in c.args.numbers.now c.args.part) c.args.memory.0 c.args.address.0 c.args.count c.if-count-eq0.false
    c.in_ok-push_str.ensures.bytes c.in_ok-push_take.ensures c.in_ok-push_str-2.ensures.bytes c.in_ok-push_behind.ensures c.in_ok-push_str-3.ensures.bytes
    c.in_ok-push_taken.ensures) (pushed c.push_str-4.result (string_bytes c.push_str-4.new.self) _ _ c.push_str-4.ensures.bytes)
