use Rattle.std.proofs.Common.{string_bytes}
use Rattle.smtlib_print.proofs.Printed.{on_ok, pushed, big_loaded, little_loaded}
use Rattle.smtlib_print.proofs.terms.+push_load.Goals as goal

pub returns-then-big : goal.returns-then-big
returns-then-big t c =
    on_ok c.push_str-then-big-2.result _ _ (big_loaded (string_bytes c.args.out.now) (string_bytes c.push_str.new.self) (string_bytes c.push_load.new.out)
    (string_bytes c.push_str-then-big.new.self)
    (string_bytes c.push_selected-then-big.new.out) (string_bytes c.push_str-then-big-2.new.self) c.args.big c.args.memory.0 c.args.address.0 c.args.more
    c.if-big.true c.if-more-eq0.false
    c.in_ok-push_str.ensures.bytes c.in_ok-push_load.ensures c.in_ok-push_str-2.ensures.bytes c.in_ok-push_selected.ensures)
    (pushed c.push_str-then-big-2.result (string_bytes c.push_str-then-big-2.new.self) _ _ c.push_str-then-big-2.ensures.bytes)

pub returns : goal.returns
returns t c =
    on_ok c.push_str-3.result _ _ (little_loaded (string_bytes c.args.out.now) (string_bytes c.push_str.new.self) (string_bytes c.push_selected-2.new.out)
    (string_bytes c.push_str-2.new.self)
    (string_bytes c.push_load-2.new.out) (string_bytes c.push_str-3.new.self) c.args.big c.args.memory.0 c.args.address.0 c.args.more c.if-big.false
    c.if-more-eq0.false
    c.in_ok-push_str.ensures.bytes c.in_ok-push_selected-2.ensures c.in_ok-push_str-3.ensures.bytes c.in_ok-push_load-2.ensures)
    (pushed c.push_str-3.result (string_bytes c.push_str-3.new.self) _ _ c.push_str-3.ensures.bytes)
