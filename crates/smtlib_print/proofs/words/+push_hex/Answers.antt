use Rattle.std.proofs.Common.{string_bytes}
use Rattle.smtlib_print.proofs.Printed.{on_ok, pushed, hex_pushed}
use Rattle.smtlib_print.proofs.words.+push_hex.Goals as goal

pub returns : goal.returns
returns t c =
    on_ok c.push_str.result _ _ (hex_pushed (string_bytes c.args.out.now) (string_bytes c.push_hex.new.out) (string_bytes c.push_str.new.self)
    c.hex_digit_text.result.now c.args.count c.args.value
    c.if-count-eq0.false c.in_ok-push_hex.ensures c.hex_digit_text.ensures)
    (pushed c.push_str.result (string_bytes c.push_str.new.self) _ _ c.push_str.ensures.bytes)
