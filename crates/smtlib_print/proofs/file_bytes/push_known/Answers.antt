use Rattle.std.proofs.Common.{string_bytes}
use Rattle.smtlib_print.proofs.KnownTexts.{known_added}
use Rattle.smtlib_print.proofs.Printed.{on_ok, pushed}
use Rattle.smtlib_print.proofs.file_bytes.push_known.Goals as goal

pub returns : goal.returns
returns c =
    on_ok c.push_str-4.result _ _ (known_added (string_bytes c.args.out.now) (string_bytes c.push_str.new.self) (string_bytes c.push_memory.new.out)
    (string_bytes c.push_str-2.new.self) (string_bytes c.push_address.new.out) (string_bytes c.push_str-3.new.self) (string_bytes c.push_byte.new.out)
    (string_bytes c.push_str-4.new.self) c.args.part c.args.address c.args.value
    c.in_ok-push_str.ensures.bytes c.in_ok-push_memory.ensures c.in_ok-push_str-2.ensures.bytes c.in_ok-push_address.ensures
    c.in_ok-push_str-3.ensures.bytes c.in_ok-push_byte.ensures)
    (pushed c.push_str-4.result (string_bytes c.push_str-4.new.self) _ _ c.push_str-4.ensures.bytes)
