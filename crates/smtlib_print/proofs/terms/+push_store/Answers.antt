use Rattle.std.proofs.Common.{string_bytes, ap, ◌*◌}
use Rattle.word_spec.specs.Memory.{endian}
use Rattle.smtlib_print.proofs.Printed.{on_ok, pushed, byte_stored}
use Rattle.smtlib_print.proofs.terms.+push_store.Goals as goal

pub returns : goal.returns
returns t c =
    on_ok c.push_str-4.result _ _ (byte_stored (string_bytes c.args.out.now) (string_bytes c.push_str.new.self) (string_bytes c.push_store.new.out)
    (string_bytes c.push_str-2.new.self)
    (string_bytes c.push_behind.new.out) (string_bytes c.push_str-3.new.self) (string_bytes c.push_extract.new.out) (string_bytes c.push_str-4.new.self)
    (endian c.args.big) c.args.bytes c.args.memory.0 c.args.address.0 c.args.value.0 c.args.count (8 * c.byte_place-lowest.result) c.if-count-eq0.false
    (ap (λ p. 8 * p) c.byte_place-lowest.ensures.value)
    c.in_ok-push_str.ensures.bytes c.in_ok-push_store.ensures c.in_ok-push_str-2.ensures.bytes c.in_ok-push_behind.ensures c.in_ok-push_str-3.ensures.bytes
    c.in_ok-push_extract.ensures) (pushed c.push_str-4.result (string_bytes c.push_str-4.new.self) _ _ c.push_str-4.ensures.bytes)
