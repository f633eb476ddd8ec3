use Rattle.std.proofs.Common.{string_bytes}
use Rattle.smtlib_print.proofs.Printed.{on_ok, binary_pushed}
use Rattle.smtlib_print.proofs.words.+push_binary.Goals as goal

pub returns : goal.returns
returns t c =
    on_ok c.write.result _ _ (binary_pushed (string_bytes c.args.out.now) (string_bytes c.push_binary.new.out) (string_bytes c.write.new.self) c.args.count
    c.args.value
    c.if-count-eq0.false c.in_ok-push_binary.ensures) c.write.ensures.bytes
