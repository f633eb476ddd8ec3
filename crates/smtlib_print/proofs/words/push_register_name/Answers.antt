use Rattle.std.proofs.Common.{string_bytes}
use Rattle.smtlib_print.proofs.Printed.{on_text, rv_named}
use Rattle.smtlib_print.proofs.words.push_register_name.Goals as goal

pub returns-in-Rv32 : goal.returns-in-Rv32
returns-in-Rv32 c =
    on_text c.write.result (string_bytes c.write.new.self) (string_bytes c.args.out.now) _ _
    (rv_named c.args.form _ c.args.register c.in-Rv32.is c.requires.first c.requires.last) c.write.ensures.bytes
