use Rattle.std.proofs.Common.{string_bytes}
use Rattle.word_spec.specs.Texts.{number_text}
use Rattle.smtlib_print.proofs.Printed.{on_text, rooted}
use Rattle.smtlib_print.proofs.definitions.push_root.Goals as goal

pub returns : goal.returns
returns c =
    on_text c.write.result (string_bytes c.write.new.self) (string_bytes c.args.out.now) _ _ (rooted (number_text c.args.place) (number_text c.args.root.0))
    c.write.ensures.bytes
