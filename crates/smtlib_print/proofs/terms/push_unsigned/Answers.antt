use Rattle.std.proofs.Common.{string_bytes, [], ◌∷◌, ◌++◌}
use Rattle.std.specs.Prelude.{codes}
use Rattle.word_spec.specs.Texts.{number_text}
use Rattle.smtlib_print.proofs.Printed.{on_text, closed}
use Rattle.smtlib_print.proofs.terms.push_unsigned.Goals as goal

pub returns : goal.returns
returns c =
    on_text c.write.result (string_bytes c.write.new.self) (string_bytes c.args.out.now) _ _
    (closed (codes "((_ zero_extend ") (number_text c.args.more) (32 ∷ 116 ∷ (number_text c.args.term.0 ++ 41 ∷ [])) []) c.write.ensures.bytes
