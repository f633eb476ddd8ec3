use Rattle.std.proofs.Common.{string_bytes, ap, ◌∙◌, ◌++◌}
use Rattle.smtlib_print.specs.Commands.{prefix_in}
use Rattle.smtlib_print.proofs.Printed.{on_ok, part_added, pushed}
use Rattle.smtlib_print.proofs.words.push_flag_in.Goals as goal

pub returns : goal.returns
returns c =
    on_ok c.push_str.result _ _
    (λ e. part_added (string_bytes c.args.out.now) (string_bytes c.push_prefix.new.out) (string_bytes c.push_str.new.self)
    (prefix_in c.args.numbers.now c.args.part) _ c.in_ok-push_prefix.ensures
    (e ∙ ap (λ t. string_bytes c.push_prefix.new.out ++ t) c.flag_name.ensures))
    (pushed c.push_str.result (string_bytes c.push_str.new.self) _ _ c.push_str.ensures.bytes)
