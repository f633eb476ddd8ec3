use Rattle.std.proofs.Common.{string_bytes, ap, ◌∙◌, ◌++◌}
use Rattle.frame_spec.specs.FrameScripts.{given_prefix}
use Rattle.smtlib_print.proofs.GiftTexts.{given_flag_added}
use Rattle.smtlib_print.proofs.Printed.{on_ok, pushed}
use Rattle.smtlib_print.proofs.gifts.declare_flag.Goals as goal

pub returns : goal.returns
returns c =
    on_ok c.push_str-3.result _ _ (given_flag_added (string_bytes c.args.out.now) (string_bytes c.push_str.new.self)
    (string_bytes c.push_given_prefix.new.out) (string_bytes c.push_str-2.new.self) (string_bytes c.push_str-3.new.self)
    (given_prefix c.args.number) _ c.args.changes c.if-not-changes.false c.in_ok-push_str.ensures.bytes c.in_ok-push_given_prefix.ensures
    (c.in_ok-push_str-2.ensures.bytes ∙ ap (λ t. string_bytes c.push_given_prefix.new.out ++ t) c.flag_name.ensures))
    (pushed c.push_str-3.result (string_bytes c.push_str-3.new.self) _ _ c.push_str-3.ensures.bytes)
