use Rattle.std.proofs.Common.{string_bytes}
use Rattle.frame_spec.specs.FrameScripts.{given_prefix}
use Rattle.smtlib_print.proofs.GiftTexts.{given_register_added}
use Rattle.smtlib_print.proofs.Printed.{on_ok, pushed}
use Rattle.smtlib_print.proofs.gifts.declare_register.Goals as goal

pub returns : goal.returns
returns c =
    on_ok c.push_str-2.result _ _ (given_register_added (string_bytes c.args.out.now) (string_bytes c.push_str.new.self)
    (string_bytes c.push_given_prefix.new.out) (string_bytes c.push_register_name.new.out) (string_bytes c.push_str-2.new.self)
    (given_prefix c.args.number) _ c.args.changes c.if-not-changes.false c.in_ok-push_str.ensures.bytes c.in_ok-push_given_prefix.ensures
    c.in_ok-push_register_name.ensures) (pushed c.push_str-2.result (string_bytes c.push_str-2.new.self) _ _ c.push_str-2.ensures.bytes)
