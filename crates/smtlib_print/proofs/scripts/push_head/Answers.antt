use Rattle.std.proofs.Common.{string_bytes}
use Rattle.start_value.specs.Starts.{layout_of}
use Rattle.smtlib_print.specs.Commands.{drawn}
use Rattle.smtlib_print.specs.Scripted.{draws_of}
use Rattle.smtlib_print.proofs.Printing.{head_text}
use Rattle.smtlib_print.proofs.scripts.push_head.Goals as goal

pub returns : goal.returns
returns c =
    head_text (layout_of c.args.unrolled.now.form) c.args.heads (drawn c.args.numbers.now (draws_of c.args.unrolled.now)) _ (string_bytes c.args.out.now)
    (string_bytes c.push_str.new.self) (string_bytes c.declare_part.new.out) (string_bytes c.declare_head.new.out) (string_bytes c.declare_choices.new.out)
    (string_bytes c.declare_gifts.new.out) c.in_ok-push_str.ensures.bytes c.in_ok-declare_part.ensures c.in_ok-declare_head.ensures c.in_ok-declare_choices.ensures c.in_ok-declare_gifts.ensures
