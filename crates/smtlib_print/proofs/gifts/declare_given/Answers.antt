use Rattle.std.proofs.Common.{string_bytes, ap, map, ◌∙◌, ◌++◌}
use Rattle.start_value.specs.Starts.{layout_of}
use Rattle.notes_value.specs.FrameViews.{contract_of}
use Rattle.smtlib_print.specs.Commands.{array_sort, declarations}
use Rattle.frame_spec.specs.FrameScripts.{of_given, written_memory}
use Rattle.smtlib_print.specs.Scripted.{given_of}
use Rattle.smtlib_print.specs.Written.{commands_text}
use Rattle.smtlib_print.proofs.GiftTexts.{given_text}
use Rattle.smtlib_print.proofs.Printed.{on_ok}
use Rattle.smtlib_print.proofs.gifts.declare_given.Goals as goal

pub returns : goal.returns
returns c =
    on_ok c.declare_memory.result _ _
    (λ e. given_text (layout_of c.args.form) c.args.number (given_of (contract_of c.args.contract.now)) (string_bytes c.args.out.now)
    (string_bytes c.declare_registers.new.out) (string_bytes c.declare_flags.new.out) (string_bytes c.declare_memory.new.out)
    c.in_ok-declare_registers.ensures c.in_ok-declare_flags.ensures
    (e ∙ ap (λ b. string_bytes c.declare_flags.new.out ++ commands_text (declarations array_sort (map (of_given c.args.number) (written_memory b))))
    c.writes_some.ensures))
    c.declare_memory.ensures
