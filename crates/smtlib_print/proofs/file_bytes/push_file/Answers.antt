use Rattle.std.proofs.Common.{string_bytes, sym, ap, ◌∙◌, ◌++◌, map}
use Rattle.known_bytes.specs.Runs.{run_of}
use Rattle.question_form.specs.Views.{kept_of}
use Rattle.smtlib_print.specs.Commands.{head_assertions}
use Rattle.smtlib_print.specs.Written.{commands_text}
use Rattle.smtlib_print.proofs.Printing.{file_text}
use Rattle.smtlib_print.proofs.file_bytes.push_file.Goals as goal

pub returns-in_ok-push_runs-2-clause-text : goal.returns-in_ok-push_runs-2-clause-text
returns-in_ok-push_runs-2-clause-text c =
    let kept = map kept_of c.args.kept.now in
    let known = map run_of c.args.runs.now in
    file_text c.args.asks_head kept known (string_bytes c.args.out.now) (string_bytes c.push_runs.new.out) (string_bytes c.push_runs-then-asks_head.new.out)
    c.in_ok-push_runs.ensures.text
    (c.in_ok-push_runs-2.ensures.text
    ∙ ap (λ b. string_bytes c.push_runs.new.out ++ commands_text (head_assertions b kept known)) (sym c.if-asks_head.true))
