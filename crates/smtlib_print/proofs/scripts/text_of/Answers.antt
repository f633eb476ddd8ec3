use Rattle.std.proofs.Common.{◌∙◌, ◌++◌, List, string_bytes, map, ap}
use Rattle.known_bytes.specs.declared.listing.Known.{Known}
use Rattle.known_bytes.specs.Runs.{run_of}
use Rattle.question_form.specs.Views.{kept_of}
use Rattle.smtlib_print.specs.Commands.{file_assertions}
use Rattle.smtlib_print.specs.Scripted.{source_of}
use Rattle.smtlib_print.specs.Written.{commands_text}
use Rattle.smtlib_print.proofs.Printing.{script_parts}
use Rattle.smtlib_print.proofs.scripts.text_of.Goals as goal

pub returns-clause-text : goal.returns-clause-text
returns-clause-text c =
    let v = c.args.question.now.passive.now.unrolled.now in
    let kept = map kept_of v.kept.now in
    script_parts (source_of c.args.question.now c.args.heads c.args.steps c.args.numbers.now) c.nodes-count.result (string_bytes c.new-out.result)
    (string_bytes c.push_head.new.out)
    (string_bytes c.push_definitions.new.out) (string_bytes c.push_root.new.out) (string_bytes c.push_file.new.out) (string_bytes c.push_check.new.out)
    c.new-out.ensures.bytes
    c.nodes-count.ensures.count c.in_ok-push_head.ensures c.in_ok-push_definitions.ensures c.in_ok-push_root.ensures
    (c.in_ok-push_file.ensures.text
    ∙ ap (λ b. string_bytes c.push_root.new.out ++ commands_text (file_assertions b kept (map run_of c.deref.result.now))) c.is_head_asked.ensures
    ∙ ap (λ (runs : List Known). string_bytes c.push_root.new.out
    ++ commands_text (file_assertions (source_of c.args.question.now c.args.heads c.args.steps c.args.numbers.now).asks_head kept (map run_of runs))) c.deref.ensures.value)
    c.in_ok-push_check.ensures
