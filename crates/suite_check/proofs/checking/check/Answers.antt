use Rattle.std.proofs.Common.{List, ap, subst, sym}
use Rattle.call_spec.specs.Calls as calls
use Rattle.command_line.specs.Commands.{options_of}
use Rattle.note_check.specs.declared.warning.Warning.{Warning}
use Rattle.suite_check.specs.Warned.{IsChecked}
use Rattle.suite_check.proofs.Refused.{none_of}
use Rattle.suite_check.proofs.checking.check.Goals as goal

pub returns-in-Err : goal.returns-in-Err
returns-in-Err c =
    let a = c.in_ok-answer-in-Err.answer in
    let is = c.in_ok-answer-in-Err.ensures in
    subst (λ (ws : List Warning). IsChecked (options_of c.args.options) c.args.file.now c.args.notes.now a.status a.text.items ws) (sym c.new.ensures.items)
    (none_of (options_of c.args.options) c.args.file.now c.args.notes.now c.in-Err.fault a.status a.text.items is.0 (ap (λ (b : calls.Answer). b.status) is.1)
    (ap (λ (b : calls.Answer). b.text) is.1) c.in-Err.ensures.refused)
