use Rattle.std.proofs.Common.{◌≡◌, ◌∙◌, ◌≤◌, List, ℕ, length, rules, subst, sym}
use Rattle.answer_spec.specs.FrameAnswers.{dialect_for}
use Rattle.command_line.specs.Commands.{options_of}
use Rattle.bilv_top.specs.Answers.{answer_of}
use Rattle.bilv_top.specs.Due.{AreNotesAnsweredIn}
use Rattle.suite_check.specs.Warned.{IsChecked}
use Rattle.suite_check.proofs.Founds.{whole_told, unfound_told}
use Rattle.suite_check.proofs.checking.checked_over.Goals as goal

pub returns-in_ok-warnings-in-Go : goal.returns-in_ok-warnings-in-Go
returns-in_ok-warnings-in-Go c =
    let o = options_of c.args.options in
    let file = c.args.file.now in
    let found = rw c.in-Go.is at c.in_ok-framed.ensures in
    let warned = c.in_ok-warnings-in-Go in
    let text : c.in_ok-text.text.items ≡ c.args.notes.now = search rules in
    subst (λ (r : List ℕ). IsChecked o file c.args.notes.now 0 r warned.warnings.items) (sym c.new.ensures.items)
    (whole_told o file c.args.image.now c.args.notes.now c.in-Go.framed warned.warnings.items c.requires.image c.requires.accepted c.requires.short
    (found.0 ∙ text) found.1 warned.ensures)

pub returns-in_ok-warnings-in-Answered : goal.returns-in_ok-warnings-in-Answered
returns-in_ok-warnings-in-Answered c =
    let o = options_of c.args.options in
    let file = c.args.file.now in
    let text : c.in_ok-text.text.items ≡ c.args.notes.now = search rules in
    let a = answer_of c.in-Answered.answer in
    let refused = rw c.in-Answered.is at c.in_ok-framed.ensures in
    let same = subst (λ (t : List ℕ). AreNotesAnsweredIn (dialect_for t) o c.args.image.now t a) text refused in
    unfound_told o file c.args.image.now c.args.notes.now a c.in_ok-warnings-in-Answered.warnings.items c.requires.image c.requires.accepted same
    c.in_ok-warnings-in-Answered.ensures
