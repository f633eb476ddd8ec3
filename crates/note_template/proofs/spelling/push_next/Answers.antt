use Rattle.std.proofs.Common.{◌≡◌, ◌+◌, Bool, subst, get_or, drop}
use Rattle.std.specs.Prelude.{IfOk}
use Rattle.note_template.specs.Templates.{behind, spelled}
use Rattle.note_template.proofs.SpellingLaws.{byte_pushed, joining_form}
use Rattle.note_template.proofs.spelling.push_next.Goals as goal

pub returns-then-first-eq64-clause-pushed : goal.returns-then-first-eq64-clause-pushed
returns-then-first-eq64-clause-pushed c column =
    subst (λ (j : Bool). IfOk c.in_ok-count.count (λ n. behind c.args.out.now.items (spelled c.args.symbols.now c.args.joined 0 column c.args.text.now)
    ≡ behind c.push_form.new.out.items (spelled c.args.symbols.now j 0 (column + n) (drop n c.args.text.now))))
    (joining_form (get_or c.args.text.now 0 0) c.if-first-eq64.true) (c.in_ok-count.ensures.pushed column)

pub returns-clause-pushed : goal.returns-clause-pushed
returns-clause-pushed c column =
    byte_pushed c.args.symbols.now c.args.joined column c.args.out.now.items c.push.new.self.items c.args.text.now c.requires c.if-first-eq64.false
    c.in_ok-push.ensures.items
