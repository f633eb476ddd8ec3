use Rattle.std.proofs.Common.{◌≡◌, ℕ, List, ◌-◌, take, drop, length, arith}
use Rattle.std.proofs.lemmas.List.{take_all, length-drop}
use Rattle.note_template.specs.Views.{refusal_of}
use Rattle.note_template.proofs.SpellingLaws.{joined_refused, form_refused, number_pushed}
use Rattle.note_template.proofs.spelling.push_form.Goals as goal

-- what stands behind the first byte
same : (text : List ℕ) → take (length text - 1) (drop 1 text) ≡ drop 1 text
same text = take_all (length text - 1) (drop 1 text) (omega (arith, length-drop 1 text))

pub returns-then-joined-clause-refused : goal.returns-then-joined-clause-refused
returns-then-joined-clause-refused c column =
    joined_refused c.args.symbols.now c.args.joined column c.args.text.now c.requires.some c.requires.form c.if-joined.true

pub returns-in-Err-clause-refused : goal.returns-in-Err-clause-refused
returns-in-Err-clause-refused c column =
    form_refused c.args.symbols.now c.args.joined column c.args.text.now (take (length c.args.text.now - 1) (drop 1 c.args.text.now))
    (refusal_of c.in-Err.refusal) c.requires.some c.requires.form c.if-joined.false (same c.args.text.now)
    (λ rest. rw c.in-Err.is at (c.in_ok-refusal.ensures.none column rest))

pub returns-in_ok-push_word-in-Ok-clause-pushed : goal.returns-in_ok-push_word-in-Ok-clause-pushed
returns-in_ok-push_word-in-Ok-clause-pushed c column =
    number_pushed c.args.symbols.now c.args.joined column c.in-Ok.form.count c.in-Ok.form.number c.args.out.now.items c.push_word.new.out.items
    c.args.text.now (take (length c.args.text.now - 1) (drop 1 c.args.text.now)) c.requires.some c.requires.form c.if-joined.false (same c.args.text.now)
    (λ rest. rw c.in-Ok.is at (c.in_ok-refusal.ensures.some column rest)) c.in_ok-push_word-in-Ok.ensures
