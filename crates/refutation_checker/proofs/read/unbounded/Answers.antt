use Rattle.std.proofs.Common.{sym, ◌∙◌, ap}
use Rattle.std.specs.Str.{bytes_eq}
use Rattle.refutation_checker.specs.Readings.{read_as}
use Rattle.refutation_checker.proofs.Caps.{read-deletion, read-addition, no-addition}
use Rattle.refutation_checker.proofs.read.unbounded.Goals as goal

pub returns-in_ok-line-in-Some-2 : goal.returns-in_ok-line-in-Some-2
returns-in_ok-line-in-Some-2 c =
    ap read_as (rw (c.deref.ensures.value, c.size.ensures.value) at c.in_ok-line-in-Some-2.ensures)
    ∙ read-deletion c.args.text.now c.in-Some.word.now c.in-Some.rest.now c.in-Some-next_word.word.now c.in-Some-next_word.behind.now c.in-Some-integer.id
    c.in-Some.ensures.words c.in-Some-next_word.ensures.words c.in-Some-integer.ensures (sym c.is_negative.ensures ∙ c.if-is_negative.false)
    (ap (bytes_eq c.in-Some-next_word.word.now) (sym c.as_slice.ensures) ∙ sym c.eq.ensures ∙ c.if-eq.true) c.in-Some-2.ids.items
    (rw c.in-Some-2.is at c.in_ok-numbers.ensures)

pub returns-in-None-2 : goal.returns-in-None-2
returns-in-None-2 c =
    no-addition c.args.text.now c.in-Some.word.now c.in-Some.rest.now c.in-Some-next_word.word.now c.in-Some-next_word.behind.now c.in-Some-integer.id
    c.in-Some.ensures.words c.in-Some-next_word.ensures.words c.in-Some-integer.ensures (sym c.is_negative.ensures ∙ c.if-is_negative.false)
    (ap (bytes_eq c.in-Some-next_word.word.now) (sym c.as_slice.ensures) ∙ sym c.eq.ensures ∙ c.if-eq.false) (rw c.in-None-2.is at c.in_ok-numbers-2.ensures)

pub returns-in_ok-line-in-Some-3 : goal.returns-in_ok-line-in-Some-3
returns-in_ok-line-in-Some-3 c =
    rw (c.deref-in-Some-3.ensures.value, c.size-in-Some-3.ensures.value) at c.in_ok-line-in-Some-3.ensures
    ∙ read-addition c.args.text.now c.in-Some.word.now c.in-Some.rest.now c.in-Some-next_word.word.now c.in-Some-next_word.behind.now c.in-Some-integer.id
    c.in-Some.ensures.words c.in-Some-next_word.ensures.words c.in-Some-integer.ensures (sym c.is_negative.ensures ∙ c.if-is_negative.false)
    (ap (bytes_eq c.in-Some-next_word.word.now) (sym c.as_slice.ensures) ∙ sym c.eq.ensures ∙ c.if-eq.false) c.in-Some-3.lists.items
    (rw c.in-Some-3.is at c.in_ok-numbers-2.ensures)
