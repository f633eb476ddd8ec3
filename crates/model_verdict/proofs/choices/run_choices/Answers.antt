use Rattle.std.proofs.Common.{◌∙◌, sym}
use Rattle.model_verdict.proofs.Chosen.{by_terms, by_zeros, terms_count, terms_within}
use Rattle.model_verdict.proofs.choices.run_choices.Goals as goal

pub returns-then-not-has_choice : goal.returns-then-not-has_choice
returns-then-not-has_choice c =
    by_zeros c.args.passive.now c.requires.askable c.args.reading.now c.new.result.items
    (rw c.deref.ensures.value at (c.has_choice.ensures c.if-not-has_choice.true)) c.new.ensures.items

pub choices_by_step-requires-clause-count : goal.choices_by_step-requires-clause-count
choices_by_step-requires-clause-count c =
    rw (c.deref-2.ensures.value, c.deref-4.ensures.value) (terms_count c.args.passive.now c.requires.askable ∙ sym c.requires.count)

pub choices_by_step-requires-clause-within : goal.choices_by_step-requires-clause-within
choices_by_step-requires-clause-within c =
    rw (c.deref-2.ensures.value, c.deref-3.ensures.value)
    (terms_within c.args.passive.now c.requires.askable c.in_ok-words.words.items c.in_ok-words.ensures.count)

pub choices_by_step-requires-clause-few : goal.choices_by_step-requires-clause-few
choices_by_step-requires-clause-few c = rw c.deref-4.ensures.value c.requires.few

pub returns : goal.returns
returns c =
    by_terms c.args.passive.now c.requires.askable c.args.reading.now c.in_ok-words.words.items _ c.in_ok-choices.choices.items c.in_ok-words.ensures
    c.requires.few (rw (c.deref-2.ensures.value, c.deref-3.ensures.value, c.deref-4.ensures.value) at c.in_ok-choices.ensures)
