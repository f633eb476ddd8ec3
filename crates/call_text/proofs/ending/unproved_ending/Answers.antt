use Rattle.std.proofs.Common.{ap, sym, ◌∙◌, map, take}
use Rattle.std.proofs.lemmas.List.{take_rest}
use Rattle.word_spec.specs.Texts.{words_in}
use Rattle.call_text.specs.Texts.{changes_at}
use Rattle.call_text.proofs.EndingWords.{behind_unproved, no_unproved}
use Rattle.call_text.proofs.ending.unproved_ending.Goals as goal

pub returns-then-not-starts_with : goal.returns-then-not-starts_with
returns-then-not-starts_with c =
    no_unproved (changes_at c.args.contracts.now) c.args.text.now (sym c.starts_with.ensures.value ∙ c.if-not-starts_with.true)

pub returns : goal.returns
returns c =
    c.after_unproved.ensures
    ∙ behind_unproved (changes_at c.args.contracts.now) c.args.text.now (map (λ word. word.now) c.deref.result.now)
    (sym c.starts_with.ensures.value ∙ c.if-not-starts_with.false)
    (ap (λ ws. map (λ word. word.now) ws) c.deref.ensures.value ∙ c.in_ok-words.ensures ∙ ap (λ t. take 8 (words_in t)) (take_rest c.args.text.now 9))
