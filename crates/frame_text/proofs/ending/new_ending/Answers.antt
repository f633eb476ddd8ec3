use Rattle.std.proofs.Common.{ap, sym, ◌∙◌, map, take}
use Rattle.std.proofs.lemmas.List.{take_rest}
use Rattle.word_spec.specs.Texts.{words_in}
use Rattle.frame_text.proofs.FirstLines.{behind_not, no_not}
use Rattle.frame_text.proofs.ending.new_ending.Goals as goal

pub returns-then-starts_with : goal.returns-then-starts_with
returns-then-starts_with c =
    c.after_not.ensures ∙ behind_not c.args.text.now (map (λ word. word.now) c.deref.result.now) (sym c.starts_with.ensures.value ∙ c.if-starts_with.true)
    (ap (λ ws. map (λ word. word.now) ws) c.deref.ensures.value ∙ c.in_ok-words.ensures ∙ ap (λ t. take 8 (words_in t)) (take_rest c.args.text.now 4))

pub returns : goal.returns
returns c =
    c.fails_ending.ensures ∙ no_not c.args.text.now (map (λ word. word.now) c.deref-2.result.now) (sym c.starts_with.ensures.value ∙ c.if-starts_with.false)
    (ap (λ ws. map (λ word. word.now) ws) c.deref-2.ensures.value ∙ c.in_ok-words-2.ensures)
