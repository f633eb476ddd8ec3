use Rattle.std.proofs.Common.{ap, ◌∙◌, map}
use Rattle.word_spec.specs.Texts.{words_in}
use Rattle.pair_spec.specs.Differs.{difference_of_words}
use Rattle.difference_replay.proofs.NamedWords.{first_eight}
use Rattle.difference_replay.proofs.named.difference_in.Goals as goal

pub returns-clause-said : goal.returns-clause-said
returns-clause-said c =
    c.difference_of_words.ensures.said
    ∙ ap (λ ws. difference_of_words (map (λ word. word.now) ws)) c.deref.ensures.value
    ∙ ap difference_of_words c.in_ok-words.ensures
    ∙ first_eight (words_in c.args.text.now)
