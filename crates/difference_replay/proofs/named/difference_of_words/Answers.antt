use Rattle.difference_replay.proofs.NamedWords.{few_words, many_words}
use Rattle.difference_replay.proofs.named.difference_of_words.Goals as goal

pub returns-in_default-clause-said : goal.returns-in_default-clause-said
returns-in_default-clause-said c = few_words c.args.words.now c.in_default.len_below

pub returns-in_default-2-clause-said : goal.returns-in_default-2-clause-said
returns-in_default-2-clause-said c = many_words c.args.words.now c.in_default.len_at_least
