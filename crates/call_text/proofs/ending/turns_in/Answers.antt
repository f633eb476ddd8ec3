use Rattle.call_text.proofs.EndingWords.{few_turns, many_turns}
use Rattle.call_text.proofs.ending.turns_in.Goals as goal

pub returns-in_default : goal.returns-in_default
returns-in_default c = few_turns c.args.words.now c.in_default.len_below

pub returns-in_default-2 : goal.returns-in_default-2
returns-in_default-2 c = many_turns c.args.words.now c.in_default.len_at_least
