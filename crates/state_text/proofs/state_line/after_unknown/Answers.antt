use Rattle.state_text.proofs.SaidLines.{fewer_words, more_words}
use Rattle.state_text.proofs.state_line.after_unknown.Goals as goal

pub returns-in_default : goal.returns-in_default
returns-in_default c = fewer_words c.args.words.now c.in_default.len_below

pub returns-in_default-2 : goal.returns-in_default-2
returns-in_default-2 c = more_words c.args.words.now c.in_default.len_at_least
