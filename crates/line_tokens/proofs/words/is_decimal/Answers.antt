use Rattle.line_tokens.proofs.Said.{several_digits}
use Rattle.line_tokens.proofs.words.is_decimal.Goals as goal

pub returns-then-b-gt48 : goal.returns-then-b-gt48
returns-then-b-gt48 c = several_digits c.args.word.now c.are_digits.result c.in-len1-up.len_at_least c.are_digits.ensures c.if-b-gt48.true
