use Rattle.pair_turns.proofs.PairsAlike.{pair_questions_fall}
use Rattle.pair_turns.proofs.runs.pair_questions_fall.Goals as goal

pub returns : goal.returns
returns c = pair_questions_fall
