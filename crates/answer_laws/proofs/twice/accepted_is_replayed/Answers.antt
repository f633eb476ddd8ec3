use Rattle.answer_laws.proofs.AcceptedRuns.{accepted_is_replayed}
use Rattle.answer_laws.proofs.twice.accepted_is_replayed.Goals as goal

pub returns : goal.returns
returns c = accepted_is_replayed
