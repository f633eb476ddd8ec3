use Rattle.clause_spec.proofs.Refusals.{refusal_has_place}
use Rattle.clause_spec.proofs.certificates.refusal_has_place.Goals as goal

pub returns : goal.returns
returns c = refusal_has_place
