use Rattle.clause_spec.proofs.RefutationSound.{refutation_sound}
use Rattle.clause_spec.proofs.certificates.refutation_is_sound.Goals as goal

pub returns : goal.returns
returns c = refutation_sound
