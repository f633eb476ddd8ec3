use Rattle.model_spec.proofs.OfScripts.{models_are_of_scripts}
use Rattle.model_spec.proofs.answers.models_are_of_scripts.Goals as goal

pub returns : goal.returns
returns c = models_are_of_scripts
