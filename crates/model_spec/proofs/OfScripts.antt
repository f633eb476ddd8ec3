-- Scripts say of an answer's reading what the question does.
use Rattle.model_spec.specs.ModelLaws.{ModelsAreOfScripts}

pub models_are_of_scripts : ModelsAreOfScripts
models_are_of_scripts p layout k kind text s ds r is = s.means r is.reading is.pc
