-- An answer gives one value to each name.
use Rattle.std.specs.Prelude.{ℕ, ◌≡◌, List}
use Rattle.model_spec.specs.ModelText.{Declared, Definition, IsAnswer}

-- the definitions of an answer are those of its text
abbrev pub OneAnswer : Type 0
OneAnswer = (declared : List Declared) (text : List ℕ) (ds es : List Definition) → IsAnswer declared text ds → IsAnswer declared text es → ds ≡ es
