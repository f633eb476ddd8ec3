-- The words of answers.
use Rattle.std.specs.Prelude.{ℕ, List, codes}
use Rattle.difference_replay.specs.declared.probes.Half.{Half}
use Rattle.difference_replay.specs.declared.probes.Half.TheVariants.{First, Second}

-- the word of one of two functions
abbrev pub word_of : Half → List ℕ
word_of First = codes "first"
word_of Second = codes "second"
