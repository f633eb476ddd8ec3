-- Lines that not every text may have.
use Rattle.std.specs.Prelude.{ℕ, List}
use Rattle.answer_spec.specs.FrameAnswers.{invariant_words, contract_words}
use Rattle.framed_notes.specs.declared.dialects.LineKind.{LineKind}
use Rattle.framed_notes.specs.declared.dialects.LineKind.TheVariants.{Invariant, Contract}

-- the words with which they begin
abbrev pub words_of : LineKind → List (List ℕ)
words_of Invariant = invariant_words
words_of Contract = contract_words
