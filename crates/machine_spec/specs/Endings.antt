-- Starts, events, and the endings that a report names with their words.
use Rattle.std.specs.Prelude.{ℕ, List, [], ◌∷◌, ◌++◌, codes}
use Rattle.word_spec.specs.State.{State}
use Rattle.word_spec.specs.Texts.{word_text, number_text, joined}

-- What ends a run without an exit: an assert line that is false, by its number; a byte that can't be fetched; a word without a row; an odd address of a
-- halfword; a kept byte that would be written; a trap; an address that is no multiple of 4; a jump that isn't allowed; an ensure line that is false at the
-- exit.
pub data Event : Type 0 where
  AssertFails : ℕ → Event
  FetchFails : Event
  NoRow : Event
  HalfwordFails : Event
  CodeWritten : Event
  Trapped : Event
  AlignFails : Event
  JumpFails : Event
  EnsureFails : ℕ → Event

-- a start: a state, and a choice for each step, 0 where there is none
pub record Start : Type 0 where
  pub state : State
  pub choices : ℕ → ℕ

-- an event
abbrev pub event_words : Event → List (List ℕ)
event_words (AssertFails n) = codes "assert" ∷ number_text n ∷ []
event_words FetchFails = codes "fetch" ∷ []
event_words NoRow = codes "norow" ∷ []
event_words HalfwordFails = codes "halfword" ∷ []
event_words CodeWritten = codes "codewrite" ∷ []
event_words Trapped = codes "trap" ∷ []
event_words AlignFails = codes "align" ∷ []
event_words JumpFails = codes "jump" ∷ []
event_words (EnsureFails n) = codes "ensure" ∷ number_text n ∷ []

-- the address of a step, and its number
abbrev pub place_words : ℕ → ℕ → List (List ℕ)
place_words at step = codes "at" ∷ word_text at ∷ codes "step" ∷ number_text step ∷ []

-- the ending that a report names: an event, or the (k + 1)th backward transfer
pub data NamedEnding : Type 0 where
  FailsBy : Event → (at step : ℕ) → NamedEnding
  UnknownBy : (k at step : ℕ) → NamedEnding

-- the words of a named ending
abbrev pub named_words : NamedEnding → List (List ℕ)
named_words (FailsBy e at step) = codes "fails" ∷ event_words e ++ place_words at step
named_words (UnknownBy k at step) = codes "unknown" ∷ codes "unroll" ∷ number_text k ∷ place_words at step

-- its line
abbrev pub named_line : NamedEnding → List ℕ
named_line n = joined (named_words n)

-- the number of its step
abbrev pub named_step : NamedEnding → ℕ
named_step (FailsBy e at step) = step
named_step (UnknownBy k at step) = step
