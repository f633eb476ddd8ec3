-- How a verdict's ending and the end of a run are written.
use Rattle.std.specs.Prelude.{ℕ, ◌+◌, List, ◌∷◌, Option, Some, None, codes}
use Rattle.bilv_spec.specs.Run.{Program, Run, Going, Exited, Failed, Turned, run}
use Rattle.machine_spec.specs.Endings.{Start, Event, place_words, FailsBy, UnknownBy, named_words}

-- What a run of a bounded number of steps is found to end in, each with the address and the number of the last step that was made: the exit, an event, one
-- backward transfer too many, or nothing: its steps were made, and it would go on.
pub data Found : Type 0 where
  FoundExit : (at step : ℕ) → Found
  FoundEvent : Event → (at step : ℕ) → Found
  FoundTurn : (at step : ℕ) → Found
  FoundLeft : (at step : ℕ) → Found

-- the address and the number of the step that a run is to make; a run that has ended makes none
abbrev pub found_going : Run → Found
found_going (Going turns n c) = FoundLeft c.state.pc n
found_going (Exited at n) = FoundExit at n
found_going (Failed e at n) = FoundEvent e at n
found_going (Turned at n) = FoundTurn at n

-- what is found by the run before its last step, and behind it
abbrev pub found_by : (before behind : Run) → Found
found_by before (Going turns n c) = found_going before
found_by before (Exited at n) = FoundExit at n
found_by before (Failed e at n) = FoundEvent e at n
found_by before (Turned at n) = FoundTurn at n

-- how many backward transfers are allowed within the steps up to a last one: those of a bound, and without one more than there are steps
abbrev pub turns_within : (last : ℕ) → Option ℕ → ℕ
turns_within last None = last + 1
turns_within last (Some k) = k

-- what the run from a start comes to in the steps 0 to last, for a bound on backward transfers or without one
abbrev pub found : Program → Option ℕ → Start → (last : ℕ) → Found
found p bound start last = found_by (run p (turns_within last bound) start last) (run p (turns_within last bound) start (last + 1))

-- the words of what is found, where so many backward transfers were allowed
abbrev pub found_words : (k : ℕ) → Found → List (List ℕ)
found_words k (FoundExit at step) = codes "exit" ∷ place_words at step
found_words k (FoundEvent e at step) = named_words (FailsBy e at step)
found_words k (FoundTurn at step) = named_words (UnknownBy k at step)
found_words k (FoundLeft at step) = codes "running" ∷ place_words at step
