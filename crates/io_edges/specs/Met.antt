-- What a call meets of the files that it reads and of the text that it writes.
use Rattle.std.specs.Prelude.{ℕ, List, Option, None}
use Rattle.call_spec.specs.Outside.{Held}
use Rattle.call_spec.specs.Calls.{Surroundings}

-- what is told of files, and the counts of their faults before and after
abbrev pub seen : (List ℕ → Held) → (before after : List ℕ → ℕ) → Surroundings
seen held before after = record {
  held = held;
  shelf_before = before;
  shelf_after = after;
  text_before = None;
  text_after = None;
  sink_before = 0;
  sink_after = 0;
}

-- the same, with what is told of the text that is written, and the counts of its faults
abbrev pub met : Surroundings → (text_before text_after : Option (List ℕ)) → (sink_before sink_after : ℕ) → Surroundings
met s text_before text_after sink_before sink_after = record s {
  text_before = text_before;
  text_after = text_after;
  sink_before = sink_before;
  sink_after = sink_after;
}
