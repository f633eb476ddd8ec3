-- Contracts as definitions see them.
use Rattle.std.specs.Prelude.{ℕ, Bool, ◌==◌, map, filter}
use Rattle.word_spec.specs.Words.{bit_at}
use Rattle.word_spec.specs.RowFiles.{from_to}
use Rattle.frame_spec.specs.Frames as frames
use Rattle.notes_value.specs.Views.{expr_of}
use Rattle.notes_value.specs.NoteViews.{note_line_of}
use Rattle.notes_value.specs.declared.notes.Writes.{Writes}
use Rattle.notes_value.specs.declared.notes.Contract.{Contract}

-- the number is in a set that has a bit for each
abbrev pub is_in : (set : ℕ) → ℕ → Bool
is_in set n = bit_at n set == 1

-- bytes that may be written
abbrev pub writes_of : Writes → frames.Writes
writes_of w = record { line = w.line; says = expr_of w.says; count = w.count }

-- a contract
abbrev pub contract_of : Contract → frames.Contract
contract_of c = record {
  at = c.at;
  needs = map note_line_of c.needs.items;
  gives = map note_line_of c.gives.items;
  writes = map writes_of c.writes.items;
  registers = filter (is_in c.registers) (from_to 0 32);
  flags = filter (is_in c.flags) (from_to 0 4);
}
