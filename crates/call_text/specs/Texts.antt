-- The definitions' values that endings, blocks and texts stand for.
use Rattle.std.specs.Prelude.{ℕ, ◌==◌, if◌then◌else◌, List, [], ◌∷◌, Option, Some, None, map}
use Rattle.std.specs.Option.{option_map}
use Rattle.frame_texts_spec.specs.CallTexts as texts
use Rattle.start_value.specs.Starts.{written_of}
use Rattle.state_text.specs.Starts.{written_call_of, written_head_of}
use Rattle.frame_text.specs.Texts.{framed_ending_of, framed_event_of}
use Rattle.call_text.specs.declared.text.FrameName.{FrameName}
use Rattle.call_text.specs.declared.text.FrameName.TheVariants.{Entry, Contract}
use Rattle.call_text.specs.declared.text.CalledEnding.{CalledEnding}
use Rattle.call_text.specs.declared.text.CalledEnding.TheVariants.{Plain, UnprovedBy, UnprovedTurns}
use Rattle.call_text.specs.declared.text.ContractChanges.{ContractChanges}
use Rattle.call_text.specs.declared.text.CalledText.{CalledText}

-- the frame
abbrev pub frame_name_of : FrameName → texts.FrameName
frame_name_of Entry = texts.EntryFrame
frame_name_of (Contract at) = texts.ContractFrame at

-- the ending
abbrev pub called_ending_of : CalledEnding → texts.CallEnding
called_ending_of (Plain named) = texts.Plain (framed_ending_of named)
called_ending_of (UnprovedBy frame event at step) = texts.UnprovedBy (frame_name_of frame) (framed_event_of event) at step
called_ending_of (UnprovedTurns frame k at step) = texts.UnprovedTurns (frame_name_of frame) k at step

-- what a contract may change
abbrev pub changes_of : ContractChanges → texts.Changes
changes_of x = record { registers = x.registers.items; flags = x.flags.items }

-- what the contract of an address may change, by the first of that address
abbrev pub changes_at : List ContractChanges → ℕ → Option texts.Changes
changes_at [] a = None
changes_at (x ∷ rest) a = if x.at == a then Some (changes_of x) else changes_at rest a

-- the ending with its start, its head state and its blocks
abbrev pub called_text_of : CalledText → texts.CallText
called_text_of t = record {
  named = called_ending_of t.named;
  start = written_of t.start;
  head = option_map written_head_of t.head;
  calls = map written_call_of t.calls.items;
}
