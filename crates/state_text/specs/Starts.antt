-- The definitions' values that endings and texts stand for.
use Rattle.std.specs.Prelude.{ℕ, List, map}
use Rattle.word_spec.specs.Texts.{joined, lines}
use Rattle.machine_spec.specs.Endings as run
use Rattle.machine_spec.specs.StateText as texts
use Rattle.frame_spec.specs.Frames as frames
use Rattle.frame_spec.specs.FrameReports.{WrittenHead, WrittenCall}
use Rattle.start_value.specs.Starts.{written_of}
use Rattle.state_text.specs.declared.start.Event.{Event}
use Rattle.state_text.specs.declared.start.Event.TheVariants.{AssertFails, FetchFails, NoRow, HalfwordFails, CodeWritten, Trapped, AlignFails, JumpFails, EnsureFails}
use Rattle.state_text.specs.declared.start.FrameEvent.{FrameEvent}
use Rattle.state_text.specs.declared.start.FrameEvent.TheVariants.{OfStep, InvariantFails}
use Rattle.state_text.specs.declared.start.NamedEnding.{NamedEnding}
use Rattle.state_text.specs.declared.start.NamedEnding.TheVariants.{FailsBy, UnknownBy}
use Rattle.state_text.specs.declared.start.HeadStart.{HeadStart}
use Rattle.state_text.specs.declared.start.CallState.{CallState}
use Rattle.state_text.specs.declared.start.StateText.{StateText}

-- the event
abbrev pub event_of : Event → run.Event
event_of (AssertFails line) = run.AssertFails line
event_of FetchFails = run.FetchFails
event_of NoRow = run.NoRow
event_of HalfwordFails = run.HalfwordFails
event_of CodeWritten = run.CodeWritten
event_of Trapped = run.Trapped
event_of AlignFails = run.AlignFails
event_of JumpFails = run.JumpFails
event_of (EnsureFails line) = run.EnsureFails line

-- the event of a frame
abbrev pub frame_event_of : FrameEvent → frames.FrameEvent
frame_event_of (OfStep e) = frames.OfStep (event_of e)
frame_event_of (InvariantFails line) = frames.InvariantFails line

-- the ending
abbrev pub named_of : NamedEnding → run.NamedEnding
named_of (FailsBy event at step) = run.FailsBy (event_of event) at step
named_of (UnknownBy k at step) = run.UnknownBy k at step

-- the start with its ending
abbrev pub text_of : StateText → texts.StateText
text_of t = record { named = named_of t.named; start = written_of t.start }

-- a head state with its choices, as it is written
abbrev pub written_head_of : HeadStart → WrittenHead
written_head_of h = record { at = h.at; stack = h.stack.items; start = written_of h.start }

-- what a contract step is given, as it is written
abbrev pub written_call_of : CallState → WrittenCall
written_call_of c = record { step = c.step; at = c.at; regs = c.regs.items; flags = c.flags; bytes = c.bytes.items }

-- the text of a line, without its line feed
abbrev pub line_text : texts.Layout → texts.StateLine → List ℕ
line_text layout l = joined (texts.words_of_line layout l)

-- the text of lines
abbrev pub lines_text : texts.Layout → List texts.StateLine → List ℕ
lines_text layout ls = lines (map (λ l. line_text layout l) ls)
