-- The definitions' values that endings and texts stand for.
use Rattle.std.specs.Option.{option_map}
use Rattle.frame_spec.specs.Frames as frames
use Rattle.frame_texts_spec.specs.FrameTexts as texts
use Rattle.start_value.specs.Starts.{written_of}
use Rattle.state_text.specs.Starts.{event_of, written_head_of}
use Rattle.frame_text.specs.declared.text.FramedEvent.{FramedEvent}
use Rattle.frame_text.specs.declared.text.FramedEvent.TheVariants.{OfStep, InvariantFails, NeedsFails, WritesFails, GivesFails, ModifiesFails}
use Rattle.frame_text.specs.declared.text.FramedEnding.{FramedEnding}
use Rattle.frame_text.specs.declared.text.FramedEnding.TheVariants.{Fails, Turns, NotInductive}
use Rattle.frame_text.specs.declared.text.FramedText.{FramedText}

-- the event
abbrev pub framed_event_of : FramedEvent → frames.FrameEvent
framed_event_of (OfStep e) = frames.OfStep (event_of e)
framed_event_of (InvariantFails line) = frames.InvariantFails line
framed_event_of (NeedsFails line) = frames.NeedsFails line
framed_event_of WritesFails = frames.WritesFails
framed_event_of (GivesFails line) = frames.GivesFails line
framed_event_of ModifiesFails = frames.ModifiesFails

-- the ending
abbrev pub framed_ending_of : FramedEnding → texts.FramedEnding
framed_ending_of (Fails event at step) = texts.FramedFails (framed_event_of event) at step
framed_ending_of (Turns k at step) = texts.FramedTurns k at step
framed_ending_of (NotInductive event at step) = texts.NotInductiveBy (framed_event_of event) at step

-- the ending with its start and its head state
abbrev pub framed_text_of : FramedText → texts.FramedText
framed_text_of t = record { named = framed_ending_of t.named; start = written_of t.start; head = option_map written_head_of t.head }
