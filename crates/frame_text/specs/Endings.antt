-- Words for the reading of endings.
use Rattle.std.specs.Prelude.{ℕ, ◌-◌, ◌^◌, Bool, true, false, List, [], ◌∷◌, Option, Some, None, codes, if◌then◌else◌}
use Rattle.std.specs.Str.{bytes_eq}
use Rattle.word_spec.specs.Texts.{at_most, decimal_word}
use Rattle.machine_spec.specs.StateText.{place_of}
use Rattle.frame_spec.specs.Frames as frames
use Rattle.frame_texts_spec.specs.FrameTexts as texts
use Rattle.frame_texts_spec.specs.FrameTexts.{FramedFails, any_line, any_word, ending_after, frame_line, frame_word}
use Rattle.frame_text.specs.Texts.{framed_event_of}
use Rattle.frame_text.specs.declared.text.FramedEvent.{FramedEvent}

-- an event of one word, and of a line of notes: any event, or one that only frames have
abbrev pub word_by : (any : Bool) → List ℕ → Option frames.FrameEvent
word_by true w = any_word w
word_by false w = frame_word w

abbrev pub line_by : (any : Bool) → List ℕ → Option ℕ → Option frames.FrameEvent
line_by true w n = any_line w n
line_by false w n = frame_line w n

-- an event and its place, where both are there
abbrev pub event_and_place : Option frames.FrameEvent → Option (ℕ × ℕ) → Option (frames.FrameEvent × (ℕ × ℕ))
event_and_place (Some e) (Some place) = Some (e, place)
event_and_place (Some e) None = None
event_and_place None place = None

-- the event that words name, and its place
abbrev pub event_at : (any : Bool) → List (List ℕ) → Option (frames.FrameEvent × (ℕ × ℕ))
event_at any (e ∷ at ∷ a ∷ step ∷ n ∷ []) = event_and_place (word_by any e) (place_of at a step n)
event_at any (e ∷ m ∷ at ∷ a ∷ step ∷ n ∷ []) = event_and_place (line_by any e (at_most (2 ^ 64 - 1) (decimal_word m))) (place_of at a step n)
event_at any other = None

abbrev pub event_said : FramedEvent × (ℕ × ℕ) → frames.FrameEvent × (ℕ × ℕ)
event_said p = (framed_event_of p.0, p.1)

-- an ending that no run of the tables has, by words that do not begin with the word not
abbrev pub fails_words : List (List ℕ) → Option texts.FramedEnding
fails_words [] = None
fails_words (w ∷ ws) = if bytes_eq w (codes "fails") then ending_after FramedFails frame_word frame_line ws else None
