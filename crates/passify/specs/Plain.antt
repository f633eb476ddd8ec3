-- Walks of a frame as those of a program: where they end, without the reasons; and what is held for the segments of one kind of anchor.
use Rattle.std.specs.Prelude.{Bool, Option, Some, None}
use Rattle.word_spec.specs.State.{State}
use Rattle.machine_spec.specs.Endings.{JumpFails}
use Rattle.walk_spec.specs.Unrolled.{Carried, Walk, WalkIsAt, WalkExits, WalkFails, WalkTurns}
use Rattle.walk_spec.specs.Sweep.{Held}
use Rattle.frame_spec.specs.Frames.{Content, content_at}
use Rattle.frame_spec.specs.FramePoints.{Anchor, AtEntry, AtHead}
use Rattle.frame_spec.specs.FrameWalk as frames
use Rattle.frame_spec.specs.FrameWalk.{Check, UnrolledProgram, false_check}

-- what is carried
abbrev pub carried : Content → Carried
carried c = record { regs = c.regs; flags = c.flags; mem = c.mem }

-- and back
abbrev pub content_with : Carried → Content
content_with c = record { regs = c.regs; flags = c.flags; mem = c.mem }

-- an arrival at a head, by the first of its lines that is false
abbrev pub arrived : Option Check → Walk
arrived None = WalkExits
arrived (Some x) = WalkFails JumpFails

-- A walk, by where it is or how it ended: by an event, whichever it is; by one backward transfer too many; or without either. An arrival is judged at once.
abbrev pub plain : UnrolledProgram → (entry : State) → frames.Walk → Walk
plain u entry (frames.WalkIsAt j c) = WalkIsAt j (carried c)
plain u entry (frames.WalkArrives at checks c) = arrived (false_check u.endian checks (content_at c at) entry)
plain u entry frames.WalkExits = WalkExits
plain u entry (frames.WalkFails e) = WalkFails JumpFails
plain u entry frames.WalkTurns = WalkTurns
plain u entry frames.WalkIsCut = WalkExits
plain u entry frames.WalkBreaks = WalkExits

-- whether a segment of an anchor's kind had an event
abbrev pub fails_of : Anchor → frames.Held → Bool
fails_of AtEntry h = h.fails
fails_of (AtHead stack at) h = h.steps

-- whether one of the other kind had
abbrev pub others_fail : Anchor → frames.Held → Bool
others_fail AtEntry h = h.steps
others_fail (AtHead stack at) h = h.fails

-- what is held for the segments of an anchor's kind
abbrev pub held_for : Anchor → frames.Held → Held
held_for anchor h = record { met = h.met; carried = λ i. carried (h.carried i); fails = fails_of anchor h; turns = h.turns }
