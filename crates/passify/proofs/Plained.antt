-- What is handed on in a frame is what is handed on in a program.
use Rattle.std.proofs.Common.{◌≡◌, Bool, true, false, Option, Some, None, refl}
use Rattle.walk_spec.specs.Sweep.{held_if, hand}
use Rattle.frame_spec.specs.Frames.{content_at}
use Rattle.frame_spec.specs.FramePoints.{Anchor, AtEntry, AtHead}
use Rattle.frame_spec.specs.FrameQuestions.{Reading}
use Rattle.frame_spec.specs.FrameWalk as frames
use Rattle.frame_spec.specs.FrameWalk.{Check, UnrolledProgram, Walk, WalkIsAt, WalkArrives, WalkExits, WalkFails, WalkTurns, WalkIsCut, WalkBreaks, arrival_by, false_check, hand_end}
use Rattle.passify.specs.Plain.{arrived, held_for, others_fail, plain}

module _ (u : UnrolledProgram) (r : Reading) where
  arrival_plain : (anchor : Anchor) (o : Option Check) (h : frames.Held) →
      hand (arrived o) (held_for anchor h) ≡ held_for anchor (hand_end anchor (arrival_by o) h)
  arrival_plain AtEntry None h = refl
  arrival_plain AtEntry (Some x) h = refl
  arrival_plain (AtHead stack at) None h = refl
  arrival_plain (AtHead stack at) (Some x) h = refl

  pub hand_plain : (anchor : Anchor) (w : Walk) (h : frames.Held) → hand (plain u r.state w) (held_for anchor h) ≡ held_for anchor (frames.hand u r anchor w h)
  hand_plain AtEntry (WalkIsAt j c) h = refl
  hand_plain (AtHead stack at) (WalkIsAt j c) h = refl
  hand_plain anchor (WalkArrives at checks c) h = arrival_plain anchor (false_check u.endian checks (content_at c at) r.state) h
  hand_plain AtEntry WalkExits h = refl
  hand_plain (AtHead stack at) WalkExits h = refl
  hand_plain AtEntry (WalkFails e) h = refl
  hand_plain (AtHead stack at) (WalkFails e) h = refl
  hand_plain AtEntry WalkTurns h = refl
  hand_plain (AtHead stack at) WalkTurns h = refl
  hand_plain AtEntry WalkIsCut h = refl
  hand_plain (AtHead stack at) WalkIsCut h = refl
  hand_plain AtEntry WalkBreaks h = refl
  hand_plain (AtHead stack at) WalkBreaks h = refl

  arrival_others : (anchor : Anchor) (o : Option Check) (h : frames.Held) → others_fail anchor (hand_end anchor (arrival_by o) h) ≡ others_fail anchor h
  arrival_others AtEntry None h = refl
  arrival_others AtEntry (Some x) h = refl
  arrival_others (AtHead stack at) None h = refl
  arrival_others (AtHead stack at) (Some x) h = refl

  -- the events of the other kind of segments stay
  pub hand_others : (anchor : Anchor) (w : Walk) (h : frames.Held) → others_fail anchor (frames.hand u r anchor w h) ≡ others_fail anchor h
  hand_others AtEntry (WalkIsAt j c) h = refl
  hand_others (AtHead stack at) (WalkIsAt j c) h = refl
  hand_others anchor (WalkArrives at checks c) h = arrival_others anchor (false_check u.endian checks (content_at c at) r.state) h
  hand_others AtEntry WalkExits h = refl
  hand_others (AtHead stack at) WalkExits h = refl
  hand_others AtEntry (WalkFails e) h = refl
  hand_others (AtHead stack at) (WalkFails e) h = refl
  hand_others AtEntry WalkTurns h = refl
  hand_others (AtHead stack at) WalkTurns h = refl
  hand_others AtEntry WalkIsCut h = refl
  hand_others (AtHead stack at) WalkIsCut h = refl
  hand_others AtEntry WalkBreaks h = refl
  hand_others (AtHead stack at) WalkBreaks h = refl

pub if_plain : (anchor : Anchor) (b : Bool) (g h : frames.Held) → held_if b (held_for anchor g) (held_for anchor h) ≡ held_for anchor (frames.held_if b g h)
if_plain AtEntry true g h = refl
if_plain AtEntry false g h = refl
if_plain (AtHead stack at) true g h = refl
if_plain (AtHead stack at) false g h = refl

pub if_others : (anchor : Anchor) (b : Bool) (g h : frames.Held) → others_fail anchor g ≡ others_fail anchor h →
    others_fail anchor (frames.held_if b g h) ≡ others_fail anchor h
if_others AtEntry true g h e = e
if_others AtEntry false g h e = refl
if_others (AtHead stack at) true g h e = e
if_others (AtHead stack at) false g h e = refl
