use Rattle.std.proofs.Common.{◌≡◌, ◌+◌, drop}
use Rattle.frame_texts_spec.specs.FrameTexts.{FramedTold}
use Rattle.frame_text.specs.Readings.{known_but}
use Rattle.frame_replay.specs.Readings.{is_kept_in}
use Rattle.frame_replay.proofs.judging.kept_line.Given as goal

abbrev pub invariant-loop-i : goal.invariant-loop-i
invariant-loop-i l = (told : FramedTold) →
    known_but (is_kept_in l.image) l.first l.bytes told ≡ known_but (is_kept_in l.image) (l.first + l.i) (drop l.i l.bytes) told
