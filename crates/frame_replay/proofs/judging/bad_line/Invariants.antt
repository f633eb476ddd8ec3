use Rattle.std.proofs.Common.{◌≡◌, ◌+◌, drop}
use Rattle.frame_texts_spec.specs.FrameTexts.{bad_return}
use Rattle.frame_replay.specs.Readings.{is_among}
use Rattle.frame_replay.proofs.judging.bad_line.Given as goal

abbrev pub invariant-loop-i : goal.invariant-loop-i
invariant-loop-i l = bad_return (is_among l.returns) l.first l.stack ≡ bad_return (is_among l.returns) (l.first + l.i) (drop l.i l.stack)
