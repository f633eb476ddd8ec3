use Rattle.std.proofs.Common.{◌≡◌, length}
use Rattle.answer_spec.specs.FrameAnswers.{has_line}
use Rattle.framed_notes.specs.Kinds.{words_of}
use Rattle.framed_notes.proofs.dialects.has_line.Given as goal

-- no line so far is of the kind
abbrev pub invariant-loop-rest : goal.invariant-loop-rest
invariant-loop-rest l = has_line (words_of l.kind) l.rest ≡ has_line (words_of l.kind) l.text

abbrev pub decreases-loop-rest : goal.decreases-loop-rest
decreases-loop-rest l = length l.rest
