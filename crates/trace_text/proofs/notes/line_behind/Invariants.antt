use Rattle.std.proofs.Common.{◌≡◌, [], length}
use Rattle.std.specs.Prelude.{slice_index_or}
use Rattle.word_spec.specs.Texts.{split_lines}
use Rattle.trace_text.proofs.notes.line_behind.Given as goal

abbrev pub invariant-loop-rest : goal.invariant-loop-rest
invariant-loop-rest l = slice_index_or (split_lines l.rest) l.left [] ≡ slice_index_or (split_lines l.fn.text) l.fn.count []

abbrev pub decreases-loop-rest : goal.decreases-loop-rest
decreases-loop-rest l = length l.rest
