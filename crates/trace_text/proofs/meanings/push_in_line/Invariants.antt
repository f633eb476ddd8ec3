use Rattle.std.proofs.Common.{◌≡◌, ◌++◌, length}
use Rattle.word_spec.specs.Texts.{split_lines}
use Rattle.trace_texts_spec.specs.StepLines.{in_line}
use Rattle.trace_text.proofs.meanings.push_in_line.Given as goal

abbrev pub invariant-loop-rest : goal.invariant-loop-rest
invariant-loop-rest l = l.out.items ++ in_line (split_lines l.rest) ≡ l.initial.out.items ++ in_line (split_lines l.fn.text)

abbrev pub decreases-loop-rest : goal.decreases-loop-rest
decreases-loop-rest l = length l.rest
