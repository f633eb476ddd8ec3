use Rattle.std.proofs.Common.{◌≡◌, ◌+◌, ◌++◌, ◌≤◌, length}
use Rattle.word_spec.specs.Texts.{lines, split_lines}
use Rattle.frame_texts_spec.specs.CallTexts.{body_of}
use Rattle.call_text.proofs.lines.copy_before.Given as goal

abbrev pub invariant-loop-rest : goal.invariant-loop-rest
invariant-loop-rest l = record {
  out : l.out.items ++ lines (body_of (split_lines l.rest)).lines ≡ l.initial.out.items ++ lines (body_of (split_lines l.fn.text)).lines;
  count : l.count + length (body_of (split_lines l.rest)).lines ≡ length (body_of (split_lines l.fn.text)).lines;
  blocks : (body_of (split_lines l.rest)).blocks ≡ (body_of (split_lines l.fn.text)).blocks;
  room : l.count + length l.rest ≤ length l.fn.text;
}

abbrev pub decreases-loop-rest : goal.decreases-loop-rest
decreases-loop-rest l = length l.rest
