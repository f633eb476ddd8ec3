use Rattle.std.proofs.Common.{◌≡◌, ◌+◌, ◌≤◌, length, take, drop}
use Rattle.word_spec.specs.Texts.{split_lines}
use Rattle.difference_replay.specs.Blocks.{lines_to_end}
use Rattle.difference_replay.proofs.BlockLines.{Holds}
use Rattle.difference_replay.proofs.blocks.first_block.Given as goal

abbrev pub invariant-loop-rest : goal.invariant-loop-rest
invariant-loop-rest l = record {
  block : Holds l.block.items (take l.lines (split_lines l.text));
  rest : split_lines l.rest ≡ drop l.lines (split_lines l.text);
  end : lines_to_end (split_lines l.text) ≡ l.lines + lines_to_end (split_lines l.rest);
  few : l.lines + length l.rest ≤ length l.text;
}

abbrev pub decreases-loop-rest : goal.decreases-loop-rest
decreases-loop-rest l = length l.rest
