use Rattle.std.proofs.Common.{◌+◌, ◌<◌, ◌^◌, ◌∷◌, List, Some, map, length}
use Rattle.word_spec.specs.Texts.{split_lines}
use Rattle.machine_spec.specs.StateText.{StateLine, NamedLine, line_of}
use Rattle.start_value.specs.Starts.{layout_of}
use Rattle.state_text.specs.Starts.{named_of}
use Rattle.state_text.proofs.Keeping.{Stands}
use Rattle.state_text.proofs.parser.read_lines.Given as goal

abbrev pub invariant-loop-rest : goal.invariant-loop-rest
invariant-loop-rest l = record {
  before : List StateLine;
  stands : Stands (layout_of l.layout) (Some (NamedLine (named_of l.fn.named))
      ∷ map (line_of (layout_of l.layout)) (split_lines l.fn.text)) l.progress l.draft l.rest before;
  room : l.progress.count + length l.rest + 1 < 2 ^ 64;
}

abbrev pub decreases-loop-rest : goal.decreases-loop-rest
decreases-loop-rest l = length l.rest
