use Rattle.std.proofs.Common.{◌≡◌, ◌≤◌, ◌+◌, length}
use Rattle.start_value.specs.Starts.{layout_of}
use Rattle.model_spec.specs.ModelText.{Between, line_after, tokens_from}
use Rattle.model_text.specs.Drafts.{Keeps}
use Rattle.model_text.specs.Judgements.{answer_to}
use Rattle.model_text.specs.Places.{place_depth}
use Rattle.model_text.specs.Symbols.{count_of, symbol_in}
use Rattle.model_text.specs.Traces.{At, judged}
use Rattle.model_text.proofs.read.read_findings.Given as goal

abbrev pub invariant-loop-placed : goal.invariant-loop-placed
invariant-loop-placed l = record {
  at : At;
  keeps : Keeps (layout_of l.layout) (count_of (layout_of l.layout) l.drawn) l.reading at;
  judged_is : judged (symbol_in (layout_of l.layout) l.drawn l.others) (line_after l.text) at (tokens_from l.line Between l.rest) ≡ answer_to (layout_of l.layout)
      l.drawn l.others l.text;
  depth : place_depth l.reading.place + length l.rest ≤ length l.text;
  room : l.line + length l.rest ≤ 1 + length l.text;
}

abbrev pub decreases-loop-placed : goal.decreases-loop-placed
decreases-loop-placed l = length l.rest
