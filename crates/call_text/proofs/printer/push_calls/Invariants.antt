use Rattle.std.proofs.Common.{◌≡◌, ◌++◌, drop, map}
use Rattle.word_spec.specs.Texts.{lines}
use Rattle.frame_texts_spec.specs.CallTexts.{blocks}
use Rattle.start_value.specs.Starts.{layout_of}
use Rattle.state_text.specs.Starts.{written_call_of}
use Rattle.call_text.specs.Texts.{changes_at}
use Rattle.call_text.proofs.printer.push_calls.Given as goal

abbrev pub invariant-loop-call : goal.invariant-loop-call
invariant-loop-call l =
    l.out.items ++ lines (blocks (layout_of l.layout) (changes_at l.contracts) (map written_call_of (drop l.call-index l.calls)))
    ≡ l.initial.out.items ++ lines (blocks (layout_of l.layout) (changes_at l.contracts) (map written_call_of l.calls))
