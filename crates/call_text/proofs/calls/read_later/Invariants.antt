use Rattle.std.proofs.Common.{◌≡◌, ◌+◌, ◌<◌, ◌^◌, [], length, map}
use Rattle.start_value.specs.Starts.{layout_of}
use Rattle.call_text.specs.Blocks.{next_told, whole_told}
use Rattle.state_text.specs.Starts.{written_call_of}
use Rattle.call_text.specs.Texts.{changes_at}
use Rattle.call_text.proofs.calls.read_later.Given as goal

abbrev pub invariant-loop-next : goal.invariant-loop-next
invariant-loop-next l = record {
  told : whole_told [] (next_told (layout_of l.layout) (changes_at l.contracts) 0 l.fn.first)
      ≡ whole_told (map written_call_of l.calls.items) (next_told (layout_of l.layout) (changes_at l.contracts) l.least l.next);
  room : l.next.line + 1 + length l.next.rest.now < 2 ^ 64;
}

abbrev pub decreases-loop-next : goal.decreases-loop-next
decreases-loop-next l = length l.next.rest.now
