use Rattle.std.proofs.Common.{◌≡◌, ◌+◌, ◌-◌, ◌<◌, ◌*◌, ◌^◌}
use Rattle.byte_mem.specs.Gaps.{entries_of}
use Rattle.word_spec.specs.Words.{add}
use Rattle.word_spec.specs.Memory.{little, memory_of}
use Rattle.byte_mem.proofs.bytes.lowest_first.Given as goal

abbrev pub invariant-loop-i : goal.invariant-loop-i
invariant-loop-i l = record {
  number : l.number * 256 ^ l.i + little l.i (λ i. memory_of (entries_of l.g) (add 32 l.first i))
      ≡ little l.n (λ i. memory_of (entries_of l.g) (add 32 l.first i));
  below : l.number < 256 ^ (l.n - l.i);
}
