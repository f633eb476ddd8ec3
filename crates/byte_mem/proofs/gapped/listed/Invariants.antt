use Rattle.std.proofs.Common.{◌≡◌, take}
use Rattle.byte_mem.specs.Gaps.{entries_of}
use Rattle.byte_mem.proofs.gapped.listed.Given as goal

abbrev pub invariant-loop-i : goal.invariant-loop-i
invariant-loop-i l = l.list.items ≡ take l.i (entries_of l.g)
