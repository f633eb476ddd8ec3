use Rattle.std.proofs.Common.{length, ◌+◌, ◌-◌}
use Rattle.asked_bytes.proofs.Merging.{IsMergingWithin}
use Rattle.asked_bytes.proofs.joining.with_further.Given as goal

abbrev pub invariant-loop-i : goal.invariant-loop-i
invariant-loop-i l = IsMergingWithin l.fn.added l.fn.further l.i l.j l.joined.items

abbrev pub decreases-loop-i : goal.decreases-loop-i
decreases-loop-i l = (length l.fn.added + length l.fn.further) - (l.i + l.j)
