use Rattle.std.specs.Prelude.{◌-◌, ℕ, Contains}
use Rattle.known_bytes.specs.Runs.{AreRuns}
use Rattle.asked_bytes.specs.AskedBytes.{AreBeside, IsStretchFound}
use Rattle.asked_bytes.proofs.blocks.list_stretch.Given as goal

abbrev pub invariant-loop-next : goal.invariant-loop-next
invariant-loop-next l = record {
  beside : AreBeside l.known l.added l.next l.found.items;
  kept : (a : ℕ) → Contains l.initial.found.items a → Contains l.found.items a;
  asked : AreRuns l.known → IsStretchFound l.known l.added l.from l.next l.found.items;
}

abbrev pub decreases-loop-next : goal.decreases-loop-next
decreases-loop-next l = l.end - l.next
