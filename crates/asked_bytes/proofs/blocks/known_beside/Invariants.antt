use Rattle.known_bytes.specs.Runs.{AreRuns}
use Rattle.asked_bytes.specs.AskedBytes.{AreBeside, AreRising}
use Rattle.asked_bytes.proofs.Found.{AreFirstFound}
use Rattle.asked_bytes.proofs.blocks.known_beside.Given as goal

abbrev pub invariant-loop-address : goal.invariant-loop-address
invariant-loop-address l = record {
  beside : AreBeside l.known l.added l.next l.found.items;
  asked : AreRuns l.known → AreRising l.broken → AreFirstFound l.known l.added l.broken l.address-index l.next l.found.items;
}
