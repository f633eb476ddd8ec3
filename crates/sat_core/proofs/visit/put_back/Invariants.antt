use Rattle.std.proofs.Common.{◌≡◌, length}
use Rattle.sat_core.specs.Links.{place}
use Rattle.sat_core.specs.Moves.{IsDetached}
use Rattle.sat_core.proofs.Chains.{walk}
use Rattle.sat_core.proofs.visit.put_back.Given as goal

abbrev pub invariant-loop-watch : goal.invariant-loop-watch
invariant-loop-watch l = record {
  detached : IsDetached l.watches.heads.items l.watches.links.items l.watches.watched.items l.watch (place l.lit);
  heads : length l.watches.heads.items ≡ length l.fn.watches.heads.items;
  watched : l.watches.watched ≡ l.fn.watches.watched;
  owners : l.watches.owners ≡ l.fn.watches.owners;
}

abbrev pub decreases-loop-watch : goal.decreases-loop-watch
decreases-loop-watch l = length (walk (length l.watches.links.items) l.watches.links.items l.watch)
