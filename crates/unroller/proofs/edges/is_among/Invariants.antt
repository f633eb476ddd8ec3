use Rattle.std.proofs.Common.{◌≡◌, drop}
use Rattle.unroller.specs.Led.{is_among}
use Rattle.unroller.proofs.edges.is_among.Given as goal

abbrev pub invariant-loop-end : goal.invariant-loop-end
invariant-loop-end l = is_among l.ends l.other ≡ is_among (drop l.end-index l.ends) l.other
