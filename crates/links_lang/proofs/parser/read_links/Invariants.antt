use Rattle.std.proofs.Common.{length, ◌≤◌}
use Rattle.links_lang.specs.Telling.{AreSoFar}
use Rattle.links_lang.proofs.parser.read_links.Given as goal

-- the lines so far are good, and say the links
abbrev pub invariant-loop-rest : goal.invariant-loop-rest
invariant-loop-rest l = record {
  few : l.line ≤ 257;
  so_far : AreSoFar l.first l.second l.bytes l.rest l.line l.links.items;
}

abbrev pub decreases-loop-rest : goal.decreases-loop-rest
decreases-loop-rest l = length l.rest
