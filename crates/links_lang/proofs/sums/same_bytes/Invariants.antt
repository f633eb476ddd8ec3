use Rattle.std.proofs.Common.{◌≡◌, ◌+◌, ◌*◌, ◌^◌, ◌≤◌, drop}
use Rattle.pair_spec.specs.Pairs as pairs
use Rattle.links_lang.specs.Views.{links_of}
use Rattle.links_lang.proofs.sums.same_bytes.Given as goal

-- the bytes of the links so far, of which each has 2 ^ 32 at most, with those of the others are all
abbrev pub invariant-loop-link : goal.invariant-loop-link
invariant-loop-link l = record {
  sum : l.sum + pairs.same_bytes (links_of (drop l.link-index l.links)) ≡ pairs.same_bytes (links_of l.links);
  few : l.sum ≤ 2 ^ 32 * l.link-index;
}
