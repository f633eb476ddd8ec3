use Rattle.std.proofs.Common.{◌*◌}
use Rattle.term_spec.specs.Terms.{term_word}
use Rattle.mem_cells.specs.Pieces.{put_bytes}
use Rattle.mem_cells.specs.Building.{Grown, IsWord}
use Rattle.mem_cells.proofs.building.Build.over_store.Given as goal

abbrev pub invariant-loop-k : goal.invariant-loop-k
invariant-loop-k l = record {
  grown : Grown l.fn.self l.self (40 * l.k) 0;
  byte : IsWord l.self.dag 8 l.byte.0 (λ x. put_bytes (term_word x l.fn.self.dag) l.stored l.first l.k l.address.0 (term_word x l.fn.self.dag l.fn.below.0));
}
