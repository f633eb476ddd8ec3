use Rattle.std.proofs.Common.{◌*◌, ◌+◌}
use Rattle.std.specs.Prelude.{sum_by}
use Rattle.word_spec.specs.Memory.{endian, load}
use Rattle.term_spec.specs.Terms.{term_word}
use Rattle.mem_cells.specs.Pieces.{piece_gates}
use Rattle.mem_cells.specs.Building.{Grown, IsOfMemory}
use Rattle.mem_cells.proofs.loads.load.Given as goal

abbrev pub invariant-loop-i : goal.invariant-loop-i
invariant-loop-i l = record {
  grown : Grown l.fn.build l.build (l.i * (64 + sum_by piece_gates l.memories.pieces.items)) l.i;
  word : IsOfMemory l.fn.build l.build l.memories.stored.items l.memories.pieces.items l.memory (8 * l.i) l.word.0
      (λ x m. load (endian l.big) l.i m (term_word x l.fn.build.dag l.address.0));
}
