use Rattle.std.proofs.Common.{◌≡◌, map, ◌++◌, drop}
use Rattle.mem_cells.specs.Pieces.{link}
use Rattle.mem_cells.specs.Words.{places_of}
use Rattle.mem_cells.proofs.lowering.Lowered.words_for.Given as goal

abbrev pub invariant-loop-term : goal.invariant-loop-term
invariant-loop-term l =
    places_of l.words.items ++ map (link l.self.words.items) (places_of (drop l.term-index l.terms))
    ≡ map (link l.self.words.items) (places_of l.terms)
