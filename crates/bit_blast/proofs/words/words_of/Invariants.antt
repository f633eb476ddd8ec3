use Rattle.std.proofs.Common.{take}
use Rattle.bit_blast.specs.BitWords.{AreBlasted}
use Rattle.bit_blast.proofs.words.words_of.Given as goal

abbrev pub invariant-loop-i : goal.invariant-loop-i
invariant-loop-i l = AreBlasted l.places l.inputs l.fn.circuit l.circuit (take l.i l.dag) l.words.items
