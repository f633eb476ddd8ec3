use Rattle.std.proofs.Common.{take}
use Rattle.term_dag.specs.Nodes.{nodes_of}
use Rattle.term_dag.specs.Readings.{AreWords, reading_of_parts}
use Rattle.term_dag.proofs.values.words_of.Given as goal

abbrev pub invariant-loop-i : goal.invariant-loop-i
invariant-loop-i l = AreWords (reading_of_parts l.parts) (nodes_of (take l.i l.nodes.list.now)) l.words.items
