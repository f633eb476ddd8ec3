-- The addresses behind calls, by what a graph says of its nodes.
use Rattle.std.specs.Prelude.{ℕ, Bool, true, false, ◌&&◌, nat_eq}
use Rattle.std.specs.List.{list_any}
use Rattle.bilv_spec.specs.Graph.{Letter, NextLetter, JumpLetter, CallLetter, ReturnLetter}
use Rattle.graph_nodes.specs.Graphs.{letter_of}
use Rattle.graph_nodes.specs.declared.nodes.Node.{Node}
use Rattle.graph_nodes.specs.declared.nodes.Successor.{Successor}

-- a successor of this letter is the address behind a call
abbrev pub is_return : Letter → Bool
is_return NextLetter = false
is_return JumpLetter = false
is_return CallLetter = false
is_return ReturnLetter = true

-- the successor is the address, behind a call
abbrev pub returns_to : ℕ → Successor → Bool
returns_to a s = is_return (letter_of s.letter) && nat_eq a s.to

-- so is a successor of the node
abbrev pub node_returns_to : ℕ → Node → Bool
node_returns_to a n = list_any (returns_to a) n.successors.items
