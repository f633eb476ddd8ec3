-- The nodes of a typed list.
use Rattle.std.specs.Prelude.{List}
use Rattle.term_spec.specs.Terms.{TermNode}
use Rattle.term_dag.specs.declared.typed.Nodes.{Nodes}
use Rattle.term_dag.specs.Nodes.{nodes_of}

-- the nodes that the terms of a list are places of
abbrev pub terms : Nodes → List TermNode
terms nodes = nodes_of nodes.list.now
