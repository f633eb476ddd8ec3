-- Flags that are asked for at the exit besides those that the notes name.
use Rattle.std.specs.Prelude.{ℕ, false}
use Rattle.bilv_spec.specs.Run.{Program}
use Rattle.graph_nodes.specs.declared.nodes.Graph.{Graph}

-- the program in which none are asked for besides
abbrev pub unasked : Program → Program
unasked p = record p { out = λ f. false }

-- the graph with other flags at the exit
abbrev pub ensuring : Graph → (flags : ℕ) → Graph
ensuring g flags = record g { ensured = flags }
