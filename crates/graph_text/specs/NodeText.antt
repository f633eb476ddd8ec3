-- The text of a node, by its own fields.
use Rattle.std.specs.Prelude.{ℕ, List, [], ◌∷◌, ◌++◌, Option, Some, None, if◌then◌else◌, codes}
use Rattle.std.specs.List.{flat_map}
use Rattle.word_spec.specs.Texts.{word_text, spaced, line}
use Rattle.bilv_spec.specs.GraphText.{successor_words, kept_names, keeps_words}
use Rattle.graph_nodes.specs.declared.nodes.Node.{Node}
use Rattle.graph_nodes.specs.Graphs.{successors_of, has_flag}

-- the words of a node that has a row
abbrev pub known_words : Node → List (List ℕ)
known_words n = flat_map successor_words (successors_of n) ++ (if n.returns then codes "x" ∷ [] else []) ++ keeps_words (kept_names (has_flag n.keeps))

-- what stands behind the address, by the word there
abbrev pub words_by : Node → Option ℕ → List (List ℕ)
words_by n None = (if n.fetchable then codes "norow" else codes "fetch") ∷ []
words_by n (Some w) = known_words n

-- what stands behind the address of a node
abbrev pub words_of : Node → List (List ℕ)
words_of n = words_by n n.word

-- the line of a node
abbrev pub node_line : Node → List ℕ
node_line n = line (word_text n.at ++ spaced (words_of n))
