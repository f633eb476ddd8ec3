use Rattle.std.proofs.Common.{◌≡◌, ◌++◌, drop}
use Rattle.std.specs.List.{flat_map}
use Rattle.word_spec.specs.Texts.{spaced}
use Rattle.bilv_spec.specs.GraphText.{successor_words}
use Rattle.graph_nodes.specs.Graphs.{successor_of}
use Rattle.graph_text.proofs.words.push_successors.Given as goal

abbrev pub invariant-loop-successor : goal.invariant-loop-successor
invariant-loop-successor l =
    l.out.items ++ flat_map (λ x. spaced (successor_words (successor_of x))) (drop l.successor-index l.successors)
    ≡ l.initial.out.items ++ flat_map (λ x. spaced (successor_words (successor_of x))) l.successors
