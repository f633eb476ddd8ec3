use Rattle.std.proofs.Common.{◌++◌, ◌∷◌, [], List, ℕ, ap, ◌∙◌, codes, map}
use Rattle.std.specs.Prelude.{if◌then◌else◌}
use Rattle.std.specs.List.{flat_map}
use Rattle.word_spec.specs.Texts.{spaced}
use Rattle.bilv_spec.specs.GraphText.{successor_words, kept_names, keeps_words}
use Rattle.graph_nodes.specs.declared.nodes.Successor.{Successor}
use Rattle.graph_nodes.specs.Graphs.{successor_of, successors_of, has_flag}
use Rattle.graph_text.proofs.Texts.{three, spaced_three}
use Rattle.graph_text.proofs.lines.push_row.Goals as goal

pub returns : goal.returns
returns c =
    let a : List (List ℕ) = flat_map successor_words (successors_of c.args.node.now) in
    let b : List (List ℕ) = if c.args.node.now.returns then codes "x" ∷ [] else [] in
    let k : List (List ℕ) = keeps_words (kept_names (has_flag c.args.node.now.keeps)) in
    three c.args.out.now.items c.push_successors.new.out.items c.push_if.new.out.items c.push_kept.new.out.items (spaced a) (spaced b) (spaced k)
    (c.in_ok-push_successors.ensures
    ∙ ap (λ (xs : List Successor). c.args.out.now.items ++ spaced (flat_map successor_words (map successor_of xs))) c.deref.ensures.value)
    c.in_ok-push_if.ensures c.in_ok-push_kept.ensures
    ∙ ap (λ t. c.args.out.now.items ++ t) (spaced_three a b k)
