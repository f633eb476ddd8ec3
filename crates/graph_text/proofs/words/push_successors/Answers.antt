use Rattle.std.proofs.Common.{◌++◌, ap, ◌∙◌}
use Rattle.std.specs.List.{flat_map}
use Rattle.word_spec.specs.Texts.{spaced}
use Rattle.bilv_spec.specs.GraphText.{successor_words}
use Rattle.graph_nodes.specs.declared.nodes.Letter.TheVariants.{Next}
use Rattle.graph_nodes.specs.declared.nodes.Successor.{Successor}
use Rattle.graph_nodes.specs.Graphs.{successor_of}
use Rattle.graph_text.proofs.Texts.{next, done, spaced_successors}
use Rattle.graph_text.proofs.words.push_successors.Goals as goal

pub loop-successor-preserved : goal.loop-successor-preserved
loop-successor-preserved c =
    next (λ (x : Successor). spaced (successor_words (successor_of x))) c.args.successors.now c.loop-successor.successor-index
    (record { letter = Next; to = 0 })
    c.loop-successor.out.items c.push_successor.new.out.items
    (c.args.out.now.items ++ flat_map (λ (x : Successor). spaced (successor_words (successor_of x))) c.args.successors.now)
    c.loop-successor-test.true c.in_ok-push_successor.ensures c.loop-successor.invariant

pub returns : goal.returns
returns c =
    done (λ (x : Successor). spaced (successor_words (successor_of x))) c.args.successors.now c.loop-successor.successor-index c.loop-successor.out.items
    (c.args.out.now.items ++ flat_map (λ (x : Successor). spaced (successor_words (successor_of x))) c.args.successors.now)
    c.loop-successor-test.false c.loop-successor.invariant
    ∙ ap (λ t. c.args.out.now.items ++ t) (spaced_successors c.args.successors.now)
