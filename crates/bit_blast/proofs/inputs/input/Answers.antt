use Rattle.std.proofs.Common.{◌≡◌, ◌∙◌, ap, take, drop, arith}
use Rattle.std.proofs.lemmas.Grind.{common_steps}
use Rattle.term_spec.specs.Terms.{width_of}
use Rattle.term_dag.specs.Nodes.{node_of}
use Rattle.word_gates.specs.Numbers.{number}
use Rattle.bit_blast.proofs.Seen.{seen_number}
use Rattle.bit_blast.proofs.inputs.input.Goals as goal

bits-are : (c : goal.In_ok-word) → c.in_ok-word.word.items ≡ take (width_of (node_of c.args.node)) (drop c.first_input-first.result c.args.inputs.now)
bits-are c = let e = c.input_width.ensures in grind (arith, common_steps)

pub returns-clause-value : goal.returns-clause-value
returns-clause-value c = λ v x r.
    ap (number v) (bits-are c)
    ∙ seen_number v c.args.inputs.now c.first_input-first.result (width_of (node_of c.args.node)) (omega (arith, c.first_input-first.ensures.within, c.requires.all))
    ∙ c.first_input-first.ensures.value _ x r
