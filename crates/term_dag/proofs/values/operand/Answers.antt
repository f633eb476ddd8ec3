use Rattle.std.proofs.Common.{arith}
use Rattle.term_dag.specs.Readings.{reading_of_parts}
use Rattle.term_dag.proofs.Bytes.{parts_in_range}
use Rattle.term_dag.proofs.Ranges.{word_fits}
use Rattle.term_dag.proofs.values.operand.Goals as goal

pub bounds-words-term : goal.bounds-words-term
bounds-words-term c = omega (arith, c.requires.place.0, c.requires.words.count)

pub returns-clause-value : goal.returns-clause-value
returns-clause-value c = c.requires.words.each c.args.term.0 c.requires.place.0

pub returns-clause-below : goal.returns-clause-below
returns-clause-below c =
    let f = word_fits (reading_of_parts c.args.parts.now) _ c.args.width c.args.term.0 (parts_in_range c.args.parts.now) c.args.nodes.now.typed c.requires.place in
    omega (arith, f, c.requires.words.each c.args.term.0 c.requires.place.0)
