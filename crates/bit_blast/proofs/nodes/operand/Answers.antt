use Rattle.bit_blast.proofs.Lists.{is_operand, there}
use Rattle.bit_blast.proofs.nodes.operand.Goals as goal

pub bounds-words-term : goal.bounds-words-term
bounds-words-term c = there c.args.words.now c.args.term.0 c.requires

pub returns-clause-len : goal.returns-clause-len
returns-clause-len c = (is_operand c.args.words.now c.args.term.0 _ _ c.requires c.index-words-term.is c.deref.ensures.value).len

pub returns-clause-value : goal.returns-clause-value
returns-clause-value c = (is_operand c.args.words.now c.args.term.0 _ _ c.requires c.index-words-term.is c.deref.ensures.value).value

pub returns-clause-within : goal.returns-clause-within
returns-clause-within c = (is_operand c.args.words.now c.args.term.0 _ _ c.requires c.index-words-term.is c.deref.ensures.value).within
