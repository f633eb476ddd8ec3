use Rattle.gates.proofs.Netlists.{grows_none}
use Rattle.bit_blast.proofs.nodes.extended.Goals as goal

pub returns-then-signed-clause-made : goal.returns-then-signed-clause-made
returns-then-signed-clause-made c = record {
  grows = grows_none _ 0;
  within = c.in_ok-word.ensures.within _ (c.operand-a.ensures.within _ c.requires.within);
  len = c.in_ok-word.ensures.len;
}

pub extension-requires-clause-within : goal.extension-requires-clause-within
extension-requires-clause-within c = c.operand-a.ensures.within _ c.requires.within
