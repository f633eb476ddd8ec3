use Rattle.std.proofs.Common.{◌∙◌, sym}
use Rattle.note_terms.proofs.Applied.{bit_stays}
use Rattle.note_terms.proofs.operators.truth.Goals as goal

pub returns-then-width-eq1 : goal.returns-then-width-eq1
returns-then-width-eq1 c = bit_stays _ _ c.nodes-typed.ensures.typed c.requires.term.within (sym c.width.ensures ∙ c.if-width-eq1.true)
