use Rattle.std.proofs.Common.{arith}
use Rattle.note_terms.proofs.Applied.{constant_fits, constant_step, extended_step}
use Rattle.note_terms.proofs.operators.widened.Goals as goal

pub keep-requires : goal.keep-requires
keep-requires c = ((omega arith, omega arith), constant_fits _ _ _ c.nodes-typed.ensures.typed c.requires.narrow c.in-Some.ensures.some)

pub returns-in_ok-word-in-Some : goal.returns-in_ok-word-in-Some
returns-in_ok-word-in-Some c = constant_step _ _ _ _ _ c.in-Some.ensures.some c.in_ok-word-in-Some.ensures

pub returns-in_ok-word-in-None : goal.returns-in_ok-word-in-None
returns-in_ok-word-in-None c = extended_step _ _ _ _ _ c.in_ok-word-in-None.ensures
