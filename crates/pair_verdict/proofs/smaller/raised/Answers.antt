use Rattle.std.proofs.Common.{subst}
use Rattle.pair_verdict.specs.Settled.{IsSettled}
use Rattle.pair_verdict.proofs.FewerTurns.{raised_alike, raised_differs, raised_none}
use Rattle.pair_verdict.proofs.smaller.raised.Goals as goal

pub returns-in-NoPair : goal.returns-in-NoPair
returns-in-NoPair c small great is s =
    raised_none small great c.args.inputs is c.in-NoPair.proof c.over_variables-proof.result c.over_variables-proof.ensures
    (subst (IsSettled small) c.in-NoPair.is s)

pub returns-in-Differs : goal.returns-in-Differs
returns-in-Differs c small great is s =
    raised_differs small great c.args.inputs is c.in-Differs.line c.in-Differs.first_step c.in-Differs.second_step c.in-Differs.first c.in-Differs.second
    (subst (IsSettled small) c.in-Differs.is s)

pub returns-in-Alike : goal.returns-in-Alike
returns-in-Alike c small great is s =
    raised_alike small great c.args.inputs is c.in-Alike.first c.in-Alike.second c.in-Alike.difference c.over_variables-difference.result
    c.over_variables-difference.ensures (subst (IsSettled small) c.in-Alike.is s)
