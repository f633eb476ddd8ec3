use Rattle.std.proofs.Common.{subst}
use Rattle.pair_verdict.specs.Settled.{IsSettled}
use Rattle.pair_verdict.proofs.SideVerdicts.{conflicts, differs, equals, no_pair}
use Rattle.pair_verdict.proofs.equality.with_holdings.Goals as goal

pub returns-in-NoPair : goal.returns-in-NoPair
returns-in-NoPair c p within first second s =
    no_pair p within c.args.first first c.args.second second c.in-NoPair.proof (subst (IsSettled p) c.in-NoPair.is s)

pub returns-in-Conflicts : goal.returns-in-Conflicts
returns-in-Conflicts c p within first second s =
    conflicts p within c.args.first first c.args.second second c.in-Conflicts.question c.in-Conflicts.proof (subst (IsSettled p) c.in-Conflicts.is s)

pub returns-in-Differs : goal.returns-in-Differs
returns-in-Differs c p within first second s =
    differs p within c.args.first first c.args.second second c.in-Differs.line c.in-Differs.first_step c.in-Differs.second_step c.in-Differs.first
    c.in-Differs.second (subst (IsSettled p) c.in-Differs.is s)

pub returns-in-Alike : goal.returns-in-Alike
returns-in-Alike c p within first second s =
    equals p within c.args.first first c.args.second second c.in-Alike.first_start c.in-Alike.second_start c.in-Alike.difference
    (subst (IsSettled p) c.in-Alike.is s)
