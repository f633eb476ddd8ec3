use Rattle.std.proofs.Common.{arith}
use Rattle.verdict.specs.Verdicts.{budget_of}
use Rattle.pair_verdict.specs.Sides.{first_program, second_program}
use Rattle.pair_verdict.proofs.FewerTurns.{holds_for_more}
use Rattle.pair_verdict.proofs.smaller.settle_within.Goals as goal

pub settle-requires-clause-first_holds : goal.settle-requires-clause-first_holds
settle-requires-clause-first_holds c =
    let p = c.args.pair.now in
    (holds_for_more (first_program p) (budget_of p.budget.now) c.args.turns p.budget.now.unroll c.requires.first.few (omega arith) c.requires.first).holds

pub settle-requires-clause-second_holds : goal.settle-requires-clause-second_holds
settle-requires-clause-second_holds c =
    let p = c.args.pair.now in
    (holds_for_more (second_program p) (budget_of p.budget.now) c.args.turns p.budget.now.unroll c.requires.second.few (omega arith) c.requires.second).holds
