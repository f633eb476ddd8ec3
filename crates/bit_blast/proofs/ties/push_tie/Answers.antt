use Rattle.gates.proofs.Pushes.{satisfied_push, over_push}
use Rattle.bit_blast.proofs.ties.push_tie.Goals as goal

pub returns-clause-value : goal.returns-clause-value
returns-clause-value c = λ v. rw (c.in_ok-push.ensures.items, c.in_ok-clause.ensures) (satisfied_push v _ c.args.bits.now)

pub returns-clause-over : goal.returns-clause-over
returns-clause-over c = λ n w k. rw (c.in_ok-push.ensures.items, c.in_ok-clause.ensures) (over_push n _ c.args.bits.now w k)
