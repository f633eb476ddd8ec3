use Rattle.std.proofs.Common.{rules}
use Rattle.pair_blast.proofs.EqualWords.{equal_alone, two_clauses}
use Rattle.pair_blast.proofs.ties.tie_bits.Goals as goal

pub returns-then-eq-clause-value : goal.returns-then-eq-clause-value
returns-then-eq-clause-value c = λ v. equal_alone v _ c.args.x c.args.y (search rules)

pub returns-clause-value : goal.returns-clause-value
returns-clause-value c = λ v.
    two_clauses _ _ _ _ _ _ _ (c.negation-not_x.ensures.value v) (c.negation-not_y.ensures.value v) (c.in_ok-push_tie.ensures.value v)
    (c.in_ok-push_tie-2.ensures.value v)
