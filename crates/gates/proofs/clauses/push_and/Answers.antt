use Rattle.std.proofs.Common.{◌<◌}
use Rattle.gates.specs.Circuits.{bit_value, variable_of}
use Rattle.gates.proofs.Rules.{within2, within3, and_clauses}
use Rattle.gates.proofs.clauses.push_and.Goals as goal

pub returns-clause-value : goal.returns-clause-value
returns-clause-value c = λ v.
    rw (
      c.in_ok-push_clause-3.ensures.value v,
      c.in_ok-push_clause-2.ensures.value v,
      c.in_ok-push_clause.ensures.value v,
      c.negation-not_g.ensures.value v,
      c.negation-not_a.ensures.value v,
      c.negation-not_b.ensures.value v,
    )
    (and_clauses _ (bit_value v c.args.g) (bit_value v c.args.a) (bit_value v c.args.b))

pub returns-clause-over : goal.returns-clause-over
returns-clause-over c = λ m hg ha hb k.
    let ng : variable_of c.negation-not_g.result < m = rw c.negation-not_g.ensures.variable hg in
    let na : variable_of c.negation-not_a.result < m = rw c.negation-not_a.ensures.variable ha in
    let nb : variable_of c.negation-not_b.result < m = rw c.negation-not_b.ensures.variable hb in
    c.in_ok-push_clause-3.ensures.over m (within3 m _ _ _ hg na nb)
    (c.in_ok-push_clause-2.ensures.over m (within2 m _ _ ng hb) (c.in_ok-push_clause.ensures.over m (within2 m _ _ ng ha) k))
