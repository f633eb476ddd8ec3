use Rattle.std.proofs.Common.{◌<◌}
use Rattle.gates.specs.Circuits.{bit_value, variable_of}
use Rattle.gates.proofs.Rules.{within3, ite_clauses}
use Rattle.gates.proofs.clauses.push_ite.Goals as goal

pub returns-clause-value : goal.returns-clause-value
returns-clause-value c = λ v.
    rw (
      c.in_ok-push_clause-6.ensures.value v,
      c.in_ok-push_clause-5.ensures.value v,
      c.in_ok-push_clause-4.ensures.value v,
      c.in_ok-push_clause-3.ensures.value
          v,
      c.in_ok-push_clause-2.ensures.value v,
      c.in_ok-push_clause.ensures.value v,
      c.negation-not_g.ensures.value v,
      c.negation-not_c.ensures.value v,
      c.negation-not_a.ensures.value v,
      c.negation-not_b.ensures.value v,
    )
    (ite_clauses _ (bit_value v c.args.g) (bit_value v c.args.c) (bit_value v c.args.a) (bit_value v c.args.b))

pub returns-clause-over : goal.returns-clause-over
returns-clause-over c = λ m hg hc ha hb k.
    let ng : variable_of c.negation-not_g.result < m = rw c.negation-not_g.ensures.variable hg in
    let nc : variable_of c.negation-not_c.result < m = rw c.negation-not_c.ensures.variable hc in
    let na : variable_of c.negation-not_a.result < m = rw c.negation-not_a.ensures.variable ha in
    let nb : variable_of c.negation-not_b.result < m = rw c.negation-not_b.ensures.variable hb in
    c.in_ok-push_clause-6.ensures.over m (within3 m _ _ _ hg na nb)
    (c.in_ok-push_clause-5.ensures.over m (within3 m _ _ _ ng ha hb)
    (c.in_ok-push_clause-4.ensures.over m (within3 m _ _ _ hg hc nb)
    (c.in_ok-push_clause-3.ensures.over m (within3 m _ _ _ hg nc na)
    (c.in_ok-push_clause-2.ensures.over m (within3 m _ _ _ ng hc hb) (c.in_ok-push_clause.ensures.over m (within3 m _ _ _ ng nc ha) k)))))
