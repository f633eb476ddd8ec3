use Rattle.gates.proofs.order.sorted.Goals as goal

pub returns-clause-within : goal.returns-clause-within
returns-clause-within c = λ n ha hb hc.
    let p = c.ordered.ensures.within n ha hb in
    let q = c.ordered-2.ensures.within n p.1 hc in
    let r = c.ordered-3.ensures.within n p.0 q.0 in
    (r.0, r.1, q.1)
