use Rattle.gates.proofs.clauses.push_gate.Goals as goal

pub returns-in_ok-push_and-in-And-clause-over : goal.returns-in_ok-push_and-in-And-clause-over
returns-in_ok-push_and-in-And-clause-over c = λ m g b k.
    let t = rw c.in-And.is at b in
    c.in_ok-push_and-in-And.ensures.over m g t.0 t.1 k

pub returns-in_ok-push_xor-in-Xor-clause-over : goal.returns-in_ok-push_xor-in-Xor-clause-over
returns-in_ok-push_xor-in-Xor-clause-over c = λ m g b k.
    let t = rw c.in-Xor.is at b in
    c.in_ok-push_xor-in-Xor.ensures.over m g t.0 t.1 k

pub returns-in_ok-push_ite-in-Ite-clause-over : goal.returns-in_ok-push_ite-in-Ite-clause-over
returns-in_ok-push_ite-in-Ite-clause-over c = λ m g b k.
    let t = rw c.in-Ite.is at b in
    c.in_ok-push_ite-in-Ite.ensures.over m g t.0 t.1 t.2 k

pub returns-in_ok-push_parity-in-Parity-clause-over : goal.returns-in_ok-push_parity-in-Parity-clause-over
returns-in_ok-push_parity-in-Parity-clause-over c = λ m g b k.
    let t = rw c.in-Parity.is at b in
    c.in_ok-push_parity-in-Parity.ensures.over m g t.0 t.1 t.2 k

pub returns-in_ok-push_majority-in-Majority-clause-over : goal.returns-in_ok-push_majority-in-Majority-clause-over
returns-in_ok-push_majority-in-Majority-clause-over c = λ m g b k.
    let t = rw c.in-Majority.is at b in
    c.in_ok-push_majority-in-Majority.ensures.over m g t.0 t.1 t.2 k

pub returns-in_ok-push_same-in-Same-clause-over : goal.returns-in_ok-push_same-in-Same-clause-over
returns-in_ok-push_same-in-Same-clause-over c = λ m g b k.
    let t = rw c.in-Same.is at b in
    c.in_ok-push_same-in-Same.ensures.over m g t.0 t.1 t.2 k
