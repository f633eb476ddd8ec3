use Rattle.std.proofs.Common.{◌≡◌, ◌+◌, ◌∙◌, ap, arith, length, length-append, [], ◌∷◌, suc}
use Rattle.gates.proofs.Netlists.{in_order_push, push_made, push_value, there_value}
use Rattle.gates.proofs.circuit.Circuit.gate.Goals as goal

pub returns-in-Some-clause-value : goal.returns-in-Some-clause-value
returns-in-Some-clause-value c =
    let e = c.deref.ensures.value in
    let l = c.in-Some.ensures.within in
    let g = c.in-Some.ensures.there in
    rw (← c.self.view_is) (λ v h. c.new.ensures.value v ∙ there_value v _ _ _ _ h (rw e at l) (rw e at g))

pub invariant_of-self-2 : goal.invariant_of-self-2
invariant_of-self-2 c =
    rw c.in_ok-push.ensures.items
    (in_order_push _ _ _ c.self.invariant.0 (rw (← c.self.view_is) at c.requires), omega (arith, length-append c.self.inside.gates.items (c.args.gate ∷ [])))

pub returns-clause-made : goal.returns-clause-made
returns-clause-made c = rw (c.in_ok-push.ensures.items, ← c.self.view_is) (push_made _ _ _ _ _ c.new-2.ensures.variable (omega arith))

pub returns-clause-value : goal.returns-clause-value
returns-clause-value c =
    rw c.in_ok-push.ensures.items
    (λ v h. let e : c.self.inside.inputs + 1 + c.len.result ≡ c.self.inside.inputs + 1 + length c.self.inside.gates.items = omega arith
    in c.new-2.ensures.value v ∙ (ap (λ k. v (suc k)) e ∙ push_value v _ _ _ h))
