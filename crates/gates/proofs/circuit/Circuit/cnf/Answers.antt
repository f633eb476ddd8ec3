use Rattle.std.proofs.Common.{◌+◌, ◌<◌, ◌∙◌, ◌&&◌, ◌||◌, false, ap, arith, length}
use Rattle.gates.specs.Circuits.{variable_of, bit_value}
use Rattle.gates.specs.Pushes.{AreOver}
use Rattle.gates.proofs.Rules.{within1}
use Rattle.gates.proofs.Definitions.{holds_none, holds_more, holds_all, gate_at, ties_over, defined}
use Rattle.gates.proofs.circuit.Circuit.cnf.Goals as goal

pub loop-i-init : goal.loop-i-init
loop-i-init c =
    let t = rw (← c.self.view_is) at c.requires.ties in
    record {
      value = λ v. c.in_ok-push_clause.ensures.value v ∙ holds_none v c.self.inside.inputs _ _ (c.new.ensures.value v);
      over = c.in_ok-push_clause.ensures.over _ (within1 _ _ (omega arith)) (rw c.as_slice-gates.ensures.value (ties_over _ _ t));
    }

pub loop-i-preserved : goal.loop-i-preserved
loop-i-preserved c =
    let gs = c.as_slice-gates.result.now in
    let i = c.loop-i.i in
    record {
      value = λ v.
          rw (c.in_ok-push_gate.ensures.value v, c.loop-i.invariant.value v)
          (holds_more v c.self.inside.inputs gs i _ _ _ (omega arith) (c.new-in-loop-i.ensures.value v));
      over = c.in_ok-push_gate.ensures.over _ (omega arith)
          (gate_at (c.self.inside.inputs + 1) _ gs i _ (rw c.as_slice-gates.ensures.value c.self.invariant.0) (omega arith)
          (omega arith)) c.loop-i.invariant.over;
    }

pub returns : goal.returns
returns c =
    let e = c.as_slice-gates.ensures.value in
    let n = c.self.inside.inputs + 1 + length c.as_slice-gates.result.now in
    let r : variable_of c.args.root < n = rw e (rw (← c.self.view_is) at c.requires.root) in
    let o : AreOver n c.push_clause-2.new.clauses.items = c.in_ok-push_clause-2.ensures.over _ (within1 _ _ r) c.loop-i.invariant.over in
    rw (← c.self.view_is)
    (defined (record { inputs = c.self.inside.inputs; gates = c.self.inside.gates.items }) c.args.ties.items c.args.root _ c.self.invariant.0
    (ap (λ gs. c.self.inside.inputs + 1 + length gs) e) (rw e at o)
    (λ v.
    c.in_ok-push_clause-2.ensures.value v
    ∙ (ap (λ b. b && (bit_value v c.args.root || false)) (c.loop-i.invariant.value v)
    ∙ holds_all v c.self.inside.inputs _ _ c.loop-i.i _ _ (omega arith) e)))
