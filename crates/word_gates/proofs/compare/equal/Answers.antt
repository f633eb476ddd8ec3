use Rattle.std.proofs.Common.{◌+◌, ◌-◌, length, ◌∙◌, arith}
use Rattle.gates.proofs.Netlists.{grows_none, bit_then}
use Rattle.word_gates.proofs.Words.{number_from}
use Rattle.word_gates.proofs.Places.{equal_above, equal_none, equal_all}
use Rattle.word_gates.proofs.compare.equal.Goals as goal

pub loop-i-init : goal.loop-i-init
loop-i-init c =
    record {
      made = record { grows = grows_none _ 0; within = c.constant-same.ensures.within };
      value = λ v h. c.constant-same.ensures.value v h ∙ equal_none v c.args.a.now c.args.b.now _ (omega arith) (omega arith);
    }

pub loop-i-preserved : goal.loop-i-preserved
loop-i-preserved c =
    let i = c.loop-i.i in
    let n = length c.args.a.now in
    let q = c.in_ok-same.ensures in
    record {
      made = bit_then _ c.loop-i.invariant.made.grows q.made (omega arith);
      value = λ v h.
          let ea = number_from v c.args.a.now (n - (i + 1)) (n - i) (n - 1 - i) (omega arith) (omega arith) (omega arith) in
          let eb = number_from v c.args.b.now (n - (i + 1)) (n - i) (n - 1 - i) (omega arith) (omega arith) (omega arith) in
          rw (ea, eb, equal_above) (rw (c.loop-i.invariant.value v (q.made.grows.keeps v h)) at (q.value v h));
    }

pub returns-clause-value : goal.returns-clause-value
returns-clause-value c = λ v h. c.loop-i.invariant.value v h ∙ equal_all v c.args.a.now c.args.b.now _ (omega arith)
