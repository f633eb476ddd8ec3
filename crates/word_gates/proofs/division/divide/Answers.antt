use Rattle.std.proofs.Common.{◌≡◌, ◌+◌, ◌-◌, ◌*◌, ◌^◌, ◌<◌, ◌++◌, [], ◌∷◌, length, drop, get_or, refl, sym, ◌∙◌, ap, arith, length-append}
use Rattle.word_spec.specs.Words.{complement}
use Rattle.gates.specs.Circuits.{next, bit_value, variable_of}
use Rattle.gates.proofs.Netlists.{grows_none}
use Rattle.word_gates.specs.Numbers.{number}
use Rattle.word_gates.proofs.Constants.{zero_word}
use Rattle.word_gates.proofs.Words.{no_bit, within_none, within_push, within_cons, digit_small, number_below, number_drop_below, number_from, word_then, word_cons}
use Rattle.std.proofs.lemmas.List.{drop_all}
use Rattle.word_gates.proofs.Quotients.{no_quotient, division_step, turned_number}
use Rattle.word_gates.proofs.division.divide.Goals as goal

pub loop-i-init : goal.loop-i-init
loop-i-init c =
    let n = length c.args.a.now in
    let z : c.in_ok-quotient.quotient.items ≡ [] = c.in_ok-quotient.ensures.items in
    record {
      quotient = record { grows = grows_none _ _; within = rw z within_none; len = ap length z };
      remainder = word_then _ n (grows_none _ 0) c.in_ok-remainder.ensures.made (omega arith) refl;
      value = λ v h. rw (ap (number v) z) (no_quotient _ _ _ (let d : drop (n - 0) c.args.a.now
          ≡ [] = drop_all (n - 0) c.args.a.now (omega arith) in ap (number v) d) (c.in_ok-remainder.ensures.value v h ∙ zero_word n));
    }

pub reduce-requires : goal.reduce-requires
reduce-requires c =
    let n = length c.args.a.now in
    let m = next c.loop-i.circuit in
    let x = get_or c.args.a.now (n - 1 - c.loop-i.i) no_bit in
    let i = c.loop-i.invariant in
    let r : c.deref.result.now ≡ x ∷ c.loop-i.remainder.items = c.deref.ensures.value ∙ c.in_ok-insert.ensures.items in
    let t : c.deref-in-loop-i.result.now ≡ c.in_ok-turned.turned.items ++ c.constant.result
    ∷ [] = c.deref-in-loop-i.ensures.value ∙ c.in_ok-push.ensures.items in
    record {
      longer = rw r (omega arith);
      same = rw (r, t) (omega (
        arith,
        length-append c.in_ok-turned.turned.items (c.constant.result
            ∷ []),
        i.remainder.len,
        c.in_ok-turned.ensures.len,
        c.requires.same,
      ));
      remainder_within = rw r (within_cons m x i.remainder.within (omega arith) (let w : variable_of x
          < next c.args.circuit.now = c.requires.a_within.each (n - 1 - c.loop-i.i) no_bit (omega arith) in omega arith));
      turned_within = rw t (within_push m _ (c.in_ok-turned.ensures.within _ c.requires.b_within) (omega arith) (omega (arith, c.constant.ensures.within)));
    }

pub loop-i-preserved : goal.loop-i-preserved
loop-i-preserved c =
    let n = length c.args.a.now in
    let i = c.loop-i.i in
    let x = get_or c.args.a.now (n - 1 - i) no_bit in
    let j = c.loop-i.invariant in
    let q = c.in_ok-sum.ensures in
    let r : c.deref.result.now ≡ x ∷ c.loop-i.remainder.items = c.deref.ensures.value ∙ c.in_ok-insert.ensures.items in
    let t : c.deref-in-loop-i.result.now ≡ c.in_ok-turned.turned.items ++ c.constant.result
    ∷ [] = c.deref-in-loop-i.ensures.value ∙ c.in_ok-push.ensures.items in
    let l : length c.deref.result.now ≡ n + 1 = rw r (omega (arith, j.remainder.len)) in
    record {
      quotient = rw c.in_ok-insert-2.ensures.items (word_cons _ _ j.quotient q.made.grows q.carry_made (omega (arith, l)));
      remainder = word_then _ n j.remainder.grows q.made (omega (arith, l)) (omega (arith, l));
      value = λ v h.
          let k = q.made.grows.keeps v h in
          let one = c.constant.ensures.value v (j.quotient.grows.keeps v k) in
          let b = number_from v c.args.a.now (n - (i + 1)) (n - i) (n - 1 - i) (omega arith) (omega arith) (omega arith) in
          let p : length c.deref.result.now - 1 ≡ n = omega (arith, l) in
          let same : length c.args.b.now ≡ n = sym c.requires.same in
          let d : number v c.args.b.now < 2 ^ n = let f = number_below v c.args.b.now in rw same at f in
          let y : number v c.in_ok-turned.turned.items ≡ 2 ^ n - 1 - number v c.args.b.now = c.in_ok-turned.ensures.value v ∙ ap
          (λ s. complement s (number v c.args.b.now)) same in
          let m : number v c.deref-in-loop-i.result.now + number v c.args.b.now + 1 ≡ 2 * 2 ^ n =
          rw t (turned_number v _ _ _ n one (c.in_ok-turned.ensures.len ∙ same) (omega arith)) in
          let u = number_drop_below v c.args.a.now (n - (i + 1)) n (omega arith) refl in
          rw (b, c.in_ok-insert-2.ensures.items)
          (division_step n _ _ _ _ _ _ _ i (bit_value v x) (bit_value v c.in_ok-sum.sum.carry) (rw p at (q.value v h)) m d (ap (number v) r)
          (digit_small (bit_value v x)) (rw b at u) (j.value v k));
    }

pub returns-clause-value : goal.returns-clause-value
returns-clause-value c = λ v h.
    let n = length c.args.a.now in
    let e : c.loop-i.i ≡ n = omega arith in
    let q = rw e at (c.loop-i.invariant.value v h) in
    let z : n - n ≡ 0 = omega arith in
    rw z at q
