use Rattle.std.proofs.Common.{◌≡◌, ◌+◌, ◌-◌, ◌*◌, ◌^◌, ◌<◌, ◌++◌, cond, [], ◌∷◌, length, take, drop, get_or, refl, sym, ◌∙◌, ap, arith, length-take, length-drop}
use Rattle.word_spec.specs.Words.{bit}
use Rattle.gates.specs.Circuits.{IsBit, bit_value}
use Rattle.gates.proofs.Netlists.{grows_none, grows_then}
use Rattle.word_gates.specs.Numbers.{number, digit}
use Rattle.word_gates.proofs.Words.{no_bit, within_none, within_drop, pow_more, number_push_at, number_more, number_below, number_split, number_from, rest_is, word_push, word_then}
use Rattle.std.proofs.lemmas.Nat.{pow-add}
use Rattle.std.proofs.lemmas.Grind.{common_steps}
use Rattle.std.proofs.lemmas.List.{take_all}
use Rattle.word_gates.proofs.Constants.{zero_word}
use Rattle.word_gates.proofs.Sums.{row_step, product_modulo, nothing}
use Rattle.word_gates.proofs.arithmetic.shifted_sums.Goals as goal

rest-are : (c : goal.After-drop-row-in-loop-i) → c.in_ok-rest-2.rest.items ≡ drop 1 c.in_ok-sum.sum.bits.items
rest-are c = grind (arith, common_steps, rest_is)

lowest-is : (c : goal.After-drop-row-in-loop-i) → c.push.new.self.items ≡ c.loop-i.low.items ++ get_or c.in_ok-sum.sum.bits.items 0 no_bit ∷ []
lowest-is c = let e : c.index.result.now ≡ get_or c.in_ok-sum.sum.bits.items 0 no_bit = grind (arith, common_steps) in c.in_ok-push.ensures.items ∙ ap
    (λ x. c.loop-i.low.items ++ x ∷ []) e

pub loop-i-init : goal.loop-i-init
loop-i-init c =
    let z : c.in_ok-low.low.items ≡ [] = c.in_ok-low.ensures.items in
    record {
      low = record { grows = grows_none _ _; within = rw z within_none; len = ap length z };
      rest_within = c.in_ok-rest.ensures.made.within;
      rest_len = omega (arith, c.in_ok-rest.ensures.made.len);
      value = λ v h.
          let n = length c.args.a.now in
          let e : number v c.in_ok-low.low.items ≡ 0 = ap (number v) z in
          let f : number v c.in_ok-rest.rest.items ≡ 0 = c.in_ok-rest.ensures.value v h ∙ zero_word n in
          (0, omega arith);
    }

pub loop-i-preserved : goal.loop-i-preserved
loop-i-preserved c =
    let i = c.loop-i.i in
    let n = length c.args.a.now in
    let j = c.loop-i.invariant in
    let p = c.in_ok-row.ensures in
    let q = c.in_ok-sum.ensures in
    let s = c.in_ok-sum.sum.bits.items in
    let x = get_or c.args.b.now i no_bit in
    let tl : length (take (n - i) c.args.a.now) ≡ n - i = grind (arith, length-take (n - i) c.args.a.now) in
    let dl : length c.deref.result.now ≡ n - i = ap length c.deref.ensures.value ∙ omega (arith, j.rest_len) in
    let sl : length s ≡ n - i = q.made.len ∙ dl in
    let t : IsBit c.loop-i.circuit c.sum_with.new.circuit (3 * n) (get_or s 0 no_bit) =
    record { grows = grows_then (3 * n) p.made.grows q.made.grows (omega (arith, tl, dl)); within = q.made.within.each 0 no_bit (omega (arith, sl)) } in
    record {
      low = rw (lowest-is c) (word_push _ j.low t (omega arith));
      rest_within = rw (rest-are c) (within_drop 1 q.made.within);
      rest_len = rw (rest-are c) (omega (arith, length-drop 1 s, sl));
      value = λ v h.
          let k = q.made.grows.keeps v h in
          let g = p.made.grows.keeps v k in
          let e = j.value v g in
          let w : n ≡ i + (n - i) = omega arith in
          let pk : 2 ^ i * 2 ^ (n - i) ≡ 2 ^ n = sym (ap (λ t. 2 ^ t) w ∙ pow-add 2 i (n - i)) in
          let f : number v c.args.a.now ≡ 2 ^ (n - i) * number v (drop (n - i) c.args.a.now) + number v (take (n - i) c.args.a.now) =
          number_split v c.args.a.now (n - i) (omega arith) ∙ omega arith in
          let u : number v c.deref-in-loop-i.result.now ≡ cond (bit_value v x) (number v (take (n - i) c.args.a.now)) 0 = ap
          (number v) c.deref-in-loop-i.ensures.value ∙ p.value v k in
          let z : digit v c.constant-zero.result ≡ 0 = ap bit (c.constant-zero.ensures.value v (j.low.grows.keeps v g)) in
          let r : number v c.deref.result.now ≡ number v c.loop-i.rest.items = ap (number v) c.deref.ensures.value in
          let y = rw (dl, r) at (q.value v h) in
          let o = number_from v s 0 1 0 (omega (arith, sl)) refl refl in
          rw (lowest-is c, rest-are c, number_push_at v _ _ i j.low.len, pow_more i, number_more v c.args.b.now i (omega arith))
          (row_step (2 ^ i) (2 ^ (n - i)) (2 ^ n) _ _ _ _ e.0 _ _ _ _ _ _ _ _ (bit_value v x) pk e.1 f u z y o);
    }

pub returns-clause-made : goal.returns-clause-made
returns-clause-made c =
    let n = length c.args.a.now in
    let e : c.loop-i.i ≡ n = omega arith in
    word_then _ n (grows_none _ 0) c.loop-i.invariant.low (rw e (omega arith)) e

pub returns-clause-value : goal.returns-clause-value
returns-clause-value c = λ v h.
    let n = length c.args.a.now in
    let i = c.loop-i.invariant in
    let e : c.loop-i.i ≡ n = omega arith in
    let q = i.value v h in
    let r : c.loop-i.rest.items ≡ [] = nothing _ (omega (arith, i.rest_len)) in
    let z : 2 ^ c.loop-i.i * number v c.loop-i.rest.items ≡ 0 = rw r (omega arith) in
    let t : take c.loop-i.i c.args.b.now ≡ c.args.b.now = take_all _ _ (omega arith) in
    let b = number_below v c.loop-i.low.items in
    let l : number v c.loop-i.low.items < 2 ^ n = rw (i.low.len, e) at b in
    product_modulo (2 ^ n) _ _ q.0 _ (rw t at q.1) z l
