use Rattle.std.proofs.Common.{◌≡◌, ◌+◌, ◌-◌, ◌*◌, ◌%◌, ◌^◌, ◌≤◌, ◌++◌, length, take, replicate, sym, ◌∙◌, ap, arith}
use Rattle.std.specs.Prelude.{min}
use Rattle.gates.proofs.Netlists.{grows_none, grows_then}
use Rattle.word_gates.specs.Numbers.{number}
use Rattle.word_gates.proofs.Words.{number_more, number_split, rest_is, word_then}
use Rattle.std.proofs.lemmas.Nat.{mul-le, one_shl}
use Rattle.std.proofs.lemmas.Grind.{common_steps}
use Rattle.std.proofs.Common.{length-drop}
use Rattle.word_gates.proofs.Shifts.{left_none, left_within, left_length, left_value, left_place, shift_left_far, few_stages, shl_from}
use Rattle.word_gates.proofs.shift.shift_left.Goals as goal

pub loop-j-init : goal.loop-j-init
loop-j-init c =
    let w : c.in_ok-word.word.items ≡ c.args.a.now = grind (arith, common_steps) in
    record {
      made = record { grows = grows_none _ _; within = rw w c.requires.a_within; len = ap length w };
      value = λ v h. rw w (left_none v c.args.a.now);
    }

pub choice-requires-clause-a_within : goal.choice-requires-clause-a_within
choice-requires-clause-a_within c =
    rw (c.deref-in-loop-j.ensures.value, c.in_ok-moved.ensures, c.deref.ensures.value)
    (left_within _ _ _ c.loop-j.invariant.made.within (let g = c.loop-j.invariant.made.grows.more in let z = c.constant-zero.ensures.within in omega arith))

pub loop-j-preserved : goal.loop-j-preserved
loop-j-preserved c =
    let j = c.loop-j.j in
    let n = length c.args.a.now in
    let q = c.in_ok-word-2.ensures in
    let w = c.loop-j.word.items in
    let k = c.min-places.result in
    let z = c.constant-zero.result in
    let m : c.deref-in-loop-j.result.now ≡ replicate k z ++ take (length w - k) w = c.deref-in-loop-j.ensures.value ∙ (c.in_ok-moved.ensures ∙ ap
    (λ u. replicate k z ++ take (length u - k) u) c.deref.ensures.value) in
    let d : c.deref-in-loop-j-2.result.now ≡ w = c.deref-in-loop-j-2.ensures.value in
    let o : 1 * 2 ^ j % 2 ^ 64 ≡ 2 ^ j = one_shl j 64 (omega arith) in
    let l : length w ≡ n = c.loop-j.invariant.made.len in
    let s : k ≡ min (2 ^ j) (length w) = c.min-places.ensures ∙ (ap (λ t. min t n) o ∙ ap (λ t. min (2 ^ j) t) (sym l)) in
    let y : length c.deref-in-loop-j.result.now ≡ n = rw m (left_length w _ _ (omega arith) ∙ l) in
    record {
      made = word_then _ n c.loop-j.invariant.made.grows q.made (omega (arith, y)) y;
      value = λ v h.
          let g = c.loop-j.invariant.made.grows.keeps v (q.made.grows.keeps v h) in
          let e : number v c.deref-in-loop-j.result.now ≡ (number v c.deref-in-loop-j-2.result.now * 2 ^ (2 ^ j)) % 2 ^ length w = rw (m, d)
          (left_value v w (2 ^ j) _ _ (c.constant-zero.ensures.value v g) s) in
          let f : number v c.deref-in-loop-j-2.result.now ≡ (number v c.args.a.now * 2 ^ number v (take j c.args.s.now)) % 2 ^ n = rw d
          (c.loop-j.invariant.value v (q.made.grows.keeps v h)) in
          rw (number_more v c.args.s.now j (omega arith), q.value v h)
          (left_place (number v c.args.a.now) _ (2 ^ j) (2 ^ n) _ _ _ f (rw l at e));
    }

pub returns-clause-made : goal.returns-clause-made
returns-clause-made c =
    let n = length c.args.a.now in
    let l : length c.deref-2.result.now ≡ n = ap length c.deref-2.ensures.value ∙ c.loop-j.invariant.made.len in
    let m : c.loop-j.j * n ≤ 6 * n = mul-le c.loop-j.j n 6 n (omega arith) (omega arith) in
    let r = ap length (rest_is c.args.s.now c.min-stages.result) in
    let f = c.in_ok-far.ensures.made in
    let w = c.in_ok-word-3.ensures.made in
    word_then _ n (grows_then (6 * n + length c.args.s.now) c.loop-j.invariant.made.grows f.grows
    (omega (arith, r, length-drop c.min-stages.result c.args.s.now))) w (omega arith) l

pub returns-clause-value : goal.returns-clause-value
returns-clause-value c = λ v h.
    let n = length c.args.a.now in
    let k = c.in_ok-word-3.ensures.made.grows.keeps v h in
    let g = c.in_ok-far.ensures.made.grows.keeps v k in
    let st = c.min-stages.result in
    let s = c.args.s.now in
    let e : c.loop-j.j ≡ st = omega arith in
    let w : number v c.deref-2.result.now ≡ (number v c.args.a.now * 2 ^ number v (take st s)) % 2 ^ n =
    ap (number v) c.deref-2.ensures.value ∙ (c.loop-j.invariant.value v g ∙ ap (λ t. (number v c.args.a.now * 2 ^ number v (take t s)) % 2 ^ n) e) in
    shl_from _ n _ _
    (rw (c.in_ok-word-3.ensures.value v h, c.negation.ensures.value v, c.in_ok-far.ensures.value v k, rest_is, number_split v s st (omega arith))
    (shift_left_far (number v c.args.a.now) n _ _ _ _ (few_stages v s st _ n c.min-stages.ensures c.stages.ensures.enough) w))
