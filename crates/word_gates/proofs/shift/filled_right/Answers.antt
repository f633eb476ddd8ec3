use Rattle.std.proofs.Common.{◌≡◌, nat_lt, ◌+◌, ◌*◌, ◌/◌, ◌%◌, ◌^◌, ◌≤◌, ◌++◌, cond, length, take, drop, replicate, ◌∙◌, ap, arith}
use Rattle.std.specs.Prelude.{min}
use Rattle.gates.specs.Circuits.{bit_value}
use Rattle.gates.proofs.Netlists.{grows_none, grows_then}
use Rattle.word_gates.specs.Numbers.{number, turned}
use Rattle.word_gates.proofs.Words.{within_drop, within_append, within_replicate, number_more, number_below, number_split, rest_is, word_then}
use Rattle.std.proofs.lemmas.Nat.{mul-le, one_shl}
use Rattle.std.proofs.lemmas.Grind.{common_steps}
use Rattle.std.proofs.Common.{length-drop}
use Rattle.std.proofs.lemmas.List.{length-replicate}
use Rattle.word_gates.proofs.Shifts.{turned_moved, turned_choice, turned_filled, filled_far, few_stages, none_moved, moved_length, shift_place}
use Rattle.word_gates.proofs.shift.filled_right.Goals as goal

pub loop-j-init : goal.loop-j-init
loop-j-init c =
    let w : c.in_ok-word.word.items ≡ c.args.a.now = grind (arith, common_steps) in
    record {
      made = record { grows = grows_none _ _; within = rw w c.requires.a_within; len = ap length w };
      value = λ v h. rw w (none_moved _);
    }

pub choice-requires-clause-a_within : goal.choice-requires-clause-a_within
choice-requires-clause-a_within c =
    rw (c.deref-in-loop-j.ensures.value, c.in_ok-moved.ensures, c.deref.ensures.value)
    (within_append (within_drop _ c.loop-j.invariant.made.within) (within_replicate _ _ (let g = c.loop-j.invariant.made.grows.more in
    let z = c.requires.fill_within in omega arith)))

pub loop-j-preserved : goal.loop-j-preserved
loop-j-preserved c =
    let j = c.loop-j.j in
    let n = length c.args.a.now in
    let q = c.in_ok-word-2.ensures in
    let w = c.loop-j.word.items in
    let k = c.min-places.result in
    let z = c.args.fill in
    let m : c.deref-in-loop-j.result.now ≡ drop k w ++ replicate k z = c.deref-in-loop-j.ensures.value ∙ (c.in_ok-moved.ensures ∙ ap
    (λ u. drop k u ++ replicate k z) c.deref.ensures.value) in
    let d : c.deref-in-loop-j-2.result.now ≡ w = c.deref-in-loop-j-2.ensures.value in
    let o : 1 * 2 ^ j % 2 ^ 64 ≡ 2 ^ j = one_shl j 64 (omega arith) in
    let l : length w ≡ n = c.loop-j.invariant.made.len in
    let s : k ≡ min (2 ^ j) n = c.min-places.ensures ∙ ap (λ t. min t n) o in
    let y : length c.deref-in-loop-j.result.now ≡ n = rw m (moved_length w _ _ (omega arith) ∙ l) in
    record {
      made = word_then _ n c.loop-j.invariant.made.grows q.made (omega (arith, y)) y;
      value = λ v h.
          let x = bit_value v z in
          let e : turned n x (number v c.deref-in-loop-j.result.now)
          ≡ turned n x (number v c.deref-in-loop-j-2.result.now) / 2 ^ (2 ^ j) = rw (m, d) (turned_moved v w n (2 ^ j) k z l s) in
          let f : turned n x (number v c.deref-in-loop-j-2.result.now)
          ≡ turned n x (number v c.args.a.now) / 2 ^ number v (take j c.args.s.now) = rw d (c.loop-j.invariant.value v (q.made.grows.keeps v h)) in
          rw (number_more v c.args.s.now j (omega arith), q.value v h)
          (turned_choice n x _ _ _ ∙ shift_place (turned n x (number v c.args.a.now)) _ (2 ^ j) _ _ _ f e);
    }

pub returns-clause-made : goal.returns-clause-made
returns-clause-made c =
    let n = length c.args.a.now in
    let l : length c.deref-2.result.now ≡ n = ap length c.deref-2.ensures.value ∙ (ap length c.in_ok-empty.ensures ∙ length-replicate n c.args.fill) in
    let m : c.loop-j.j * n ≤ 6 * n = mul-le c.loop-j.j n 6 n (omega arith) (omega arith) in
    let r = ap length (rest_is c.args.s.now c.min-stages.result) in
    let f = c.in_ok-far.ensures.made in
    let w = c.in_ok-word-3.ensures.made in
    word_then _ n (grows_then (6 * n + length c.args.s.now) c.loop-j.invariant.made.grows f.grows
    (omega (arith, r, length-drop c.min-stages.result c.args.s.now))) w (omega arith) l

pub returns-clause-value : goal.returns-clause-value
returns-clause-value c = λ v h.
    let n = length c.args.a.now in
    let x = bit_value v c.args.fill in
    let k = c.in_ok-word-3.ensures.made.grows.keeps v h in
    let g = c.in_ok-far.ensures.made.grows.keeps v k in
    let st = c.min-stages.result in
    let s = c.args.s.now in
    let e : c.loop-j.j ≡ st = omega arith in
    let z : turned n x (number v c.deref-2.result.now) ≡ 0 = rw (c.deref-2.ensures.value, c.in_ok-empty.ensures) (turned_filled v n c.args.fill) in
    let w : turned n x (number v c.deref-3.result.now) ≡ turned n x (number v c.args.a.now) / 2 ^ number v (take st s) =
    ap (λ t. turned n x (number v t)) c.deref-3.ensures.value ∙ (c.loop-j.invariant.value v g ∙ ap
    (λ t. turned n x (number v c.args.a.now) / 2 ^ number v (take t s)) e) in
    rw (c.in_ok-word-3.ensures.value v h, c.in_ok-far.ensures.value v k, rest_is, number_split v s st (omega arith))
    (turned_choice n x _ _ _
    ∙ (ap (λ t. cond (nat_lt 0 (number v (drop st s))) t (turned n x (number v c.deref-3.result.now))) z
    ∙ filled_far (number v c.args.a.now) n (number v (drop st s)) st (number v (take st s)) _ x (number_below v c.args.a.now)
    (few_stages v s st _ n c.min-stages.ensures c.stages.ensures.enough) w))
