use Rattle.std.proofs.Common.{◌≡◌, ◌-◌, ◌%◌, ◌^◌, length, take, ◌∙◌, ap, arith}
use Rattle.gates.proofs.Netlists.{grows_none}
use Rattle.word_gates.specs.Numbers.{number}
use Rattle.word_gates.proofs.Constants.{zero_word}
use Rattle.word_gates.proofs.Words.{number_take, within_take}
use Rattle.bit_blast.proofs.SignedWords.{lowest_len}
use Rattle.bit_blast.proofs.products.shifted.Goals as goal

pub returns-clause-made : goal.returns-clause-made
returns-clause-made c =
    let a = c.args.a.now in
    let n = length a - c.args.places in
    let zeros = c.in_ok-zeros.ensures.made in
    let l : length (take n a) ≡ n = lowest_len a n (omega arith) in
    let z : length c.deref.result.now ≡ c.args.places = ap length c.deref.ensures.value ∙ zeros.len in
    record {
      grows = grows_none _ 0;
      within = c.in_ok-word.ensures.within _ (within_take n c.requires.a_within) (rw c.deref.ensures.value zeros.within);
      len = c.in_ok-word.ensures.len ∙ omega (arith, c.requires.within);
    }

pub returns-clause-value : goal.returns-clause-value
returns-clause-value c = λ v h.
    let a = c.args.a.now in
    let n = length a - c.args.places in
    let k = c.args.places in
    let zeros : number v c.deref.result.now ≡ 0 = ap (number v) c.deref.ensures.value ∙ (c.in_ok-zeros.ensures.value v h ∙ zero_word k) in
    let z : length c.deref.result.now ≡ k = ap length c.deref.ensures.value ∙ c.in_ok-zeros.ensures.made.len in
    let low : number v (take n a) ≡ number v a % 2 ^ n = number_take v a n (omega arith) in
    rw (z, zeros, low) at (c.in_ok-word.ensures.value v) ∙ omega arith
