use Rattle.std.proofs.Common.{◌==◌, ◌+◌, ◌&&◌, ◌<◌, ◌∙◌, [], ◌∷◌, get_or, refl, ap, drop, length, arith}
use Rattle.gates.specs.Circuits.{any_of, variable_of}
use Rattle.gates.specs.Circuits.{bit_value}
use Rattle.word_gates.specs.Numbers.{number}
use Rattle.word_gates.proofs.Words.{no_bit}
use Rattle.bit_blast.proofs.Lists.{three}
use Rattle.bit_blast.proofs.TiedBits.{asks, words_step, words_end}
use Rattle.bit_blast.proofs.ties.tie_words.Goals as goal

pub loop-i-preserved : goal.loop-i-preserved
loop-i-preserved c =
    let a = c.args.a.now in let b = c.args.b.now in let i = c.loop-i.i in
    let r = c.requires in
    let l : i < length a = omega arith in
    let m : i < length b = omega arith in
    record {
      value = λ v.
          ap (λ z. z && asks (bit_value v c.args.condition) (number v (drop (i + 1) a) == number v (drop (i + 1) b)))
          (c.in_ok-push_tie-2.ensures.value v ∙ ap (λ z. z &&
          any_of v (c.negation-apart.result ∷ get_or a i no_bit ∷ c.negation-not_y.result ∷ [])) (c.in_ok-push_tie.ensures.value v))
          ∙ words_step v a b i _ _ _ _ _ _ _ _ l m refl refl (c.negation-apart.ensures.value v) (c.negation-not_x.ensures.value v)
          (c.negation-not_y.ensures.value v) (c.loop-i.invariant.value v);
      over = λ n p q s o.
          let apart : variable_of c.negation-apart.result < n = omega (arith, c.negation-apart.ensures.variable) in
          let x = q.each i no_bit l in
          let y = s.each i no_bit m in
          c.in_ok-push_tie-2.ensures.over n (three n _ _ _ apart x (omega (arith, c.negation-not_y.ensures.variable)))
          (c.in_ok-push_tie.ensures.over n (three n _ _ _ apart (omega (arith, c.negation-not_x.ensures.variable)) y) (c.loop-i.invariant.over n p q s o));
    }

pub returns-clause-value : goal.returns-clause-value
returns-clause-value c = λ v. words_end v c.args.a.now c.args.b.now c.loop-i.i _ _ _ (omega arith) (omega (arith, c.requires)) (c.loop-i.invariant.value v)
