use Rattle.std.proofs.Common.{◌≡◌, length, ◌∙◌, ap}
use Rattle.word_spec.specs.Words.{complement}
use Rattle.word_gates.specs.Numbers.{number}
use Rattle.bit_blast.proofs.products.turned_if.Goals as goal

pub returns-clause-value : goal.returns-clause-value
returns-clause-value c = λ v h.
    let a = c.args.a.now in
    let m : number v c.deref.result.now ≡ complement (length a) (number v a) = ap (number v) c.deref.ensures.value ∙ c.in_ok-opposite.ensures.value v in
    rw m at (c.in_ok-word.ensures.value v h)

pub choice-requires-clause-a_within : goal.choice-requires-clause-a_within
choice-requires-clause-a_within c = rw c.deref.ensures.value (c.in_ok-opposite.ensures.within _ c.requires.a_within)
