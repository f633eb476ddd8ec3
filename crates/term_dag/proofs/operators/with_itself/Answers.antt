use Rattle.std.proofs.Common.{◌≡◌, refl, sym, ◌∙◌, Bool, true, false}
use mir.Val.{bool_byte}
use Rattle.std.specs.Int.Bits.{and_self, or_self}
use Rattle.word_spec.specs.Words as words
use Rattle.term_dag.proofs.Ranges.{word_fits}
use Rattle.term_dag.proofs.WordFolds.{fixed_bit}
use Rattle.term_dag.proofs.operators.with_itself.Goals as goal

pub returns-in-And : goal.returns-in-And
returns-in-And c = rw c.in-And.is (record { place = c.requires.place; value = λ x i. sym (and_self _) })

pub returns-in-Or : goal.returns-in-Or
returns-in-Or c = rw c.in-Or.is (record { place = c.requires.place; value = λ x i. sym (or_self _) })

same : (b : Bool) → bool_byte b ≡ words.bit b
same true = refl
same false = refl

pub returns : goal.returns
returns c =
    fixed_bit _ _ c.args.width _ _ _ c.in_ok-bit.bit c.requires.some c.result_width.ensures (c.from.ensures ∙ same c.in_ok-bit.bit)
    (λ x i. c.in_ok-bit.ensures c.args.width _ (word_fits x _ _ _ i c.args.nodes.now.typed c.requires.place))
