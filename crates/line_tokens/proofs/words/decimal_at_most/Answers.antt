use Rattle.std.proofs.Common.{◌∙◌, sym, arith}
use Rattle.std.proofs.lemmas.Int.Digits.{digits_value_more}
use Rattle.line_tokens.proofs.Said.{value_above}
use Rattle.line_tokens.proofs.words.decimal_at_most.Goals as goal

pub returns-then-more-bound-clause-value : goal.returns-then-more-bound-clause-value
returns-then-more-bound-clause-value c =
    value_above c.args.bound c.loop-b.b-index c.args.word.now (sym c.is_decimal.ensures ∙ c.if-not-is_decimal.false) c.loop-b-test.true
    (omega (arith, c.if-more-bound.true, c.loop-b.invariant.value, c.digit_value.ensures))

pub loop-b-preserved : goal.loop-b-preserved
loop-b-preserved c = record {
  value = omega (arith, c.loop-b.invariant.value, c.digit_value.ensures, digits_value_more 10 c.args.word.now c.loop-b.b-index c.loop-b-test.true);
  within = omega arith;
}
