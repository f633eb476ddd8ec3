use Rattle.std.proofs.Common.{◌∙◌, sym, arith}
use Rattle.word_spec.specs.Texts.{decimal_word}
use Rattle.model_text.proofs.OtherNames.{gift_beyond, gift_there, no_gift_at}
use Rattle.model_text.proofs.symbol.gift_at.Goals as goal

pub returns-in_err-number : goal.returns-in_err-number
returns-in_err-number c = c.from_residual.ensures ∙ sym (no_gift_at c.args.given.now (decimal_word c.args.digits.now) (sym c.in_err-number.ensures.value))

pub returns-then-number-given : goal.returns-then-number-given
returns-then-number-given c = gift_there c.args.given.now (decimal_word c.args.digits.now) c.in_ok-number.number c.in_ok-number.ensures.value
    (omega (arith, c.if-number-given.true))

pub returns-else-number-given : goal.returns-else-number-given
returns-else-number-given c = gift_beyond c.args.given.now (decimal_word c.args.digits.now) c.in_ok-number.number c.in_ok-number.ensures.value
    (omega (arith, c.if-number-given.false))
