use Rattle.std.proofs.Common.{◌∙◌, arith, sym}
use Rattle.framed_notes.proofs.NumberWords.{no_digit, not_closed, one_token, some_tokens}
use Rattle.framed_notes.proofs.numbers.number_word.Goals as goal

pub returns-then-not-begins_with_digit : goal.returns-then-not-begins_with_digit
returns-then-not-begins_with_digit c = no_digit c.args.word.now (sym c.begins_with_digit.ensures ∙ c.if-not-begins_with_digit.true)

pub returns-then-not-is_closed : goal.returns-then-not-is_closed
returns-then-not-is_closed c = not_closed c.args.word.now (sym c.is_closed.ensures ∙ c.if-not-is_closed.true)

pub returns-then-len-ne1 : goal.returns-then-len-ne1
returns-then-len-ne1 c =
    some_tokens c.args.word.now (sym c.begins_with_digit.ensures ∙ c.if-not-begins_with_digit.false) (sym c.is_closed.ensures ∙ c.if-not-is_closed.false)
    c.in_ok-tokens.tokens.items c.in_ok-tokens.ensures (λ e. c.if-len-ne1.true (omega (arith, e)))

pub returns : goal.returns
returns c =
    one_token c.args.word.now (sym c.begins_with_digit.ensures ∙ c.if-not-begins_with_digit.false) (sym c.is_closed.ensures ∙ c.if-not-is_closed.false)
    c.in_ok-tokens.tokens.items c.index.result.now c.in_ok-tokens.ensures (omega arith) c.index.ensures c.number_of.result c.number_of.ensures
