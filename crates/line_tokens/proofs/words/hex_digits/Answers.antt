use Rattle.std.proofs.Common.{◌≡◌, ◌<◌, ◌^◌, ◌∙◌, sym, arith}
use Rattle.std.specs.Str.Parse.{digits_value}
use Rattle.line_tokens.proofs.Said.{hex_small, hex_said, hex_room}
use Rattle.line_tokens.proofs.words.hex_digits.Goals as goal

-- the capped value is the value
small : (c : goal.After-capped_value) → digits_value 16 c.args.digits.now < 2 ^ 32
small c = hex_small c.args.count c.args.digits.now c.requires c.if-digits-count.false (sym c.are_hex_digits.ensures ∙ c.if-not-are_hex_digits.false)

whole : (c : goal.After-capped_value) → c.capped_value.result ≡ digits_value 16 c.args.digits.now
whole c = let below = small c in omega (arith, c.capped_value.ensures)

pub overflow_cast-result : goal.overflow_cast-result
overflow_cast-result c = let below = small c in let same = whole c in omega arith

pub returns-clause-value : goal.returns-clause-value
returns-clause-value c =
    hex_said c.args.count c.capped_value.result c.args.digits.now c.if-digits-count.false (sym c.are_hex_digits.ensures ∙ c.if-not-are_hex_digits.false)
    (whole c)

pub returns-clause-below : goal.returns-clause-below
returns-clause-below c =
    hex_room c.args.count c.capped_value.result c.args.digits.now c.if-digits-count.false (sym c.are_hex_digits.ensures ∙ c.if-not-are_hex_digits.false)
    (whole c)
