use Rattle.std.proofs.Common.{ap, ◌∙◌, ◌++◌, arith}
use Rattle.lift_text.proofs.Digits.{byte_digits}
use Rattle.lift_text.proofs.lines.push_bytes.Goals as goal

pub returns : goal.returns
returns c =
    let digits = c.as_bytes.ensures.value ∙ c.in_ok-digits.ensures ∙ byte_digits c.args.bytes.now (λ i. omega (arith, c.type_inv.bytes i)) in
    c.in_ok-push_text.ensures ∙ ap (λ z. c.args.out.now.items ++ z) digits
