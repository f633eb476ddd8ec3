use Rattle.std.proofs.Common.{◌≡◌, ap, sym, ◌∙◌, length, take, drop, arith, List, ℕ, ◌-◌}
use Rattle.std.proofs.lemmas.List.{take_all, length-drop}
use Rattle.word_spec.specs.Tokens.{run_of}
use Rattle.line_tokens.specs.Tokens.{number_before}
use Rattle.line_tokens.proofs.Numbers.{hexadecimal_token, decimal_token}
use Rattle.line_tokens.proofs.lexer.number_at.Goals as goal

pub returns-then-is_hexadecimal-clause-token : goal.returns-then-is_hexadecimal-clause-token
returns-then-is_hexadecimal-clause-token c =
    let text : List ℕ = c.args.text.now in
    let whole : take (length text - 2) (drop 2 text) ≡ drop 2 text = take_all (length text - 2) (drop 2 text) (omega (arith, length-drop 2 text)) in
    let count = c.run_length-count.result in
    c.digits_token.ensures ∙ ap (λ t. number_before 16 (take count t) (drop count t)) whole
    ∙ hexadecimal_token text count (sym c.is_hexadecimal.ensures ∙ c.if-is_hexadecimal.true) (c.run_length-count.ensures.count ∙ ap
    (λ t. length (run_of 16 t)) whole)

pub returns-clause-token : goal.returns-clause-token
returns-clause-token c =
    c.digits_token-2.ensures
    ∙ decimal_token c.args.text.now c.run_length-count-2.result (sym c.is_hexadecimal.ensures ∙ c.if-is_hexadecimal.false) c.run_length-count-2.ensures.count
