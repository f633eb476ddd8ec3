use Rattle.std.proofs.Common.{sym, ◌∙◌, subst, ℕ, ◌≤◌}
use Rattle.line_tokens.proofs.Numbers.{number_some}
use Rattle.line_tokens.proofs.lexer.token_at.Goals as goal

pub returns-then-is_digit-clause-some : goal.returns-then-is_digit-clause-some
returns-then-is_digit-clause-some c =
    let P : ℕ → Type 0 = λ n. 1 ≤ n in
    subst P (sym c.number_at.ensures.count) (number_some c.args.first c.args.text.now c.requires (sym c.is_digit.ensures ∙ c.if-is_digit.true))
