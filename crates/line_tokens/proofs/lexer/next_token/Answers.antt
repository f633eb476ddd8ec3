use Rattle.std.proofs.Common.{◌≡◌, ℕ, List, ap, sym, ◌∙◌, ◌-◌, ◌∷◌, map, length, take, drop, arith, nat_eq, false}
use Rattle.std.proofs.lemmas.List.{take_all, length-drop}
use Rattle.std.proofs.lemmas.Bool.Decides.{nat_tests}
use Rattle.word_spec.specs.Tokens.{tokens_of}
use Rattle.line_tokens.specs.Tokens.{capped, token_of}
use Rattle.line_tokens.proofs.Lexing.{next_left}
use Rattle.line_tokens.proofs.lexer.next_token.Goals as goal

pub returns-clause-some : goal.returns-clause-some
returns-clause-some c =
    let all : List ℕ = c.behind_blanks-text.result.now in
    let n : ℕ = c.token_at-count.result.1 in
    let whole : take (length all - n) (drop n all) ≡ drop n all = take_all (length all - n) (drop n all) (omega (arith, length-drop n all)) in
    let is = c.in-Some.ensures.cases in
    let sharp : nat_eq c.in-Some.first.now 35 ≡ false = grind (arith, nat_tests, c.if-first-eq35.false) in
    next_left c.args.text.now all c.in-Some.field-0-1.now c.in-Some.first.now n (token_of c.token_at-count.result.0) c.behind_blanks-text.ensures.same
    is.0 (c.behind_blanks-text.ensures.none_blank c.in-Some.first.now c.in-Some.field-0-1.now is.0) sharp c.token_at-count.ensures.token
    c.token_at-count.ensures.count c.token_at-count.ensures.some
    ∙ ap (λ t. token_of c.token_at-count.result.0 ∷ map capped (tokens_of t)) (sym whole)
