use Rattle.std.proofs.Common.{◌≡◌, ℕ, List, ap, sym, ◌∙◌, ◌-◌, length, take, drop, arith}
use Rattle.std.proofs.lemmas.List.{take_all, length-drop, length-map, take-map, drop-map}
use Rattle.line_tokens.specs.declared.lexer.Token.{Token}
use Rattle.line_tokens.specs.Tokens.{token_of}
use Rattle.note_template.specs.TemplateLines.{front_of, last_of}
use Rattle.note_template.specs.Forms.{tokens_view}
use Rattle.note_template.proofs.operands.split_last.Goals as goal

front : (tokens : List Token) (n : ℕ) → n ≡ length tokens - 1 → tokens_view (take n tokens) ≡ front_of (tokens_view tokens)
front tokens n e =
    let long : n ≡ length (tokens_view tokens) - 1 = e ∙ ap (λ k. k - 1) (sym (length-map tokens token_of)) in
    sym (take-map token_of n tokens) ∙ ap (λ k. take k (tokens_view tokens)) long

last : (tokens : List Token) (n : ℕ) → n ≡ length tokens - 1 → tokens_view (take (length tokens - n) (drop n tokens)) ≡ last_of (tokens_view tokens)
last tokens n e =
    let long : n ≡ length (tokens_view tokens) - 1 = e ∙ ap (λ k. k - 1) (sym (length-map tokens token_of)) in
    ap tokens_view (take_all (length tokens - n) (drop n tokens) (omega (arith, length-drop n tokens)))
    ∙ sym (drop-map token_of n tokens) ∙ ap (λ k. drop k (tokens_view tokens)) long

pub returns-clause-front : goal.returns-clause-front
returns-clause-front c = front c.args.tokens.now c.saturating_sub-count.result c.saturating_sub-count.ensures

pub returns-clause-last : goal.returns-clause-last
returns-clause-last c = last c.args.tokens.now c.saturating_sub-count.result c.saturating_sub-count.ensures
