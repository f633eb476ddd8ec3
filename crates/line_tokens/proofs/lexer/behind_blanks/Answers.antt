use Rattle.std.proofs.Common.{◌≡◌, ℕ, List, ap, sym, ◌∙◌, ◌-◌, length, take, drop, arith}
use Rattle.std.proofs.lemmas.List.{take_all, length-drop}
use Rattle.std.specs.List.{prefix_len}
use Rattle.word_spec.specs.Tokens.{tokens_of}
use Rattle.word_spec.specs.Texts.{is_blank}
use Rattle.line_tokens.proofs.Lexing
use Rattle.line_tokens.proofs.lexer.behind_blanks.Goals as goal

-- what is left behind the blanks
left : (text : List ℕ) (n : ℕ) → n ≡ prefix_len is_blank text → take (length text - n) (drop n text) ≡ drop (prefix_len is_blank text) text
left text n count = take_all (length text - n) (drop n text) (omega (arith, length-drop n text)) ∙ ap (λ k. drop k text) count

pub returns-clause-same : goal.returns-clause-same
returns-clause-same c =
    ap tokens_of (left c.args.text.now c.blanks-count.result c.blanks-count.ensures.count) ∙ Lexing.behind_blanks c.args.text.now

pub returns-clause-none_blank : goal.returns-clause-none_blank
returns-clause-none_blank c b rest is =
    Lexing.none_blank c.args.text.now rest b (sym (left c.args.text.now c.blanks-count.result c.blanks-count.ensures.count) ∙ is)
