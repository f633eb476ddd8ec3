use Rattle.std.proofs.Common.{◌≡◌, ℕ, List, ap, sym, ◌∙◌, ◌-◌, length, take, drop, arith}
use Rattle.std.proofs.lemmas.List.{take_all, length-drop}
use Rattle.word_spec.specs.Tokens.{run_of}
use Rattle.line_tokens.proofs.Numbers.{hexadecimal_by}
use Rattle.line_tokens.proofs.bytes.is_hexadecimal.Goals as goal

pub returns-then-starts_with : goal.returns-then-starts_with
returns-then-starts_with c =
    let text : List ℕ = c.args.text.now in
    let whole : take (length text - 2) (drop 2 text) ≡ drop 2 text = take_all (length text - 2) (drop 2 text) (omega (arith, length-drop 2 text)) in
    hexadecimal_by text c.run_length.result (sym c.starts_with.ensures.value ∙ c.if-starts_with.true)
    (c.run_length.ensures.count ∙ ap (λ t. length (run_of 16 t)) whole)
