use Rattle.std.proofs.Common.{ℕ, List, ap, sym, ◌∙◌, ◌∷◌, [], ◌<◌, ◌-◌, ◌+◌, take, drop, length, arith}
use Rattle.std.proofs.lemmas.List.{take_all, length-drop}
use Rattle.std.specs.List.{prefix_len}
use Rattle.word_spec.specs.Texts.{words_in}
use Rattle.line_tokens.specs.Words.{is_other}
use Rattle.line_tokens.proofs.Splitting.{words_at, word_first, word_last}
use Rattle.line_tokens.proofs.words.first_word.Goals as goal

pub returns-then-count-line-clause-last : goal.returns-then-count-line-clause-last
returns-then-count-line-clause-last c =
    let line : List ℕ = c.args.line.now in
    let n : ℕ = c.count_before-count.result in
    word_last line (sym c.count_before-count.ensures.count ∙ c.if-count-line.true) ∙ ap
    (λ w. w ∷ []) (sym (take_all n line (omega (arith, c.if-count-line.true))))

pub returns-clause-more : goal.returns-clause-more
returns-clause-more c =
    let line : List ℕ = c.args.line.now in
    let n : ℕ = c.count_before-count.result in
    let below : prefix_len (is_other 32) line < length line = omega
    (arith, c.count_before-count.ensures.count, c.count_before-count.ensures.within, c.if-count-line.false) in
    word_first line below ∙ ap (λ k. words_at line k) (sym c.count_before-count.ensures.count)
    ∙ ap (λ l. take n line ∷ words_in l) (sym (take_all (length line - (n + 1)) (drop (n + 1) line) (omega (arith, length-drop (n + 1) line))))
