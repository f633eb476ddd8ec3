use Rattle.std.proofs.Common.{◌≡◌, ◌∙◌, ap, sym, List, ℕ, map, take, length, arith, ◌++◌}
use Rattle.std.proofs.lemmas.List.{length-map}
use Rattle.std.proofs.Math.Seq.{take-append_seam}
use Rattle.line_tokens.proofs.Splitting.{words_left}
use Rattle.line_tokens.proofs.words.first_words.Goals as goal

pub returns-then-len-eq8 : goal.returns-then-len-eq8
returns-then-len-eq8 c =
    let found : List (List ℕ) = map (λ word. word.now) c.loop-rest.out.items in
    let long : length found ≡ 8 = length-map c.loop-rest.out.items (λ word. word.now) ∙ omega arith in
    let left : List (List ℕ) = words_left c.loop-rest.rest in
    sym (ap (λ k. take k (found ++ left)) (sym long) ∙ take-append_seam found left) ∙ ap (take 8) c.loop-rest.invariant.said
