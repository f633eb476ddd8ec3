-- Words that 0 ends, and lines, one after another.
use Rattle.std.proofs.Common.{◌≡◌, ℕ, List, [], ◌∷◌, ◌++◌, refl, sym, ap, ◌∙◌, append_assoc}
use Rattle.std.specs.Prelude.{codes}
use Rattle.word_spec.specs.Texts.{spaced, joined}
use Rattle.clause_spec.specs.Certificates.{to_zero}

-- words in front of others are behind a blank
spaced-zero : (ws vs : List (List ℕ)) → spaced (to_zero ws ++ vs) ≡ 32 ∷ joined (to_zero ws ++ vs)
spaced-zero [] vs = refl
spaced-zero (w ∷ ws) vs = refl

-- one word, and those behind it
pub ended-more : (w : List ℕ) (ws : List (List ℕ)) → joined (to_zero (w ∷ ws)) ≡ w ++ 32 ∷ joined (to_zero ws)
ended-more w [] = refl
ended-more w (v ∷ ws) = refl

-- words that 0 ends, and words behind them
pub ended-before : (ws : List (List ℕ)) (v : List ℕ) (vs : List (List ℕ)) → joined (to_zero ws ++ v ∷ vs) ≡ joined (to_zero ws) ++ 32 ∷ joined (v ∷ vs)
ended-before [] v vs = refl
ended-before (w ∷ []) v vs = sym (append_assoc w (32 ∷ codes "0") (32 ∷ joined (v ∷ vs)))
ended-before (w ∷ x ∷ ws) v vs =
    ap (λ t. w ++ 32 ∷ t) (ended-before (x ∷ ws) v vs) ∙ sym (append_assoc w (32 ∷ joined (to_zero (x ∷ ws))) (32 ∷ joined (v ∷ vs)))

-- a number, words that 0 ends, and again such words
pub added-line : (n : List ℕ) (ws vs : List (List ℕ)) → joined (n ∷ to_zero ws ++ to_zero vs) ≡ n ++ (32 ∷ joined (to_zero ws) ++ 32 ∷ joined (to_zero vs))
added-line n ws [] = ap (λ t. n ++ t) (spaced-zero ws (to_zero []) ∙ ap (λ t. 32 ∷ t) (ended-before ws (codes "0") []))
added-line n ws (v ∷ vs) = ap (λ t. n ++ t) (spaced-zero ws (to_zero (v ∷ vs)) ∙ ap (λ t. 32 ∷ t) (ended-before ws v (to_zero vs)))
