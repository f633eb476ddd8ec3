-- The first words that are not the same, where one list is at its end.
use Rattle.std.proofs.Common.{◌≡◌, refl, ap, ◌∙◌, ℕ, ◌≤◌, List, [], ◌∷◌, None, drop, length}
use Rattle.std.proofs.lemmas.List.{drop_all}
use Rattle.pair_verdict.specs.ExitLines.{first_apart}

none_left : (xs : List (ℕ × ℕ)) → first_apart xs [] ≡ None
none_left [] = refl
none_left (x ∷ xs) = refl

pub apart_second_end : (xs ys : List (ℕ × ℕ)) (i : ℕ) → length ys ≤ i → first_apart (drop i xs) (drop i ys) ≡ None
apart_second_end xs ys i l = ap (first_apart (drop i xs)) (drop_all i ys l) ∙ none_left (drop i xs)
