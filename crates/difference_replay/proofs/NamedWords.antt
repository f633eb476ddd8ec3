-- What lines of a few words name.
use Rattle.std.proofs.Common.{◌≡◌, ℕ, ◌<◌, ◌≤◌, refl, arith, List, [], ◌∷◌, Option, None, Bor, length, map, take}
use Rattle.pair_spec.specs.Differs.{NamedDifference, difference_of_words}

abbrev Words : Type 0
Words = List (Bor (List ℕ))

abbrev said : Words → Option NamedDifference
said ws = difference_of_words (map (λ word. word.now) ws)

-- a line of fewer than five words names no difference
pub few_words : (ws : Words) → length ws < 5 → None ≡ said ws
few_words [] few = refl
few_words (a ∷ []) few = refl
few_words (a ∷ b ∷ []) few = refl
few_words (a ∷ b ∷ c ∷ []) few = refl
few_words (a ∷ b ∷ c ∷ d ∷ []) few = refl
few_words (a ∷ b ∷ c ∷ d ∷ e ∷ ws) few = absurd (omega arith)

-- nor does one of more
pub many_words : (ws : Words) → 6 ≤ length ws → None ≡ said ws
many_words [] many = absurd (omega arith)
many_words (a ∷ []) many = absurd (omega arith)
many_words (a ∷ b ∷ []) many = absurd (omega arith)
many_words (a ∷ b ∷ c ∷ []) many = absurd (omega arith)
many_words (a ∷ b ∷ c ∷ d ∷ []) many = absurd (omega arith)
many_words (a ∷ b ∷ c ∷ d ∷ e ∷ []) many = absurd (omega arith)
many_words (a ∷ b ∷ c ∷ d ∷ e ∷ f ∷ ws) many = refl

-- so that the first eight words say whether a line names one
pub first_eight : (ws : List (List ℕ)) → difference_of_words (take 8 ws) ≡ difference_of_words ws
first_eight [] = refl
first_eight (a ∷ []) = refl
first_eight (a ∷ b ∷ []) = refl
first_eight (a ∷ b ∷ c ∷ []) = refl
first_eight (a ∷ b ∷ c ∷ d ∷ []) = refl
first_eight (a ∷ b ∷ c ∷ d ∷ e ∷ []) = refl
first_eight (a ∷ b ∷ c ∷ d ∷ e ∷ f ∷ ws) = refl
