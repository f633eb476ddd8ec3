-- The choices of a start: those of the places that are met, by their steps.
use Rattle.std.specs.Prelude.{ℕ, zero, suc, ◌≡◌, ◌≤◌, ◌<◌, ◌+◌, ◌*◌, ◌==◌, Bool, true, if◌then◌else◌, List, [], ◌∷◌, ◌++◌, Option, Some, None, All, slice_index, slice_index_or}
use Rattle.word_spec.specs.Memory.{byte_in}
use Rattle.machine_spec.specs.StateText.{AreRising}
use Rattle.term_spec.specs.ClauseForm.{bits_from}
use Rattle.term_dag.specs.declared.nodes.Term.{Term}
use Rattle.bit_blast.specs.declared.input_places.InputPlaces.{InputPlaces}

-- how many of the first places are met
abbrev pub count_met : (ℕ → Bool) → ℕ → ℕ
count_met met zero = 0
count_met met (suc n) = if met n then count_met met n + 1 else count_met met n

-- The choices of the first places: a met place's step is the number of met places below it, and has the place's choice; what is not listed is 0.
pub record AreChoices (met : ℕ → Bool) (choice : ℕ → ℕ) (n : ℕ) (steps : ℕ) (xs : List (ℕ × ℕ)) : Type 0 where
  pub counted : steps ≡ count_met met n
  pub within : All (λ x. (x.0 < steps) × (1 ≤ x.1) × (x.1 ≤ 3)) xs
  pub rise : AreRising xs
  pub gives : (i : ℕ) → i < n → met i ≡ true → byte_in xs (count_met met i) ≡ choice i

-- one more choice, which is listed where it is not 0
abbrev pub with_choice : List (ℕ × ℕ) → (step choice : ℕ) → List (ℕ × ℕ)
with_choice xs step zero = xs
with_choice xs step (suc b) = xs ++ (step, suc b) ∷ []

-- the choice of a place by its number among those that are drawn
abbrev pub choice_by : InputPlaces → (ℕ → Bool) → Option ℕ → ℕ
choice_by p v None = 0
choice_by p v (Some k) = bits_from v (p.first_choice + 2 * k) 2

-- the choice of a place
abbrev pub choice_at : InputPlaces → (ℕ → Bool) → (place : ℕ) → ℕ
choice_at p v i = choice_by p v (slice_index_or p.drawn.items i None)

-- a place is met, by the words of terms
abbrev pub is_met_by : List Term → List ℕ → (place : ℕ) → Bool
is_met_by met ws i = slice_index ws ((slice_index_or met i (record { 0 = 0 })).0) == 1
