-- The addresses of invariants, found one by one.
use Rattle.std.proofs.Common.{◌≡◌, ap, sym, ◌∙◌, ℕ, ◌+◌, ◌<◌, ◌≤◌, Bool, true, false, List, [], ◌∷◌, ◌++◌, length, get_or, drop, map}
use Rattle.std.specs.Prelude.{if◌then◌else◌}
use Rattle.std.proofs.lemmas.List.{drop_more}
use Rattle.notes_value.specs.declared.notes.Assert.{Assert}
use Rattle.notes_value.specs.NoteViews.{assert_of}
use Rattle.program_points.proofs.Lists.{nothing_more, regroup}
use Rattle.unroller.proofs.Places.{drop_past}
use Rattle.unroller.specs.Heads.{is_line, head_places}

module _ (invariants : List ℕ) (xs : List Assert) (i : ℕ) (d : Assert) (w : i < length xs) (found all : List ℕ)
    (so : found ++ head_places invariants (map assert_of (drop i xs)) ≡ all) where
  abbrev rest : List ℕ
  rest = head_places invariants (map assert_of (drop (i + 1) xs))

  next : head_places invariants (map assert_of (drop i xs))
      ≡ (if is_line invariants (assert_of (get_or xs i d)) then (get_or xs i d).at ∷ rest else rest)
  next = ap (λ (l : List Assert). head_places invariants (map assert_of l)) (drop_more xs i d w)

  pub heads_found : is_line invariants (assert_of (get_or xs i d)) ≡ true → (more : List ℕ) → more ≡ found ++ (get_or xs i d).at ∷ [] → more ++ rest ≡ all
  heads_found h more e =
      ap (λ (l : List ℕ). l ++ rest) e ∙ regroup found ((get_or xs i d).at ∷ []) rest
      ∙ sym (ap (λ (l : List ℕ). found ++ l) (next ∙ ap (λ (b : Bool). if b then (get_or xs i d).at ∷ rest else rest) h)) ∙ so

  pub heads_passed : is_line invariants (assert_of (get_or xs i d)) ≡ false → found ++ rest ≡ all
  heads_passed h = sym (ap (λ (l : List ℕ). found ++ l) (next ∙ ap (λ (b : Bool). if b then (get_or xs i d).at ∷ rest else rest) h)) ∙ so

pub heads_all : (invariants : List ℕ) (xs : List Assert) (i : ℕ) (found : List ℕ) → length xs ≤ i →
    found ++ head_places invariants (map assert_of (drop i xs)) ≡ head_places invariants (map assert_of xs) → found ≡ head_places invariants (map assert_of xs)
heads_all invariants xs i found le so =
    nothing_more found ∙ sym (ap (λ (l : List Assert). found ++ head_places invariants (map assert_of l)) (drop_past xs i le)) ∙ so
