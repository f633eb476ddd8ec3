-- The line behind so many others.
use Rattle.std.proofs.Common.{◌≡◌, ◌≢◌, ℕ, zero, suc, ◌-◌, refl, sym, ap, ◌∙◌, arith, true, List, [], ◌∷◌, length}
use Rattle.std.specs.Prelude.{slice_index_or, ◌==◌}
use Rattle.std.proofs.lemmas.Bool.Decides.{nat_tests}
use Rattle.word_spec.specs.Texts.{split_lines}

-- the first of the others is passed over
pub passed : (ls : List (List ℕ)) (l : List ℕ) (others : List (List ℕ)) (k : ℕ) → ls ≡ l ∷ others → k ≢ 0 →
    slice_index_or ls k [] ≡ slice_index_or others (k - 1) []
passed ls l others zero is some = absurd (some refl)
passed ls l others (suc k) is some =
    let same : k ≡ suc k - 1 = omega arith in
    ap (λ z. slice_index_or z (suc k) []) is ∙ ap (λ n. slice_index_or others n []) same

-- it is the one
pub taken_first : (ls : List (List ℕ)) (l : List ℕ) (others : List (List ℕ)) (k : ℕ) → ls ≡ l ∷ others → k ≡ 0 → l ≡ slice_index_or ls k []
taken_first ls l others k is none = sym (ap (λ n. slice_index_or ls n []) none ∙ ap (λ z. slice_index_or z 0 []) is)

none_left : (n : ℕ) → true ≡ (n == 0) → n ≡ 0
none_left n e = grind (arith, nat_tests)

-- there is none
pub none_there : (rest : List ℕ) (k : ℕ) → true ≡ (length rest == 0) → [] ≡ slice_index_or (split_lines rest) k []
none_there [] k h = none k where
  none : (k : ℕ) → [] ≡ slice_index_or (split_lines []) k []
  none zero = refl
  none (suc k) = refl
none_there (b ∷ rest) k h = let z : length (b ∷ rest) ≡ 0 = none_left (length (b ∷ rest)) h in absurd (omega (arith, z))
