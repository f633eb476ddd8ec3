-- Lists of terms, and the choices of places that are met.
use Rattle.std.proofs.Common.{◌≡◌, ℕ, zero, suc, ◌+◌, ◌<◌, ◌≤◌, Bool, true, false, List, [], ◌∷◌, length, map, refl, ap, sym, ◌∙◌, arith}
use Rattle.std.specs.Prelude.{slice_index, slice_index_or, if◌then◌else◌}
use Rattle.word_spec.specs.Memory.{byte_in}
use Rattle.word_spec.specs.RowFiles.{from_to}
use Rattle.walk_spec.specs.Unrolled.{UnrolledProgram}
use Rattle.term_spec.specs.Passive.{Passive, IsPassive}
use Rattle.term_dag.specs.declared.nodes.Term.{Term}
use Rattle.bit_blast.specs.Steps.{AreChoices, count_met}
use Rattle.bit_blast.proofs.StepChoices.{any_default}

-- ---- lists

pub map_ranges : (f g : ℕ → ℕ) (a b k : ℕ) → ((q : ℕ) → q < k → f (a + q) ≡ g (b + q)) → map f (from_to a k) ≡ map g (from_to b k)
map_ranges f g a b zero h = refl
map_ranges f g a b (suc k) h =
    let head : f a ≡ g b = ap f (let e : a ≡ a + 0 = omega arith in e) ∙ h 0 (omega arith) ∙ ap g (let e : b + 0 ≡ b = omega arith in e) in
    ap (λ z. z ∷ map f (from_to (a + 1) k)) head
    ∙ ap (λ z. g b ∷ z) (map_ranges f g (a + 1) (b + 1) k (λ q l.
    ap f (let e : a + 1 + q ≡ a + suc q = omega arith in e) ∙ h (suc q) (omega arith) ∙ ap g (let e : b + suc q ≡ b + 1 + q = omega arith in e)))

pub mapped_get : (xs : List Term) (i : ℕ) → slice_index (map (λ (t : Term). t.0) xs) i ≡ (slice_index_or xs i (record { 0 = 0 })).0
mapped_get [] i = refl
mapped_get (x ∷ xs) zero = refl
mapped_get (x ∷ xs) (suc i) = mapped_get xs i

mapped_length : (xs : List Term) → length (map (λ (t : Term). t.0) xs) ≡ length xs
mapped_length [] = refl
mapped_length (x ∷ xs) = let e = mapped_length xs in omega arith

-- there is a bit for each place
pub met_count : (u : UnrolledProgram) (q : Passive) → IsPassive u q → (met : List Term) → map (λ (t : Term). t.0) met ≡ q.met → length met ≡ length u.points
met_count u q passive met mets = sym (mapped_length met) ∙ ap length mets ∙ passive.count

-- the bits of the places are among the words
pub met_within : (u : UnrolledProgram) (q : Passive) → IsPassive u q → (met : List Term) → map (λ (t : Term). t.0) met ≡ q.met → (ws : List ℕ) →
    length ws ≡ length q.nodes →
    (i : ℕ) (d : Term) → i < length met → (slice_index_or met i d).0 < length ws
met_within u q passive met mets ws count i d l =
    let m = met_count u q passive met mets in
    let b = (passive.bits i (omega arith)).0 in
    let e : slice_index q.met i ≡ (slice_index_or met i d).0 = (
    ap (λ (z : List ℕ). slice_index z i) (sym mets) ∙ mapped_get met i ∙ ap (λ (t : Term). t.0) (any_default met i (record { 0 = 0 }) d l)) in
    omega arith

-- ---- the choices of places that are met

counts_equal : (met same : ℕ → Bool) (n : ℕ) → ((i : ℕ) → i < n → met i ≡ same i) → count_met met n ≡ count_met same n
counts_equal met same zero f = refl
counts_equal met same (suc n) f =
    ap (λ z. if z then count_met met n + 1 else count_met met n) (f n (omega arith))
    ∙ ap (λ z. if same n then z + 1 else z) (counts_equal met same n (λ i l. f i (omega arith)))

pub count_few : (met : ℕ → Bool) (n : ℕ) → count_met met n ≤ n
count_few met zero = omega arith
count_few met (suc n) = by (met n) (count_few met n)
  where
    by : (b : Bool) → count_met met n ≤ n → (if b then count_met met n + 1 else count_met met n) ≤ suc n
    by true l = omega arith
    by false l = omega arith

pub choices_as : (met same : ℕ → Bool) (choice other : ℕ → ℕ) (n m steps : ℕ) (xs : List (ℕ × ℕ)) → n ≡ m → ((i : ℕ) → i < m → met i ≡ same i) →
    ((i : ℕ) → i < m → choice i ≡ other i) →
    AreChoices met choice n steps xs → AreChoices same other m steps xs
choices_as met same choice other n m steps xs e f g h = record {
  counted = h.counted ∙ ap (count_met met) e ∙ counts_equal met same m f;
  within = h.within;
  rise = h.rise;
  gives = λ i l t.
      ap (λ z. byte_in xs z) (sym (counts_equal met same i (λ j k. f j (omega arith)))) ∙ h.gives i (omega arith) (f i l ∙ t) ∙ g i l;
}
