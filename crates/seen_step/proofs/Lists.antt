-- Values in a row, and the places where they differ.
use Rattle.std.proofs.Common.{◌≡◌, ℕ, zero, suc, ◌+◌, ◌-◌, ◌<◌, ◌≤◌, List, [], ◌∷◌, ◌++◌, length, map, drop, get_or, add-one, true, false, refl, sym, ap, ◌∙◌, arith, append_assoc, append-nil}
use Rattle.std.specs.Prelude.{◌==◌, if◌then◌else◌}
use Rattle.word_spec.specs.RowFiles.{from_to}
use Rattle.trace_spec.specs.Seen as trace
use Rattle.seen_step.specs.Views.{changed}

-- ---- values of numbers in a row

pub next_mapped : (h : ℕ → ℕ) (first i count : ℕ) (out more all : List ℕ) → i < count → more ≡ out ++ h (first + i) ∷ [] →
    out ++ map h (from_to (first + i) (count - i)) ≡ all → more ++ map h (from_to (first + (i + 1)) (count - (i + 1))) ≡ all
next_mapped h first i count out more all below pushed inv =
    let left : count - i ≡ suc (count - (i + 1)) = omega (arith, below) in
    let place : first + (i + 1) ≡ first + i + 1 = omega arith in
    ap (λ l. l ++ map h (from_to (first + (i + 1)) (count - (i + 1)))) pushed
    ∙ append_assoc out (h (first + i) ∷ []) (map h (from_to (first + (i + 1)) (count - (i + 1))))
    ∙ ap (λ k. out ++ h (first + i) ∷ map h (from_to k (count - (i + 1)))) place
    ∙ ap (λ k. out ++ map h (from_to (first + i) k)) (sym left) ∙ inv

pub all_mapped : (h : ℕ → ℕ) (first i count : ℕ) (out all : List ℕ) → count ≤ i → out ++ map h (from_to (first + i) (count - i)) ≡ all → out ≡ all
all_mapped h first i count out all over inv =
    let none : count - i ≡ 0 = omega (arith, over) in
    sym (append-nil out) ∙ ap (λ k. out ++ map h (from_to (first + i) k)) (sym none) ∙ inv

-- with a first number and how many are left
pub next_at : (h : ℕ → ℕ) (k i count : ℕ) (out more all : List ℕ) → i < count → more ≡ out ++ h k ∷ [] →
    out ++ map h (from_to k (count - i)) ≡ all → more ++ map h (from_to (k + 1) (count - (i + 1))) ≡ all
next_at h k i count out more all below pushed inv =
    let left : count - i ≡ suc (count - (i + 1)) = omega (arith, below) in
    ap (λ l. l ++ map h (from_to (k + 1) (count - (i + 1)))) pushed
    ∙ append_assoc out (h k ∷ []) (map h (from_to (k + 1) (count - (i + 1))))
    ∙ ap (λ j. out ++ map h (from_to k j)) (sym left) ∙ inv

pub all_at : (h : ℕ → ℕ) (k i count : ℕ) (out all : List ℕ) → count ≤ i → out ++ map h (from_to k (count - i)) ≡ all → out ≡ all
all_at h k i count out all over inv =
    let none : count - i ≡ 0 = omega (arith, over) in
    sym (append-nil out) ∙ ap (λ j. out ++ map h (from_to k j)) (sym none) ∙ inv

pub length_from : (h : ℕ → ℕ) (k n : ℕ) → length (map h (from_to k n)) ≡ n
length_from h k zero = refl
length_from h k (suc n) = ap suc (length_from h (k + 1) n)

pub length_mapped : (h : ℕ → ℕ) (xs : List ℕ) → length (map h xs) ≡ length xs
length_mapped h [] = refl
length_mapped h (x ∷ xs) = ap suc (length_mapped h xs)

pub length_of_numbers : (k n : ℕ) → length (from_to k n) ≡ n
length_of_numbers k zero = refl
length_of_numbers k (suc n) = ap suc (length_of_numbers (k + 1) n)

pub next_number : (first i count : ℕ) (out more all : List ℕ) → i < count → more ≡ out ++ (first + i) ∷ [] →
    out ++ from_to (first + i) (count - i) ≡ all → more ++ from_to (first + (i + 1)) (count - (i + 1)) ≡ all
next_number first i count out more all below pushed inv =
    let left : count - i ≡ suc (count - (i + 1)) = omega (arith, below) in
    let place : first + (i + 1) ≡ first + i + 1 = omega arith in
    ap (λ l. l ++ from_to (first + (i + 1)) (count - (i + 1))) pushed
    ∙ append_assoc out ((first + i) ∷ []) (from_to (first + (i + 1)) (count - (i + 1)))
    ∙ ap (λ k. out ++ (first + i) ∷ from_to k (count - (i + 1))) place
    ∙ ap (λ k. out ++ from_to (first + i) k) (sym left) ∙ inv

pub all_numbers : (first i count : ℕ) (out all : List ℕ) → count ≤ i → out ++ from_to (first + i) (count - i) ≡ all → out ≡ all
all_numbers first i count out all over inv =
    let none : count - i ≡ 0 = omega (arith, over) in
    sym (append-nil out) ∙ ap (λ k. out ++ from_to (first + i) k) (sym none) ∙ inv

-- ---- the places that differ

-- one more place
changed_more : (places old new : List ℕ) (i : ℕ) → i < length places → length old ≡ length places → length new ≡ length places →
    changed (drop i places) (drop i old) (drop i new) ≡ (if get_or old i 0 == get_or new i 0 then
    changed (drop (suc i) places) (drop (suc i) old) (drop (suc i) new) else record { place = get_or places i 0; old = get_or old i 0; new = get_or new i 0 }
    ∷ changed (drop (suc i) places) (drop (suc i) old) (drop (suc i) new))
changed_more [] old new i below before after = absurd (omega arith)
changed_more (a ∷ places) [] new i below before after = absurd (omega arith)
changed_more (a ∷ places) (v ∷ old) [] i below before after = absurd (omega arith)
changed_more (a ∷ places) (v ∷ old) (w ∷ new) zero below before after = refl
changed_more (a ∷ places) (v ∷ old) (w ∷ new) (suc i) below before after =
    changed_more places old new i (omega (arith, below)) (omega (arith, before)) (omega (arith, after))

pub changed_none : (places old new : List ℕ) (i : ℕ) → length places ≤ i → changed (drop i places) (drop i old) (drop i new) ≡ []
changed_none places old new i over = ap (λ l. changed l (drop i old) (drop i new)) (drop_over places i over)
  where
    drop_over : (xs : List ℕ) (i : ℕ) → length xs ≤ i → drop i xs ≡ []
    drop_over [] zero over = refl
    drop_over [] (suc i) over = refl
    drop_over (x ∷ xs) zero over = absurd (omega (arith, over))
    drop_over (x ∷ xs) (suc i) over = drop_over xs i (omega (arith, over))

module _ (places old new : List ℕ) (i : ℕ) (below : i < length places) (before : length old ≡ length places) (after : length new ≡ length places)
    (out all : List trace.Change) (inv : out ++ changed (drop i places) (drop i old) (drop i new) ≡ all) where
  abbrev from : ℕ → List trace.Change
  from k = changed (drop k places) (drop k old) (drop k new)

  abbrev here : trace.Change
  here = record { place = get_or places i 0; old = get_or old i 0; new = get_or new i 0 }

  pub skips : (get_or old i 0 == get_or new i 0) ≡ true → out ++ from (i + 1) ≡ all
  skips same =
      ap (λ k. out ++ from k) (add-one i)
      ∙ ap (λ l. out ++ l) (ap (λ b. if b then from (suc i) else here ∷ from (suc i)) (sym same) ∙ sym (changed_more places old new i below before after)) ∙ inv

  pub pushes : (more : List trace.Change) → (get_or old i 0 == get_or new i 0) ≡ false → more ≡ out ++ here ∷ [] → more ++ from (i + 1) ≡ all
  pushes more other pushed =
      ap (λ l. l ++ from (i + 1)) pushed ∙ append_assoc out (here ∷ []) (from (i + 1)) ∙ ap (λ k. out ++ here ∷ from k) (add-one i)
      ∙ ap (λ l. out ++ l) (ap (λ b. if b then from (suc i) else here ∷ from (suc i)) (sym other) ∙ sym (changed_more places old new i below before after))
      ∙ inv

pub changed_is : (f g : ℕ → ℕ) (places : List ℕ) → changed places (map f places) (map g places) ≡ trace.changes f g places
changed_is f g [] = refl
changed_is f g (a ∷ places) =
    ap (λ (l : List trace.Change). if f a == g a then l else record { place = a; old = f a; new = g a } ∷ l) (changed_is f g places)

-- by the values of two states
pub changed_by : (f g : ℕ → ℕ) (places xs ys : List ℕ) → xs ≡ map f places → ys ≡ map g places → changed places xs ys ≡ trace.changes f g places
changed_by f g places xs ys before after =
    ap (λ l. changed places l ys) before ∙ ap (changed places (map f places)) after ∙ changed_is f g places
