-- The names of the choices that are drawn.
use Rattle.std.proofs.Common.{◌≡◌, ◌≢◌, ℕ, zero, suc, ◌^◌, ◌<◌, refl, sym, arith, true, false, Bool, List, [], ◌∷◌, Option, length}
use Rattle.std.specs.Prelude.{◌||◌, slice_index, slice_index_or}
use Rattle.bilv_spec.specs.Scripts.{choice_name}
use Rattle.bilv_spec.specs.SmtLib.{Sexp, SmtValue}
use Rattle.machine_spec.proofs.Spelling.{same_text}
use Rattle.smtlib_print.specs.Commands.{term_name, drawn}
use Rattle.smtlib_print.proofs.Declared.{are_new, AreSorted, IsSorted}
use Rattle.smtlib_print.proofs.Defined.{among}
use Rattle.smtlib_print.proofs.Valued.{other_choice}

pub drawn_sorted : (model : List ℕ → Option SmtValue) (sort : Sexp) (numbers : List ℕ) (draws : List Bool) →
    ((i : ℕ) → i < length numbers → IsSorted model sort (choice_name (slice_index numbers i))) → AreSorted model sort (drawn numbers draws)
drawn_sorted model sort numbers [] h = tt
drawn_sorted model sort [] (d ∷ ds) h = tt
drawn_sorted model sort (n ∷ ns) (true ∷ ds) h = (h 0 (omega arith), drawn_sorted model sort ns ds (λ i l. h (suc i) (omega (arith, l))))
drawn_sorted model sort (n ∷ ns) (false ∷ ds) h = drawn_sorted model sort ns ds (λ i l. h (suc i) (omega (arith, l)))

pub neither_true : (a b : Bool) → a ≡ false → b ≡ false → (a || b) ≡ false
neither_true true b h k = absurd (cc h)
neither_true false b h k = k

pub drawn_new : (done : List (List ℕ)) (numbers : List ℕ) (draws : List Bool) → ((i : ℕ) → i < length numbers → slice_index numbers i < 2 ^ 64) →
    ((i : ℕ) → i < length numbers → among done (choice_name (slice_index numbers i)) ≡ false) →
    ((i j : ℕ) → i < j → j < length numbers → slice_index numbers i ≢ slice_index numbers j) → are_new done (drawn numbers draws) ≡ true
drawn_new done numbers [] s h d = refl
drawn_new done [] (b ∷ ds) s h d = refl
drawn_new done (n ∷ ns) (true ∷ ds) s h d =
    rw (h 0 (omega arith))
    (drawn_new (choice_name n ∷ done) ns ds (λ i l. s (suc i) (omega (arith, l)))
    (λ i l. neither_true _ _
    (other_choice (slice_index ns i) n (s (suc i) (omega (arith, l))) (s 0 (omega arith)) (λ e. d 0 (suc i) (omega arith) (omega (arith, l)) (sym e)))
    (h (suc i) (omega (arith, l))))
    (λ i j k l. d (suc i) (suc j) (omega (arith, k)) (omega (arith, l))))
drawn_new done (n ∷ ns) (false ∷ ds) s h d =
    drawn_new done ns ds (λ i l. s (suc i) (omega (arith, l))) (λ i l. h (suc i) (omega (arith, l)))
    (λ i j k l. d (suc i) (suc j) (omega (arith, k)) (omega (arith, l)))

pub or_true : (a b : Bool) → b ≡ true → (a || b) ≡ true
or_true true b h = refl
or_true false b h = h

pub drawn_among : (numbers : List ℕ) (draws : List Bool) (i : ℕ) → i < length numbers → i < length draws → slice_index_or draws i false ≡ true →
    among (drawn numbers draws) (choice_name (slice_index numbers i)) ≡ true
drawn_among numbers [] i l k h = absurd (omega (arith, k))
drawn_among [] (d ∷ ds) i l k h = absurd (omega (arith, l))
drawn_among (n ∷ ns) (true ∷ ds) zero l k h = rw (same_text (choice_name n)) refl
drawn_among (n ∷ ns) (false ∷ ds) zero l k h = absurd (cc h)
drawn_among (n ∷ ns) (true ∷ ds) (suc i) l k h = or_true _ _ (drawn_among ns ds i (omega (arith, l)) (omega (arith, k)) h)
drawn_among (n ∷ ns) (false ∷ ds) (suc i) l k h = drawn_among ns ds i (omega (arith, l)) (omega (arith, k)) h

pub drawn_apart : (numbers : List ℕ) (draws : List Bool) (t : ℕ) → among (drawn numbers draws) (term_name t) ≡ false
drawn_apart numbers [] t = refl
drawn_apart [] (d ∷ ds) t = refl
drawn_apart (n ∷ ns) (true ∷ ds) t = drawn_apart ns ds t
drawn_apart (n ∷ ns) (false ∷ ds) t = drawn_apart ns ds t
