-- Tables of names, row by row.
use Rattle.std.proofs.Common.{◌≡◌, ℕ, zero, suc, ◌<◌, ◌≤◌, ◌+◌, refl, arith, List, [], ◌∷◌, Some, None, if◌then◌else◌, map, drop, length, get_or, bytes_eq, add-one, drop-cons}
use Rattle.std.specs.Borrow.{Bor}
use Rattle.notes_spec.specs.RvNames.{name_in}
use Rattle.notes_lang.specs.declared.names.Meaning.{Meaning}
use Rattle.notes_lang.specs.Named.{meaning_of, named_of}

-- the first of the rows that are left
pub row_at : (t : List (Bor (List ℕ) × Meaning)) (i : ℕ) (d : Bor (List ℕ) × Meaning) (w : List ℕ) → i < length t →
    name_in (map named_of (drop i t)) w ≡ (if bytes_eq w (get_or t i d).0.now then Some (meaning_of (get_or t i d).1)
    else name_in (map named_of (drop (i + 1) t)) w)
row_at t i d w below = rw (add-one, drop-cons t i d)

-- no rows are left
pub no_row : (t : List (Bor (List ℕ) × Meaning)) (i : ℕ) (w : List ℕ) → length t ≤ i → name_in (map named_of (drop i t)) w ≡ None
no_row [] zero w le = refl
no_row [] (suc i) w le = refl
no_row (r ∷ t) zero w le = absurd (omega (arith, le))
no_row (r ∷ t) (suc i) w le = no_row t i w (omega (arith, le))
