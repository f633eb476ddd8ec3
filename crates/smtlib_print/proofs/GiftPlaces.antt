-- The symbols of what contract steps are given, by their places.
use Rattle.std.proofs.Common.{◌≡◌, ℕ, zero, suc, ◌+◌, ◌<◌, refl, ap, ◌∙◌, subst, arith, List, [], ◌∷◌, ◌++◌, length, map, Contains, inl, inr}
use Rattle.std.specs.Prelude.{slice_index}
use Rattle.std.proofs.lemmas.List.Elements.{Contains-append_left, Contains-append_right, Contains-append_cases}
use Rattle.machine_spec.specs.StateText.{Layout}
use Rattle.frame_spec.specs.FrameScripts.{changed_flags, changed_registers, of_given}
use Rattle.smtlib_print.specs.Commands.{Given, nothing}
use Rattle.smtlib_print.proofs.GivenSymbols.{all_symbols, given_at, names_of, symbols_at}

pub no_registers : (r : ℕ) (names : List (List ℕ)) → changed_registers [] r names ≡ []
no_registers r [] = refl
no_registers r (w ∷ names) = no_registers (r + 1) names

pub no_flags : (names : List (List ℕ)) → changed_flags [] names ≡ []
no_flags [] = refl
no_flags (w ∷ names) = no_flags names

-- where nothing is given there is no name
pub no_names : (layout : Layout) → names_of layout nothing ≡ []
no_names layout =
    ap (λ l. l ++ (changed_flags [] layout.flags ++ [])) (no_registers layout.first layout.registers) ∙ ap (λ l. l ++ []) (no_flags layout.flags)

pub nothing_given : (layout : Layout) (n : ℕ) (w : List ℕ) → Contains (map (of_given n) (names_of layout nothing)) w → ⊥
nothing_given layout n w c =
    let d = subst (λ (names : List (List ℕ)). Contains (map (of_given n) names) w) (no_names layout) c in omega (arith, d.1)

-- a symbol is one of a place
pub given_place : (layout : Layout) (numbers : List ℕ) (gs : List Given) (w : List ℕ) → Contains (all_symbols layout numbers gs) w →
    (j : ℕ) × (j < length numbers) × (j < length gs) × Contains (symbols_at layout (slice_index numbers j) (given_at gs j)) w
given_place layout numbers [] w c = absurd (omega (arith, c.1))
given_place layout [] (g ∷ gs) w c = absurd (omega (arith, c.1))
given_place layout (n ∷ ns) (g ∷ gs) w c = elim (Contains-append_cases (symbols_at layout n g) (all_symbols layout ns gs) w c) [
  | inl t ↦ (0, omega arith, omega arith, t)
  | inr t ↦ (let q = given_place layout ns gs w t in (suc q.0, omega (arith, q.1), omega (arith, q.2), q.3))
]

-- and a place has its symbols
pub place_given : (layout : Layout) (numbers : List ℕ) (gs : List Given) (j : ℕ) (w : List ℕ) → j < length numbers → j < length gs →
    Contains (symbols_at layout (slice_index numbers j) (given_at gs j)) w → Contains (all_symbols layout numbers gs) w
place_given layout numbers [] j w l k c = absurd (omega (arith, k))
place_given layout [] (g ∷ gs) j w l k c = absurd (omega (arith, l))
place_given layout (n ∷ ns) (g ∷ gs) zero w l k c = Contains-append_left (symbols_at layout n g) (all_symbols layout ns gs) w c
place_given layout (n ∷ ns) (g ∷ gs) (suc j) w l k c =
    Contains-append_right (symbols_at layout n g) (all_symbols layout ns gs) w (place_given layout ns gs j w (omega (arith, l)) (omega (arith, k)) c)
