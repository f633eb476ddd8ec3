-- The values of variables that a checker keeps, each with the line that set it.
use Rattle.std.specs.Prelude.{◌≡◌, ℕ, suc, ◌≤◌, ◌<◌, Bool, true, false, ◌&&◌, ◌==◌, if◌then◌else◌, List, [], ◌∷◌, slice_index_or}
use Rattle.clause_spec.specs.Clauses.{Literal, Clause, same_sign, has}
use Rattle.clause_spec.specs.Refutation as refutation
use Rattle.refutation_checker.specs.declared.slots.Slot.{Slot}
use Rattle.refutation_checker.specs.declared.slots.Look.{Look}
use Rattle.refutation_checker.specs.declared.slots.Look.TheVariants.{Conflict, Unit as UnitOf, Other}

-- a slot that no line has set
abbrev pub unset : Slot
unset = record { line = 0; positive = false }

-- at a line the slot tells that its variable has the value
abbrev pub tells : (line : ℕ) → Slot → Bool → Bool
tells line slot positive = (slot.line == line) && same_sign slot.positive positive

-- the place of a variable's slot among names: where its number stands; one that is no name stands behind them, so that no two variables have one place
abbrev pub place_of : (names : List ℕ) → (variable : ℕ) → ℕ
place_of [] v = v
place_of (n ∷ names) v = if v == n then 0 else suc (place_of names v)

-- the literals that are true at a line
abbrev pub true_in : (line : ℕ) → (names : List ℕ) → List Slot → Literal → Bool
true_in line names slots l = tells line (slice_index_or slots (place_of names l.variable) unset) l.positive

-- no slot was set by a line behind this one
abbrev pub AreUpTo : (line : ℕ) → List Slot → Type 0
AreUpTo line slots = (k : ℕ) → (slice_index_or slots k unset).line ≤ line

-- each literal's variable has one of the first n places
abbrev pub IsWithin : (names : List ℕ) → ℕ → Clause → Type 0
IsWithin names n c = (l : Literal) → has c l ≡ true → place_of names l.variable < n

-- what is seen of a clause
abbrev pub seen_as : Look → refutation.Look
seen_as Conflict = refutation.Conflict
seen_as (UnitOf l) = refutation.UnitOf l
seen_as Other = refutation.Other
