-- Places of lines of notes by their addresses.
use Rattle.std.specs.Prelude.{ℕ, ◌≡◌, ◌≤◌, ◌<◌, ◌+◌, ◌==◌, List, [], ◌∷◌, length, map, filter, slice_index, slice_index_or, All, Contains}
use Rattle.std.specs.List.Sorted.{IsNonDecreasingBy}
use Rattle.notes_value.specs.declared.notes.Assert.{Assert}
use Rattle.notes_value.specs.declared.notes.Targets.{Targets}
use Rattle.notes_value.specs.declared.notes.Notes.{Notes}
use Rattle.notes_index.specs.declared.index.Index.{Index}

-- the addresses of assert lines, and of targets lines
abbrev pub assert_places : List Assert → List ℕ
assert_places asserts = map (λ a. a.at) asserts

abbrev pub targets_places : List Targets → List ℕ
targets_places targets = map (λ t. t.at) targets

-- the first n addresses with their places
pub record IsNumbered (places : List ℕ) (numbered : List (ℕ × ℕ)) (n : ℕ) : Type 0 where
  pub count : length numbered ≡ n
  pub each : (k : ℕ) (d : ℕ × ℕ) → k < n → slice_index_or numbered k d ≡ (slice_index places k, k)

-- each address with its place, from a place on
abbrev pub numbered_from : ℕ → List ℕ → List (ℕ × ℕ)
numbered_from k [] = []
numbered_from k (a ∷ places) = (a, k) ∷ numbered_from (k + 1) places

-- each address with its place, once, by rising addresses, and those of one address in their order; and nothing else
pub record IsIndex (places : List ℕ) (index : List (ℕ × ℕ)) : Type 0 where
  pub count : length index ≡ length places
  pub rising : IsNonDecreasingBy (λ x. x.0) index
  pub all : (k : ℕ) → k < length places → Contains index (slice_index places k, k)
  pub only : All (λ x. (x.1 < length places) × (x.0 ≡ slice_index places x.1)) index
  pub order : (at : ℕ) → filter (λ x. x.0 == at) index ≡ filter (λ x. x.0 == at) (numbered_from 0 places)

-- the index of notes
pub record AreIndexed (n : Notes) (index : Index) : Type 0 where
  pub asserts : IsIndex (assert_places n.asserts.items) index.asserts.items
  pub targets : IsIndex (targets_places n.targets.items) index.targets.items

-- between two bounds an index has the places of an address, all of them and no others
pub record ArePlacesOf (places : List ℕ) (index : List (ℕ × ℕ)) (at low high : ℕ) : Type 0 where
  pub only : (j : ℕ) (d : ℕ × ℕ) → low ≤ j → j < high → ((slice_index_or index j d).1 < length places) × (slice_index places (slice_index_or index j d).1 ≡ at)
  pub all : (k : ℕ) → k < length places → slice_index places k ≡ at → (j : ℕ) × (low ≤ j) × (j < high) × ((d : ℕ × ℕ) → (slice_index_or index j d).1 ≡ k)
