-- What base reads have to agree in, as far as it is said.
use Rattle.std.specs.Prelude.{ℕ, ◌≡◌, ◌<◌, ◌⊎◌, true, List, filter, length, map, slice_index, slice_index_or, Contains}
use Rattle.term_spec.specs.Terms.{TermReading, InRange, HasWidth, term_word}
use Rattle.term_dag.specs.declared.nodes.Term.{Term}
use Rattle.mem_cells.specs.declared.building.Build.{Build}
use Rattle.mem_cells.specs.declared.cells.Agreement.{Agreement}
use Rattle.mem_cells.specs.declared.pieces.Split.{Split}
use Rattle.mem_cells.specs.Parts.{has_part, is_read}
use Rattle.mem_cells.specs.Pieces.{IsSplit}
use Rattle.mem_cells.specs.Building.{read_places}

-- the address of a number
abbrev pub address_of : Build → TermReading → ℕ → ℕ
address_of b x j = term_word x b.dag (slice_index (read_places b) j)

-- the sum of a list at a place
abbrev pub sum_at : List Split → ℕ → Split
sum_at sums j = slice_index_or sums j (record { base = record { 0 = 0 }; offset = 0 })

-- the addresses are sums of a list
abbrev pub AreSums : Build → List Split → Type 0
AreSums b sums = (j : ℕ) → j < length (read_places b) → IsSplit b.dag (slice_index (read_places b) j) (sum_at sums j).base.0 (sum_at sums j).offset

-- bytes of the reads agree where it is said
abbrev pub Agree : Build → TermReading → List Agreement → (base : (part : ℕ) → ℕ → ℕ) → Type 0
Agree b x ts base = (a : Agreement) → Contains ts a → term_word x b.dag a.condition.0 ≡ 1 → base a.part a.read ≡ base a.part a.other

-- the part of an agreement is read at both addresses
abbrev pub AreBothRead : List (List ℕ) → Agreement → Type 0
AreBothRead parts a = (is_read parts a.part a.read ≡ true) × (is_read parts a.part a.other ≡ true)

-- Agreements are over the reads; where one says that addresses are equal, they are; and they say so for each part that is read at both of two addresses of
-- some.
pub record AreTies (b : Build) (parts : List (List ℕ)) (ts : List Agreement) (pairs : ℕ → ℕ → Type 0) : Type 0 where
  pub formed : (a : Agreement) → Contains ts a → HasWidth b.dag 1 a.condition.0 × (a.read < length (read_places b)) × (a.other < length (read_places b))
  pub read : (a : Agreement) → Contains ts a → AreBothRead parts a
  pub sound : (x : TermReading) → InRange x → (a : Agreement) → Contains ts a → term_word x b.dag a.condition.0 ≡ 1 →
      address_of b x a.read ≡ address_of b x a.other
  pub complete : (x : TermReading) → InRange x → (base : ℕ → ℕ → ℕ) → Agree b x ts base → (p i j : ℕ) → pairs i j → is_read parts p i ≡ true →
      is_read parts p j ≡ true → address_of b x i ≡ address_of b x j → base p i ≡ base p j

-- the parts of both
abbrev pub shared : (r s : List ℕ) → List ℕ
shared r s = filter (has_part s) r

-- an agreement
abbrev pub agreement : Term → (part read other : ℕ) → Agreement
agreement t p i j = record { condition = t; part = p; read = i; other = j }

-- agreements of parts
abbrev pub agreements_of : List ℕ → Term → (read other : ℕ) → List Agreement
agreements_of r t i j = map (λ p. agreement t p i j) r

-- the pairs of a read and a later one, up to a pair
abbrev pub Before : (other read : ℕ) → ℕ → ℕ → Type 0
Before other read i j = (i < j) × ((j < other) ⊎ ((j ≡ other) × (i < read)))
