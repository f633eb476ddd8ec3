-- Broken addresses are found in their blocks.
use Rattle.std.proofs.Common.{◌≡◌, sym, subst, ◌∙◌, ℕ, ◌+◌, ◌<◌, ◌≤◌, inl, inr, List, [], ◌∷◌, ◌++◌, get_or, arith}
use Rattle.std.specs.Prelude.{length, max, bit_and, bit_or, Contains, slice_index, Ok, Err}
use Rattle.std.specs.Ordering.{nat_cmp}
use Rattle.std.specs.List.Sorted.{IsBinarySearchResult}
use Rattle.std.proofs.lemmas.Bool.{cases_lt}
use Rattle.std.proofs.lemmas.Nat.{and_le_l, le_or_l}
use Rattle.std.proofs.lemmas.List.{get_or_default}
use Rattle.std.proofs.lemmas.List.Elements.{Contains-append_left, Contains-get_or, Contains-push, at_from_Contains}
use Rattle.std.proofs.lemmas.List.Sorted.{searched}
use Rattle.known_bytes.specs.declared.listing.Known.{Known}
use Rattle.asked_bytes.specs.AskedBytes.{AreBrokenFound, AreRising, HasByte, IsStretchFound}

module _ (xs : List ℕ) (x : ℕ) (rise : AreRising xs) where
  not_falling : (a b : ℕ) → a ≤ b → b < length xs → get_or xs a 0 ≤ get_or xs b 0
  not_falling a b le lt = elim (cases_lt a b) as (λ _. get_or xs a 0 ≤ get_or xs b 0) [
    | inl less ↦ (let below : get_or xs a 0 < get_or xs b 0 = rise a b less lt in omega (arith, below))
    | inr more ↦ (let same : a ≡ b = omega (arith, le, more) in subst (λ (n : ℕ). get_or xs a 0 ≤ get_or xs n 0) same (omega arith))
  ]

  -- a search that fails
  pub absent : (i : ℕ) → IsBinarySearchResult (λ y. nat_cmp y x) xs (Err i) → ¬ Contains xs x
  absent i searching (k, within, e) =
      let q = searched xs x (Err i) searching not_falling in
      let here : get_or xs k 0 ≡ x = get_or_default xs k 0 x within ∙ e in
      elim (cases_lt k i) as (λ _. ⊥) [
        | inl low ↦ (let b = q.1 k low in omega (arith, b, here))
        | inr high ↦ (let b = q.2 k high within in omega (arith, b, here))
      ]

  -- and one that finds
  pub there : (i : ℕ) → IsBinarySearchResult (λ y. nat_cmp y x) xs (Ok i) → Contains xs x
  there i searching =
      let q = searched xs x (Ok i) searching not_falling in subst (λ (z : ℕ). Contains xs z) q.1 (Contains-get_or xs i 0 q.0)

-- an element more
pub push_kept : (old new : List ℕ) (x : ℕ) → new ≡ old ++ x ∷ [] → (a : ℕ) → Contains old a → Contains new a
push_kept old new x e a has = subst (λ (z : List ℕ). Contains z a) (sym e) (Contains-append_left old (x ∷ []) a has)

pub push_there : (old new : List ℕ) (x : ℕ) → new ≡ old ++ x ∷ [] → Contains new x
push_there old new x e = subst (λ (z : List ℕ). Contains z x) (sym e) (Contains-push old x)

-- a stretch that is one longer
pub stretch_more : (known : List Known) (added : List ℕ) (first next : ℕ) (old new : List ℕ) → IsStretchFound known added first next old →
    ((a : ℕ) → Contains old a → Contains new a) → (HasByte known next → ¬ Contains added next → Contains new next) →
    IsStretchFound known added first (next + 1) new
stretch_more known added first next old new h kept one a low high has apart = elim (cases_lt a next) as (λ _. Contains new a) [
  | inl before ↦ kept a (h a low before has apart)
  | inr behind ↦
      let same : next ≡ a = omega (arith, behind, high) in
      subst (λ (n : ℕ). HasByte known n → ¬ Contains added n → Contains new n) same one has apart
]

-- a block of an address does not begin behind the address
pub block_begins : (next address mask from a : ℕ) → from ≡ max next (bit_and address mask) → next ≤ a → address ≤ a → from ≤ a
block_begins next address mask from a is low high = let lower = and_le_l address mask in omega (arith, is, low, high, lower)

-- and does not end before it
pub block_ends : (address bits to : ℕ) → bit_or address bits + 1 ≤ to → address < to
block_ends address bits to behind = let higher = le_or_l address bits in omega (arith, behind, higher)

-- the first broken addresses are found, and each address from the last of them on that stands before the next one that is looked at
pub record AreFirstFound (known : List Known) (added broken : List ℕ) (i next : ℕ) (found : List ℕ) : Type 0 where
  pub first : (j : ℕ) → j < i → HasByte known (slice_index broken j) → ¬ Contains added (slice_index broken j) → Contains found (slice_index broken j)
  pub later : (a : ℕ) → a < next → ((j : ℕ) → j < i → slice_index broken j ≤ a) → HasByte known a → ¬ Contains added a → Contains found a

pub none_found : (known : List Known) (added broken found : List ℕ) → AreFirstFound known added broken 0 0 found
none_found known added broken found = record { first = λ j lt. absurd (omega (arith, lt)); later = λ a lt. absurd (omega (arith, lt)) }

module _ (known : List Known) (added broken : List ℕ) (rise : AreRising broken) (i next from to : ℕ) (old new : List ℕ) (within : i < length broken)
    (h : AreFirstFound known added broken i next old) (kept : (a : ℕ) → Contains old a → Contains new a) (stretch : IsStretchFound known added from to new)
    (begins : (a : ℕ) → next ≤ a → slice_index broken i ≤ a → from ≤ a) (ends : slice_index broken i < to) where
  later_found : (a : ℕ) → a < to → ((j : ℕ) → j < i + 1 → slice_index broken j ≤ a) → HasByte known a → ¬ Contains added a → Contains new a
  later_found a lt above has apart = elim (cases_lt a next) as (λ _. Contains new a) [
    | inl before ↦ kept a (h.later a before (λ j l. above j (omega (arith, l))) has apart)
    | inr behind ↦ stretch a (begins a behind (above i (omega arith))) lt has apart
  ]

  above_first : (j : ℕ) → j < i + 1 → slice_index broken j ≤ slice_index broken i
  above_first j lt = elim (cases_lt j i) as (λ _. slice_index broken j ≤ slice_index broken i) [
    | inl less ↦ (let below = rise j i less within in omega (arith, below))
    | inr more ↦ (let same : j ≡ i = omega (arith, lt, more) in subst (λ (n : ℕ). slice_index broken j ≤ slice_index broken n) same (omega arith))
  ]

  -- one more broken address, whose stretch is found
  pub one_found : AreFirstFound known added broken (i + 1) to new
  one_found = record {
    first = λ j lt has apart. elim (cases_lt j i) as (λ _. Contains new (slice_index broken j)) [
      | inl before ↦ kept (slice_index broken j) (h.first j before has apart)
      | inr here ↦
          let same : i ≡ j = omega (arith, lt, here) in
          subst (λ (n : ℕ). HasByte known (slice_index broken n) → ¬ Contains added (slice_index broken n) → Contains new (slice_index broken n)) same
          (later_found (slice_index broken i) ends above_first) has apart
    ];
    later = later_found;
  }

pub all_found : (known : List Known) (added broken : List ℕ) (i next : ℕ) (found : List ℕ) → AreFirstFound known added broken i next found →
    length broken ≤ i → AreBrokenFound known added broken found
all_found known added broken i next found h whole a has =
    let at = at_from_Contains broken a has in
    subst (λ (z : ℕ). HasByte known z → ¬ Contains added z → Contains found z) (at.2 0) (h.first at.0 (omega (arith, at.1, whole)))
