-- Segments that rise and stand apart, and the one that covers an address.
use Rattle.std.proofs.Common.{◌≡◌, ℕ, ◌+◌, ◌-◌, ◌≤◌, ◌<◌, List, length, get_or, ap, arith, true, false, inl, inr}
use Rattle.std.proofs.Math.Nat.{eq-or-lt_of_le}
use Rattle.std.proofs.lemmas.Bool.{cases_lt}
use Rattle.std.proofs.lemmas.List.{get_or_default}
use Rattle.std.specs.List.{All}
use Rattle.std.specs.List.Sorted.{IsNonDecreasingBy}
use Rattle.std.proofs.lemmas.Option.{slice_get-get_or}
use Rattle.std.proofs.lemmas.Bool.Decides.{nat_tests}
use Rattle.bilv_spec.specs.Elf.{covers, Segment}
use Rattle.elf32_reader.specs.Loads.{segment, has_addresses, layers, IsApart}
use Rattle.elf32_reader.specs.declared.segments.ProgramHeader.{ProgramHeader}
use Rattle.elf32_reader.proofs.Layers.{count_none, count_two}

pub has-kind : (s : Segment) → has_addresses s ≡ true → s.kind ≡ 1
has-kind s h = grind (arith, nat_tests)

pub has-bytes : (s : Segment) → has_addresses s ≡ true → 0 < s.in_memory
has-bytes s h = grind (arith, nat_tests)

pub has_both : (s : Segment) → s.kind ≡ 1 → 0 < s.in_memory → has_addresses s ≡ true
has_both s k h = grind (arith, nat_tests)

pub covers_in : (a : ℕ) (s : Segment) → s.kind ≡ 1 → s.address ≤ a → a < s.address + s.in_memory → covers a s ≡ true
covers_in a s k low high = grind (arith, nat_tests)

pub covers_from : (a : ℕ) (s : Segment) → covers a s ≡ true → (s.kind ≡ 1) × (s.address ≤ a) × (a < s.address + s.in_memory)
covers_from a s h = (grind (arith, nat_tests), grind (arith, nat_tests), grind (arith, nat_tests))

pub covers_below : (a : ℕ) (s : Segment) → a < s.address → covers a s ≡ false
covers_below a s h = grind (arith, nat_tests)

pub covers_above : (a : ℕ) (s : Segment) → s.address + s.in_memory ≤ a → covers a s ≡ false
covers_above a s h = grind (arith, nat_tests)

pub covers-has : (a : ℕ) (s : Segment) → covers a s ≡ true → has_addresses s ≡ true
covers-has a s h = let f = covers_from a s h in has_both s f.0 (let l : s.address ≤ a = f.1 in let r : a < s.address + s.in_memory = f.2 in omega arith)

-- where neighbours stand apart, all do
pub apart_from : (hs : List ProgramHeader) → IsNonDecreasingBy (λ h. h.address) hs
    → ((k : ℕ) (d : ProgramHeader) → k + 1 < length hs → (get_or hs k d).address + (get_or hs k d).in_memory ≤ (get_or hs (k + 1) d).address)
    → IsApart hs
apart_from hs rising near i j d less within =
    let first = near i d (omega arith) in
    let next = rising (i + 1) j d (omega arith) within in
    omega arith

-- where neighbours do not, an address is covered twice
pub shared : (hs : List ProgramHeader) (k : ℕ) (d : ProgramHeader) → IsNonDecreasingBy (λ h. h.address) hs → All (λ h. has_addresses (segment h) ≡ true) hs
    → k + 1 < length hs → (get_or hs (k + 1) d).address < (get_or hs k d).address + (get_or hs k d).in_memory
    → (a : ℕ) × (2 ≤ layers a hs)
shared hs k d rising solid within less =
    let s = get_or hs k d in
    let t = get_or hs (k + 1) d in
    let order : s.address ≤ t.address = rising k (k + 1) d (omega arith) within in
    let one = solid k d (omega arith) in
    let other = solid (k + 1) d within in
    let bytes = has-bytes (segment t) other in (
      t.address,
      count_two (λ h. covers t.address (segment h)) hs k (k + 1) s t (slice_get-get_or hs k d (omega arith)) (slice_get-get_or hs (k + 1) d within)
          (omega arith)
          (covers_in t.address (segment s) (has-kind (segment s) one) order less)
          (covers_in t.address (segment t) (has-kind (segment t) other) (omega arith) (omega arith)),
    )

-- no segment begins at or before the address
pub none_before : (hs : List ProgramHeader) (a : ℕ) → ((k : ℕ) (d : ProgramHeader) → k < length hs → a < (get_or hs k d).address) → layers a hs ≡ 0
none_before hs a above = count_none (λ h. covers a (segment h)) hs (λ k d w. covers_below a (segment (get_or hs k d)) (above k d w))

-- the last segment that begins at or before the address ends at or before it
pub none_across : (hs : List ProgramHeader) (a i : ℕ) (e : ProgramHeader) → IsApart hs → i < length hs
    → (get_or hs i e).address ≤ a → (get_or hs i e).in_memory ≤ a - (get_or hs i e).address
    → ((k : ℕ) (d : ProgramHeader) → i + 1 ≤ k → k < length hs → a < (get_or hs k d).address) → layers a hs ≡ 0
none_across hs a i e apart within low short above =
    count_none (λ h. covers a (segment h)) hs (λ k d w.
    elim (cases_lt i k) as (λ _. covers a (segment (get_or hs k d)) ≡ false) [
      | inl behind ↦ covers_below a (segment (get_or hs k d)) (above k d (omega arith) w)
      | inr before ↦
          elim (eq-or-lt_of_le before) as (λ _. covers a (segment (get_or hs k d)) ≡ false) [
            | inl same ↦
                let there : get_or hs k d ≡ get_or hs i e = rw same (get_or_default hs i d e within) in
                rw there (covers_above a (segment (get_or hs i e)) (omega arith))
            | inr less ↦
                let gap = apart k i d less within in
                let there : get_or hs i d ≡ get_or hs i e = get_or_default hs i d e within in
                let start : (get_or hs i d).address ≡ (get_or hs i e).address = ap (λ (h : ProgramHeader). h.address) there in
                covers_above a (segment (get_or hs k d)) (omega arith)
          ]
    ])

pub has_not : (s : Segment) → (s.kind ≡ 1 → ⊥) → has_addresses s ≡ false
has_not s h = grind (arith, nat_tests)

pub has_none : (s : Segment) → s.in_memory ≤ 0 → has_addresses s ≡ false
has_none s h = grind (arith, nat_tests)

pub ruleset tests = (has_both, has_not, has_none)
