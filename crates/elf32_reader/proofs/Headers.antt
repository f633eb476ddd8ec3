-- The table of program headers, by the numbers of its entries.
use Rattle.std.proofs.Common.{◌≡◌, ℕ, zero, suc, ◌+◌, ◌*◌, ◌≤◌, ◌<◌, ◌^◌, List, [], ◌∷◌, ◌++◌, length, refl, ap, sym, ◌∙◌, subst, arith, inl, inr, ◌⊎◌, Some, map, true, false, cond}
use Rattle.std.specs.Prelude.{slice_get}
use Rattle.std.specs.List.{filter}
use Rattle.std.proofs.lemmas.List.{map-append, append-nil}
use Rattle.std.proofs.lemmas.List.Elements.{filter-append}
use Rattle.std.proofs.lemmas.Option.{slice_get_within}
use Rattle.bilv_spec.specs.Elf.{field, Segment, segment_at, segments_from, segments}
use Rattle.bilv_spec.specs.ElfFaults.{FileFaultApplies, BadSegmentRange, BadFileSize}
use Rattle.elf32_reader.specs.Loads.{segment, header, has_addresses}
use Rattle.elf32_reader.specs.declared.segments.ProgramHeader.{ProgramHeader}

length-segments_from : (file : List ℕ) (at n : ℕ) → length (segments_from file at n) ≡ n
length-segments_from file at zero = refl
length-segments_from file at (suc n) = ap suc (length-segments_from file (at + 32) n)

entry_from : (file : List ℕ) (at n i : ℕ) → i < n → slice_get (segments_from file at n) i ≡ Some (segment_at file (at + 32 * i))
entry_from file at zero i h = absurd (omega arith)
entry_from file at (suc n) zero h = ap (λ x. Some (segment_at file x)) (omega arith)
entry_from file at (suc n) (suc i) h =
    entry_from file (at + 32) n i (omega arith) ∙ ap (λ x. Some (segment_at file x)) (omega arith)

-- an entry of the table is the header of its number
pub entry : (file : List ℕ) (i : ℕ) → i < field file 2 44 → slice_get (segments file) i ≡ Some (header file i)
entry file i h = entry_from file (field file 4 28) (field file 2 44) i h

pub entry_within : (file : List ℕ) (i : ℕ) (s : Segment) → slice_get (segments file) i ≡ Some s → i < field file 2 44
entry_within file i s h =
    let within = slice_get_within (segments file) i s h in
    let count = length-segments_from file (field file 4 28) (field file 2 44) in
    omega arith

pub entry_is : (file : List ℕ) (i : ℕ) (s : Segment) → slice_get (segments file) i ≡ Some s → header file i ≡ s
entry_is file i s h = let e = entry file i (entry_within file i s h) in cc

-- the table by one entry more
segments_from-suc : (file : List ℕ) (at n : ℕ) → segments_from file at (suc n) ≡ segments_from file at n ++ segment_at file (at + 32 * n) ∷ []
segments_from-suc file at zero = ap (λ x. segment_at file x ∷ []) (omega arith)
segments_from-suc file at (suc n) =
    ap (λ xs. segment_at file at ∷ xs)
    (segments_from-suc file (at + 32) n ∙ ap (λ x. segments_from file (at + 32) n ++ segment_at file x ∷ []) (omega arith))

segments_from-push : (file : List ℕ) (at n : ℕ) → segments_from file at (n + 1) ≡ segments_from file at n ++ segment_at file (at + 32 * n) ∷ []
segments_from-push file at n = let e : n + 1 ≡ suc n = omega arith in ap (segments_from file at) e ∙ segments_from-suc file at n

-- what is kept of the table by one entry more
pub kept_push : (file : List ℕ) (at i : ℕ) (xs : List ProgramHeader) (h : ProgramHeader)
    → map segment xs ≡ filter has_addresses (segments_from file at i)
    → segment h ≡ segment_at file (at + 32 * i) → has_addresses (segment h) ≡ true
    → map segment (xs ++ h ∷ []) ≡ filter has_addresses (segments_from file at (i + 1))
kept_push file at i xs h before is has =
    let test : has_addresses (segment_at file (at + 32 * i)) ≡ true = ap has_addresses (sym is) ∙ has in
    map-append segment xs (h ∷ [])
    ∙ ap (λ ys. ys ++ segment h ∷ []) before
    ∙ ap (λ s. filter has_addresses (segments_from file at i) ++ s ∷ []) is
    ∙ sym (ap (filter has_addresses) (segments_from-push file at i)
    ∙ filter-append has_addresses (segments_from file at i) (segment_at file (at + 32 * i) ∷ [])
    ∙ ap (λ b. filter has_addresses (segments_from file at i) ++ (cond b (segment_at file (at + 32 * i) ∷ []) [])) test)

pub kept_skip : (file : List ℕ) (at i : ℕ) (xs : List ProgramHeader) (h : ProgramHeader)
    → map segment xs ≡ filter has_addresses (segments_from file at i)
    → segment h ≡ segment_at file (at + 32 * i) → has_addresses (segment h) ≡ false
    → map segment xs ≡ filter has_addresses (segments_from file at (i + 1))
kept_skip file at i xs h before is has =
    let test : has_addresses (segment_at file (at + 32 * i)) ≡ false = ap has_addresses (sym is) ∙ has in
    before
    ∙ sym (ap (filter has_addresses) (segments_from-push file at i)
    ∙ filter-append has_addresses (segments_from file at i) (segment_at file (at + 32 * i) ∷ [])
    ∙ ap (λ b. filter has_addresses (segments_from file at i) ++ (cond b (segment_at file (at + 32 * i) ∷ []) [])) test
    ∙ append-nil (filter has_addresses (segments_from file at i)))

-- the faults of single segments
pub range_fault : (file : List ℕ) (i : ℕ) → i < field file 2 44 → (header file i).kind ≡ 1
    → 2 ^ 32 < (header file i).address + (header file i).in_memory → FileFaultApplies file BadSegmentRange
range_fault file i h kind past = (i, header file i, (entry file i h, kind), past)

pub no_range_fault : (file : List ℕ)
    → ((k : ℕ) → k < field file 2 44 → (header file k).kind ≡ 1 → (header file k).address + (header file k).in_memory ≤ 2 ^ 32)
    → ¬ FileFaultApplies file BadSegmentRange
no_range_fault file all f =
    let is = entry_is file f.0 f.1 f.2.0 in
    let low : f.1.address + f.1.in_memory ≤ 2 ^ 32 =
    subst (λ s. s.kind ≡ 1 → s.address + s.in_memory ≤ 2 ^ 32) is (all f.0 (entry_within file f.0 f.1 f.2.0)) f.2.1 in
    let past : 2 ^ 32 < f.1.address + f.1.in_memory = f.3 in
    omega arith

pub size_fault : (file : List ℕ) (i : ℕ) → i < field file 2 44 → (header file i).kind ≡ 1
    → ((header file i).in_memory < (header file i).in_file) ⊎ (length file < (header file i).offset + (header file i).in_file)
    → FileFaultApplies file BadFileSize
size_fault file i h kind past = (i, header file i, (entry file i h, kind), past)

pub no_size_fault : (file : List ℕ)
    → ((k : ℕ) → k < field file 2 44 → (header file k).kind ≡ 1
    → ((header file k).in_file ≤ (header file k).in_memory) × ((header file k).offset + (header file k).in_file ≤ length file))
    → ¬ FileFaultApplies file BadFileSize
no_size_fault file all f =
    let is = entry_is file f.0 f.1 f.2.0 in
    let low : (f.1.in_file ≤ f.1.in_memory) × (f.1.offset + f.1.in_file ≤ length file) =
    subst (λ s. s.kind ≡ 1 → (s.in_file ≤ s.in_memory) × (s.offset + s.in_file ≤ length file)) is (all f.0 (entry_within file f.0 f.1 f.2.0)) f.2.1 in
    let a : f.1.in_file ≤ f.1.in_memory = low.0 in
    let b : f.1.offset + f.1.in_file ≤ length file = low.1 in
    elim f.3 as (λ _. ⊥) [ inl x ↦ omega arith | inr x ↦ omega arith ]

pub ruleset range_faults = (range_fault, no_range_fault)

pub ruleset size_faults = (size_fault, no_size_fault)

pub ruleset kept_steps = (kept_push, kept_skip)
