-- The segments that are kept are those of the file.
use Rattle.std.proofs.Common.{◌≡◌, ℕ, ◌+◌, ◌-◌, ◌*◌, ◌≤◌, ◌<◌, ◌^◌, ◌↔◌, List, length, get_or, map, ap, sym, ◌∙◌, subst, arith, inl, inr, Some, None, true, false, cond}
use Rattle.std.proofs.lemmas.List.{length-map}
use Rattle.std.proofs.Math.ListN.{get_or-map}
use Rattle.std.specs.Prelude.{find, slice_get}
use Rattle.std.specs.List.{count_by, filter, All, Contains}
use Rattle.std.specs.List.Sorted.{IsNonDecreasingBy, IsPermutation}
use Rattle.std.proofs.lemmas.Option.{slice_get-get_or, slice_get_within, get_or_from_slice_get}
use Rattle.std.proofs.lemmas.List.Sorted.{All-permutation, sum_by-IsPermutation}
use Rattle.std.proofs.lemmas.List.Elements.{filter_passes, All-filter}
use Rattle.bilv_spec.specs.Elf.{field, Segment, segments, covers, cell, cell_in, loaded, byte_at, flags_at, kept_at, byte_in, flags_in, is_kept, IsKeptRuns}
use Rattle.bilv_spec.specs.ElfFaults.{FileFaultApplies, ShortFile, BadHeaderTable, BadSegmentRange, BadFileSize, SegmentsOverlap}
use Rattle.elf32_reader.specs.declared.segments.ProgramHeader.{ProgramHeader}
use Rattle.elf32_reader.specs.Loads.{segment, has_addresses, layers, IsApart}
use Rattle.elf32_reader.specs.Images.{IsTied, IsListed, IsRunsTo, IsKeptBelow, keeps}
use Rattle.elf32_reader.specs.Refusals.{IsClear}
use Rattle.elf32_reader.proofs.Layers.{count_two, two_pass, one_passes, found_only, found_none, count-filter, count-map}
use Rattle.elf32_reader.proofs.Apart.{covers-has, covers_in, covers_from, has-kind}
use Rattle.std.proofs.lemmas.Bool.{cases_lt, lt-ltb, le-ltb}

pub long_enough : (file : List ℕ) → ¬ FileFaultApplies file ShortFile → 52 ≤ length file
long_enough file no_fault = elim (cases_lt (length file) 52) as (λ _. 52 ≤ length file) [ inl l ↦ absurd (no_fault l) | inr l ↦ l ]

-- what an accepted header says
pub header_length : (file : List ℕ) → IsClear file 8 → 52 ≤ length file
header_length file clear = long_enough file (clear ShortFile (omega arith))

pub header_table : (file : List ℕ) → IsClear file 8 → field file 4 28 + 32 * field file 2 44 ≤ length file
header_table file clear =
    elim (cases_lt (length file) (field file 4 28 + 32 * field file 2 44)) as (λ _. field file 4 28 + 32 * field file 2 44 ≤ length file) [
      | inl l ↦ absurd (clear BadHeaderTable (omega arith) (inr (inr l)))
      | inr l ↦ l
    ]

-- a fact of each element of a mapped list
unmapped : {X Y : Type 0} (P : Y → Type 0) (f : X → Y) (xs : List X) → All P (map f xs) → All (λ x. P (f x)) xs
unmapped P f xs h k d w = rw (← get_or-map f xs k d) (h k (f d) (rw (length-map xs f) w))

-- an element of the segments stands at a number
member : (xs : List Segment) → All (λ s. (i : ℕ) × (slice_get xs i ≡ Some s)) xs
member xs k d w = (k, slice_get-get_or xs k d w)

module _ (file : List ℕ) (read found : List ProgramHeader)
    (is : map segment read ≡ filter has_addresses (segments file)) (moved : IsPermutation read found) where
  layers_of : (a : ℕ) → layers a found ≡ count_by (covers a) (segments file)
  layers_of a =
      sum_by-IsPermutation (λ h. cond (covers a (segment h)) 1 0) read found moved
      ∙ sym (count-map segment (covers a) read)
      ∙ ap (count_by (covers a)) is
      ∙ count-filter (covers a) has_addresses (covers-has a) (segments file)

  solid_of : All (λ h. has_addresses (segment h) ≡ true) found
  solid_of =
      All-permutation (λ h. has_addresses (segment h) ≡ true) read found moved
      (unmapped (λ s. has_addresses s ≡ true) segment read (subst (All (λ s. has_addresses s ≡ true)) (sym is) (filter_passes has_addresses (segments file))))

  members_of : All (λ h. (i : ℕ) × (slice_get (segments file) i ≡ Some (segment h))) found
  members_of =
      All-permutation (λ h. (i : ℕ) × (slice_get (segments file) i ≡ Some (segment h))) read found moved
      (unmapped (λ s. (i : ℕ) × (slice_get (segments file) i ≡ Some s)) segment read
      (subst (All (λ s. (i : ℕ) × (slice_get (segments file) i ≡ Some s))) (sym is)
      (All-filter has_addresses (λ s. (i : ℕ) × (slice_get (segments file) i ≡ Some s)) (segments file) (member (segments file)))))

  pub listed : IsNonDecreasingBy (λ h. h.address) found → IsListed file found
  listed rising = record { rising = rising; solid = solid_of; members = members_of; layered = layers_of }

pub tied : (file : List ℕ) (found : List ProgramHeader) → IsListed file found → IsApart found → ¬ FileFaultApplies file BadSegmentRange →
    ¬ FileFaultApplies file BadFileSize
    → IsTied file found
tied file found list apart range size = record {
  listed = list;
  apart = apart;
  inside = λ k d w.
      let at = list.members k d w in
      let kind = has-kind (segment (get_or found k d)) (list.solid k d w) in
      elim (cases_lt (length file) ((get_or found k d).offset + (get_or found k d).in_file)) as
      (λ _. (get_or found k d).offset + (get_or found k d).in_file ≤ length file) [
        | inl l ↦ absurd (size (at.0, segment (get_or found k d), (at.1, kind), inr l))
        | inr l ↦ l
      ];
  below = λ k d w.
      let at = list.members k d w in
      let kind = has-kind (segment (get_or found k d)) (list.solid k d w) in
      elim (cases_lt (2 ^ 32) ((get_or found k d).address + (get_or found k d).in_memory)) as
      (λ _. (get_or found k d).address + (get_or found k d).in_memory ≤ 2 ^ 32) [
        | inl l ↦ absurd (range (at.0, segment (get_or found k d), (at.1, kind), l))
        | inr l ↦ l
      ];
}

pub overlap_fault : (file : List ℕ) (found : List ProgramHeader) → IsListed file found → (a : ℕ) × (2 ≤ layers a found) → FileFaultApplies file SegmentsOverlap
overlap_fault file found list two =
    let a = two.0 in
    let more : 2 ≤ count_by (covers a) (segments file) = subst (λ n. 2 ≤ n) (list.layered a) two.1 in
    let both = two_pass (covers a) (segments file) more in
    let s = covers_from a both.2 both.7 in
    let t = covers_from a both.3 both.8 in
    (both.0, both.1, a, both.2, both.3, (both.4, s.0), (both.5, t.0), both.6, s.1, s.2, t.1, t.2)

-- segments that stand apart cover an address once
pub apart_once : (found : List ProgramHeader) (a : ℕ) → IsApart found → layers a found ≤ 1
apart_once found a apart =
    elim (cases_lt 1 (layers a found)) as (λ _. layers a found ≤ 1) [
      | inl l ↦
          let both = two_pass (λ h. covers a (segment h)) found l in
          let s = covers_from a (segment both.2) both.7 in
          let t = covers_from a (segment both.3) both.8 in
          let within = slice_get_within found both.1 both.3 both.5 in
          let gap = apart both.0 both.1 both.2 both.6 within in
          let first : get_or found both.0 both.2 ≡ both.2 = get_or_from_slice_get found both.0 both.2 both.2 both.4 in
          let second : get_or found both.1 both.2 ≡ both.3 = get_or_from_slice_get found both.1 both.3 both.2 both.5 in
          let end : (get_or found both.0 both.2).address + (get_or found both.0 both.2).in_memory ≡ both.2.address + both.2.in_memory =
          ap (λ (h : ProgramHeader). h.address + h.in_memory) first in
          let start : (get_or found both.1 both.2).address ≡ both.3.address = ap (λ (h : ProgramHeader). h.address) second in
          let high : a < both.2.address + both.2.in_memory = s.2 in
          let low : both.3.address ≤ a = t.1 in
          absurd (omega arith)
      | inr l ↦ l
    ]

pub no_overlap : (file : List ℕ) (found : List ProgramHeader) → IsListed file found → IsApart found
    → ¬ FileFaultApplies file SegmentsOverlap
no_overlap file found list apart o =
    let i = o.0 in
    let j = o.1 in
    let a = o.2 in
    let s = o.3 in
    let t = o.4 in
    let two = count_two (covers a) (segments file) i j s t o.5.0 o.6.0 o.7 (covers_in a s o.5.1 o.8 o.9) (covers_in a t o.6.1 o.10 o.11) in
    let once = apart_once found a apart in
    let same = list.layered a in
    omega arith

-- what the file loads where a segment covers the address
pub found_some : (file : List ℕ) (found : List ProgramHeader) (a k : ℕ) (h : ProgramHeader) → IsTied file found
    → k < length found → get_or found k h ≡ h → covers a (segment h) ≡ true → find (covers a) (segments file) ≡ Some (segment h)
found_some file found a k h tie within at over =
    let place : (i : ℕ) × (slice_get (segments file) i ≡ Some (segment h)) =
    subst (λ (x : ProgramHeader). (i : ℕ) × (slice_get (segments file) i ≡ Some (segment x))) at (tie.listed.members k h within) in
    let once = apart_once found a tie.apart in
    let same = tie.listed.layered a in
    let few : count_by (covers a) (segments file) ≤ 1 = omega arith in
    found_only (covers a) (segments file) place.0 (segment h) few place.1 over

pub loaded_some : (file : List ℕ) (found : List ProgramHeader) (a k : ℕ) (h : ProgramHeader) → IsTied file found
    → k < length found → get_or found k h ≡ h → covers a (segment h) ≡ true → loaded file a ≡ Some (cell file a (segment h))
loaded_some file found a k h tie within at over = ap (cell_in file a) (found_some file found a k h tie within at over)

pub loaded_none : (file : List ℕ) (found : List ProgramHeader) (a : ℕ) → IsTied file found → layers a found ≡ 0 → loaded file a ≡ None
loaded_none file found a tie none =
    ap (cell_in file a) (found_none (covers a) (segments file) (sym (tie.listed.layered a) ∙ none))

-- a byte of the file, and one behind the file's part of a segment
pub byte_in_file : (file : List ℕ) (found : List ProgramHeader) (a : ℕ) (h : ProgramHeader) → IsTied file found
    → Contains found h × (covers a (segment h) ≡ true) → a - h.address < h.in_file → Some (get_or file (h.offset + (a - h.address)) 0) ≡ byte_at file a
byte_in_file file found a h tie over less =
    sym (ap byte_in (loaded_some file found a over.0.0 h tie over.0.1 over.0.2 over.1)
    ∙ ap (λ b. Some (cond b (get_or file (h.offset + (a - h.address)) 0) 0)) (lt-ltb (a - h.address) h.in_file less))

pub byte_behind_file : (file : List ℕ) (found : List ProgramHeader) (a : ℕ) (h : ProgramHeader) → IsTied file found
    → Contains found h × (covers a (segment h) ≡ true) → h.in_file ≤ a - h.address → Some 0 ≡ byte_at file a
byte_behind_file file found a h tie over more =
    sym (ap byte_in (loaded_some file found a over.0.0 h tie over.0.1 over.0.2 over.1)
    ∙ ap (λ b. Some (cond b (get_or file (h.offset + (a - h.address)) 0) 0)) (le-ltb (a - h.address) h.in_file more))

-- the flags of the segment, and whether its bytes are kept
pub flags_some : (file : List ℕ) (found : List ProgramHeader) (a : ℕ) (h : ProgramHeader) → IsTied file found
    → Contains found h × (covers a (segment h) ≡ true) → flags_at file a ≡ h.flags
flags_some file found a h tie over = ap flags_in (loaded_some file found a over.0.0 h tie over.0.1 over.0.2 over.1)

pub kept_some : (file : List ℕ) (found : List ProgramHeader) (a : ℕ) (h : ProgramHeader) → IsTied file found
    → Contains found h × (covers a (segment h) ≡ true) → kept_at file a ≡ keeps h.flags
kept_some file found a h tie over = ap is_kept (loaded_some file found a over.0.0 h tie over.0.1 over.0.2 over.1)

-- the kept addresses are those of kept segments
pub kept_by : (file : List ℕ) (found : List ProgramHeader) (a : ℕ) → IsTied file found → (kept_at file a ≡ true) ↔ IsKeptBelow found (length found) a
kept_by file found a tie = (
  (λ is. elim (cases_lt 0 (layers a found)) as (λ _. IsKeptBelow found (length found) a) [
    | inl l ↦
        let one = one_passes (λ h. covers a (segment h)) found l in
        let within = slice_get_within found one.0 one.1 one.2 in
        let at = get_or_from_slice_get found one.0 one.1 one.1 one.2 in
        (one.0, one.1, within, one.2, one.3, sym (kept_some file found a one.1 tie ((one.0, within, at), one.3)) ∙ is)
    | inr l ↦
        let none : layers a found ≡ 0 = omega arith in
        let gone : kept_at file a ≡ false = ap is_kept (loaded_none file found a tie none) in
        absurd (cc (gone, is))
  ]),
  (λ k.
      let at = get_or_from_slice_get found k.0 k.1 k.1 k.3 in
      kept_some file found a k.1 tie ((k.0, k.2, at), k.4) ∙ k.5),
)

-- the runs of all segments are those of the file
pub runs_of_file : (file : List ℕ) (found : List ProgramHeader) (runs : List (ℕ × ℕ)) → IsTied file found → IsRunsTo found (length found) runs
    → IsKeptRuns file runs
runs_of_file file found runs tie r = record {
  filled = r.filled;
  apart = r.apart;
  exact = λ a. ((λ k. (r.exact a).0 ((kept_by file found a tie).0 k)), (λ i. (kept_by file found a tie).1 ((r.exact a).1 i)));
}
