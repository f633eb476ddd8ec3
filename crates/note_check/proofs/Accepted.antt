-- What is known of a file that is an image.
use Rattle.std.proofs.Common.{◌≡◌, ℕ, ◌+◌, ◌*◌, ◌/◌, ◌≤◌, ◌<◌, ◌^◌, List, length, arith, inl, inr}
use Rattle.std.proofs.lemmas.Bool.{cases_lt}
use Rattle.bilv_spec.specs.Elf.{field}
use Rattle.bilv_spec.specs.ElfFaults.{section, section_count, HasSections, IsImage, IsSymbols, ShortFile, BadHeaderTable, BadSegmentRange, BadSymbolTable}
use Rattle.elf32_reader.specs.Loads.{header}
use Rattle.elf32_reader.specs.Symbols.{IsReadable}
use Rattle.elf32_reader.proofs.Headers.{range_fault}
use Rattle.elf32_reader.proofs.Least.{accepted_table}
use Rattle.note_check.specs.Options.{symbol_place}

-- it has a header
pub has_header : (file : List ℕ) → IsImage file → 52 ≤ length file
has_header file is = elim (cases_lt (length file) 52) as (λ _. 52 ≤ length file) [ inl l ↦ absurd (is ShortFile l) | inr l ↦ l ]

-- it has its program headers
pub has_segments : (file : List ℕ) → IsImage file → field file 4 28 + 32 * field file 2 44 ≤ length file
has_segments file is =
    elim (cases_lt (length file) (field file 4 28 + 32 * field file 2 44)) as (λ _. field file 4 28 + 32 * field file 2 44 ≤ length file) [
      | inl l ↦ absurd (is BadHeaderTable (inr (inr l)))
      | inr l ↦ l
    ]

pub has_segment : (file : List ℕ) (i : ℕ) → IsImage file → i < field file 2 44 → field file 4 28 + 32 * i + 32 ≤ length file
has_segment file i is w = let h = has_segments file is in omega arith

-- its loaded segments end at or before 2^32
pub ends_within : (file : List ℕ) (i : ℕ) → IsImage file → i < field file 2 44 → (header file i).kind ≡ 1 →
    (header file i).address + (header file i).in_memory ≤ 2 ^ 32
ends_within file i is w kind =
    elim (cases_lt (2 ^ 32) ((header file i).address + (header file i).in_memory)) as (λ _. (header file i).address + (header file i).in_memory ≤ 2 ^ 32) [
      | inl l ↦ absurd (is BadSegmentRange (range_fault file i w kind l))
      | inr l ↦ l
    ]

-- it has its section headers
pub has_sections : (file : List ℕ) → IsImage file → HasSections file → field file 4 32 + 40 * section_count file ≤ length file
has_sections file is has =
    elim (cases_lt (length file) (field file 4 32 + 40 * section_count file)) as (λ _. field file 4 32 + 40 * section_count file ≤ length file) [
      | inl l ↦ absurd (is BadSymbolTable (has, inr (inl l)))
      | inr l ↦ l
    ]

pub has_section : (file : List ℕ) (i : ℕ) → IsImage file → HasSections file → i < section_count file → field file 4 32 + 40 * i + 40 ≤ length file
has_section file i is has w = let h = has_sections file is has in omega arith

-- its symbol tables lie in it, and their names
pub readable : (file : List ℕ) (i : ℕ) → IsImage file → IsSymbols file i → IsReadable file i
readable file i is table = accepted_table file i (is BadSymbolTable) table

pub has_symbol : (file : List ℕ) (i k : ℕ) → IsImage file → IsSymbols file i → 16 * k < (section file i).size → symbol_place file i k + 16 ≤ length file
has_symbol file i k is table w =
    let r = readable file i is table in
    let symbols = r.symbols in
    let m : ℕ = r.whole.0 in
    let whole : (section file i).size ≡ 16 * m = r.whole.1 in
    omega arith

-- a symbol's number is below the count of its table
pub symbol_below : (file : List ℕ) (i k : ℕ) → IsImage file → IsSymbols file i → 16 * k < (section file i).size → k < (section file i).size / 16
symbol_below file i k is table w =
    let r = readable file i is table in
    let m : ℕ = r.whole.0 in
    let whole : (section file i).size ≡ 16 * m = r.whole.1 in
    omega arith

pub symbol_within : (file : List ℕ) (i k : ℕ) → k < (section file i).size / 16 → 16 * k < (section file i).size
symbol_within file i k w = omega arith
