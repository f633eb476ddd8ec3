-- Tables of symbols and of names.
use Rattle.std.proofs.Common.{◌≡◌, ◌≢◌, ℕ, zero, suc, ◌+◌, ◌-◌, ◌*◌, ◌/◌, ◌%◌, ◌≤◌, ◌<◌, List, [], ◌∷◌, length, get_or, take, drop, refl, ap, sym, ◌∙◌, subst, arith, inl, inr, get_or-drop, get_or-take, length-take, length-drop, Bool, true, false}
use Rattle.std.specs.Bool.{MatchBool}
use Rattle.elf32_reader.specs.declared.symbols.SectionHeader.{SectionHeader}
use Rattle.bilv_spec.specs.Elf.{field}
use Rattle.bilv_spec.specs.ElfFaults.{Section, section, section_count, IsBadSymbols, IsName, FileFaultApplies, BadSymbolTable}
use Rattle.elf32_reader.specs.Symbols.{IsHeader, IsNamed, IsUnnamed, IsReadable}

before : (x : ℕ) (xs : List ℕ) (n : ℕ) → ((i : ℕ) → i < n → get_or xs i 0 ≢ 0) → (i : ℕ) → i < suc n → get_or (suc x ∷ xs) i 0 ≢ 0
before x xs n h zero w = λ e. omega (arith, e)
before x xs n h (suc i) w = h i (omega arith)

-- the first zero of a list that has one
first_zero : (xs : List ℕ) (m : ℕ) → m < length xs → get_or xs m 0 ≡ 0
    → (n : ℕ) × (n ≤ m) × (get_or xs n 0 ≡ 0) × ((i : ℕ) → i < n → get_or xs i 0 ≢ 0)
first_zero [] m h z = absurd (omega arith)
first_zero (zero ∷ xs) m h z = (0, omega arith, refl, λ i w e. absurd (omega arith))
first_zero (suc x ∷ xs) zero h z = absurd (omega (arith, z))
first_zero (suc x ∷ xs) (suc m) h z =
    let rest = first_zero xs m (omega arith) z in
    (suc rest.0, (let low : rest.0 ≤ m = rest.1 in omega arith), rest.2, before x xs rest.0 rest.3)

-- the bytes up to a zero are a name
name_to : (file : List ℕ) (table : Section) (at n : ℕ) → at + n < table.size → n ≤ length (drop (table.offset + at) file)
    → get_or (drop (table.offset + at) file) n 0 ≡ 0 → ((i : ℕ) → i < n → get_or (drop (table.offset + at) file) i 0 ≢ 0)
    → (name : List ℕ) × IsName file table at name
name_to file table at n inside room nul nonzero =
    let rest = drop (table.offset + at) file in
    let size : length (take n rest) ≡ n = simp length-take (omega arith) in
    let ends : get_or file (table.offset + at + n) 0 ≡ 0 = (rw get_or-drop at nul) in (
      take n rest,
      (
        subst (λ l. at + l < table.size) (sym size) inside,
        ap (λ l. take l rest) size,
        subst (λ l. get_or file (table.offset + at + l) 0 ≡ 0) (sym size) ends,
        λ i w e.
            let less : i < n = subst (λ l. i < l) size w in
            nonzero i less (sym (get_or-take n rest i 0 less) ∙ e),
      ),
    )

-- a zero at or behind an offset ends a name there
pub name_at : (file : List ℕ) (table : Section) (at j : ℕ) → table.offset + table.size ≤ length file → at ≤ j → j < table.size
    → get_or file (table.offset + j) 0 ≡ 0 → (name : List ℕ) × IsName file table at name
name_at file table at j room low high z =
    let rest = drop (table.offset + at) file in
    let there : table.offset + at + (j - at) ≡ table.offset + j = omega arith in
    let span = length-drop (table.offset + at) file in
    let nul : get_or rest (j - at) 0 ≡ 0 = rw get_or-drop (ap (λ n. get_or file n 0) there ∙ z) in
    let found = first_zero rest (j - at) (omega arith) nul in
    let below : found.0 ≤ j - at = found.1 in
    name_to file table at found.0 (omega arith) (omega arith) found.2 found.3

-- behind the last zero no name ends
pub no_name : (file : List ℕ) (table : Section) (at end : ℕ) → end ≤ at
    → ((j : ℕ) → end ≤ j → j < table.size → get_or file (table.offset + j) 0 ≢ 0) → (name : List ℕ) → ¬ IsName file table at name
no_name file table at end low nonzero name is =
    let inside : at + length name < table.size = is.0 in
    let there : table.offset + at + length name ≡ table.offset + (at + length name) = omega arith in
    nonzero (at + length name) (omega arith) inside (ap (λ n. get_or file n 0) (sym there) ∙ is.2)

-- what the headers that were read say of the table of names
module _ (file : List ℕ) (i : ℕ) (s t : SectionHeader) (hs : IsHeader file i s) (ht : IsHeader file s.link t) where
  names_size : t.size ≡ (section file (section file i).link).size
  names_size = ht.size ∙ ap (λ l. (section file l).size) hs.link

  names_offset : t.offset ≡ (section file (section file i).link).offset
  names_offset = ht.offset ∙ ap (λ l. (section file l).offset) hs.link

  pub names_kind : t.kind ≡ (section file (section file i).link).kind
  names_kind = ht.kind ∙ ap (λ l. (section file l).kind) hs.link

  -- a symbol whose name begins behind the last zero
  pub unnamed_at : (k end : ℕ) → 16 * k < s.size → end ≤ field file 4 (s.offset + 16 * k)
      → ((j : ℕ) → end ≤ j → j < t.size → get_or file (t.offset + j) 0 ≢ 0) → IsUnnamed file i
  unnamed_at k end within low nonzero = (
    k,
    subst (λ n. 16 * k < n) hs.size within,
    no_name file (section file (section file i).link) (field file 4 ((section file i).offset + 16 * k)) end
        (subst (λ o. end ≤ field file 4 (o + 16 * k)) hs.offset low)
        (λ j l h e. nonzero j l (subst (λ n. j < n) (sym names_size) h) (ap (λ o. get_or file (o + j) 0) names_offset ∙ e)),
  )

  -- each name begins before the last zero
  pub all_named : (end : ℕ) → IsReadable file i → end ≤ t.size → (0 < end → get_or file (t.offset + (end - 1)) 0 ≡ 0)
      → ((k : ℕ) → 16 * k < s.size → field file 4 ((section file i).offset + 16 * k) < end) → IsNamed file i
  all_named end readable room ended below k within =
      let low : field file 4 ((section file i).offset + 16 * k) < end = below k (subst (λ n. 16 * k < n) (sym hs.size) within) in
      let z : get_or file (t.offset + (end - 1)) 0 ≡ 0 = ended (omega arith) in
      name_at file (section file (section file i).link) (field file 4 ((section file i).offset + 16 * k)) (end - 1) readable.names
      (omega arith)
      (subst (λ n. end - 1 < n) names_size (omega arith))
      (ap (λ o. get_or file (o + (end - 1)) 0) (sym names_offset) ∙ z)

  -- the table is readable
  pub readable : s.size % 16 ≡ 0 → s.offset + s.size ≤ length file → s.link < section_count file → t.offset + t.size ≤ length file
      → IsReadable file i
  readable whole symbols link names = record {
    whole = (s.size / 16, sym hs.size ∙ omega arith);
    symbols = subst (λ o. o + (section file i).size ≤ length file) hs.offset (subst (λ n. s.offset + n ≤ length file) hs.size symbols);
    link = subst (λ l. l < section_count file) hs.link link;
    names = subst (λ o. o + (section file (section file i).link).size ≤ length file) names_offset (subst (λ n. t.offset + n ≤ length file) names_size names);
  }

-- the last cause of a bad table
pub bad_by_names : (file : List ℕ) (i : ℕ) (b : Bool) → (section file i).entry_size ≡ 16 → IsReadable file i
    → (section file (section file i).link).kind ≡ 3 → MatchBool b (IsUnnamed file i) (IsNamed file i)
    → MatchBool b (IsBadSymbols file i) (¬ IsBadSymbols file i)
bad_by_names file i true entry r kind un = inr (inr (inr (inr (inr (inr un)))))
bad_by_names file i false entry r kind named = λ bad.
    let symbols : (section file i).offset + (section file i).size ≤ length file = r.symbols in
    let link : (section file i).link < section_count file = r.link in
    let names : (section file (section file i).link).offset + (section file (section file i).link).size ≤ length file = r.names in
    let whole : (section file i).size % 16 ≡ 0 = rw r.whole.1 (omega arith) in
    elim bad as (λ _. ⊥) [
      | inl x ↦ x entry
      | inr rest ↦ elim rest as (λ _. ⊥) [
        | inl x ↦ x whole
        | inr rest ↦ elim rest as (λ _. ⊥) [
          | inl x ↦ omega arith
          | inr rest ↦ elim rest as (λ _. ⊥) [
            | inl x ↦ omega arith
            | inr rest ↦ elim rest as (λ _. ⊥) [
              | inl x ↦ x kind
              | inr rest ↦ elim rest as (λ _. ⊥) [
                | inl x ↦ omega arith
                | inr x ↦ let it = named x.0 x.1 in x.2 it.0 it.1
              ]
            ]
          ]
        ]
      ]
    ]

pub no_bad_symbols : (file : List ℕ) → field file 2 46 ≡ 40 → field file 4 32 + 40 * section_count file ≤ length file
    → ((k : ℕ) → k < section_count file → (section file k).kind ≡ 2 → ¬ IsBadSymbols file k) → ¬ FileFaultApplies file BadSymbolTable
no_bad_symbols file entry room good bad =
    elim bad.1 as (λ _. ⊥) [
      | inl x ↦ x entry
      | inr rest ↦ elim rest as (λ _. ⊥) [
        | inl x ↦ omega arith
        | inr x ↦ good x.0 x.1.1 x.1.2 x.2
      ]
    ]

-- the parts of a name, at an offset and a size that the table's header gave
pub is_name : (file name : List ℕ) (table : Section) (offset size at : ℕ) → offset ≡ table.offset → size ≡ table.size
    → at + length name < size → take (length name) (drop (offset + at) file) ≡ name → get_or file (offset + at + length name) 0 ≡ 0
    → ((i : ℕ) → i < length name → get_or name i 0 ≢ 0) → IsName file table at name
is_name file name table offset size at same_offset same_size within text nul nonzero = (
  subst (λ n. at + length name < n) same_size within,
  subst (λ o. take (length name) (drop (o + at) file) ≡ name) same_offset text,
  subst (λ o. get_or file (o + at + length name) 0 ≡ 0) same_offset nul,
  nonzero,
)

pub not_name : (file name : List ℕ) (table : Section) (offset at : ℕ) → offset ≡ table.offset
    → take (length name) (drop (offset + at) file) ≢ name → ¬ IsName file table at name
not_name file name table offset at same other is =
    other (subst (λ o. take (length name) (drop (o + at) file) ≡ name) (sym same) is.1)
