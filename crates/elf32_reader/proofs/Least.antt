-- The two least addresses, and the symbols that were seen.
use Rattle.std.proofs.Common.{◌≡◌, ◌≢◌, ℕ, ◌+◌, ◌*◌, ◌/◌, ◌%◌, ◌≤◌, ◌<◌, ◌⊎◌, Bool, List, length, refl, sym, ◌∙◌, subst, arith, inl, inr}
use Rattle.bilv_spec.specs.Elf.{field}
use Rattle.bilv_spec.specs.ElfFaults.{section, section_count, HasSections, IsSymbols, IsBadSymbols, IsFunction, IsFunctionSymbol, FileFaultApplies, BadSymbolTable}
use Rattle.std.proofs.lemmas.Bool.{cases_lt}
use Rattle.std.proofs.Math.Nat.{eq-or-lt_of_le}
use Rattle.elf32_reader.specs.Symbols.{IsReadable, IsSeen, IsLeast, Adds}
use Rattle.elf32_reader.specs.declared.symbols.Found.{Found}
use Rattle.elf32_reader.specs.declared.symbols.Found.TheVariants.{Nothing, One, Several}

-- the least of equal properties are the same
pub least_same : (P Q : ℕ → Type 0) → ((a : ℕ) → P a → Q a) → ((a : ℕ) → Q a → P a) → (f : Found) → IsLeast P f → IsLeast Q f
least_same P Q to from Nothing h = λ a q. h a (from a q)
least_same P Q to from (One a) h = (to a h.0, λ b q. h.1 b (from b q))
least_same P Q to from (Several a b) h = (to a h.0, to b h.1, h.2, λ c q. h.3 c (from c q))

order : (a b : ℕ) → (a < b) ⊎ ((a ≡ b) ⊎ (b < a))
order a b = elim (cases_lt a b) as (λ _. (a < b) ⊎ ((a ≡ b) ⊎ (b < a))) [
  | inl h ↦ inl h
  | inr h ↦ elim (eq-or-lt_of_le h) as (λ _. (a < b) ⊎ ((a ≡ b) ⊎ (b < a))) [ inl e ↦ inr (inl (sym e)) | inr l ↦ inr (inr l) ]
]

-- one address more
pub least_adds : (P : ℕ → Type 0) (f : Found) (a : ℕ) (g : Found) → IsLeast P f → Adds f a g → IsLeast (λ c. P c ⊎ (c ≡ a)) g
least_adds P Nothing a g h adds =
    subst (IsLeast (λ c. P c ⊎ (c ≡ a))) (sym adds)
    (inr refl, λ b q. elim q as (λ _. b ≡ a) [ inl p ↦ absurd (h b p) | inr e ↦ e ])
least_adds P (One b) a g h adds =
    elim (order a b) as (λ _. IsLeast (λ c. P c ⊎ (c ≡ a)) g) [
      | inl less ↦ subst (IsLeast (λ c. P c ⊎ (c ≡ a))) (sym (adds.1 less))
          (inr refl, inl h.0, less, λ c q. elim q as (λ _. (c ≡ a) ⊎ (b ≤ c)) [ inl p ↦ let e : c ≡ b = h.1 c p in inr (omega arith) | inr e ↦ inl e ])
      | inr rest ↦ elim rest as (λ _. IsLeast (λ c. P c ⊎ (c ≡ a)) g) [
        | inl same ↦ subst (IsLeast (λ c. P c ⊎ (c ≡ a))) (sym (adds.0 same))
            (inl h.0, λ c q. elim q as (λ _. c ≡ b) [ inl p ↦ h.1 c p | inr e ↦ e ∙ same ])
        | inr more ↦ subst (IsLeast (λ c. P c ⊎ (c ≡ a))) (sym (adds.2 more))
            (inl h.0, inr refl, more, λ c q. elim q as (λ _. (c ≡ b) ⊎ (a ≤ c)) [ inl p ↦ inl (h.1 c p) | inr e ↦ inr (omega arith) ])
      ]
    ]
least_adds P (Several b d) a g h adds =
    let up : b < d = h.2 in
    elim (order a b) as (λ _. IsLeast (λ c. P c ⊎ (c ≡ a)) g) [
      | inl less ↦ subst (IsLeast (λ c. P c ⊎ (c ≡ a))) (sym (adds.1 less)) (
        inr refl,
        inl h.0,
        less,
        λ c q. elim q as (λ _. (c ≡ a) ⊎ (b ≤ c)) [
          | inl p ↦ elim (h.3 c p) as (λ _. (c ≡ a) ⊎ (b ≤ c)) [ inl e ↦ inr (omega arith) | inr l ↦ inr (omega arith) ]
          | inr e ↦ inl e
        ],
      )
      | inr rest ↦ elim rest as (λ _. IsLeast (λ c. P c ⊎ (c ≡ a)) g) [
        | inl same ↦ subst (IsLeast (λ c. P c ⊎ (c ≡ a))) (sym (adds.0 same))
            (inl h.0, inl h.1, up, λ c q. elim q as (λ _. (c ≡ b) ⊎ (d ≤ c)) [ inl p ↦ h.3 c p | inr e ↦ inl (e ∙ same) ])
        | inr more ↦ elim (cases_lt a d) as (λ _. IsLeast (λ c. P c ⊎ (c ≡ a)) g) [
          | inl less ↦ subst (IsLeast (λ c. P c ⊎ (c ≡ a))) (sym (adds.2 more less)) (
            inl h.0,
            inr refl,
            more,
            λ c q. elim q as (λ _. (c ≡ b) ⊎ (a ≤ c)) [
              | inl p ↦ elim (h.3 c p) as (λ _. (c ≡ b) ⊎ (a ≤ c)) [ inl e ↦ inl e | inr l ↦ inr (omega arith) ]
              | inr e ↦ inr (omega arith)
            ],
          )
          | inr high ↦ subst (IsLeast (λ c. P c ⊎ (c ≡ a))) (sym (adds.3 more high))
              (inl h.0, inl h.1, up, λ c q. elim q as (λ _. (c ≡ b) ⊎ (d ≤ c)) [ inl p ↦ h.3 c p | inr e ↦ inr (omega arith) ])
        ]
      ]
    ]

-- before the first symbol none was seen
pub seen_none : (narrow : Bool) (file name : List ℕ) (f : Found) → f ≡ Nothing → IsLeast (IsSeen narrow file name 0 0) f
seen_none narrow file name f e =
    subst (IsLeast (IsSeen narrow file name 0 0)) (sym e)
    (λ a s. elim s.4 as (λ _. ⊥) [ inl l ↦ absurd (omega arith) | inr x ↦ let l : s.1 < 0 = x.1 in absurd (omega arith) ])

-- one symbol more, which is the function at an address
pub seen_one : (narrow : Bool) (file name : List ℕ) (i k a : ℕ) (f g : Found) → IsSymbols file i → 16 * k < (section file i).size
    → IsFunctionSymbol narrow file i k name a → IsLeast (IsSeen narrow file name i k) f → Adds f a g → IsLeast (IsSeen narrow file name i (k + 1)) g
seen_one narrow file name i k a f g table within is least adds =
    least_same (λ c. IsSeen narrow file name i k c ⊎ (c ≡ a)) (IsSeen narrow file name i (k + 1))
    (λ c q. elim q as (λ _. IsSeen narrow file name i (k + 1) c) [
      | inl s ↦ (
        s.0,
        s.1,
        s.2,
        s.3,
        elim s.4 as (λ _. (s.0 < i) ⊎ ((s.0 ≡ i) ×
            (s.1 < k + 1))) [ inl l ↦ inl l | inr x ↦ inr (x.0, let l : s.1 < k = x.1 in omega arith) ],
        s.5,
      )
      | inr e ↦ (i, k, table, within, inr (refl, omega arith), subst (IsFunctionSymbol narrow file i k name) (sym e) is)
    ])
    (λ c s. elim s.4 as (λ _. IsSeen narrow file name i k c ⊎ (c ≡ a)) [
      | inl l ↦ inl (s.0, s.1, s.2, s.3, inl l, s.5)
      | inr x ↦
          let low : s.1 < k + 1 = x.1 in
          elim (cases_lt s.1 k) as (λ _. IsSeen narrow file name i k c ⊎ (c ≡ a)) [
            | inl l ↦ inl (s.0, s.1, s.2, s.3, inr (x.0, l), s.5)
            | inr l ↦
                let same : s.1 ≡ k = omega arith in
                let there : IsFunctionSymbol narrow file i k name c = subst
                (λ m. IsFunctionSymbol narrow file i m name c) same (subst (λ j. IsFunctionSymbol narrow file j s.1 name c) x.0 s.5) in
                inr (sym there.1 ∙ is.1)
          ]
    ])
    g (least_adds (IsSeen narrow file name i k) f a g least adds)

-- one symbol more, which is not the function
pub seen_other : (narrow : Bool) (file name : List ℕ) (i k : ℕ) (f : Found)
    → ((a : ℕ) → ¬ IsFunctionSymbol narrow file i k name a) → IsLeast (IsSeen narrow file name i k) f → IsLeast (IsSeen narrow file name i (k + 1)) f
seen_other narrow file name i k f none least =
    least_same (IsSeen narrow file name i k) (IsSeen narrow file name i (k + 1))
    (λ c s. (
      s.0,
      s.1,
      s.2,
      s.3,
      elim s.4 as (λ _. (s.0 < i) ⊎ ((s.0 ≡ i) ×
          (s.1 < k + 1))) [ inl l ↦ inl l | inr x ↦ inr (x.0, let l : s.1 < k = x.1 in omega arith) ],
      s.5,
    ))
    (λ c s. elim s.4 as (λ _. IsSeen narrow file name i k c) [
      | inl l ↦ (s.0, s.1, s.2, s.3, inl l, s.5)
      | inr x ↦
          let low : s.1 < k + 1 = x.1 in
          elim (cases_lt s.1 k) as (λ _. IsSeen narrow file name i k c) [
            | inl l ↦ (s.0, s.1, s.2, s.3, inr (x.0, l), s.5)
            | inr l ↦
                let same : s.1 ≡ k = omega arith in
                absurd (none c (subst (λ m. IsFunctionSymbol narrow file i m name c) same (subst (λ j. IsFunctionSymbol narrow file j s.1 name c) x.0 s.5)))
          ]
    ])
    f least

-- the symbols of a section are those of the next before its first
pub seen_table : (narrow : Bool) (file name : List ℕ) (i m : ℕ) (f : Found) → (section file i).size ≤ 16 * m
    → IsLeast (IsSeen narrow file name i m) f → IsLeast (IsSeen narrow file name (i + 1) 0) f
seen_table narrow file name i m f size least =
    least_same (IsSeen narrow file name i m) (IsSeen narrow file name (i + 1) 0)
    (λ c s. (s.0, s.1, s.2, s.3, inl (elim s.4 as (λ _. s.0 < i + 1) [ inl l ↦ omega arith | inr x ↦ let e : s.0 ≡ i = x.0 in omega arith ]), s.5))
    (λ c s.
    let low : s.0 < i + 1 = elim s.4 as (λ _. s.0 < i + 1) [ inl l ↦ l | inr x ↦ let z : s.1 < 0 = x.1 in absurd (omega arith) ] in
    elim (cases_lt s.0 i) as (λ _. IsSeen narrow file name i m c) [
      | inl l ↦ (s.0, s.1, s.2, s.3, inl l, s.5)
      | inr l ↦
          let same : s.0 ≡ i = omega arith in
          let in_table : 16 * s.1 < (section file i).size = subst (λ j. 16 * s.1 < (section file j).size) same s.3 in
          (s.0, s.1, s.2, s.3, inr (same, omega arith), s.5)
    ])
    f least

-- a section that is no symbol table has no symbols
pub seen_skip : (narrow : Bool) (file name : List ℕ) (i : ℕ) (f : Found) → ((section file i).kind ≢ 2)
    → IsLeast (IsSeen narrow file name i 0) f → IsLeast (IsSeen narrow file name (i + 1) 0) f
seen_skip narrow file name i f other least =
    least_same (IsSeen narrow file name i 0) (IsSeen narrow file name (i + 1) 0)
    (λ c s. (s.0, s.1, s.2, s.3, inl (elim s.4 as (λ _. s.0 < i + 1) [ inl l ↦ omega arith | inr x ↦ let e : s.0 ≡ i = x.0 in omega arith ]), s.5))
    (λ c s.
    let low : s.0 < i + 1 = elim s.4 as (λ _. s.0 < i + 1) [ inl l ↦ l | inr x ↦ let z : s.1 < 0 = x.1 in absurd (omega arith) ] in
    elim (cases_lt s.0 i) as (λ _. IsSeen narrow file name i 0 c) [
      | inl l ↦ (s.0, s.1, s.2, s.3, inl l, s.5)
      | inr l ↦
          let same : s.0 ≡ i = omega arith in
          absurd (other (subst (λ j. (section file j).kind ≡ 2) same s.2.2))
    ])
    f least

-- the symbols of all sections
pub seen_all : (narrow : Bool) (file name : List ℕ) (n : ℕ) (f : Found) → n ≡ section_count file
    → IsLeast (IsSeen narrow file name n 0) f → IsLeast (IsFunction narrow file name) f
seen_all narrow file name n f e least =
    least_same (IsSeen narrow file name n 0) (IsFunction narrow file name)
    (λ c s. (s.0, s.1, s.2, s.3, s.5))
    (λ c s. (s.0, s.1, s.2, s.3, inl (subst (λ k. s.0 < k) (sym e) s.2.1), s.4))
    f least

-- without sections there is no symbol
pub no_sections : (narrow : Bool) (file name : List ℕ) → (field file 4 32 ≡ 0) ⊎ (section_count file ≡ 0) → IsLeast (IsFunction narrow file name) Nothing
no_sections narrow file name none a s =
    elim none as (λ _. ⊥) [ inl e ↦ s.2.0.0 e | inr e ↦ s.2.0.1 e ]

-- what an accepted file's tables are
stable : (a b : ℕ) → ((a ≢ b) → ⊥) → a ≡ b
stable a b h = elim (order a b) as (λ _. a ≡ b) [
  | inl l ↦ absurd (h (λ e. omega arith))
  | inr rest ↦ elim rest as (λ _. a ≡ b) [ inl e ↦ e | inr l ↦ absurd (h (λ e. omega arith)) ]
]

stable_le : (a b : ℕ) → ((b < a) → ⊥) → a ≤ b
stable_le a b h = elim (cases_lt b a) as (λ _. a ≤ b) [ inl l ↦ absurd (h l) | inr l ↦ l ]

pub accepted_room : (file : List ℕ) → ¬ FileFaultApplies file BadSymbolTable → HasSections file
    → field file 4 32 + 40 * section_count file ≤ length file
accepted_room file good has = stable_le (field file 4 32 + 40 * section_count file) (length file) (λ l. good (has, inr (inl l)))

pub accepted_table : (file : List ℕ) (i : ℕ) → ¬ FileFaultApplies file BadSymbolTable → IsSymbols file i → IsReadable file i
accepted_table file i good table =
    let fine : ¬ IsBadSymbols file i = λ bad. good (table.0, inr (inr (i, table, bad))) in
    let whole : (section file i).size % 16 ≡ 0 = stable ((section file i).size % 16) 0 (λ e. fine (inr (inl e))) in
    record {
      whole = ((section file i).size / 16, omega arith);
      symbols = stable_le ((section file i).offset + (section file i).size) (length file) (λ l. fine (inr (inr (inl l))));
      link = elim (cases_lt (section file i).link (section_count file)) as (λ _. (section file i).link < section_count file) [
        | inl l ↦ l
        | inr l ↦ absurd (fine (inr (inr (inr (inl l)))))
      ];
      names = stable_le ((section file (section file i).link).offset + (section file (section file i).link).size) (length file)
          (λ l. fine (inr (inr (inr (inr (inr (inl l)))))));
    }
