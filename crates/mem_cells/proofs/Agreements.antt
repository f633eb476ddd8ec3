-- Agreements of base reads, one after another.
use Rattle.std.proofs.Common.{◌≡◌, ◌⊎◌, inl, inr, ℕ, zero, suc, ◌+◌, ◌-◌, ◌*◌, ◌<◌, ◌≤◌, ◌^◌, ◌==◌, Bool, true, false, List, [], ◌∷◌, ◌++◌, length, length-append, append-nil, get_or, refl, ap, sym, ◌∙◌, subst, arith}
use Rattle.std.specs.Prelude.{◌&&◌, slice_index, map, Contains}
use Rattle.term_dag.specs.declared.nodes.Term.{Term}
use Rattle.std.proofs.lemmas.Bool.{cases_lt}
use Rattle.std.proofs.lemmas.Bool.Decides.{nat_tests}
use Rattle.std.proofs.lemmas.List.{get_or_append_left}
use Rattle.term_dag.proofs.ListLaws.{last}
use Rattle.std.proofs.lemmas.List.Elements.{Contains-append_left, Contains-append_right, Contains-append_cases}
use Rattle.word_spec.specs.Words.{add, sub, bit}
use Rattle.term_spec.specs.Terms.{TermReading, HasWidth, term_word}
use Rattle.term_dag.proofs.Ranges.{word_fits}
use Rattle.mem_cells.specs.declared.building.Build.{Build}
use Rattle.mem_cells.specs.declared.cells.Agreement.{Agreement}
use Rattle.mem_cells.specs.declared.pieces.Split.{Split}
use Rattle.mem_cells.specs.Parts.{has_part, is_read, parts_at}
use Rattle.mem_cells.specs.Pieces.{IsSplit, lies_apart}
use Rattle.mem_cells.specs.Building.{read_places, IsBuilt, Grown, IsWord}
use Rattle.mem_cells.specs.Ties.{address_of, agreement, agreements_of, shared, sum_at, AreBothRead, AreSums, AreTies, Before}
use Rattle.mem_cells.proofs.Growing.{grown_word, grown_width, mapped_length}
use Rattle.mem_cells.proofs.Chains.{split_kept}
use Rattle.mem_cells.proofs.PartReads.{of_passed, passed_of, some_passed}

-- addresses stay as nodes are added
pub address_kept : (a b : Build) (g r : ℕ) (x : TermReading) (j : ℕ) → IsBuilt a → Grown a b g r → read_places b ≡ read_places a → j < length (read_places a) →
    address_of b x j ≡ address_of a x j
address_kept a b g r x j c p e l = ap (λ z. term_word x b.dag (slice_index z j)) e ∙ grown_word a b g r x (slice_index (read_places a) j) p (c.addresses j l).0

-- agreements stay as nodes are added
pub ties_kept : (a b : Build) (g r : ℕ) (parts : List (List ℕ)) (ts : List Agreement) (pairs : ℕ → ℕ → Type 0) → IsBuilt a → Grown a b g r →
    read_places b ≡ read_places a → ((i j : ℕ) → pairs i j → (i < length (read_places a)) × (j < length (read_places a))) → AreTies a parts ts pairs →
    AreTies b parts ts pairs
ties_kept a b g r parts ts pairs c p e within h = record {
  formed = λ t k. let f = h.formed t k in (grown_width a b g r 1 t.condition.0 p f.0, omega (arith, f.1, ap length e), omega (arith, f.2, ap length e));
  read = h.read;
  sound = λ x i t k o.
      let f = h.formed t k in
      address_kept a b g r x t.read c p e f.1 ∙ h.sound x i t k (sym (grown_word a b g r x t.condition.0 p f.0.0) ∙ o) ∙ sym
      (address_kept a b g r x t.other c p e f.2);
  complete = λ x i base q part m n s rm rn z.
      h.complete x i base (λ t k o. q t k (grown_word a b g r x t.condition.0 p (h.formed t k).0.0 ∙ o)) part m n s rm rn
      (sym (address_kept a b g r x m c p e (within m n s).0) ∙ z ∙ address_kept a b g r x n c p e (within m n s).1);
}

pub one_is : (a b : ℕ) → bit (a == b) ≡ 1 → a ≡ b
one_is a b h = grind (arith, nat_tests)

pub is_one : (a b : ℕ) → a ≡ b → bit (a == b) ≡ 1
is_one a b h = grind (arith, nat_tests)

-- what agreements of the parts of two addresses say
pub both_true : (a b : Bool) → (a && b) ≡ true → (a ≡ true) × (b ≡ true)
both_true true b e = (refl, e)
both_true false b e = absurd (cc)

pub and_true : (a b : Bool) → a ≡ true → b ≡ true → (a && b) ≡ true
and_true true b h e = e
and_true false b h e = absurd (cc)

-- one of the agreements of the parts of two addresses
pub record IsSaid (parts : List (List ℕ)) (t : Term) (i j : ℕ) (a : Agreement) : Type 0 where
  pub condition : a.condition ≡ t
  pub read : a.read ≡ i
  pub other : a.other ≡ j
  pub both : AreBothRead parts a

said_by : (parts : List (List ℕ)) (t : Term) (i j p : ℕ) (a : Agreement) → (is_read parts p i ≡ true) × (is_read parts p j ≡ true) → a ≡ agreement t p i j →
    IsSaid parts t i j a
said_by parts t i j p a h e = subst (IsSaid parts t i j) (sym e) (record { condition = refl; read = refl; other = refl; both = h })

pub said_of : (parts : List (List ℕ)) (t : Term) (i j : ℕ) (a : Agreement) →
    Contains (agreements_of (shared (parts_at parts i) (parts_at parts j)) t i j) a → IsSaid parts t i j a
said_of parts t i j a h =
    let o = passed_of Agreement (λ p. agreement t p i j) (has_part (parts_at parts j)) (parts_at parts i) a h in said_by parts t i j o.part a (o.inside, o.passes) o.is

said_for : (parts : List (List ℕ)) (t : Term) (i j p : ℕ) → is_read parts p i ≡ true → is_read parts p j ≡ true →
    Contains (agreements_of (shared (parts_at parts i) (parts_at parts j)) t i j) (agreement t p i j)
said_for parts t i j p h k = of_passed (λ q. agreement t q i j) (has_part (parts_at parts j)) (parts_at parts i) p h k

-- agreements of two addresses more
pub ties_next : (b : Build) (parts : List (List ℕ)) (ts : List Agreement) (pairs : ℕ → ℕ → Type 0) (t : Term) (i j : ℕ) → AreTies b parts ts pairs →
    i < length (read_places b) → j < length (read_places b) → IsWord b.dag 1 t.0 (λ x. bit (address_of b x i == address_of b x j)) →
    AreTies b parts (ts ++ agreements_of (shared (parts_at parts i) (parts_at parts j)) t i j) (λ m n. pairs m n ⊎ (m ≡ i) × (n ≡ j))
ties_next b parts ts pairs t i j h li lj w =
    let us = agreements_of (shared (parts_at parts i) (parts_at parts j)) t i j in
    record {
      formed = λ a k. elim (Contains-append_cases ts us a k) [
        | inl m ↦ h.formed a m
        | inr m ↦ (
            let e = said_of parts t i j a m in
            (subst (λ (z : Term). HasWidth b.dag 1 z.0) (sym e.condition) w.place, omega (arith, e.read, li), omega (arith, e.other, lj)))
      ];
      read = λ a k. elim (Contains-append_cases ts us a k) [ inl m ↦ h.read a m | inr m ↦ (said_of parts t i j a m).both ];
      sound = λ x r a k o. elim (Contains-append_cases ts us a k) [
        | inl m ↦ h.sound x r a m o
        | inr m ↦ (
            let e = said_of parts t i j a m in
            ap (address_of b x) e.read ∙ one_is (address_of b x i) (address_of b x j)
            (sym (w.value x r) ∙ ap (λ z. term_word x b.dag z.0) (sym e.condition) ∙ o)
            ∙ ap (address_of b x) (sym e.other))
      ];
      complete = λ x r base q p m n s rm rn z. elim s [
        | inl d ↦ h.complete x r base (λ a k. q a (Contains-append_left ts us a k)) p m n d rm rn z
        | inr d ↦ (
            let inside = said_for parts t i j p (ap (is_read parts p) (sym d.0) ∙ rm) (ap (is_read parts p) (sym d.1) ∙ rn) in
            ap (base p) d.0 ∙ q (agreement t p i j) (Contains-append_right ts us (agreement t p i j) inside)
            (w.value x r ∙ is_one (address_of b x i) (address_of b x j) (ap (address_of b x) (sym d.0) ∙ z ∙ ap (address_of b x) d.1)) ∙ ap (base p) (sym d.1))
      ];
    }

sums_differ : (b o s : ℕ) → b < 2 ^ 32 → o < 2 ^ 32 → s < 2 ^ 32 → 1 ≤ sub 32 o s → add 32 b o ≡ add 32 b s → ⊥
sums_differ b o s hb ho hs h e = absurd (omega (arith, hb, ho, hs, h, e))

apart_is : (p q : Split) → lies_apart p q 1 ≡ true → (p.base.0 ≡ q.base.0) × (1 ≤ sub 32 p.offset q.offset)
apart_is p q h = grind (arith, nat_tests)

-- two reads that are surely apart need none
pub ties_apart : (b : Build) (parts : List (List ℕ)) (ts : List Agreement) (pairs : ℕ → ℕ → Type 0) (sums : List Split) (i j : ℕ) → IsBuilt b → AreSums b sums →
    i < length (read_places b) → j < length (read_places b) →
    lies_apart (sum_at sums i) (sum_at sums j) 1 ≡ true → AreTies b parts ts pairs →
    AreTies b parts ts (λ m n. pairs m n ⊎ (m ≡ i) × (n ≡ j))
ties_apart b parts ts pairs sums i j c a li lj t h = record {
  formed = h.formed;
  read = h.read;
  sound = h.sound;
  complete = λ x r base q part m n s rm rn z. elim s [
    | inl p ↦ h.complete x r base q part m n p rm rn z
    | inr p ↦ (
        let d = apart_is (sum_at sums i) (sum_at sums j) t in
        let f = a i li in
        let g = a j lj in
        let y = term_word x b.dag (sum_at sums j).base.0 in
        let e : add 32 y (sum_at sums i).offset ≡ add 32 y (sum_at sums j).offset =
        ap (λ k. add 32 (term_word x b.dag k) (sum_at sums i).offset) (sym d.0) ∙ sym (f.value x r) ∙ ap (address_of b x) (sym p.0) ∙ z ∙ ap
        (address_of b x) p.1 ∙ g.value x r in
        absurd (sums_differ y (sum_at sums i).offset (sum_at sums j).offset
        (word_fits x b.dag 32 (sum_at sums j).base.0 r c.typed g.place) f.below g.below d.1 e))
  ];
}

-- fewer pairs
pub ties_fewer : (b : Build) (parts : List (List ℕ)) (ts : List Agreement) (ps qs : ℕ → ℕ → Type 0) → ((i j : ℕ) → qs i j → ps i j) → AreTies b parts ts ps →
    AreTies b parts ts qs
ties_fewer b parts ts ps qs f h = record {
  formed = h.formed;
  read = h.read;
  sound = h.sound;
  complete = λ x i base q part m n s rm rn z. h.complete x i base q part m n (f m n s) rm rn z;
}

-- two addresses at which no part is read need none
pub ties_unread : (b : Build) (parts : List (List ℕ)) (ts : List Agreement) (pairs : ℕ → ℕ → Type 0) (i j : ℕ) →
    ((p : ℕ) → is_read parts p i ≡ true → is_read parts p j ≡ true → ⊥) → AreTies b parts ts pairs →
    AreTies b parts ts (λ m n. pairs m n ⊎ (m ≡ i) × (n ≡ j))
ties_unread b parts ts pairs i j u h = record {
  formed = h.formed;
  read = h.read;
  sound = h.sound;
  complete = λ x r base q part m n s rm rn z. elim s [
    | inl p ↦ h.complete x r base q part m n p rm rn z
    | inr p ↦ absurd (u part (ap (is_read parts part) (sym p.0) ∙ rm) (ap (is_read parts part) (sym p.1) ∙ rn))
  ];
}

-- one pair more
pub one_pair : (other read i j : ℕ) → Before other (read + 1) i j → Before other read i j ⊎ (i ≡ read) × (j ≡ other)
one_pair other read i j (l, inl h) = inl (l, inl h)
one_pair other read i j (l, inr h) = elim (cases_lt i read) [ inl k ↦ inl (l, inr (h.0, k)) | inr k ↦ inr (let e : i ≡ read = omega (arith, h.1, k) in e, h.0) ]

-- a whole row
pub whole_row : (other i j : ℕ) → Before (other + 1) 0 i j → Before other other i j
whole_row other i j (l, inl h) = elim (cases_lt j other) [
  | inl k ↦ (l, inl k)
  | inr k ↦ (let e : j
      ≡ other = omega (arith, h, k) in (l, inr (e, omega (arith, e, l))))
]
whole_row other i j (l, inr h) = absurd (omega (arith, h.1))

pub pairs_within : (n other read : ℕ) → other < n → (i j : ℕ) → Before other read i j → (i < n) × (j < n)
pairs_within n other read l i j (k, inl h) = (omega (arith, l, k, h), omega (arith, l, h))
pairs_within n other read l i j (k, inr h) = (omega (arith, l, k, h.0), omega (arith, l, h.0))

no_rest : (ps rest qs : List ℕ) → qs ≡ ps ++ rest → length qs ≤ length ps + 0 → qs ≡ ps
no_rest ps [] qs e l = e ∙ append-nil ps
no_rest ps (x ∷ rest) qs e l = absurd (omega (arith, ap length e, length-append ps (x ∷ rest), l))

-- without reads the addresses stay the same
pub same_reads : (a b : Build) (g : ℕ) → Grown a b g 0 → read_places b ≡ read_places a
same_reads a b g p = no_rest (read_places a) p.more.0 (read_places b) p.more.1 p.reads

-- sums stay
pub sums_kept : (a b : Build) (g : ℕ) (sums : List Split) → IsBuilt a → Grown a b g 0 → AreSums a sums → AreSums b sums
sums_kept a b g sums c p h j l =
    let e = same_reads a b g p in
    let k : j < length (read_places a) = omega (arith, l, ap length e) in
    subst (λ (z : List ℕ). IsSplit b.dag (slice_index z j) (sum_at sums j).base.0 (sum_at sums j).offset) (sym e)
    (split_kept a b g 0 (slice_index (read_places a) j) (sum_at sums j).base.0 (sum_at sums j).offset p (c.addresses j k).0 (h j k))

-- a tie of two addresses
pub tied : (a b : Build) (g : ℕ) (parts : List (List ℕ)) (ts us : List Agreement) (t : Term) (r s : List ℕ) (left right other read : ℕ) → IsBuilt a →
    Grown a b g 0 → us ≡ ts ++ agreements_of (shared r s) t read other → r ≡ parts_at parts read → s ≡ parts_at parts other → read < other → other < length (read_places a) →
    left ≡ slice_index (read_places a) read → right ≡ slice_index (read_places a) other →
    IsWord b.dag 1 t.0 (λ x. bit (term_word x a.dag left == term_word x a.dag right)) →
    AreTies a parts ts (Before other read) → AreTies b parts us (Before other (read + 1))
tied a b g parts ts us t r q left right other read c p e er eq l lo hl hr w h =
    let s = same_reads a b g p in
    let lr : read < length (read_places a) = omega (arith, l, lo) in
    subst (λ (z : List Agreement). AreTies b parts z (Before other (read + 1))) (sym (e ∙ ap (λ z. ts ++ agreements_of (shared z q) t read other) er
    ∙ ap (λ z. ts ++ agreements_of (shared (parts_at parts read) z) t read other) eq))
    (ties_fewer b parts (ts ++ agreements_of (shared (parts_at parts read) (parts_at parts other)) t read other)
    (λ i j. Before other read i j ⊎ (i ≡ read) × (j ≡ other)) (Before other (read + 1)) (one_pair other read)
    (ties_next b parts ts (Before other read) t read other (ties_kept a b g 0 parts ts (Before other read) c p s (pairs_within _ other read lo) h)
    (omega (arith, lr, ap length s)) (omega (arith, lo, ap length s))
    (record {
      place = w.place;
      value = λ x i.
          w.value x i
          ∙ ap (λ z. bit (z == term_word x a.dag right)) (ap (term_word x a.dag) hl ∙ sym (address_kept a b g 0 x read c p s lr))
          ∙ ap (λ z. bit (address_of b x read == z)) (ap (term_word x a.dag) hr ∙ sym (address_kept a b g 0 x other c p s lo));
    })))

-- two addresses that are surely apart
pub untied : (a : Build) (parts : List (List ℕ)) (ts : List Agreement) (sums : List Split) (other read : ℕ) → IsBuilt a → AreSums a sums → read < other →
    other < length (read_places a) →
    lies_apart (sum_at sums read) (sum_at sums other) 1 ≡ true → AreTies a parts ts (Before other read) → AreTies a parts ts (Before other (read + 1))
untied a parts ts sums other read c s l lo t h =
    ties_fewer a parts ts (λ i j. Before other read i j ⊎ (i ≡ read) × (j ≡ other)) (Before other (read + 1)) (one_pair other read)
    (ties_apart a parts ts (Before other read) sums read other c s (omega (arith, l, lo)) lo t h)

-- two addresses without a part in common
pub unshared : (a : Build) (parts : List (List ℕ)) (ts : List Agreement) (r s : List ℕ) (other read : ℕ) → r ≡ parts_at parts read → s ≡ parts_at parts other →
    shared r s ≡ [] → AreTies a parts ts (Before other read) → AreTies a parts ts (Before other (read + 1))
unshared a parts ts r s other read er es n h =
    ties_fewer a parts ts (λ i j. Before other read i j ⊎ (i ≡ read) × (j ≡ other)) (Before other (read + 1)) (one_pair other read)
    (ties_unread a parts ts (Before other read) read other
    (λ p x y. some_passed (has_part s) r p n (ap (λ z. has_part z p) er ∙ x) (ap (λ z. has_part z p) es ∙ y)) h)

-- an address of a list of terms, by its place
pub mapped_at : (ts : List Term) (i : ℕ) (d : Term) → i < length ts → (get_or ts i d).0 ≡ slice_index (map (λ (z : Term). z.0) ts) i
mapped_at [] i d l = absurd (omega (arith, l))
mapped_at (t ∷ ts) zero d l = refl
mapped_at (t ∷ ts) (suc i) d l = mapped_at ts i d (omega (arith, l))

-- an address of a list of terms is a word of 32 bits
pub read_width : (b : Build) (i : ℕ) (t d : Term) → IsBuilt b → i < length b.addresses.items → t ≡ get_or b.addresses.items i d → HasWidth b.dag 32 t.0
read_width b i t d c l e =
    subst (HasWidth b.dag 32) (sym (ap (λ z. z.0) e ∙ mapped_at b.addresses.items i d l)) (c.addresses i (omega (arith, l, mapped_length b.addresses.items)))

-- one more sum
pub sum_next_of : (b : Build) (sums : List Split) (s : Split) (n t : ℕ) → length sums ≡ n → t ≡ slice_index (read_places b) n →
    IsSplit b.dag t s.base.0 s.offset →
    ((j : ℕ) → j < n → IsSplit b.dag (slice_index (read_places b) j) (sum_at sums j).base.0 (sum_at sums j).offset) →
    (j : ℕ) → j < n + 1 → IsSplit b.dag (slice_index (read_places b) j) (sum_at (sums ++ s ∷ []) j).base.0 (sum_at (sums ++ s ∷ []) j).offset
sum_next_of b sums s n t e f h g j l = elim (cases_lt j n) [
  | inl k ↦ subst (λ (z : Split). IsSplit b.dag (slice_index (read_places b) j) z.base.0 z.offset)
      (sym (get_or_append_left sums (s ∷ []) (record { base = record { 0 = 0 }; offset = 0 }) j (omega (arith, k, e)))) (g j k)
  | inr k ↦ (
      let q : j ≡ n = omega (arith, l, k) in
      subst (λ (z : Split). IsSplit b.dag (slice_index (read_places b) j) z.base.0 z.offset)
      (sym (ap (sum_at (sums ++ s ∷ [])) (q ∙ sym e) ∙ last sums s (record { base = record { 0 = 0 }; offset = 0 })))
      (subst (λ (z : ℕ). IsSplit b.dag z s.base.0 s.offset) (f ∙ ap (slice_index (read_places b)) (sym q)) h))
]

-- a row more of the equalities of a triangle
pub one_row_more : (j : ℕ) → 16 * (j * (j - 1)) + 32 * j ≡ 16 * ((j + 1) * (j + 1 - 1))
one_row_more zero = refl
one_row_more (suc j) =
    let p : suc j - 1 ≡ j = omega arith in
    let q : suc j + 1 - 1 ≡ suc j = omega arith in
    let e : 16 * (suc j * j) + 32 * suc j ≡ 16 * ((suc j + 1) * suc j) = grind arith in
    ap (λ z. 16 * (suc j * z) + 32 * suc j) p ∙ e ∙ ap (λ z. 16 * ((suc j + 1) * z)) (sym q)

-- no reads, no pairs
pub ties_none : (b : Build) (parts : List (List ℕ)) → AreTies b parts [] (Before 0 0)
ties_none b parts = record {
  formed = λ a k. absurd (omega (arith, k.1));
  read = λ a k. absurd (omega (arith, k.1));
  sound = λ x i a k. absurd (omega (arith, k.1));
  complete = λ x i base q part m n s rm rn z. absurd (none m n s);
}
  where
    none : (m n : ℕ) → Before 0 0 m n → ⊥
    none m n (l, inl h) = omega (arith, h)
    none m n (l, inr h) = omega (arith, h.1)
