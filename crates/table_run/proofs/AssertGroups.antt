-- The assert lines of an address, by an index of all lines.
use Rattle.std.proofs.Common.{◌≡◌, ℕ, zero, suc, ◌+◌, ◌-◌, ◌≤◌, ◌<◌, refl, ap, sym, ◌∙◌, subst, arith, List, [], ◌∷◌, ◌++◌, length, get_or, take, drop, map, Some, Bool, true, false, ne_eqb, eq-eqb, append_assoc}
use Rattle.std.specs.Prelude.{◌==◌, not, filter, if◌then◌else◌, slice_get, ◌≢◌}
use Rattle.std.specs.List.{AllWithin}
use Rattle.std.proofs.lemmas.List.{append-nil}
use Rattle.std.proofs.lemmas.Option.{get_or_from_slice_get}
use Rattle.word_spec.specs.Memory.{Endian}
use Rattle.word_spec.specs.State.{State}
use Rattle.bilv_spec.specs.Notes.{Assert, value, is_true}
use Rattle.model_spec.specs.Reads.{expression_reads, assert_reads}
use Rattle.notes_index.specs.Indexed.{numbered_from}

-- ---- the part of a list between two bounds, of whose elements alone something is true

module _ (at : ℕ) where
  filter_none : (xs : List (ℕ × ℕ)) → AllWithin (λ x. x.0 ≢ at) xs 0 (length xs) → filter (λ x. x.0 == at) xs ≡ []
  filter_none [] none = refl
  filter_none (x ∷ xs) none =
      ap (λ (b : Bool). if b then x ∷ filter (λ x. x.0 == at) xs else filter (λ x. x.0 == at) xs) (ne_eqb x.0 at (none 0 x (omega arith) (omega arith)))
      ∙ filter_none xs (λ k d low high. none (suc k) d (omega arith) (omega arith))

  filter_all : (xs : List (ℕ × ℕ)) (high : ℕ) → high ≤ length xs → AllWithin (λ x. x.0 ≡ at) xs 0 high → AllWithin (λ x. x.0 ≢ at) xs high (length xs) →
      filter (λ x. x.0 == at) xs ≡ take high xs
  filter_all xs zero le all none = filter_none xs none
  filter_all [] (suc high) le all none = absurd (omega arith)
  filter_all (x ∷ xs) (suc high) le all none =
      ap (λ (b : Bool). if b then x ∷ filter (λ x. x.0 == at) xs else filter (λ x. x.0 == at) xs) (eq-eqb x.0 at (all 0 x (omega arith) (omega arith)))
      ∙ ap (λ z. x ∷ z)
      (filter_all xs high (omega arith) (λ k d low less. all (suc k) d (omega arith) (omega arith))
      (λ k d low less. none (suc k) d (omega arith) (omega arith)))

  filter_group : (xs : List (ℕ × ℕ)) (low high : ℕ) → low ≤ high → high ≤ length xs → AllWithin (λ x. x.0 ≢ at) xs 0 low →
      AllWithin (λ x. x.0 ≡ at) xs low high → AllWithin (λ x. x.0 ≢ at) xs high (length xs) → filter (λ x. x.0 == at) xs ≡ take (high - low) (drop low xs)
  filter_group xs zero high le fits before all behind =
      let same : high ≡ high - 0 = omega arith in filter_all xs high fits all behind ∙ ap (λ n. take n xs) same
  filter_group [] (suc low) high le fits before all behind = absurd (omega arith)
  filter_group (x ∷ xs) (suc low) zero le fits before all behind = absurd (omega arith)
  filter_group (x ∷ xs) (suc low) (suc high) le fits before all behind =
      let same : high - low ≡ suc high - suc low = omega arith in
      ap (λ (b : Bool). if b then x ∷ filter (λ x. x.0 == at) xs else filter (λ x. x.0 == at) xs) (ne_eqb x.0 at (before 0 x (omega arith) (omega arith)))
      ∙ filter_group xs low high (omega arith) (omega arith) (λ k d from less. before (suc k) d (omega arith) (omega arith))
      (λ k d from less. all (suc k) d (omega arith) (omega arith)) (λ k d from less. behind (suc k) d (omega arith) (omega arith))
      ∙ ap (λ n. take n (drop low xs)) same

-- one more element of a part
part_from : {X : Type 0} (xs : List X) (i n : ℕ) (d : X) → i < length xs → take (suc n) (drop i xs) ≡ get_or xs i d ∷ take n (drop (suc i) xs)
part_from [] i n d w = absurd (omega arith)
part_from (x ∷ xs) zero n d w = refl
part_from (x ∷ xs) (suc i) n d w = part_from xs i n d (omega arith)

part_more : {X : Type 0} (xs : List X) (i n : ℕ) (d : X) → i < length xs → take (suc n) (drop i xs) ≡ get_or xs i d ∷ take n (drop (i + 1) xs)
part_more xs i n d w = (let up : suc i ≡ i + 1 = omega arith in part_from xs i n d w ∙ ap (λ k. get_or xs i d ∷ take n (drop k xs)) up)

-- ---- the lines of an address

module _ {X : Type 0} where
  -- the elements at the places of a list of addresses with places
  abbrev pub Picks : List X → List (ℕ × ℕ) → List X → Type 0
  Picks all [] [] = Unit {0}
  Picks all (x ∷ xs) (a ∷ rest) = (slice_get all x.1 ≡ Some a) × Picks all xs rest
  Picks all xs rest = ⊥

  first_is : (all : List X) (k : ℕ) (x : X) (xs : List X) → drop k all ≡ x ∷ xs → (slice_get all k ≡ Some x) × (drop (suc k) all ≡ xs)
  first_is [] zero x xs h = absurd (cc)
  first_is [] (suc k) x xs h = absurd (cc)
  first_is (a ∷ all) zero x xs h = let first : a ≡ x = cc in let rest : all ≡ xs = cc in (ap Some first, rest)
  first_is (a ∷ all) (suc k) x xs h = first_is all k x xs h

  here_is : (all : List X) (k : ℕ) (x : X) (xs : List X) → drop k all ≡ x ∷ xs → (slice_get all k ≡ Some x) × (drop (k + 1) all ≡ xs)
  here_is all k x xs h =
      let up : suc k ≡ k + 1 = omega arith in
      let it = first_is all k x xs h in
      (it.0, subst (λ n. drop n all ≡ xs) up it.1)

module _ {X : Type 0} (view : X → Assert) (e : Endian) (now entry : State) where
  -- what lines read up to the first that is false
  abbrev pub reads_of : List X → List ℕ
  reads_of [] = []
  reads_of (x ∷ xs) = expression_reads e (view x).says now entry ++ (if is_true (value e (view x).says now entry) then reads_of xs else [])

  hits_read : (xs : List X) → assert_reads e (map view xs) now entry ≡ reads_of (filter (λ x. (view x).at == now.pc) xs)
  hits_read [] = refl
  hits_read (x ∷ xs) = by ((view x).at == now.pc) (hits_read xs)
    where
      by : (b : Bool) → assert_reads e (map view xs) now entry ≡ reads_of (filter (λ x. (view x).at == now.pc) xs) →
          (if b
          then expression_reads e (view x).says now entry ++ (if is_true (value e (view x).says now entry) then assert_reads e (map view xs) now entry else [])
          else assert_reads e (map view xs) now entry)
          ≡ reads_of (if b then x ∷ filter (λ x. (view x).at == now.pc) xs else filter (λ x. (view x).at == now.pc) xs)
      by true h =
          ap (λ z. expression_reads e (view x).says now entry ++ (if is_true (value e (view x).says now entry) then z else [])) h
      by false h = h

  picks_hits : (at : ℕ) (all : List X) (k : ℕ) (xs : List X) → drop k all ≡ xs →
      Picks all (filter (λ y. y.0 == at) (numbered_from k (map (λ x. (view x).at) xs))) (filter (λ x. (view x).at == at) xs)
  picks_hits at all k [] h = tt
  picks_hits at all k (x ∷ xs) h = (let it = here_is all k x xs h in by ((view x).at == at) it.0 (picks_hits at all (k + 1) xs it.1))
    where
      by : (b : Bool) → slice_get all k ≡ Some x →
          Picks all (filter (λ y. y.0 == at) (numbered_from (k + 1) (map (λ x. (view x).at) xs))) (filter (λ x. (view x).at == at) xs) →
          Picks all (if b then ((view x).at, k) ∷ filter (λ y. y.0 == at) (numbered_from (k + 1) (map (λ x. (view x).at) xs))
          else filter (λ y. y.0 == at) (numbered_from (k + 1) (map (λ x. (view x).at) xs)))
          (if b then x ∷ filter (λ x. (view x).at == at) xs else filter (λ x. (view x).at == at) xs)
      by true is later = (is, later)
      by false is later = later

  -- of the lines of the address some are left, whose reads behind the places make all
  pub record IsLeft (asserts : List X) (index : List (ℕ × ℕ)) (high i : ℕ) (places all : List ℕ) : Type 0 where
    pub rest : List X
    pub picks : Picks asserts (take (high - i) (drop i index)) rest
    pub reads : places ++ reads_of rest ≡ all

  pub left_begins : (asserts : List X) (index : List (ℕ × ℕ)) (low high : ℕ) (places : List ℕ) → low ≤ high → high ≤ length index →
      AllWithin (λ x. x.0 < now.pc) index 0 low → AllWithin (λ x. x.0 ≡ now.pc) index low high → AllWithin (λ x. now.pc < x.0) index high (length index) →
      filter (λ x. x.0 == now.pc) index ≡ filter (λ x. x.0 == now.pc) (numbered_from 0 (map (λ x. (view x).at) asserts)) →
      IsLeft asserts index high low places (places ++ assert_reads e (map view asserts) now entry)
  left_begins asserts index low high places le fits before here behind order = record {
    rest = filter (λ x. (view x).at == now.pc) asserts;
    picks =
        subst (λ z. Picks asserts z (filter (λ x. (view x).at == now.pc) asserts))
        (sym order ∙ filter_group now.pc index low high le fits (λ k d from less. (let b = before k d from less in λ same. absurd (omega arith))) here
        (λ k d from less. (let b = behind k d from less in λ same. absurd (omega arith))))
        (picks_hits now.pc asserts 0 asserts refl);
    reads = ap (λ z. places ++ z) (sym (hits_read asserts));
  }

  module _ (asserts : List X) (index : List (ℕ × ℕ)) (high i : ℕ) (places new all : List ℕ) (d : ℕ × ℕ) (a : X) (less : i < high) (fits : high ≤ length index)
      (is : a ≡ get_or asserts (get_or index i d).1 a) (added : new ≡ places ++ expression_reads e (view a).says now entry)
      (left : IsLeft asserts index high i places all) where
    one_more : take (high - i) (drop i index) ≡ get_or index i d ∷ take (high - (i + 1)) (drop (i + 1) index)
    one_more =
        let n : high - i ≡ suc (high - (i + 1)) = omega arith in
        ap (λ z. take z (drop i index)) n ∙ part_more index i (high - (i + 1)) d (omega arith)

    -- the line that is read is the next one
    next_is : (rest : List X) → Picks asserts (get_or index i d ∷ take (high - (i + 1)) (drop (i + 1) index)) rest → places ++ reads_of rest ≡ all →
        (later : List X) × Picks asserts (take (high - (i + 1)) (drop (i + 1) index)) later
        × (new ++ (if is_true (value e (view a).says now entry) then reads_of later else []) ≡ all)
    next_is [] picks reads = absurd picks
    next_is (x ∷ later) picks reads =
        let same : x ≡ a = sym (get_or_from_slice_get asserts (get_or index i d).1 x a picks.0) ∙ sym is in (
          later,
          picks.1,
          ap (λ z. z ++ (if is_true (value e (view a).says now entry) then reads_of later else [])) added
              ∙ append_assoc places (expression_reads e (view a).says now entry) (if is_true (value e (view a).says now entry) then reads_of later else [])
              ∙ sym (ap (λ z. places
              ++ (expression_reads e (view z).says now entry ++ (if is_true (value e (view z).says now entry) then reads_of later else []))) same)
              ∙ reads,
        )

    went : (later : List X) × Picks asserts (take (high - (i + 1)) (drop (i + 1) index)) later
        × (new ++ (if is_true (value e (view a).says now entry) then reads_of later else []) ≡ all)
    went = next_is left.rest (subst (λ z. Picks asserts z left.rest) one_more left.picks) left.reads

    pub left_more : (value e (view a).says now entry == 0) ≡ false → IsLeft asserts index high (i + 1) new all
    left_more true_one = record {
      rest = went.0;
      picks = went.1;
      reads = sym (ap (λ (b : Bool). new ++ (if not b then reads_of went.0 else [])) true_one) ∙ went.2;
    }

    pub left_stops : (value e (view a).says now entry == 0) ≡ true → new ≡ all
    left_stops false_one = sym (append-nil new) ∙ sym (ap (λ (b : Bool). new ++ (if not b then reads_of went.0 else [])) false_one) ∙ went.2

  none_left : (asserts rest : List X) (places all : List ℕ) → Picks asserts [] rest → places ++ reads_of rest ≡ all → places ≡ all
  none_left asserts [] places all picks reads = sym (append-nil places) ∙ reads
  none_left asserts (x ∷ rest) places all picks reads = absurd picks

  pub left_ends : (asserts : List X) (index : List (ℕ × ℕ)) (high i : ℕ) (places all : List ℕ) → high ≤ i → IsLeft asserts index high i places all →
      places ≡ all
  left_ends asserts index high i places all le left =
      let n : high - i ≡ 0 = omega arith in
      none_left asserts left.rest places all (subst (λ z. Picks asserts (take z (drop i index)) left.rest) n left.picks) left.reads

-- ---- lines one after the other

-- one more line, of which it is told what it reads and whether the others are read behind it
module _ {X : Type 0} (read : X → List ℕ) (holds : X → Bool) (all : List X → List ℕ)
    (is : (x : X) (xs : List X) → all (x ∷ xs) ≡ read x ++ (if holds x then all xs else [])) where
  line_next : (xs : List X) (i : ℕ) (x : X) (places new total : List ℕ) → i < length xs → x ≡ get_or xs i x → new ≡ places ++ read x →
      places ++ all (drop i xs) ≡ total → new ++ (if holds x then all (drop (suc i) xs) else []) ≡ total
  line_next [] i x places new total w at added had = absurd (omega arith)
  line_next (y ∷ xs) zero x places new total w at added had =
      let same : x ≡ y = at in
      ap (λ z. z ++ (if holds x then all xs else [])) added ∙ append_assoc places (read x) (if holds x then all xs else [])
      ∙ ap (λ z. places ++ (read z ++ (if holds z then all xs else []))) same ∙ sym (ap (λ z. places ++ z) (is y xs)) ∙ had
  line_next (y ∷ xs) (suc i) x places new total w at added had = line_next xs i x places new total (omega arith) at added had

  pub line_true : (xs : List X) (i : ℕ) (x : X) (places new total : List ℕ) → i < length xs → x ≡ get_or xs i x → new ≡ places ++ read x →
      holds x ≡ true → places ++ all (drop i xs) ≡ total → new ++ all (drop (i + 1) xs) ≡ total
  line_true xs i x places new total w at added goes had =
      let up : suc i ≡ i + 1 = omega arith in
      sym (ap (λ n. new ++ all (drop n xs)) up) ∙ sym (ap (λ (b : Bool). new ++ (if b then all (drop (suc i) xs) else [])) goes)
      ∙ line_next xs i x places new total w at added had

  pub line_false : (xs : List X) (i : ℕ) (x : X) (places new total : List ℕ) → i < length xs → x ≡ get_or xs i x → new ≡ places ++ read x →
      holds x ≡ false → places ++ all (drop i xs) ≡ total → new ≡ total
  line_false xs i x places new total w at added stops had =
      sym (append-nil new) ∙ sym (ap (λ (b : Bool). new ++ (if b then all (drop (suc i) xs) else [])) stops)
      ∙ line_next xs i x places new total w at added had

-- ---- a value by its test

pub not_zero : (n v : ℕ) → n ≡ v → n ≢ 0 → (v == 0) ≡ false
not_zero n v same other = sym (ap (λ z. z == 0) same) ∙ ne_eqb n 0 other

pub is_zero : (n v : ℕ) → n ≡ v → n ≡ 0 → (v == 0) ≡ true
is_zero n v same none = sym (ap (λ z. z == 0) same) ∙ eq-eqb n 0 none

pub goes_on : (n v : ℕ) → n ≡ v → n ≢ 0 → is_true v ≡ true
goes_on n v same other = ap not (not_zero n v same other)

pub stops_there : (n v : ℕ) → n ≡ v → n ≡ 0 → is_true v ≡ false
stops_there n v same none = ap not (is_zero n v same none)
