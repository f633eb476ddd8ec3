-- Bytes that are taken from the memory of a part.
use Rattle.std.proofs.Common.{◌≡◌, inl, inr, ℕ, zero, suc, ◌+◌, ◌%◌, ◌^◌, ◌<◌, ◌≤◌, ◌==◌, Bool, true, false, List, [], Some, None, refl, ap, sym, ◌∙◌, subst, arith}
use Rattle.std.specs.Prelude.{◌||◌, if◌then◌else◌, map, nat_eq, nat_lt, slice_index}
use Rattle.std.specs.List.{list_any}
use Rattle.std.proofs.lemmas.Bool.{cases_eq, cases_lt}
use Rattle.std.proofs.lemmas.Bool.Decides.{nat_tests}
use Rattle.word_spec.specs.Words.{add, sub, bit}
use Rattle.word_spec.specs.RowFiles.{from_to}
use Rattle.machine_spec.specs.Bil.{Equal, Less, Minus, Or}
use Rattle.term_spec.specs.Terms.{TermReading, InRange, BinaryNode, ConstantNode, SelectNode, HasWidth, is_taken_at, node_value, operate, select, term_word, values_from}
use Rattle.term_dag.proofs.Ranges.{word_fits}
use Rattle.mem_cells.specs.declared.building.Build.{Build}
use Rattle.mem_cells.specs.declared.pieces.Piece.{Piece}
use Rattle.mem_cells.specs.declared.pieces.Piece.TheVariants.{Entry, Store, Take, Join}
use Rattle.mem_cells.specs.declared.pieces.Split.{Split}
use Rattle.mem_cells.specs.declared.pieces.StoredByte.{StoredByte}
use Rattle.mem_cells.specs.declared.pieces.Taken.{Taken}
use Rattle.mem_cells.specs.Parts.{HasPart}
use Rattle.mem_cells.specs.Pieces.{ends_in, is_among, lies_apart, part_read, taken_over, IsPiece, IsSplit, IsTaken}
use Rattle.mem_cells.specs.Building.{read_places, IsBuilt, Grown, IsByte, IsNumber, IsWord}
use Rattle.mem_cells.proofs.Growing.{gives_before, grown_on, grown_width, grown_word, part_kept}

-- which addresses these are
same_address : (i w s : ℕ) → i < 2 ^ 32 → w < 2 ^ 32 → s ≡ sub 32 i w → nat_eq i (add 32 w s) ≡ true
same_address i w s h l e =
    let f : i ≡ (w + s) % 2 ^ 32 = omega (arith, e) in
    grind (arith, nat_tests)

other_address : (i w s : ℕ) → i < 2 ^ 32 → w < 2 ^ 32 → s < sub 32 i w → nat_eq i (add 32 w s) ≡ false
other_address i w s h l e =
    let f : i ≡ (w + s) % 2 ^ 32 → ⊥ = λ q. omega (arith, e, q) in
    grind (arith, nat_tests)

among_from : (i w s n : ℕ) → i < 2 ^ 32 → w < 2 ^ 32 → s ≤ sub 32 i w → sub 32 i w < s + n → list_any (nat_eq i) (map (add 32 w) (from_to s n)) ≡ true
among_from i w s zero h l a b = absurd (omega (arith, a, b))
among_from i w s (suc n) h l a b = elim (cases_lt s (sub 32 i w)) [
  | inl q ↦ ap (λ z. z || list_any (nat_eq i) (map (add 32 w) (from_to (s + 1) n))) (other_address i w s h l q)
      ∙ among_from i w (s + 1) n h l (omega (arith, q)) (omega (arith, b))
  | inr q ↦ (
      let e : s ≡ sub 32 i w = omega (arith, a, q) in
      ap (λ z. z || list_any (nat_eq i) (map (add 32 w) (from_to (s + 1) n))) (same_address i w s h l e))
]

beside_from : (i w s n : ℕ) → i < 2 ^ 32 → w < 2 ^ 32 → s + n ≤ sub 32 i w → list_any (nat_eq i) (map (add 32 w) (from_to s n)) ≡ false
beside_from i w s zero h l a = refl
beside_from i w s (suc n) h l a =
    ap (λ z. z || list_any (nat_eq i) (map (add 32 w) (from_to (s + 1) n))) (other_address i w s h l (omega (arith, a)))
    ∙ beside_from i w (s + 1) n h l (omega (arith, a))

below_is : (a b : ℕ) → a < b → nat_lt a b ≡ true
below_is a b h = grind (arith, nat_tests)

above_is : (a b : ℕ) → b ≤ a → nat_lt a b ≡ false
above_is a b h = grind (arith, nat_tests)

pub among_is : (n w i : ℕ) → i < 2 ^ 32 → w < 2 ^ 32 → is_among w n i ≡ is_taken_at n w i
among_is n w i h l = elim (cases_lt (sub 32 i w) n) [
  | inl k ↦ below_is (sub 32 i w) n k ∙ sym (among_from i w 0 n h l (omega arith) (omega (arith, k)))
  | inr k ↦ above_is (sub 32 i w) n k ∙ sym (beside_from i w 0 n h l (omega (arith, k)))
]

-- by equalities
equal_is : (a b : ℕ) → a ≡ b → (a == b) ≡ true
equal_is a b h = grind (arith, nat_tests)

other_is : (a b : ℕ) → (a ≡ b → ⊥) → (a == b) ≡ false
other_is a b h = grind (arith, nat_tests)

among_one : (i w : ℕ) → i < 2 ^ 32 → w < 2 ^ 32 → (i == w) ≡ is_among w 1 i
among_one i w h l = elim (cases_eq i w) [
  | inl e ↦ (let d : sub 32 i w < 1 = omega (arith, e) in equal_is i w e ∙ sym (below_is (sub 32 i w) 1 d))
  | inr n ↦ (let d : 1 ≤ sub 32 i w = omega (arith, n) in other_is i w n ∙ sym (above_is (sub 32 i w) 1 d))
]

among_two : (i w : ℕ) → i < 2 ^ 32 → w < 2 ^ 32 → ((i == w) || (i == add 32 w 1)) ≡ is_among w 2 i
among_two i w h l = elim (cases_eq i w) [
  | inl e ↦ (
      let d : sub 32 i w < 2 = omega (arith, e) in
      ap (λ z. z || (i == add 32 w 1)) (equal_is i w e) ∙ sym (below_is (sub 32 i w) 2 d))
  | inr n ↦ elim (cases_eq i (add 32 w 1)) [
    | inl e ↦ (
        let d : sub 32 i w < 2 = omega (arith, e) in
        ap (λ z. z || (i == add 32 w 1)) (other_is i w n) ∙ equal_is i (add 32 w 1) e ∙ sym (below_is (sub 32 i w) 2 d))
    | inr m ↦ (
        let d : 2 ≤ sub 32 i w = omega (arith, n, m) in
        ap (λ z. z || (i == add 32 w 1)) (other_is i w n) ∙ other_is i (add 32 w 1) m ∙ sym (above_is (sub 32 i w) 2 d))
  ]
]

-- by the sums of addresses
distance : (b o s : ℕ) → b < 2 ^ 32 → o < 2 ^ 32 → s < 2 ^ 32 → sub 32 (add 32 b o) (add 32 b s) ≡ sub 32 o s
distance b o s hb ho hs = omega (arith, hb, ho, hs)

ends_facts : (at first : Split) (n : ℕ) → ends_in at first n ≡ true → (at.base.0 ≡ first.base.0) × (sub 32 at.offset first.offset < n)
ends_facts at first n e = grind (arith, nat_tests)

apart_facts : (at first : Split) (n : ℕ) → lies_apart at first n ≡ true → (at.base.0 ≡ first.base.0) × (n ≤ sub 32 at.offset first.offset)
apart_facts at first n e = grind (arith, nat_tests)

module _ (b : Build) (t : Taken) (at : Split) (address : ℕ) (c : IsBuilt b) (h : IsTaken b t) (p : IsSplit b.dag address at.base.0 at.offset) where
  far : (x : TermReading) → InRange x → at.base.0 ≡ t.at.base.0 → sub 32 (term_word x b.dag address) (term_word x b.dag t.first.0) ≡ sub 32 at.offset t.at.offset
  far x i e =
      let w = term_word x b.dag t.at.base.0 in
      ap (λ z. sub 32 z (term_word x b.dag t.first.0)) (p.value x i ∙ ap (λ z. add 32 (term_word x b.dag z) at.offset) e)
      ∙ ap (sub 32 (add 32 w at.offset)) (h.split.value x i)
      ∙ distance w at.offset t.at.offset (word_fits x b.dag 32 t.at.base.0 i c.typed h.split.place) p.below h.split.below

  within_among : (x : TermReading) → InRange x → ends_in at t.at t.bytes ≡ true →
      is_among (term_word x b.dag t.first.0) t.bytes (term_word x b.dag address) ≡ true
  within_among x i e =
      let q = ends_facts at t.at t.bytes e in
      ap (λ z. nat_lt z t.bytes) (far x i q.0) ∙ below_is (sub 32 at.offset t.at.offset) t.bytes q.1

  apart_among : (x : TermReading) → InRange x → lies_apart at t.at t.bytes ≡ true →
      is_among (term_word x b.dag t.first.0) t.bytes (term_word x b.dag address) ≡ false
  apart_among x i e =
      let q = apart_facts at t.at t.bytes e in
      ap (λ z. nat_lt z t.bytes) (far x i q.0) ∙ above_is (sub 32 at.offset t.at.offset) t.bytes q.1

  -- bytes that surely stand over another
  surely : (x : TermReading) → InRange x → ends_in at t.at t.bytes ≡ true → (y : ℕ) →
      taken_over (term_word x b.dag) x.mem t y (term_word x b.dag address) ≡ x.mem t.part (term_word x b.dag address)
  surely x i e y = ap (λ z. if z then x.mem t.part (term_word x b.dag address) else y) (within_among x i e)

  pub within_taken : (new : Build) (number byte : ℕ) (below : TermReading → ℕ) → ends_in at t.at t.bytes ≡ true → IsNumber b address number →
      IsByte new byte (λ x. x.mem t.part (term_word x b.dag (slice_index (read_places b) number))) →
      IsByte new byte (λ x. taken_over (term_word x b.dag) x.mem t (below x) (term_word x b.dag address))
  within_taken new number byte below e n y = record {
    place = y.place;
    value = λ x i v. y.value x i v ∙ ap (λ z. x.mem t.part (term_word x b.dag z)) n.1 ∙ sym (surely x i e (below x));
  }

  -- and that surely do not
  pub apart_taken : (m : ℕ) → lies_apart at t.at t.bytes ≡ true → HasWidth b.dag 8 m →
      IsByte b m (λ x. taken_over (term_word x b.dag) x.mem t (term_word x b.dag m) (term_word x b.dag address))
  apart_taken m e w = record {
    place = w;
    value = λ x i v. sym (ap (λ z. if z then x.mem t.part (term_word x b.dag address) else term_word x b.dag m) (apart_among x i e));
  }

-- what a byte that is surely taken stands over does not matter
pub take_within : (b : Build) (t : Taken) (at : Split) (address : ℕ) (x : TermReading) (y z : ℕ) → IsBuilt b → InRange x → IsTaken b t →
    IsSplit b.dag address at.base.0 at.offset → ends_in at t.at t.bytes ≡ true →
    taken_over (term_word x b.dag) x.mem t y (term_word x b.dag address) ≡ taken_over (term_word x b.dag) x.mem t z (term_word x b.dag address)
take_within b t at address x y z c i h p e = surely b t at address c h p x i e y ∙ sym (surely b t at address c h p x i e z)

-- an address that surely lies elsewhere is none of them
pub not_within : (at first : Split) (n : ℕ) → lies_apart at first n ≡ true → ends_in at first n ≡ false
not_within at first n e = grind (arith, nat_tests)

pub not_apart : (at : Split) (m : ℕ) (t : Taken) → lies_apart at t.at t.bytes ≡ false → part_read at (Take m t) ≡ Some t.part
not_apart at m t e = ap (λ z. if z then None else Some t.part) e

-- the part that a piece reads is one that terms may read
pub part_of_piece : (b : Build) (stored : List StoredByte) (q p : ℕ) (z : Piece) (at : Split) → IsPiece b stored q z → part_read at z ≡ Some p → HasPart b p
part_of_piece b stored q p (Entry k) at h e = let f : k ≡ p = cc in subst (HasPart b) f h
part_of_piece b stored q p (Store m s f n) at h e = absurd (cc)
part_of_piece b stored q p (Take m t) at h e = by (lies_apart at t.at t.bytes) e
  where
    by : (a : Bool) → (if a then None else Some t.part) ≡ Some p → HasPart b p
    by true k = absurd (cc)
    by false k = let f : t.part ≡ p = cc in subst (HasPart b) f h.1.part
part_of_piece b stored q p (Join c m n) at h e = absurd (cc)

either_bit : (a b : Bool) → operate Or 1 (bit a) (bit b) ≡ bit (a || b)
either_bit true true = refl
either_bit true false = refl
either_bit false true = refl
either_bit false false = refl

-- one of two addresses
pub either_word : (old one two new : Build) (g r h s address first second a b t : ℕ) → Grown old one g r → Grown one two h s → HasWidth old.dag 32 address →
    HasWidth old.dag 32 second →
    IsWord one.dag 1 a (λ x. (node_value x (values_from x [] old.dag) (BinaryNode Equal 32 address first)).word) →
    IsWord two.dag 1 b (λ x. (node_value x (values_from x [] one.dag) (BinaryNode Equal 32 address second)).word) →
    IsWord new.dag 1 t (λ x. (node_value x (values_from x [] two.dag) (BinaryNode Or 1 a b)).word) →
    IsWord new.dag 1 t (λ x. bit ((term_word x old.dag address == term_word x old.dag first) || (term_word x old.dag address == term_word x old.dag second)))
either_word old one two new g r h s address first second a b t p q wa ws e f k = record {
  place = k.place;
  value = λ x i.
      let is_first = term_word x old.dag address == term_word x old.dag first in
      k.value x i
      ∙ ap (λ z. operate Or 1 z (term_word x two.dag b)) (grown_word one two h s x a q e.place.0 ∙ e.value x i)
      ∙ ap (operate Or 1 (bit is_first)) (f.value x i)
      ∙ ap (λ z. operate Or 1 (bit is_first) (bit (z == term_word x one.dag second))) (grown_word old one g r x address p wa.0)
      ∙ ap (λ z. operate Or 1 (bit is_first) (bit (term_word x old.dag address == z))) (grown_word old one g r x second p ws.0)
      ∙ either_bit is_first (term_word x old.dag address == term_word x old.dag second);
}

-- one of so many
pub from_word : (old one two new : Build) (h s address first n d c t : ℕ) → Grown one two h s →
    IsWord one.dag 32 d (λ x. (node_value x (values_from x [] old.dag) (BinaryNode Minus 32 address first)).word) →
    IsWord two.dag 32 c (λ x. (node_value x (values_from x [] one.dag) (ConstantNode 32 n)).word) →
    IsWord new.dag 1 t (λ x. (node_value x (values_from x [] two.dag) (BinaryNode Less 32 d c)).word) →
    IsWord new.dag 1 t (λ x. bit (is_among (term_word x old.dag first) n (term_word x old.dag address)))
from_word old one two new h s address first n d c t q e f k = record {
  place = k.place;
  value = λ x i.
      k.value x i
      ∙ ap (λ z. bit (nat_lt z (term_word x two.dag c))) (grown_word one two h s x d q e.place.0 ∙ e.value x i)
      ∙ ap (λ z. bit (nat_lt (sub 32 (term_word x old.dag address) (term_word x old.dag first)) z)) (f.value x i);
}

-- by an equality or two
pub one_word : (old new : Build) (address : ℕ) (t : Taken) (y : ℕ) → IsBuilt old → IsTaken old t → HasWidth old.dag 32 address → t.bytes ≡ 1 →
    IsWord new.dag 1 y (λ x. (node_value x (values_from x [] old.dag) (BinaryNode Equal 32 address t.first.0)).word) →
    IsWord new.dag 1 y (λ x. bit (is_among (term_word x old.dag t.first.0) t.bytes (term_word x old.dag address)))
one_word old new address t y c h w e k = record {
  place = k.place;
  value = λ x i.
      k.value x i
      ∙ ap bit (among_one (term_word x old.dag address) (term_word x old.dag t.first.0) (word_fits x old.dag 32 address i c.typed w)
      (word_fits x old.dag 32 t.first.0 i c.typed h.first))
      ∙ ap (λ z. bit (is_among (term_word x old.dag t.first.0) z (term_word x old.dag address))) (sym e);
}

pub two_word : (old new : Build) (address : ℕ) (t : Taken) (y : ℕ) → IsBuilt old → IsTaken old t → HasWidth old.dag 32 address → t.bytes ≡ 2 →
    IsWord new.dag 1 y (λ x. bit ((term_word x old.dag address == term_word x old.dag t.first.0) ||
    (term_word x old.dag address == term_word x old.dag t.second.0))) →
    IsWord new.dag 1 y (λ x. bit (is_among (term_word x old.dag t.first.0) t.bytes (term_word x old.dag address)))
two_word old new address t y c h w e k = record {
  place = k.place;
  value = λ x i.
      let v = term_word x old.dag address in
      let f = term_word x old.dag t.first.0 in
      k.value x i
      ∙ ap (λ z. bit ((v == f) || (v == z))) ((h.second e).1 x i)
      ∙ ap bit (among_two v f (word_fits x old.dag 32 address i c.typed w) (word_fits x old.dag 32 t.first.0 i c.typed h.first))
      ∙ ap (λ z. bit (is_among f z v)) (sym e);
}

picked : (t : Bool) (a b : ℕ) → select (bit t) a b ≡ (if t then a else b)
picked true a b = refl
picked false a b = refl

-- a selection by it
pub taken_word : (old mid now new : Build) (h s g r u v : ℕ) (t : Taken) (number address below byte c y : ℕ) → IsBuilt old → Grown old mid h s →
    Grown mid now g r → Grown now new u v → IsTaken old t → HasWidth old.dag 32 address → HasWidth old.dag 8 below → IsNumber old address number →
    IsByte mid byte (λ x. x.mem t.part (term_word x old.dag (slice_index (read_places old) number))) →
    IsWord now.dag 1 c (λ x. bit (is_among (term_word x mid.dag t.first.0) t.bytes (term_word x mid.dag address))) →
    IsWord new.dag 8 y (λ x. (node_value x (values_from x [] now.dag) (SelectNode 8 c byte below)).word) →
    IsByte new y (λ x. taken_over (term_word x old.dag) x.mem t (term_word x old.dag below) (term_word x old.dag address))
taken_word old mid now new h s g r u v t number address below byte c y built o p q taken wa wb n e f k = record {
  place = k.place;
  value = λ x i gives.
      let before = gives_before mid new _ _ x o.built (grown_on mid now new g r u v p q) gives in
      let a = term_word x old.dag address in
      let is = is_among (term_word x mid.dag t.first.0) t.bytes (term_word x mid.dag address) in
      k.value x i
      ∙ ap (λ z. select z (term_word x now.dag byte) (term_word x now.dag below)) (f.value x i)
      ∙ picked is (term_word x now.dag byte) (term_word x now.dag below)
      ∙ ap (λ z. if is then z else term_word x now.dag below)
      (grown_word mid now g r x byte p e.place.0 ∙ e.value x i before ∙ ap (λ z. x.mem t.part (term_word x old.dag z)) n.1)
      ∙ ap (λ z. if is then x.mem t.part a else z) (grown_word old now _ _ x below (grown_on old mid now h s g r o p) wb.0)
      ∙ ap (λ z. if is_among z t.bytes (term_word x mid.dag address) then x.mem t.part a else term_word x old.dag below)
      (grown_word old mid h s x t.first.0 o taken.first.0)
      ∙ ap (λ z. if is_among (term_word x old.dag t.first.0) t.bytes z then x.mem t.part a else term_word x old.dag below)
      (grown_word old mid h s x address o wa.0);
}

-- bytes are taken, as it is made
pub is_taken_of : (old mid new : Build) (g r h s : ℕ) (t : Taken) → Grown old mid g r → Grown mid new h s → HasPart old t.part →
    HasWidth old.dag 32 t.first.0 → 1 ≤ t.bytes → t.bytes < 2 ^ 32 →
    (t.bytes ≡ 2 → IsWord mid.dag 32 t.second.0 (λ x. add 32 (term_word x old.dag t.first.0) 1)) →
    IsSplit new.dag t.first.0 t.at.base.0 t.at.offset → IsTaken new t
is_taken_of old mid new g r h s t p q part first some few second split =
    let o = grown_on old mid new g r h s p q in
    record {
      part = part_kept old new t.part o.question part;
      some = some;
      few = few;
      first = grown_width old new (g + h) (r + s) 32 t.first.0 o first;
      second = λ e. (
        grown_width mid new h s 32 t.second.0 q (second e).place,
        λ x i. grown_word mid new h s x t.second.0 q (second e).place.0 ∙ (second e).value x i
            ∙ ap (λ z. add 32 z 1) (sym (grown_word old new (g + h) (r + s) x t.first.0 o first.0)),
      );
      split = split;
    }
