-- The bytes that are listed.
use Rattle.std.proofs.Common.{◌≡◌, ℕ, zero, suc, ◌<◌, refl, ap, sym, ◌∙◌, subst, arith, List, [], ◌∷◌, ◌++◌, get_or, append_assoc, Bool, true, false, eq-eqb}
use Rattle.std.specs.Prelude.{◌==◌, ◌↔◌, ◌≢◌, if◌then◌else◌, Contains}
use Rattle.std.specs.Ordering.{nat_cmp}
use Rattle.std.specs.Cmp.{nat_cmp_total}
use Rattle.std.specs.BTreeSet.{BTreeSet, contains}
use Rattle.std.proofs.lemmas.Bool.{eqb-true}
use Rattle.std.specs.List.Sorted.{IsStrictlySortedBy}
use Rattle.std.proofs.lemmas.List.{get_or_default}
use Rattle.std.proofs.lemmas.Map.Keys.{sorted_tail, below_from_sorted}
use Rattle.std.proofs.lemmas.Map.Lookups.{exact_unsigned}
use Rattle.std.proofs.lemmas.Map.Views.{btree_set_contains_iff}
use Rattle.word_spec.specs.Memory.{Memory}
use Rattle.machine_spec.specs.StateText.{AreRising}
use Rattle.bilv_spec.specs.Run.{Program}
use Rattle.table_run.specs.Traces.{byte_over, bytes_over, IsOver, IsReadSet, AreListed}

next_in : {X : Type 0} (y : X) (rest : List X) (x : X) → Contains rest x → Contains (y ∷ rest) x
next_in y rest x (k, l, h) = (suc k, omega arith, h)

module _ (fill : ℕ) (bytes : List (ℕ × ℕ)) where
  abbrev f : ℕ → ℕ
  f a = byte_over fill bytes a

  -- what is listed is the byte of one of the addresses, and not 0
  listed_is : (places : List ℕ) (a b : ℕ) → Contains (bytes_over fill bytes places) (a, b) → Contains places a × (b ≡ f a) × (b ≢ 0)
  listed_is [] a b (k, l, h) = absurd (omega arith)
  listed_is (x ∷ places) a b h = by (f x == 0) refl (λ z. (let it = listed_is places a b z in (next_in x places a it.0, it.1, it.2))) h
    where
      by : (t : Bool) → (f x == 0) ≡ t → (Contains (bytes_over fill bytes places) (a, b) → Contains (x ∷ places) a × (b ≡ f a) × (b ≢ 0)) →
          Contains (if t then bytes_over fill bytes places else (x, f x) ∷ bytes_over fill bytes places) (a, b) →
          Contains (x ∷ places) a × (b ≡ f a) × (b ≢ 0)
      by true q later h = later h
      by false q later (zero, l, h) =
          let at : x ≡ a = ap (λ (z : ℕ × ℕ). z.0) h in
          let is : f x ≡ b = ap (λ (z : ℕ × ℕ). z.1) h in (
            (0, omega arith, at),
            sym is ∙ ap f at,
            λ none. absurd (let yes : (f x == 0) ≡ true = eq-eqb (f x) 0 (is ∙ none) in cc),
          )
      by false q later (suc k, l, h) = later (k, omega arith, h)

  -- and each such byte is listed
  listed_has : (places : List ℕ) (a : ℕ) → Contains places a → (f a ≡ 0 → ⊥) → Contains (bytes_over fill bytes places) (a, f a)
  listed_has [] a (k, l, h) some = absurd (omega arith)
  listed_has (x ∷ places) a h some = by (f x == 0) refl (λ z. listed_has places a z some) h
    where
      by : (t : Bool) → (f x == 0) ≡ t → (Contains places a → Contains (bytes_over fill bytes places) (a, f a)) → Contains (x ∷ places) a →
          Contains (if t then bytes_over fill bytes places else (x, f x) ∷ bytes_over fill bytes places) (a, f a)
      by true q later (zero, l, h) = let at : x ≡ a = h in absurd (some (sym (ap f at) ∙ eqb-true (f x) 0 q))
      by true q later (suc k, l, h) = later (k, omega arith, h)
      by false q later (zero, l, h) = let at : x ≡ a = h in (0, omega arith, ap (λ z. (z, f z)) at)
      by false q later (suc k, l, h) = next_in (x, f x) (bytes_over fill bytes places) (a, f a) (later (k, omega arith, h))

in_set : (set : BTreeSet ℕ) (a : ℕ) → (contains nat_cmp set a ≡ true) ↔ Contains set.keys a
in_set set a = btree_set_contains_iff nat_cmp_total exact_unsigned set a

-- one before others whose addresses are above its own
rising_cons : (e : ℕ × ℕ) (es : List (ℕ × ℕ)) → AreRising es → ((x : ℕ × ℕ) → Contains es x → e.0 < x.0) → AreRising (e ∷ es)
rising_cons e es rising above zero zero d l w = absurd (omega arith)
rising_cons e es rising above (suc i) zero d l w = absurd (omega arith)
rising_cons e es rising above zero (suc j) d l w = above (get_or es j d) (j, omega arith, get_or_default es j (get_or es j d) d (omega arith))
rising_cons e es rising above (suc i) (suc j) d l w = rising i j d (omega arith) (omega arith)

-- what is listed of rising addresses rises
pub rising_over : (fill : ℕ) (bytes : List (ℕ × ℕ)) (places : List ℕ) → IsStrictlySortedBy nat_cmp places → AreRising (bytes_over fill bytes places)
rising_over fill bytes [] sorted = λ i j d l w. absurd (omega arith)
rising_over fill bytes (x ∷ places) sorted =
    by (byte_over fill bytes x == 0) (rising_over fill bytes places (sorted_tail nat_cmp x places sorted))
    (λ y h. (let (k, l, e) = (listed_is fill bytes places y.0 y.1 h).0 in
    let less = below_from_sorted (x ∷ places) 0 (suc k) y.0 sorted (omega arith) (omega arith) in omega (arith, e, less)))
  where
    by : (b : Bool) → AreRising (bytes_over fill bytes places) → ((y : ℕ × ℕ) → Contains (bytes_over fill bytes places) y → x < y.0) →
        AreRising (if b then bytes_over fill bytes places else (x, byte_over fill bytes x) ∷ bytes_over fill bytes places)
    by true rising above = rising
    by false rising above = rising_cons (x, byte_over fill bytes x) (bytes_over fill bytes places) rising above

-- one more address whose byte is 0, and another one
pub listed_skip : (fill : ℕ) (bytes items total : List (ℕ × ℕ)) (a byte : ℕ) (places rest : List ℕ) → places ≡ a ∷ rest → byte ≡ byte_over fill bytes a →
    (byte == 0) ≡ true → items ++ bytes_over fill bytes places ≡ total → items ++ bytes_over fill bytes rest ≡ total
listed_skip fill bytes items total a byte places rest more is zero_one had =
    sym (ap (λ z. items ++ bytes_over fill bytes z) more
    ∙ ap (λ (b : Bool). items ++ (if b then bytes_over fill bytes rest else (a, byte_over fill bytes a) ∷ bytes_over fill bytes rest))
    (sym (ap (λ z. z == 0) is) ∙ zero_one))
    ∙ had

pub listed_push : (fill : ℕ) (bytes items new total : List (ℕ × ℕ)) (a byte : ℕ) (places rest : List ℕ) → places ≡ a ∷ rest →
    byte ≡ byte_over fill bytes a → (byte == 0) ≡ false → new ≡ items ++ (a, byte) ∷ [] → items ++ bytes_over fill bytes places ≡ total →
    new ++ bytes_over fill bytes rest ≡ total
listed_push fill bytes items new total a byte places rest more is other grown had =
    ap (λ z. z ++ bytes_over fill bytes rest) grown
    ∙ append_assoc items ((a, byte) ∷ []) (bytes_over fill bytes rest)
    ∙ ap (λ z. items ++ (a, z) ∷ bytes_over fill bytes rest) is
    ∙ sym (ap (λ z. items ++ bytes_over fill bytes z) more
    ∙ ap (λ (b : Bool). items ++ (if b then bytes_over fill bytes rest else (a, byte_over fill bytes a) ∷ bytes_over fill bytes rest))
    (sym (ap (λ z. z == 0) is) ∙ other))
    ∙ had

-- the bytes of the addresses that were noted
pub listed_all : (p : Program) (fill : ℕ) (bytes listed : List (ℕ × ℕ)) (model : Memory) (places : List ℕ) (read : BTreeSet ℕ) → IsOver p fill bytes model →
    IsReadSet p places read → listed ≡ bytes_over fill bytes read.keys → AreListed p model places listed
listed_all p fill bytes listed model places read over is same a b = (
  λ h. (let it = listed_is fill bytes read.keys a b (subst (λ z. Contains z (a, b)) same h) in
      let noted = (is a).0 ((in_set read a).1 it.0) in
      (noted.0, noted.1, noted.2, it.1 ∙ sym (over a noted.0 noted.2), it.2)),
  λ h. (let value : b ≡ byte_over fill bytes a = h.3 ∙ over a h.0 h.2 in
      let there = listed_has fill bytes read.keys a ((in_set read a).0 ((is a).1 (h.0, h.1, h.2))) (λ none. h.4 (value ∙ none)) in
      subst (λ z. Contains z (a, b)) (sym same) (subst (λ z. Contains (bytes_over fill bytes read.keys) (a, z)) (sym value) there)),
)
