-- The bytes that are listed of a memory.
use Rattle.std.proofs.Common.{◌≡◌, ◌⊎◌, inl, inr, ℕ, zero, suc, ◌<◌, true, false, List, [], ◌∷◌, length, get_or, ap, refl, sym, ◌∙◌, arith}
use Rattle.std.specs.Prelude.{◌==◌, nat_lt, if◌then◌else◌, Option, Some, None, All, Contains, filter}
use Rattle.std.proofs.lemmas.Bool.Decides.{nat_tests}
use Rattle.word_spec.specs.Memory.{byte_in}
use Rattle.machine_spec.specs.StateText.{AreRising}
use Rattle.bilv_spec.proofs.Pigeons.{truth}
use Rattle.bit_blast.specs.ReadBytes.{is_free}

-- ---- rising addresses

tail_rises : (x : ℕ × ℕ) (xs : List (ℕ × ℕ)) → AreRising (x ∷ xs) → AreRising xs
tail_rises x xs h i j d l m = h (suc i) (suc j) d (omega (arith, l)) (omega (arith, m))

behind : (x : ℕ × ℕ) (xs : List (ℕ × ℕ)) → AreRising (x ∷ xs) → All (λ (y : ℕ × ℕ). x.0 < y.0) xs
behind x xs h k d l = h 0 (suc k) d (omega arith) (omega (arith, l))

-- ---- the byte of an address

byte_above : (xs : List (ℕ × ℕ)) (k : ℕ) → All (λ (x : ℕ × ℕ). k < x.0) xs → byte_in xs k ≡ 0
byte_above [] k h = refl
byte_above (x ∷ xs) k h =
    let l = h 0 x (omega arith) in
    ap (λ z. if z then x.1 else byte_in xs k) (let e : (k == x.0) ≡ false = grind (arith, nat_tests) in e) ∙ byte_above xs k
    (λ i d m. h (suc i) d (omega (arith, m)))

byte_at : (xs : List (ℕ × ℕ)) → AreRising xs → (k : ℕ) (d : ℕ × ℕ) → k < length xs → byte_in xs (get_or xs k d).0 ≡ (get_or xs k d).1
byte_at [] h k d l = absurd (omega (arith, l))
byte_at (x ∷ xs) h zero d l = ap (λ z. if z then x.1 else byte_in xs x.0) (let e : (x.0 == x.0) ≡ true = grind (arith, nat_tests) in e)
byte_at (x ∷ xs) h (suc k) d l =
    let m = behind x xs h k d (omega (arith, l)) in
    ap (λ z. if z then x.1 else byte_in xs (get_or xs k d).0) (let e : ((get_or xs k d).0 == x.0) ≡ false = grind (arith, nat_tests) in e)
    ∙ byte_at xs (tail_rises x xs h) k d (omega (arith, l))

pub byte_has : (xs : List (ℕ × ℕ)) (a b : ℕ) → AreRising xs → Contains xs (a, b) → byte_in xs a ≡ b
byte_has xs a b h (k, l, e) = ap (λ (z : ℕ × ℕ). byte_in xs z.0) (sym e) ∙ byte_at xs h k (a, b) l ∙ ap (λ (z : ℕ × ℕ). z.1) e

-- bytes that are not listed are 0, so those that are 0 need not be
pub byte_same : (xs : List (ℕ × ℕ)) (a : ℕ) → AreRising xs → byte_in (filter (λ x. nat_lt 0 x.1) xs) a ≡ byte_in xs a
byte_same [] a h = refl
byte_same (x ∷ xs) a h = elim (truth (nat_lt 0 x.1)) [
  | inl t ↦ ap (λ z. byte_in (if z then x ∷ filter (λ y. nat_lt 0 y.1) xs else filter (λ y. nat_lt 0 y.1) xs) a) t
      ∙ ap (λ z. if a == x.0 then x.1 else z) (byte_same xs a (tail_rises x xs h))
  | inr f ↦ ap (λ z. byte_in (if z then x ∷ filter (λ y. nat_lt 0 y.1) xs else filter (λ y. nat_lt 0 y.1) xs) a) f ∙ byte_same xs a (tail_rises x xs h) ∙ left f
      (truth (a == x.0))
]
  where
    left : nat_lt 0 x.1 ≡ false → ((a == x.0) ≡ true) ⊎ ((a == x.0) ≡ false) → byte_in xs a ≡ (if a == x.0 then x.1 else byte_in xs a)
    left f (inl t) =
        let z : x.1 ≡ 0 = grind (arith, nat_tests) in
        let e : x.0 ≡ a = grind (arith, nat_tests) in
        ap (byte_in xs) (sym e) ∙ byte_above xs x.0 (behind x xs h) ∙ sym z ∙ sym (ap (λ y. if y then x.1 else byte_in xs a) t)
    left f (inr t) = sym (ap (λ y. if y then x.1 else byte_in xs a) t)

-- ---- a byte that is not known

pub free_none : (o : Option ℕ) → is_free o ≡ true → o ≡ None
free_none None h = refl
free_none (Some b) h = absurd (cc)
