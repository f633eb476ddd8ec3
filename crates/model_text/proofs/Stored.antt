-- The last change of each address.
use Rattle.std.proofs.Common.{◌≡◌, ℕ, zero, suc, ◌+◌, ◌<◌, ◌≤◌, Bool, true, false, List, [], ◌∷◌, ◌++◌, refl, sym, ap, ◌∙◌, subst, arith, length, drop, drop-cons, get_or, add-one, append_assoc, ◌^◌, All}
use Rattle.std.specs.Prelude.{◌==◌, ◌&&◌, not, filter, if◌then◌else◌}
use Rattle.std.specs.Ordering.{nat_cmp, is_lt}
use Rattle.std.specs.List.Sorted.{IsNonDecreasingBy, IsStableByKey}
use Rattle.std.proofs.lemmas.Bool.{eqb-true}
use Rattle.std.proofs.lemmas.Bool.Decides.{nat_tests}
use Rattle.std.proofs.lemmas.List.Kept.{AllPairs-cons}
use Rattle.std.proofs.lemmas.List.Elements.{All-cons}
use Rattle.machine_spec.specs.StateText.{AreRising}
use Rattle.model_text.specs.Stores.{last_byte, byte_or, last_of_each, is_last_of, AreBytes}

abbrev Store : Type 0
Store = ℕ × ℕ

at_drop : (xs : List Store) (i : ℕ) (d : Store) → i < length xs → drop i xs ≡ get_or xs i d ∷ drop (i + 1) xs
at_drop xs i d lt = rw (add-one, drop-cons xs i d) refl

dropped_all : (xs : List Store) (i : ℕ) → length xs ≤ i → drop i xs ≡ []
dropped_all [] i le = drop_nil i
  where
    drop_nil : (i : ℕ) → drop i (let x : List Store = [] in x) ≡ []
    drop_nil zero = refl
    drop_nil (suc i) = refl
dropped_all (x ∷ xs) zero le = absurd (omega arith)
dropped_all (x ∷ xs) (suc i) le = dropped_all xs i (omega arith)

-- whether a change is the last of its address
pub last_here : (xs : List Store) (i : ℕ) → i < length xs → i + 1 ≡ length xs → is_last_of (drop i xs) ≡ true
last_here xs i lt e =
    ap is_last_of (at_drop xs i (0, 0) lt) ∙ ap (λ (r : List Store). is_last_of (get_or xs i (0, 0) ∷ r)) (dropped_all xs (i + 1) (omega arith))

kept_or_not : (x : Store) (rest : List Store) → last_of_each (x ∷ rest) ≡ (if is_last_of (x ∷ rest) then x ∷ last_of_each rest else last_of_each rest)
kept_or_not x [] = refl
kept_or_not x (y ∷ rest) = by (x.0 == y.0)
  where
    by : (b : Bool) → (if b then last_of_each (y ∷ rest) else x ∷ last_of_each (y ∷ rest)) ≡
        (if not b then x ∷ last_of_each (y ∷ rest) else last_of_each (y ∷ rest))
    by true = refl
    by false = refl

-- one more change
pub one_kept : (xs out : List Store) (i : ℕ) (d : Store) → i < length xs → is_last_of (drop i xs) ≡ true → out ++ last_of_each (drop i xs) ≡ last_of_each xs →
    (out ++ get_or xs i d ∷ []) ++ last_of_each (drop (i + 1) xs) ≡ last_of_each xs
one_kept xs out i d lt last h =
    let e = at_drop xs i d lt in
    let t : is_last_of (get_or xs i d ∷ drop (i + 1) xs) ≡ true = ap is_last_of (sym e) ∙ last in
    append_assoc out (get_or xs i d ∷ []) (last_of_each (drop (i + 1) xs))
    ∙ ap (λ (r : List Store). out ++ r) (sym (kept_or_not (get_or xs i d) (drop (i + 1) xs) ∙ ap (λ b. if b then get_or xs i d ∷ last_of_each (drop (i + 1) xs)
    else last_of_each (drop (i + 1) xs)) t))
    ∙ ap (λ (r : List Store). out ++ last_of_each r) (sym e) ∙ h

pub one_left : (xs out : List Store) (i : ℕ) → i < length xs → is_last_of (drop i xs) ≡ false → out ++ last_of_each (drop i xs) ≡ last_of_each xs →
    out ++ last_of_each (drop (i + 1) xs) ≡ last_of_each xs
one_left xs out i lt last h =
    let d : Store = (0, 0) in
    let e = at_drop xs i d lt in
    let t : is_last_of (get_or xs i d ∷ drop (i + 1) xs) ≡ false = ap is_last_of (sym e) ∙ last in
    ap (λ (r : List Store). out ++ r) (sym (kept_or_not (get_or xs i d) (drop (i + 1) xs) ∙ ap (λ b. if b then get_or xs i d ∷ last_of_each (drop (i + 1) xs)
    else last_of_each (drop (i + 1) xs)) t))
    ∙ ap (λ (r : List Store). out ++ last_of_each r) (sym e) ∙ h

-- ---- bytes

-- addresses do not fall
abbrev Up : List Store → Type 0
Up [] = Unit {0}
Up (x ∷ []) = Unit {0}
Up (x ∷ y ∷ rest) = (x.0 ≤ y.0) × Up (y ∷ rest)

up : (xs : List Store) → IsNonDecreasingBy (λ (x : Store). x.0) xs → Up xs
up [] h = tt
up (x ∷ []) h = tt
up (x ∷ y ∷ rest) h = (h 0 1 x (omega arith) (omega arith), up (y ∷ rest) (λ i j d le lt. h (suc i) (suc j) d (omega arith) (omega arith)))

-- above an address
abbrev Above : ℕ → List Store → Type 0
Above a [] = Unit {0}
Above a (x ∷ rest) = (a < x.0) × Above a rest

above_less : (a b : ℕ) (xs : List Store) → a ≤ b → Above b xs → Above a xs
above_less a b [] le h = tt
above_less a b (x ∷ xs) le h = (omega (arith, h.0, le), above_less a b xs le h.1)

up_above : (x y : Store) (rest : List Store) → x.0 < y.0 → Up (y ∷ rest) → Above x.0 (y ∷ rest)
up_above x y [] lt h = (lt, tt)
up_above x y (z ∷ rest) lt h = (lt, up_above x z rest (omega (arith, h.0, lt)) h.1)

differs : (a b : ℕ) → a < b → (a == b) ≡ false
differs a b lt = grind (arith, nat_tests)

none_above : (a fill : ℕ) (xs : List Store) → Above a xs → last_byte fill xs a ≡ fill
none_above a fill [] h = refl
none_above a fill (x ∷ xs) h = ap (λ b. last_byte (if b then x.1 else fill) xs a) (differs a x.0 h.0) ∙ none_above a fill xs h.1

same_bytes : (fill : ℕ) (xs : List Store) (a : ℕ) → Up xs → byte_or fill (last_of_each xs) a ≡ last_byte fill xs a
same_bytes fill [] a h = refl
same_bytes fill (x ∷ []) a h = refl
same_bytes fill (x ∷ y ∷ rest) a h = by (x.0 == y.0) (a == x.0) refl refl (same_bytes fill (y ∷ rest) a h.1)
  where
    by : (b c : Bool) → (x.0 == y.0) ≡ b → (a == x.0) ≡ c → byte_or fill (last_of_each (y ∷ rest)) a ≡ last_byte fill (y ∷ rest) a →
        byte_or fill (if b then last_of_each (y ∷ rest) else x ∷ last_of_each (y ∷ rest)) a ≡ last_byte (if c then x.1 else fill) (y ∷ rest) a
    by true false e f ih = ih
    by true true e f ih =
        let s : (a == y.0) ≡ true = ap (λ z. a == z) (sym (eqb-true x.0 y.0 e)) ∙ f in
        ih ∙ ap (λ b. last_byte (if b then y.1 else fill) rest a) s ∙ sym (ap (λ b. last_byte (if b then y.1 else x.1) rest a) s)
    by false true e f ih =
        let here : a ≡ x.0 = eqb-true a x.0 f in
        let less : x.0 < y.0 = grind (arith, nat_tests, e, h.0) in
        ap (λ b. if b then x.1 else byte_or fill (last_of_each (y ∷ rest)) a) f
        ∙ sym (none_above a x.1 (y ∷ rest) (subst (λ z. Above z (y ∷ rest)) (sym here) (up_above x y rest less h.1)))
    by false false e f ih = ap (λ b. if b then x.1 else byte_or fill (last_of_each (y ∷ rest)) a) f ∙ ih

same_filter : (f g : Store → Bool) → ((x : Store) → f x ≡ g x) → (xs : List Store) → filter f xs ≡ filter g xs
same_filter f g h [] = refl
same_filter f g h (x ∷ xs) =
    ap (λ (b : Bool). if b then x ∷ filter f xs else filter f xs) (h x) ∙ ap (λ (l : List Store). if g x then x ∷ l else l) (same_filter f g h xs)

tied : (a b : ℕ) → (not (is_lt (nat_cmp a b)) && not (is_lt (nat_cmp b a))) ≡ (a == b)
tied a b = grind (arith, nat_tests)

of_address : (fill : ℕ) (xs : List Store) (a : ℕ) → last_byte fill xs a ≡ last_byte fill (filter (λ (x : Store). a == x.0) xs) a
of_address fill [] a = refl
of_address fill (x ∷ xs) a = by (a == x.0) refl (λ k. of_address k xs a)
  where
    by : (b : Bool) → (a == x.0) ≡ b → ((k : ℕ) → last_byte k xs a ≡ last_byte k (filter (λ (z : Store). a == z.0) xs) a) →
        last_byte (if b then x.1 else fill) xs a ≡
        last_byte fill (if b then x ∷ filter (λ (z : Store). a == z.0) xs else filter (λ (z : Store). a == z.0) xs) a
    by true e ih = ih x.1 ∙ sym (ap (λ b. last_byte (if b then x.1 else fill) (filter (λ (z : Store). a == z.0) xs) a) e)
    by false e ih = ih fill

-- a stable sort by addresses keeps the last change of each
pub settled_bytes : (fill : ℕ) (xs ys : List Store) (a : ℕ) → IsStableByKey (λ (x : Store). x.0) nat_cmp xs ys → IsNonDecreasingBy (λ (x : Store). x.0) ys →
    byte_or fill (last_of_each ys) a ≡ last_byte fill xs a
settled_bytes fill xs ys a stable rising =
    let by : Store → Bool = λ y. not (is_lt (nat_cmp a y.0)) && not (is_lt (nat_cmp y.0 a)) in
    let is : Store → Bool = λ x. a == x.0 in
    same_bytes fill ys a (up ys rising) ∙ of_address fill ys a
    ∙ ap (λ (l : List Store). last_byte fill l a) (sym (same_filter by is (λ x. tied a x.0) ys) ∙ stable (a, 0) ∙ same_filter by is (λ x. tied a x.0) xs)
    ∙ sym (of_address fill xs a)

-- ---- order and ranges

above_kept : (a : ℕ) (xs : List Store) → Above a xs → Above a (last_of_each xs)
above_kept a [] h = tt
above_kept a (x ∷ []) h = h
above_kept a (x ∷ y ∷ rest) h = by (x.0 == y.0) (above_kept a (y ∷ rest) h.1)
  where
    by : (b : Bool) → Above a (last_of_each (y ∷ rest)) → Above a (if b then last_of_each (y ∷ rest) else x ∷ last_of_each (y ∷ rest))
    by true ih = ih
    by false ih = (h.0, ih)

-- each is above those before it
abbrev Rises : List Store → Type 0
Rises [] = Unit {0}
Rises (x ∷ rest) = Above x.0 rest × Rises rest

rises : (xs : List Store) → Up xs → Rises (last_of_each xs)
rises [] h = tt
rises (x ∷ []) h = (tt, tt)
rises (x ∷ y ∷ rest) h = by (x.0 == y.0) refl (rises (y ∷ rest) h.1)
  where
    by : (b : Bool) → (x.0 == y.0) ≡ b → Rises (last_of_each (y ∷ rest)) → Rises (if b then last_of_each (y ∷ rest) else x ∷ last_of_each (y ∷ rest))
    by true e ih = ih
    by false e ih =
        let less : x.0 < y.0 = grind (arith, nat_tests, e, h.0) in
        (above_kept x.0 (y ∷ rest) (up_above x y rest less h.1), ih)

above_all : (a : ℕ) (xs : List Store) → Above a xs → All (λ (y : Store). a < y.0) xs
above_all a [] h i d l = absurd (omega arith)
above_all a (x ∷ xs) h zero d l = h.0
above_all a (x ∷ xs) h (suc i) d l = above_all a xs h.1 i d (omega (arith, l))

all_rise : (xs : List Store) → Rises xs → AreRising xs
all_rise [] h = λ i j d less l. absurd (omega (arith, l))
all_rise (x ∷ xs) h = AllPairs-cons (λ (y z : Store). y.0 < z.0) x xs (above_all x.0 xs h.0) (all_rise xs h.1)

pub settled_rise : (xs : List Store) → IsNonDecreasingBy (λ (x : Store). x.0) xs → AreRising (last_of_each xs)
settled_rise xs h = all_rise (last_of_each xs) (rises xs (up xs h))

-- the last of each are some of all
kept_bytes : (x : Store) (rest : List Store) → (x.0 < 2 ^ 32) × (x.1 < 256) → AreBytes (last_of_each rest) → AreBytes (last_of_each (x ∷ rest))
kept_bytes x [] h k = All-cons (λ (b : Store). (b.0 < 2 ^ 32) × (b.1 < 256)) x [] h k
kept_bytes x (y ∷ rest) h k = by (x.0 == y.0)
  where
    by : (b : Bool) → AreBytes (if b then last_of_each (y ∷ rest) else x ∷ last_of_each (y ∷ rest))
    by true = k
    by false = All-cons (λ (b : Store). (b.0 < 2 ^ 32) × (b.1 < 256)) x (last_of_each (y ∷ rest)) h k

pub settled_ranges : (xs : List Store) → AreBytes xs → AreBytes (last_of_each xs)
settled_ranges [] h = h
settled_ranges (x ∷ rest) h =
    kept_bytes x rest (h 0 x (omega arith)) (settled_ranges rest (λ i d l. h (suc i) d (omega (arith, l))))
