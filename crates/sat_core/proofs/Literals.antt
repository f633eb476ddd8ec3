-- Literals and clauses.
use Rattle.std.proofs.Common.{◌≡◌, ℕ, zero, suc, ◌+◌, ◌-◌, ◌<◌, Bool, true, false, not, ◌&&◌, ◌||◌, [], ◌∷◌, ◌++◌, refl, arith, sym, ap, ◌∙◌, length, inl, inr, ◌⊎◌, get_or, take}
use Rattle.std.specs.Prelude.{◌==◌}
use Rattle.std.proofs.lemmas.Bool.{cases_Bool, or_cases, and_parts, both_ways}
use Rattle.clause_spec.specs.Clauses.{Literal, Clause, same, same_sign, opposite, has}
use Rattle.clause_spec.specs.UnitPropagation.{negations}
use Rattle.clause_spec.specs.Refutation.{is_tautology, added}
use Rattle.std.proofs.lemmas.List.{take_more, take_all}
use Rattle.clause_spec.proofs.Looks.{same-true, same-self, or_left, or_right}
use Rattle.clause_spec.proofs.NewClauses.{opposite_twice, differ_swap}
use Rattle.sat_core.specs.Kept.{others}

pub fun_ext : {A B : Type 0} (f g : A → B) → ((x : A) → f x ≡ g x) → f ≡ g
fun_ext f g h = λ i. λ x. h x i

or_false_parts : (a b : Bool) → (a || b) ≡ false → (a ≡ false) × (b ≡ false)
or_false_parts true b h = absurd (cc)
or_false_parts false b h = (refl, h)

signs-opposite : (a b : Bool) → same_sign (not a) b ≡ same_sign a (not b)
signs-opposite true true = refl
signs-opposite true false = refl
signs-opposite false true = refl
signs-opposite false false = refl

same-opposite : (x m : Literal) → same (opposite x) m ≡ same x (opposite m)
same-opposite x m = ap (λ b. (x.variable == m.variable) && b) (signs-opposite x.positive m.positive)

pub has-append : (xs ys : Clause) (l : Literal) → has (xs ++ ys) l ≡ (has xs l || has ys l)
has-append [] ys l = refl
has-append (x ∷ xs) ys l = grind (arith, has-append xs ys l)

-- one more literal
pub has-last : (c : Clause) (l m : Literal) → has (c ++ l ∷ []) m ≡ true → (has c m ≡ true) ⊎ (l ≡ m)
has-last c l m h = elim (or_cases (has c m) (same l m || false) (sym (has-append c (l ∷ []) m) ∙ h)) [
  | inl e ↦ inl e
  | inr e ↦ elim (or_cases (same l m) false e) [ inl s ↦ inr (same-true l m s) | inr s ↦ absurd (cc) ]
]

pub last-front : (c : Clause) (l m : Literal) → has c m ≡ true → has (c ++ l ∷ []) m ≡ true
last-front c l m h = has-append c (l ∷ []) m ∙ or_left (has c m) (same l m || false) h

pub last-self : (c : Clause) (l : Literal) → has (c ++ l ∷ []) l ≡ true
last-self c l = has-append c (l ∷ []) l ∙ or_right (has c l) (same l l || false) (or_left (same l l) false (same-self l))

has-get : (c : Clause) (i : ℕ) (d : Literal) → i < length c → has c (get_or c i d) ≡ true
has-get [] i d h = absurd (omega arith)
has-get (x ∷ xs) zero d h = or_left (same x x) (has xs x) (same-self x)
has-get (x ∷ xs) (suc i) d h = or_right (same x (get_or xs i d)) (has xs (get_or xs i d)) (has-get xs i d (omega arith))

pub has-item : (c : Clause) (i : ℕ) (x : Literal) → i < length c → x ≡ get_or c i x → has c x ≡ true
has-item c i x lt e = ap (has c) e ∙ has-get c i x lt

pub none-has : (c : Clause) → ((m : Literal) → has c m ≡ true → ⊥) → c ≡ []
none-has [] f = refl
none-has (x ∷ xs) f = absurd (f x (or_left (same x x) (has xs x) (same-self x)))

-- no literal of a clause that is no tautology stands behind its opposite
pub not-behind : (c : Clause) (i : ℕ) (x : Literal) → i < length c → is_tautology c ≡ false → x ≡ get_or c i x → has (take i c) (opposite x) ≡ false
not-behind [] i x lt h is = absurd (omega arith)
not-behind (y ∷ ys) zero x lt h is = refl
not-behind (y ∷ ys) (suc i) x lt h is =
    let p = or_false_parts (has ys (opposite y)) (is_tautology ys) h in
    elim (cases_Bool (same y (opposite x))) [
      | inl e ↦ absurd (both_ways (has ys (opposite y)) p.0 (rw (same-true y (opposite x) e, opposite_twice x) (has-item ys i x (omega arith) is)))
      | inr e ↦ rw e (not-behind ys i x (omega arith) p.1 is)
    ]

or_swap : (a b : Bool) → (a || (b || false)) ≡ (b || a)
or_swap true true = refl
or_swap true false = refl
or_swap false true = refl
or_swap false false = refl

front : (c : Clause) (i : ℕ) (x : Literal) → i < length c → x ≡ get_or c i x → take (i + 1) c ≡ take i c ++ x ∷ []
front c i x lt is = take_more c i x lt ∙ ap (λ (y : Literal). take i c ++ y ∷ []) (sym is)

pub has-taken : (c : Clause) (i : ℕ) (x : Literal) → i < length c → x ≡ get_or c i x → (m : Literal) → has (take (i + 1) c) m ≡ true →
    (has (take i c) m ≡ true) ⊎ (x ≡ m)
has-taken c i x lt is m h = has-last (take i c) x m (ap (λ (d : Clause). has d m) (sym (front c i x lt is)) ∙ h)

-- one more literal is denied
pub denied-more : (c : Clause) (i : ℕ) (x : Literal) → i < length c → x ≡ get_or c i x → (h k : Literal → Bool) →
    ((m : Literal) → h m ≡ negations (take i c) m) →
    ((m : Literal) → k m ≡ added (opposite x) h m) → (m : Literal) → k m ≡ negations (take (i + 1) c) m
denied-more c i x lt is h k inv new m =
    new m ∙ rw (inv m, same-opposite x m) (sym (or_swap (has (take i c) (opposite m)) (same x (opposite m))))
    ∙ sym (ap (λ (d : Clause). has d (opposite m)) (front c i x lt is) ∙ has-append (take i c) (x ∷ []) (opposite m))

pub plain-last : (c : Clause) (l : Literal) → is_tautology c ≡ false → has c (opposite l) ≡ false → is_tautology (c ++ l ∷ []) ≡ false
plain-last [] l h g = refl
plain-last (x ∷ xs) l h g =
    let p = or_false_parts (has xs (opposite x)) (is_tautology xs) h in
    let q = or_false_parts (same x (opposite l)) (has xs (opposite l)) g in
    elim (cases_Bool (has (xs ++ l ∷ []) (opposite x))) [
      | inl e ↦ elim (has-last xs l (opposite x) e) [
        | inl f ↦ absurd (both_ways (has xs (opposite x)) p.0 f)
        | inr f ↦ absurd (both_ways (same x (opposite l)) q.0 (ap (λ (z : Literal). same x (opposite z)) f ∙ ap (same x) (opposite_twice x) ∙ same-self x))
      ]
      | inr e ↦ rw e (plain-last xs l p.1 q.1)
    ]

-- the last literal and those before it are determined
pub same-last : (xs ys : Clause) (x y : Literal) → xs ++ x ∷ [] ≡ ys ++ y ∷ [] → (xs ≡ ys) × (x ≡ y)
same-last [] [] x y h = (refl, cc)
same-last [] (b ∷ []) x y h = absurd (cc)
same-last [] (b ∷ c ∷ cs) x y h = absurd (cc)
same-last (a ∷ []) [] x y h = absurd (cc)
same-last (a ∷ c ∷ cs) [] x y h = absurd (cc)
same-last (a ∷ as') (b ∷ bs) x y h =
    let p : a ≡ b = cc in
    let q : as' ++ x ∷ [] ≡ bs ++ y ∷ [] = cc in
    let r = same-last as' bs x y q in
    (let e = r.0 in cc, r.1)

pub cases-last : (c : Clause) → (c ≡ []) ⊎ ((e : Clause) × (l : Literal) × (c ≡ e ++ l ∷ []))
cases-last [] = inl refl
cases-last (x ∷ xs) = inr (elim (cases-last xs) [
  | inl e ↦ ([], x, rw e refl)
  | inr r ↦ (x ∷ r.0, r.1, ap (λ (z : Clause). x ∷ z) r.2)
])

drop_same : (a b : Bool) → (b && not a) ≡ ((a || b) && not a)
drop_same true true = refl
drop_same true false = refl
drop_same false true = refl
drop_same false false = refl

-- the clause without a literal
pub has-others : (c : Clause) (x m : Literal) → has (others c x) m ≡ (has c m && not (same x m))
has-others [] x m = refl
has-others (y ∷ ys) x m = elim (cases_Bool (same y x)) [
  | inl e ↦
      let q : y ≡ x = same-true y x e in
      rw (e, has-others ys x m) (rw q (drop_same (same x m) (has ys m)))
  | inr e ↦ elim (cases_Bool (same y m)) [
    | inl f ↦ let g : same x m ≡ false = rw (← same-true y m f) (differ_swap x y e) in rw (e, f, g) refl
    | inr f ↦ rw (e, f, has-others ys x m) refl
  ]
]

pub others-part : (c : Clause) (x m : Literal) → has (others c x) m ≡ true → has c m ≡ true
others-part c x m h = (and_parts (has c m) (not (same x m)) (sym (has-others c x m) ∙ h)).0

pub others-plain : (c : Clause) (x : Literal) → is_tautology c ≡ false → is_tautology (others c x) ≡ false
others-plain [] x h = refl
others-plain (y ∷ ys) x h =
    let p = or_false_parts (has ys (opposite y)) (is_tautology ys) h in
    elim (cases_Bool (same y x)) [
      | inl e ↦ rw e (others-plain ys x p.1)
      | inr e ↦ elim (cases_Bool (has (others ys x) (opposite y))) [
        | inl f ↦ absurd (both_ways (has ys (opposite y)) p.0 (others-part ys x (opposite y) f))
        | inr f ↦ rw (e, f) (others-plain ys x p.1)
      ]
    ]

-- a literal that is true already
pub added-same : (l : Literal) (h : Literal → Bool) → h l ≡ true → (m : Literal) → h m ≡ added l h m
added-same l h t m = elim (cases_Bool (same l m)) [
  | inl e ↦ rw e (ap h (sym (same-true l m e)) ∙ t)
  | inr e ↦ rw e refl
]

split_behind : (y : Literal) (ys : Clause) (x : Literal) → x ≡ get_or (y ∷ ys) (length (y ∷ ys) - 1) x → y ∷ ys ≡ take (length (y ∷ ys) - 1) (y ∷ ys) ++ x ∷ []
split_behind y ys x is =
    let n : length (y ∷ ys) - 1 ≡ length ys = omega arith in
    let lt : length ys < length (y ∷ ys) = omega arith in
    let e = ap (λ i. get_or (y ∷ ys) i x) n in
    sym (take_all (length ys + 1) (y ∷ ys) (omega arith)) ∙ front (y ∷ ys) (length ys) x lt (is ∙ e) ∙ ap (λ i. take i (y ∷ ys) ++ x ∷ []) (sym n)

-- a clause without its last literal
pub split-last : (c : Clause) (x : Literal) → 0 < length c → x ≡ get_or c (length c - 1) x → c ≡ take (length c - 1) c ++ x ∷ []
split-last [] x lt is = absurd (omega arith)
split-last (y ∷ ys) x lt is = split_behind y ys x is

pub plain-front : (c : Clause) (l : Literal) → is_tautology (c ++ l ∷ []) ≡ false → is_tautology c ≡ false
plain-front [] l h = refl
plain-front (x ∷ xs) l h =
    let p = or_false_parts (has (xs ++ l ∷ []) (opposite x)) (is_tautology (xs ++ l ∷ [])) h in
    elim (cases_Bool (has xs (opposite x))) [
      | inl e ↦ absurd (both_ways (has (xs ++ l ∷ []) (opposite x)) p.0 (last-front xs l (opposite x) e))
      | inr e ↦ rw e (plain-front xs l p.1)
    ]

own-sign : (b : Bool) → b ≡ not b → ⊥
own-sign true e = cc
own-sign false e = cc

-- a clause that is no tautology has no literal beside its opposite
pub plain-apart : (c : Clause) → is_tautology c ≡ false → (l : Literal) → has c l ≡ true → has c (opposite l) ≡ true → ⊥
plain-apart [] h l p q = cc
plain-apart (x ∷ xs) h l p q =
    let r = or_false_parts (has xs (opposite x)) (is_tautology xs) h in
    elim (or_cases (same x l) (has xs l) p) [
      | inl e ↦ elim (or_cases (same x (opposite l)) (has xs (opposite l)) q) [
        | inl f ↦ own-sign l.positive (ap (λ (z : Literal). z.positive) (sym (same-true x l e) ∙ same-true x (opposite l) f))
        | inr f ↦ both_ways (has xs (opposite x)) r.0 (ap (λ z. has xs (opposite z)) (same-true x l e) ∙ f)
      ]
      | inr e ↦ elim (or_cases (same x (opposite l)) (has xs (opposite l)) q) [
        | inl f ↦ both_ways (has xs (opposite x)) r.0 (ap (λ z. has xs (opposite z)) (same-true x (opposite l) f) ∙ ap (has xs) (opposite_twice l) ∙ e)
        | inr f ↦ plain-apart xs r.1 l e f
      ]
    ]
