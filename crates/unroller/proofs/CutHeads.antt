-- The heads of a frame, by the addresses of its invariants.
use Rattle.std.proofs.Common.{◌≡◌, refl, ap, sym, ◌∙◌, subst, arith, ℕ, zero, suc, Bool, true, false, List, [], ◌∷◌}
use Rattle.std.specs.Prelude.{◌==◌, not, length, ◌&&◌, ◌||◌, ◌↔◌, Contains, if◌then◌else◌}
use Rattle.std.specs.List.{list_any}
use Rattle.std.proofs.lemmas.Bool.Decides.{nat_tests}
use Rattle.bilv_spec.specs.Notes.{Assert}
use Rattle.bilv_spec.proofs.PointSteps.{there}
use Rattle.frame_spec.specs.Frames.{Frame, is_head, is_invariant, invariants_of}
use Rattle.frame_spec.specs.FramePoints.{has_heads}
use Rattle.program_points.specs.Tables.{is_among}
use Rattle.unroller.specs.Heads.{is_line, head_places}

same_number : (x a : ℕ) → (x == a) ≡ true → x ≡ a
same_number x a h = grind (arith, nat_tests)

same_test : (x a : ℕ) → x ≡ a → (x == a) ≡ true
same_test x a h = grind (arith, nat_tests)

more_than_none : (n : ℕ) → (suc n == 0) ≡ false
more_than_none n = grind (arith, nat_tests)

pub left_true : (a b : Bool) → a ≡ true → (a || b) ≡ true
left_true true b h = refl
left_true false b h = absurd (cc)

pub right_true : (a b : Bool) → b ≡ true → (a || b) ≡ true
right_true true b h = refl
right_true false b h = h

pub both_ways : (a b : Bool) → (a ≡ true → b ≡ true) → (b ≡ true → a ≡ true) → a ≡ b
both_ways true true h g = refl
both_ways false false h g = refl
both_ways true false h g = absurd (let z = h refl in cc)
both_ways false true h g = absurd (let z = g refl in cc)

among_by : (x a : ℕ) (xs : List ℕ) (b : Bool) → (x == a) ≡ b → (is_among xs a ≡ true → Contains xs a) → (b || is_among xs a) ≡ true → Contains (x ∷ xs) a
among_by x a xs true e g h = (0, omega arith, same_number x a e)
among_by x a xs false e g h = there x xs a (g h)

pub among_in : (xs : List ℕ) (a : ℕ) → is_among xs a ≡ true → Contains xs a
among_in [] a h = absurd (cc)
among_in (x ∷ xs) a h = among_by x a xs (x == a) refl (among_in xs a) h

pub in_among : (xs : List ℕ) (a : ℕ) → Contains xs a → is_among xs a ≡ true
in_among [] a (i, w, e) = absurd (omega arith)
in_among (x ∷ xs) a (zero, w, e) = left_true (x == a) (is_among xs a) (same_test x a e)
in_among (x ∷ xs) a (suc i, w, e) = right_true (x == a) (is_among xs a) (in_among xs a (i, omega arith, e))

module _ (f : Frame) (a : ℕ) where
  places_by : (b : Bool) (x : Assert) (rest : List Assert) (places : List ℕ) → list_any (λ y. y.at == a) rest ≡ is_among places a →
      list_any (λ y. y.at == a) (if b then x ∷ rest else rest) ≡ is_among (if b then x.at ∷ places else places) a
  places_by true x rest places h = ap (λ (c : Bool). (x.at == a) || c) h
  places_by false x rest places h = h

  places_are : (l : List Assert) → list_any (λ x. x.at == a) (invariants_of f l) ≡ is_among (head_places f.invariants l) a
  places_are [] = refl
  places_are (x ∷ l) = places_by (is_invariant f x) x (invariants_of f l) (head_places f.invariants l) (places_are l)

module _ (f : Frame) (heads : List ℕ) (cuts : f.cuts ≡ true)
    (same : (x : ℕ) → Contains (head_places f.invariants f.program.notes.asserts) x ↔ Contains heads x) where
  pub heads_are : (a : ℕ) → is_head f a ≡ is_among heads a
  heads_are a =
      let places = head_places f.invariants f.program.notes.asserts in
      ap (λ (b : Bool). b && list_any (λ x. x.at == a) (invariants_of f f.program.notes.asserts)) cuts ∙ places_are f a f.program.notes.asserts
      ∙ both_ways (is_among places a) (is_among heads a) (λ h. in_among heads a ((same a).0 (among_in places a h)))
      (λ h. in_among places a ((same a).1 (among_in heads a h)))

  no_heads_by : (l : List Assert) → ((a : ℕ) → is_head f a ≡ false) → list_any (λ x. is_head f x.at) l ≡ false
  no_heads_by [] h = refl
  no_heads_by (x ∷ l) h = ap (λ (b : Bool). b || list_any (λ x. is_head f x.at) l) (h x.at) ∙ no_heads_by l h

  pub heads_none : heads ≡ [] → has_heads f ≡ false
  heads_none e = no_heads_by f.program.notes.asserts (λ a. heads_are a ∙ ap (λ (l : List ℕ). is_among l a) e)

  some_head_by : (b : Bool) (x : Assert) (l : List Assert) (a : ℕ) → is_head f a ≡ true → (Contains (head_places f.invariants l) a →
      list_any (λ x. is_head f x.at) l ≡ true) → Contains (if b then x.at ∷ head_places f.invariants l else head_places f.invariants l) a →
      list_any (λ x. is_head f x.at) (x ∷ l) ≡ true
  some_head_by true x l a h g (zero, w, e) = left_true (is_head f x.at) (list_any (λ x. is_head f x.at) l) (ap (is_head f) e ∙ h)
  some_head_by true x l a h g (suc i, w, e) = right_true (is_head f x.at) (list_any (λ x. is_head f x.at) l) (g (i, omega arith, e))
  some_head_by false x l a h g c = right_true (is_head f x.at) (list_any (λ x. is_head f x.at) l) (g c)

  some_head : (l : List Assert) (a : ℕ) → is_head f a ≡ true → Contains (head_places f.invariants l) a → list_any (λ x. is_head f x.at) l ≡ true
  some_head [] a h (i, w, e) = absurd (omega arith)
  some_head (x ∷ l) a h c = some_head_by (is_line f.invariants x) x l a h (some_head l a h) c

  pub heads_some : (a : ℕ) → Contains heads a → has_heads f ≡ true
  heads_some a c = some_head f.program.notes.asserts a (heads_are a ∙ in_among heads a c) ((same a).1 c)

  -- whether there are any
  pub heads_flag : (b : Bool) → b ≡ (length heads == 0) → not b ≡ has_heads f
  heads_flag b e = by heads refl b e
    where
      by : (l : List ℕ) → heads ≡ l → (b : Bool) → b ≡ (length heads == 0) → not b ≡ has_heads f
      by [] z b e = ap not (e ∙ ap (λ (l : List ℕ). length l == 0) z) ∙ sym (heads_none z)
      by (a ∷ l) z b e =
          ap not (e ∙ ap (λ (l : List ℕ). length l == 0) z ∙ more_than_none (length l))
          ∙ sym (heads_some a (subst (λ (l : List ℕ). Contains l a) (sym z) (0, omega arith, refl)))

-- without invariants there are none
no_places : (l : List Assert) → head_places [] l ≡ []
no_places [] = refl
no_places (x ∷ l) = no_places l

pub no_heads : (invariants : List ℕ) (l : List Assert) (heads : List ℕ) → invariants ≡ [] → ((x : ℕ) →
    Contains (head_places invariants l) x ↔ Contains heads x) →
    heads ≡ []
no_heads invariants l [] e same = refl
no_heads invariants l (a ∷ heads) e same = absurd (none a (subst (λ (z : List ℕ). Contains z a) (no_places l)
    (subst (λ (z : List ℕ). Contains (head_places z l) a) e ((same a).1 (0, omega arith, refl)))))
  where
    none : (a : ℕ) → Contains [] a → ⊥
    none a (i, w, q) = omega arith
