-- Assert lines that are judged one by one.
use Rattle.std.proofs.Common.{◌≡◌, ℕ, zero, suc, ◌<◌, Bool, true, false, List, [], ◌∷◌, length, refl, ap, sym, ◌∙◌, subst, arith, get_or, map, filter, not, Contains}
use Rattle.std.specs.Prelude.{◌&&◌, ◌||◌, ◌==◌, cond, nat_eq}
use Rattle.std.specs.List.{list_any}
use Rattle.std.proofs.lemmas.Bool.Decides.{nat_tests}
use Rattle.bilv_spec.specs.Notes.{Assert, Expr}
use Rattle.frame_spec.specs.FrameWalk.{Check}
use Rattle.notes_value.specs.Views.{expr_of}
use Rattle.notes_value.specs.NoteViews.{assert_of}
use Rattle.notes_value.specs.declared.notes.Assert.{Assert as SourceAssert}
use Rattle.question_form.specs.declared.unrolled.Unrolled.{Unrolled}
use Rattle.question_form.specs.FrameViews.{check_at, is_invariant}
use Rattle.question_form.specs.Views.{no_assert}
use Rattle.passify.specs.Situations.{checks_of, said}
use Rattle.passify.proofs.Lines.{at_map}

equal_back : (x y : ℕ) → (y == x) ≡ nat_eq x y
equal_back x y = grind (arith, nat_tests)

-- a list has a number
pub among : (x : ℕ) (xs : List ℕ) → list_any (λ y. y == x) xs ≡ list_any (nat_eq x) xs
among x [] = refl
among x (y ∷ xs) = ap (λ b. b || list_any (λ z. z == x) xs) (equal_back x y) ∙ ap (λ b. nat_eq x y || b) (among x xs)

pub filter_in : {X : Type 0} (p : X → Bool) (x : X) (xs : List X) → p x ≡ true → filter p (x ∷ xs) ≡ x ∷ filter p xs
filter_in p x xs e = ap (λ b. cond b (x ∷ filter p xs) (filter p xs)) e

pub filter_out : {X : Type 0} (p : X → Bool) (x : X) (xs : List X) → p x ≡ false → filter p (x ∷ xs) ≡ filter p xs
filter_out p x xs e = ap (λ b. cond b (x ∷ filter p xs) (filter p xs)) e

-- a line as it is read
abbrev pub check_of : Unrolled → SourceAssert → Check
check_of u l = record { line = l.line; invariant = is_invariant u l.line; says = expr_of l.says }

module _ (u : Unrolled) (x : ℕ × ℕ) (l : SourceAssert) (within : x.1 < length u.notes.now.asserts.items) (is : l ≡ get_or u.notes.now.asserts.items x.1 l) where
  pub check_is : check_at u x ≡ check_of u l
  check_is =
      ap (λ (a : Assert). record { line = a.line; invariant = is_invariant u a.line; says = a.says })
      (at_map assert_of u.notes.now.asserts.items x.1 l no_assert within is)

  module _ (skips : Bool) (rest : List (ℕ × ℕ)) where
    abbrev test : Check → Bool
    test c = not (skips && c.invariant)

    pub judged_first : not (skips && is_invariant u l.line) ≡ true → checks_of u skips (x ∷ rest) ≡ check_of u l ∷ checks_of u skips rest
    judged_first e =
        filter_in test (check_at u x) (map (check_at u) rest) (ap test check_is ∙ e) ∙ ap (λ (c : Check). c ∷ checks_of u skips rest) check_is

    pub skipped_first : not (skips && is_invariant u l.line) ≡ false → checks_of u skips (x ∷ rest) ≡ checks_of u skips rest
    skipped_first e = filter_out test (check_at u x) (map (check_at u) rest) (ap test check_is ∙ e)

pub further : {X : Type 0} (x y : X) (xs : List X) → Contains xs x → Contains (y ∷ xs) x
further x y xs (i, l, e) = (suc i, omega (arith, l), e)

-- what an element of a filtered list says is among what the list of one more says
pub later_in : {X : Type 0} (p : X → Bool) (f : X → Expr) (y : X) (ys : List X) (e : Expr) → Contains (map f (filter p ys)) e →
    Contains (map f (filter p (y ∷ ys))) e
later_in p f y ys e h = by (p y)
  where
    by : (b : Bool) → Contains (map f (cond b (y ∷ filter p ys) (filter p ys))) e
    by true = further e (f y) (map f (filter p ys)) h
    by false = h

-- a line that is judged is among those that are
pub judged_among : (u : Unrolled) (skips : Bool) (index : List (ℕ × ℕ)) (i : ℕ) (x : ℕ × ℕ) (l : SourceAssert) → i < length index → x ≡ get_or index i x →
    x.1 < length u.notes.now.asserts.items → l ≡ get_or u.notes.now.asserts.items x.1 l → not (skips && is_invariant u l.line) ≡ true →
    Contains (said (checks_of u skips index)) (expr_of l.says)
judged_among u skips [] i x l h at within is e = absurd (omega (arith, h))
judged_among u skips (y ∷ ys) zero x l h at within is e =
    subst (λ (z : ℕ × ℕ). Contains (said (checks_of u skips (z ∷ ys))) (expr_of l.says)) at
    (subst (λ (cs : List Check). Contains (said cs) (expr_of l.says)) (sym (judged_first u x l within is skips ys e)) (0, omega arith, refl))
judged_among u skips (y ∷ ys) (suc i) x l h at within is e =
    later_in (λ c. not (skips && c.invariant)) (λ c. c.says) (check_at u y) (map (check_at u) ys) (expr_of l.says)
    (judged_among u skips ys i x l (omega (arith, h)) at within is e)
