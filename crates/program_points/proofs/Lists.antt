-- Where elements of lists stand.
use Rattle.std.proofs.Common.{◌≡◌, ◌⊎◌, inl, inr, ℕ, zero, suc, ◌+◌, ◌<◌, ◌≤◌, refl, ap, ◌∙◌, arith, List, [], ◌∷◌, ◌++◌, length, get_or, take, Some, Bool, true, false}
use Rattle.std.specs.Prelude.{slice_get, Contains}
use Rattle.std.proofs.Math.ListN.{length-append}
use Rattle.std.proofs.lemmas.Option.{slice_get_within, get_or_from_slice_get, slice_get-get_or}

pub truth : (b : Bool) → (b ≡ true) ⊎ (b ≡ false)
truth true = inl refl
truth false = inr refl

module _ {X : Type 0} where
  pub at_in : (xs : List X) (i : ℕ) (x : X) → slice_get xs i ≡ Some x → Contains xs x
  at_in xs i x e = (i, slice_get_within xs i x e, get_or_from_slice_get xs i x x e)

  pub in_at : (xs : List X) (x : X) → Contains xs x → (i : ℕ) × (i < length xs) × (slice_get xs i ≡ Some x)
  in_at xs x (i, h, e) = (i, h, slice_get-get_or xs i x h ∙ ap Some e)

  pub get_left : (xs ys : List X) (i : ℕ) → i < length xs → slice_get (xs ++ ys) i ≡ slice_get xs i
  get_left [] ys i h = absurd (omega arith)
  get_left (x ∷ xs) ys zero h = refl
  get_left (x ∷ xs) ys (suc i) h = get_left xs ys i (omega arith)

  pub keeps : (xs ys : List X) (i : ℕ) (x : X) → slice_get xs i ≡ Some x → slice_get (xs ++ ys) i ≡ Some x
  keeps xs ys i x e = get_left xs ys i (slice_get_within xs i x e) ∙ e

  pub or_left : (xs ys : List X) (i : ℕ) (d : X) → i < length xs → get_or (xs ++ ys) i d ≡ get_or xs i d
  or_left [] ys i d h = absurd (omega arith)
  or_left (x ∷ xs) ys zero d h = refl
  or_left (x ∷ xs) ys (suc i) d h = or_left xs ys i d (omega arith)

  pub or_last : (xs : List X) (x d : X) → get_or (xs ++ x ∷ []) (length xs) d ≡ x
  or_last [] x d = refl
  or_last (y ∷ xs) x d = or_last xs x d

  pub at_push : (xs : List X) (x : X) → slice_get (xs ++ x ∷ []) (length xs) ≡ Some x
  at_push [] x = refl
  at_push (y ∷ xs) x = at_push xs x

  pub push_cases : (xs : List X) (x : X) (i : ℕ) (y : X) → slice_get (xs ++ x ∷ []) i ≡ Some y → (slice_get xs i ≡ Some y) ⊎ ((i ≡ length xs) × (x ≡ y))
  push_cases [] x zero y e = inr (refl, (cc))
  push_cases [] x (suc i) y e = absurd (let l = slice_get_within (x ∷ []) (suc i) y e in omega arith)
  push_cases (z ∷ xs) x zero y e = inl e
  push_cases (z ∷ xs) x (suc i) y e = elim (push_cases xs x i y e) [ inl q ↦ inl q | inr q ↦ inr (ap suc q.0, q.1) ]

  pub grown : (xs ys : List X) (x : X) → ys ≡ xs ++ x ∷ [] → length ys ≡ length xs + 1
  grown xs ys x e = ap length e ∙ length-append xs (x ∷ [])

  pub nothing_more : (xs : List X) → xs ≡ xs ++ []
  nothing_more [] = refl
  nothing_more (x ∷ xs) = ap (λ l. x ∷ l) (nothing_more xs)

  pub regroup : (xs ys zs : List X) → (xs ++ ys) ++ zs ≡ xs ++ (ys ++ zs)
  regroup [] ys zs = refl
  regroup (x ∷ xs) ys zs = ap (λ l. x ∷ l) (regroup xs ys zs)

  pub longer : (xs ys new : List X) → new ≡ xs ++ ys → length xs ≤ length new
  longer xs ys new e = let a = ap length e in let b = length-append xs ys in omega arith

  pub take_whole : (xs : List X) (i : ℕ) → length xs ≤ i → take i xs ≡ xs
  take_whole [] zero h = refl
  take_whole [] (suc i) h = refl
  take_whole (x ∷ xs) zero h = absurd (omega arith)
  take_whole (x ∷ xs) (suc i) h = ap (λ l. x ∷ l) (take_whole xs i (omega arith))
