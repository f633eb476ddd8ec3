-- What is listed of the first elements of a list.
use Rattle.std.proofs.Common.{◌≡◌, ℕ, ◌+◌, ◌<◌, List, [], ◌∷◌, ◌++◌, length, get_or, take, ap, sym, ◌∙◌, map, Bool}
use Rattle.std.specs.List.{filter}
use Rattle.std.proofs.lemmas.List.{map-append, take_more}

-- what is listed of those of the first i elements whose views pass a test
abbrev pub listed : {X Y Z : Type 0} → (Y → Z) → (Y → Bool) → (X → Y) → (xs : List X) → (i : ℕ) → List Z
listed f p v xs i = map f (filter p (map v (take i xs)))

-- the images of the first elements, by one more
pub taken_more : {X Y : Type 0} (f : X → Y) (xs : List X) (i : ℕ) (x : X) (found new : List Y) → i < length xs → x ≡ get_or xs i x
    → new ≡ found ++ f x ∷ [] → found ≡ map f (take i xs) → new ≡ map f (take (i + 1) xs)
taken_more f xs i x found new fits is pushed before =
    pushed
    ∙ ap (λ l. l ++ f x ∷ []) before
    ∙ sym (ap (map f) (take_more xs i x fits ∙ ap (λ y. take i xs ++ y ∷ []) (sym is)) ∙ map-append f (take i xs) (x ∷ []))

-- three lists that were added to none
pub three : {X : Type 0} (none one two all xs ys zs : List X) → none ≡ [] → one ≡ none ++ xs → two ≡ one ++ ys → all ≡ two ++ zs → all ≡ xs ++ ys ++ zs
three none one two all xs ys zs begun first second third =
    third ∙ ap (λ l. l ++ zs) (second ∙ ap (λ l. l ++ ys) (first ∙ ap (λ l. l ++ xs) begun))
