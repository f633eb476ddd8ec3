-- Lists of notes and of addresses.
use Rattle.std.proofs.Common.{◌≡◌, ℕ, ◌+◌, ◌-◌, ◌<◌, List, ◌∷◌, length, get_or, map, refl, subst, arith}
use Rattle.std.specs.List.{All}
use Rattle.std.proofs.lemmas.List.{length-map}
use Rattle.std.proofs.Math.Numerals.{add-one}
use Rattle.std.proofs.Math.ListN.{get_or-map}
use Rattle.word_spec.specs.Words.{add}
use Rattle.word_spec.specs.Memory.{span}

-- a fact of each element of a mapped list
pub unmapped : {X Y : Type 0} (Q : Y → Type 0) (f : X → Y) (xs ys : List X) → ys ≡ xs → All Q (map f xs) → All (λ x. Q (f x)) ys
unmapped Q f xs ys is h k d w =
    let within : k < length xs = subst (λ zs. k < length zs) is w in
    let at : Q (f (get_or xs k d)) = rw (← get_or-map f xs k d) (h k (f d) (rw (length-map xs f) within)) in
    rw is at

-- the addresses that are left of so many bytes, one of them apart
pub span_more : (a n i : ℕ) → i < n → span a (n - i) ≡ a ∷ span (add 32 a 1) (n - (i + 1))
span_more a n i less = let more : n - i ≡ (n - (i + 1)) + 1 = omega arith in rw (more, add-one) refl
