-- The bytes of links, one link after another.
use Rattle.std.proofs.Common.{◌≡◌, ℕ, zero, suc, ◌+◌, ◌<◌, ◌≤◌, refl, arith, List, [], ◌∷◌, length, drop, get_or, add-one, drop-cons}
use Rattle.pair_spec.specs.Links.{EqualAtEntry, EqualAtExit, SharedBytes, SameBytes}
use Rattle.pair_spec.specs.Links as spec
use Rattle.pair_spec.specs.Pairs.{shared_bytes, same_bytes}
use Rattle.links_lang.specs.declared.links.Link.{Link}
use Rattle.links_lang.specs.Views.{link_of, links_of}

one_shared : (l : spec.Link) (rest : List spec.Link) → shared_bytes (l ∷ rest) ≡ shared_bytes (l ∷ []) + shared_bytes rest
one_shared (EqualAtEntry n x y) rest = omega arith
one_shared (EqualAtExit n x y) rest = omega arith
one_shared (SharedBytes n low high) rest = omega arith
one_shared (SameBytes n low high) rest = omega arith

one_same : (l : spec.Link) (rest : List spec.Link) → same_bytes (l ∷ rest) ≡ same_bytes (l ∷ []) + same_bytes rest
one_same (EqualAtEntry n x y) rest = omega arith
one_same (EqualAtExit n x y) rest = omega arith
one_same (SharedBytes n low high) rest = omega arith
one_same (SameBytes n low high) rest = omega arith

pub more_shared : (links : List Link) (i : ℕ) (d : Link) → i < length links →
    shared_bytes (links_of (drop i links)) ≡ shared_bytes (link_of (get_or links i d) ∷ []) + shared_bytes (links_of (drop (i + 1) links))
more_shared links i d below = rw (add-one, drop-cons links i d) (one_shared (link_of (get_or links i d)) (links_of (drop (suc i) links)))

pub more_same : (links : List Link) (i : ℕ) (d : Link) → i < length links →
    same_bytes (links_of (drop i links)) ≡ same_bytes (link_of (get_or links i d) ∷ []) + same_bytes (links_of (drop (i + 1) links))
more_same links i d below = rw (add-one, drop-cons links i d) (one_same (link_of (get_or links i d)) (links_of (drop (suc i) links)))

pub no_more_shared : (links : List Link) (i : ℕ) → length links ≤ i → shared_bytes (links_of (drop i links)) ≡ 0
no_more_shared [] zero le = refl
no_more_shared [] (suc i) le = refl
no_more_shared (l ∷ links) zero le = absurd (omega (arith, le))
no_more_shared (l ∷ links) (suc i) le = no_more_shared links i (omega (arith, le))

pub no_more_same : (links : List Link) (i : ℕ) → length links ≤ i → same_bytes (links_of (drop i links)) ≡ 0
no_more_same [] zero le = refl
no_more_same [] (suc i) le = refl
no_more_same (l ∷ links) zero le = absurd (omega (arith, le))
no_more_same (l ∷ links) (suc i) le = no_more_same links i (omega (arith, le))
