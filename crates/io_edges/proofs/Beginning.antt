-- Reads that began, one after the other.
use Rattle.std.proofs.Common.{◌≡◌, ℕ, ◌+◌, ◌≤◌, ◌<◌, List, [], ◌∷◌, ◌++◌, Bool, true, false, refl, ap, arith}
use Rattle.std.specs.Prelude.{◌==◌, ◌&&◌}
use Rattle.std.specs.Str.{bytes_eq}
use Rattle.std.proofs.lemmas.Bool.Decides.{nat_tests}
use Rattle.io_edges.specs.Begun.{one_if, times, BeginsAt, AreBegun}

times_append : (n : List ℕ) (xs ys : List (List ℕ)) → times n (xs ++ ys) ≡ times n xs + times n ys
times_append n [] ys = let z = times n ys in omega arith
times_append n (x ∷ xs) ys = let e = times_append n xs ys in omega (arith, e)

-- none began
pub begun_none : (a : List ℕ → ℕ → ℕ) (names : List (List ℕ)) → AreBegun a a names
begun_none a names = record { few = λ n p. omega arith }

-- none that may have begun
pub begun_more : (a b : List ℕ → ℕ → ℕ) (xs ys : List (List ℕ)) → AreBegun a b xs → AreBegun a b (xs ++ ys)
begun_more a b xs ys h = record { few = λ n p. let f = h.few n p in let e = times_append n xs ys in omega (arith, f, e) }

-- some began, and then others
pub begun_then : (a b c : List ℕ → ℕ → ℕ) (xs ys : List (List ℕ)) → AreBegun a b xs → AreBegun b c ys → AreBegun a c (xs ++ ys)
begun_then a b c xs ys h k = record { few = λ n p. let f = h.few n p in let g = k.few n p in let e = times_append n xs ys in omega (arith, f, g, e) }

-- ---- one file, piece by piece

-- no read began at a place from here on
abbrev pub NoneFrom : (a b : List ℕ → ℕ → ℕ) → ℕ → Type 0
NoneFrom a b at = (n : List ℕ) (place : ℕ) → at ≤ place → b n place ≤ a n place

one_of : (s t : Bool) → one_if (s && t) ≤ one_if s
one_of true true = omega arith
one_of true false = omega arith
one_of false t = omega arith

none_of : (s t : Bool) → t ≡ false → one_if (s && t) ≡ 0
none_of true t e = ap one_if e
none_of false t e = refl

pub begun_piece : (a b c : List ℕ → ℕ → ℕ) (name : List ℕ) (at : ℕ) → AreBegun a b (name ∷ []) → NoneFrom a b at → BeginsAt b c name at →
    AreBegun a c (name ∷ [])
begun_piece a b c name at h none k = record { few = λ n p. by n p (p == at) refl }
  where
    by : (n : List ℕ) (p : ℕ) (t : Bool) → (p == at) ≡ t → c n p ≤ a n p + times n (name ∷ [])
    by n p true e =
        let l : at ≤ p = grind (arith, nat_tests) in
        let f = none n p l in
        let g = k n p in
        let o = one_of (bytes_eq n name) (p == at) in
        omega (arith, f, g, o)
    by n p false e =
        let f = h.few n p in
        let g = k n p in
        let o = none_of (bytes_eq n name) (p == at) e in
        omega (arith, f, g, o)

pub none_after : (a b c : List ℕ → ℕ → ℕ) (name : List ℕ) (at end : ℕ) → NoneFrom a b at → BeginsAt b c name at → at < end → NoneFrom a c end
none_after a b c name at end none k l n p m =
    let f = none n p (omega (arith, l, m)) in
    let g = k n p in
    let e : (p == at) ≡ false = (let x = l in let y = m in grind (arith, nat_tests)) in
    let o = none_of (bytes_eq n name) (p == at) e in
    omega (arith, f, g, o)
