-- How far terms and rows of terms are from one another.
use Rattle.std.proofs.Common.{◌≡◌, ℕ, suc, ◌+◌, ◌<◌, ◌≤◌, Bool, true, false, List, [], ◌∷◌, length, refl, sym, ap, arith}
use Rattle.std.specs.Prelude.{◌==◌, slice_index}
use Rattle.std.proofs.lemmas.Bool.{eqb-true, eqb-false}
use Rattle.std.proofs.lemmas.List.{length-map}
use Rattle.term_dag.specs.declared.nodes.Term.{Term}
use Rattle.term_names.specs.Choices.{places, differs, differing}
use Rattle.term_names.proofs.Choices.{differs_other}
use Rattle.bil_terms.proofs.Rows.{differs_most}

pub same_count : (xs ys : List Term) → length xs ≡ length ys → length (places xs) ≡ length (places ys)
same_count xs ys e = let a = length-map xs (λ (t : Term). t.0) in let b = length-map ys (λ (t : Term). t.0) in omega arith

differs_on : (a b c : ℕ) (t : Bool) → (a == b) ≡ t → differs a c ≤ differs a b + differs b c
differs_on a b c true e = let h : differs a c ≡ differs b c = ap (λ z. differs z c) (eqb-true a b e) in omega arith
differs_on a b c false e = let h = differs_other a b (eqb-false a b e) in let k = differs_most a c in omega arith

-- of three terms
pub differs_triangle : (a b c : ℕ) → differs a c ≤ differs a b + differs b c
differs_triangle a b c = differs_on a b c (a == b) refl

pub differing_triangle : (xs ys zs : List ℕ) → length xs ≡ length ys → differing xs zs ≤ differing xs ys + differing ys zs
differing_triangle [] ys zs e = omega arith
differing_triangle (x ∷ xs) [] zs e = absurd (omega arith)
differing_triangle (x ∷ xs) (y ∷ ys) [] e = omega arith
differing_triangle (x ∷ xs) (y ∷ ys) (z ∷ zs) e = let h = differing_triangle xs ys zs (omega arith) in let k = differs_triangle x y z in omega arith

sides_on : (o a b : ℕ) (t : Bool) → (o == a) ≡ t → differs a b ≤ differs o a + differs o b
sides_on o a b true e = let h : differs a b ≡ differs o b = ap (λ z. differs z b) (sym (eqb-true o a e)) in omega arith
sides_on o a b false e = let h = differs_other o a (eqb-false o a e) in let k = differs_most a b in omega arith

-- two terms are no further from each other than both are from a third
pub differs_sides : (o a b : ℕ) → differs a b ≤ differs o a + differs o b
differs_sides o a b = sides_on o a b (o == a) refl

pub differing_sides : (os xs ys : List ℕ) → length os ≡ length xs → differing xs ys ≤ differing os xs + differing os ys
differing_sides [] [] ys e = omega arith
differing_sides [] (x ∷ xs) ys e = absurd (omega arith)
differing_sides (o ∷ os) [] ys e = omega arith
differing_sides (o ∷ os) (x ∷ xs) [] e = omega arith
differing_sides (o ∷ os) (x ∷ xs) (y ∷ ys) e = let h = differing_sides os xs ys (omega arith) in let k = differs_sides o x y in omega arith

kept_on : (o a b t : ℕ) (q : Bool) → (a == b) ≡ q → (a ≡ b → t ≡ a) → differs o t ≤ differs o a + differs o b
kept_on o a b t true e f = let h : differs o t ≡ differs o a = ap (differs o) (f (eqb-true a b e)) in omega arith
kept_on o a b t false e f = let h = differs_other a b (eqb-false a b e) in let k = differs_sides o a b in let m = differs_most o t in omega arith

-- a choice that keeps what is the same on both sides is no further from a term than the sides are
pub differs_kept : (o a b t : ℕ) → (a ≡ b → t ≡ a) → differs o t ≤ differs o a + differs o b
differs_kept o a b t f = kept_on o a b t (a == b) refl f

pub differing_kept : (os xs ys ts : List ℕ) → length os ≡ length xs → length os ≡ length ys → length os ≡ length ts →
    ((i : ℕ) → i < length xs → slice_index xs i ≡ slice_index ys i → slice_index ts i ≡ slice_index xs i) → differing os ts ≤ differing os xs + differing os ys
differing_kept [] xs ys ts e f g h = omega arith
differing_kept (o ∷ os) [] ys ts e f g h = absurd (omega arith)
differing_kept (o ∷ os) (x ∷ xs) [] ts e f g h = absurd (omega arith)
differing_kept (o ∷ os) (x ∷ xs) (y ∷ ys) [] e f g h = absurd (omega arith)
differing_kept (o ∷ os) (x ∷ xs) (y ∷ ys) (t ∷ ts) e f g h =
    let k = differing_kept os xs ys ts (omega arith) (omega arith) (omega arith) (λ i l m. h (suc i) (omega arith) m) in
    let m = differs_kept o x y t (h 0 (omega arith)) in
    omega arith
