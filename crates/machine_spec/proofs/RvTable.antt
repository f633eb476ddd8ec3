-- The lines of the RV32IM table are apart: two of them ask for different values of a field.
use Rattle.std.proofs.Common.{◌≡◌, ℕ, zero, suc, refl, ap, sym, ◌∙◌, List, [], ◌∷◌, Option, Some, None, true, false, Bool}
use Rattle.std.specs.Prelude.{◌==◌, ◌&&◌, ◌||◌, not, slice_get}
use Rattle.std.proofs.lemmas.Bool.{eqb-true, eq-eqb}
use Rattle.machine_spec.specs.Rv.{Instruction, table, fits, is_field}

-- both ask for one value of a field, and these differ
abbrev differ : Option ℕ → Option ℕ → Bool
differ (Some a) (Some b) = not (a == b)
differ (Some a) None = false
differ None b = false

abbrev apart : Instruction → Instruction → Bool
apart a b = not (a.opcode == b.opcode) || differ a.funct3 b.funct3 || differ a.funct7 b.funct7 || differ a.whole b.whole

abbrev apart_from : Instruction → List Instruction → Bool
apart_from a [] = true
apart_from a (b ∷ bs) = apart a b && apart_from a bs

abbrev all_apart : List Instruction → Bool
all_apart [] = true
all_apart (a ∷ as') = apart_from a as' && all_apart as'

table_is_apart : all_apart table ≡ true
unfolding table
table_is_apart = refl

both : (a b : Bool) → (a && b) ≡ true → (a ≡ true) × (b ≡ true)
both true b h = (refl, h)
both false b h = cc

same_number : (a b n : ℕ) → (n == a) ≡ true → (n == b) ≡ true → (a == b) ≡ true
same_number a b n h k = eq-eqb a b (sym (eqb-true n a h) ∙ eqb-true n b k)

-- what both ask is the word's field
agree : (o p : Option ℕ) (n : ℕ) → is_field o n ≡ true → is_field p n ≡ true → differ o p ≡ false
agree (Some a) (Some b) n h k = ap not (same_number a b n h k)
agree (Some a) None n h k = refl
agree None p n h k = refl

-- lines that are apart have no word in common
clash : (a b : Instruction) (w : ℕ) → apart a b ≡ true → fits a w ≡ true → fits b w ≡ true → ⊥
clash a b w d h k =
    let x = both _ _ h in let x' = both _ _ x.0 in let x'' = both _ _ x'.0 in
    let y = both _ _ k in let y' = both _ _ y.0 in let y'' = both _ _ y'.0 in
    let o = same_number a.opcode b.opcode _ x''.0 y''.0 in
    let f = agree a.funct3 b.funct3 _ x''.1 y''.1 in
    let g = agree a.funct7 b.funct7 _ x'.1 y'.1 in
    let e = agree a.whole b.whole _ x.1 y.1 in
    let no : apart a b ≡ false = rw (o, f, g, e) refl in
    cc

not_here : (a : Instruction) (is : List Instruction) (w j : ℕ) (b : Instruction) →
    apart_from a is ≡ true → slice_get is j ≡ Some b → fits a w ≡ true → fits b w ≡ true → ⊥
not_here a [] w j b d at h k = cc
not_here a (i ∷ is) w zero b d at h k = clash a i w (both _ _ d).0 h (let e : i ≡ b = cc in ap (λ x. fits x w) e ∙ k)
not_here a (i ∷ is) w (suc j) b d at h k = not_here a is w j b (both _ _ d).1 at h k

one_place : (is : List Instruction) → all_apart is ≡ true → (w i j : ℕ) (a b : Instruction) →
    slice_get is i ≡ Some a → slice_get is j ≡ Some b → fits a w ≡ true → fits b w ≡ true → i ≡ j
one_place [] d w i j a b p q h k = cc
one_place (x ∷ xs) d w zero zero a b p q h k = refl
one_place (x ∷ xs) d w zero (suc j) a b p q h k =
    absurd (not_here x xs w j b (both _ _ d).0 q (let e : x ≡ a = cc in ap (λ y. fits y w) e ∙ h) k)
one_place (x ∷ xs) d w (suc i) zero a b p q h k =
    absurd (not_here x xs w i a (both _ _ d).0 p (let e : x ≡ b = cc in ap (λ y. fits y w) e ∙ k) h)
one_place (x ∷ xs) d w (suc i) (suc j) a b p q h k = ap suc (one_place xs (both _ _ d).1 w i j a b p q h k)

pub one_row : (w i j : ℕ) (a b : Instruction) → slice_get table i ≡ Some a → slice_get table j ≡ Some b → fits a w ≡ true → fits b w ≡ true → i ≡ j
one_row w i j a b = one_place table table_is_apart w i j a b
