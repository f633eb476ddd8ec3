-- The clauses of each kind of gate say that its bit has its value.
use Rattle.std.proofs.Common.{◌≡◌, ℕ, ◌<◌, Bool, true, false, not, cond, ◌&&◌, ◌||◌, [], ◌∷◌, refl}
use Rattle.std.specs.Bool.{beq}
use Rattle.std.proofs.lemmas.List.Elements.{All-cons, All-nil}
use Rattle.word_spec.specs.Words.{differ}
use Rattle.gates.specs.declared.bit.Bit.{Bit}
use Rattle.gates.specs.Circuits.{majority, parity, same, Within, variable_of}

pub and_clauses : (t g a b : Bool) → (((t && (not g || (a || false))) && (not g || (b || false))) && (g || (not a || (not b || false)))) ≡ (t && beq g (a && b))
and_clauses false g a b = refl
and_clauses true true true true = refl
and_clauses true true true false = refl
and_clauses true true false true = refl
and_clauses true true false false = refl
and_clauses true false true true = refl
and_clauses true false true false = refl
and_clauses true false false true = refl
and_clauses true false false false = refl

pub xor_clauses : (t g a b : Bool) → ((((t && (not g || (a || (b || false)))) && (not g || (not a || (not b || false)))) && (g || (not a || (b || false)))) &&
    (g || (a || (not b || false)))) ≡ (t && beq g (differ a b))
xor_clauses false g a b = refl
xor_clauses true true true true = refl
xor_clauses true true true false = refl
xor_clauses true true false true = refl
xor_clauses true true false false = refl
xor_clauses true false true true = refl
xor_clauses true false true false = refl
xor_clauses true false false true = refl
xor_clauses true false false false = refl

pub ite_clauses : (t g c a b : Bool) → ((((((t && (not g || (not c || (a || false)))) && (not g || (c || (b || false)))) &&
    (g || (not c || (not a || false)))) && (g || (c || (not b || false)))) && (not g || (a || (b || false)))) && (g || (not a || (not b || false)))) ≡ (t &&
    beq g (cond c a b))
ite_clauses false g c a b = refl
ite_clauses true true true true true = refl
ite_clauses true true true true false = refl
ite_clauses true true true false true = refl
ite_clauses true true true false false = refl
ite_clauses true true false true true = refl
ite_clauses true true false true false = refl
ite_clauses true true false false true = refl
ite_clauses true true false false false = refl
ite_clauses true false true true true = refl
ite_clauses true false true true false = refl
ite_clauses true false true false true = refl
ite_clauses true false true false false = refl
ite_clauses true false false true true = refl
ite_clauses true false false true false = refl
ite_clauses true false false false true = refl
ite_clauses true false false false false = refl

pub parity_clauses : (t g a b c : Bool) → ((((((((t && (not g || (a || (b || (c || false))))) && (not g || (a || (not b || (not c || false))))) &&
    (not g || (not a || (b || (not c || false))))) && (not g || (not a || (not b || (c || false))))) && (g || (not a || (b || (c || false))))) &&
    (g || (a || (not b || (c || false))))) && (g || (a || (b || (not c || false))))) && (g || (not a || (not b || (not c || false))))) ≡ (t &&
    beq g (parity a b c))
parity_clauses false g a b c = refl
parity_clauses true true true true true = refl
parity_clauses true true true true false = refl
parity_clauses true true true false true = refl
parity_clauses true true true false false = refl
parity_clauses true true false true true = refl
parity_clauses true true false true false = refl
parity_clauses true true false false true = refl
parity_clauses true true false false false = refl
parity_clauses true false true true true = refl
parity_clauses true false true true false = refl
parity_clauses true false true false true = refl
parity_clauses true false true false false = refl
parity_clauses true false false true true = refl
parity_clauses true false false true false = refl
parity_clauses true false false false true = refl
parity_clauses true false false false false = refl

pub majority_clauses : (t g a b c : Bool) → ((((((t && (not g || (a || (b || false)))) && (not g || (a || (c || false)))) && (not g || (b || (c || false)))) &&
    (g || (not a || (not b || false)))) && (g || (not a || (not c || false)))) && (g || (not b || (not c || false)))) ≡ (t && beq g (majority a b c))
majority_clauses false g a b c = refl
majority_clauses true true true true true = refl
majority_clauses true true true true false = refl
majority_clauses true true true false true = refl
majority_clauses true true true false false = refl
majority_clauses true true false true true = refl
majority_clauses true true false true false = refl
majority_clauses true true false false true = refl
majority_clauses true true false false false = refl
majority_clauses true false true true true = refl
majority_clauses true false true true false = refl
majority_clauses true false true false true = refl
majority_clauses true false true false false = refl
majority_clauses true false false true true = refl
majority_clauses true false false true false = refl
majority_clauses true false false false true = refl
majority_clauses true false false false false = refl

pub same_clauses : (t g s a b : Bool) → (((((t && (not g || (s || false))) && (not g || (not a || (b || false)))) && (not g || (a || (not b || false)))) &&
    (g || (not s || (a || (b || false))))) && (g || (not s || (not a || (not b || false))))) ≡ (t && beq g (same s a b))
same_clauses false g s a b = refl
same_clauses true true true true true = refl
same_clauses true true true true false = refl
same_clauses true true true false true = refl
same_clauses true true true false false = refl
same_clauses true true false true true = refl
same_clauses true true false true false = refl
same_clauses true true false false true = refl
same_clauses true true false false false = refl
same_clauses true false true true true = refl
same_clauses true false true true false = refl
same_clauses true false true false true = refl
same_clauses true false true false false = refl
same_clauses true false false true true = refl
same_clauses true false false true false = refl
same_clauses true false false false true = refl
same_clauses true false false false false = refl

-- ---- the variables of a clause

pub within1 : (m : ℕ) (x : Bit) → variable_of x < m → Within m (x ∷ [])
within1 m x a = record { each = All-cons (λ (b : Bit). variable_of b < m) x [] a (All-nil _) }

pub within2 : (m : ℕ) (x y : Bit) → variable_of x < m → variable_of y < m → Within m (x ∷ y ∷ [])
within2 m x y a b = let w = within1 m y b in record { each = All-cons (λ (b : Bit). variable_of b < m) x (y ∷ []) a w.each }

pub within3 : (m : ℕ) (x y z : Bit) → variable_of x < m → variable_of y < m → variable_of z < m → Within m (x ∷ y ∷ z ∷ [])
within3 m x y z a b c = let w = within2 m y z b c in record { each = All-cons (λ (b : Bit). variable_of b < m) x (y ∷ z ∷ []) a w.each }

pub within4 : (m : ℕ) (x y z w : Bit) → variable_of x < m → variable_of y < m → variable_of z < m → variable_of w < m → Within m (x ∷ y ∷ z ∷ w ∷ [])
within4 m x y z w a b c d =
    let t = within3 m y z w b c d in record { each = All-cons (λ (b : Bit). variable_of b < m) x (y ∷ z ∷ w ∷ []) a t.each }
