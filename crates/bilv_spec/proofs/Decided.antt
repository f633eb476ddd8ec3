-- What can be decided: a claim holds, or it does not.
use Rattle.std.proofs.Common.{◌≡◌, ℕ, ◌<◌, ◌≤◌, refl, arith, List, Bool, true, false, ◌⊎◌, inl, inr, None, Some, bytes_eq, nat_lt, nat_le, nat_eq}
use Rattle.std.proofs.lemmas.Slice.Eq.{bytes_eq-Decides}

-- it holds, or it does not
abbrev pub Decided : Type 0 → Type 0
Decided P = P ⊎ (P → ⊥)

pub through : {A B : Type 0} → (A → B) → (B → A) → Decided A → Decided B
through f g (inl a) = inl (f a)
through f g (inr none) = inr (λ b. none (g b))

pub both : {A B : Type 0} → Decided A → Decided B → Decided (A × B)
both (inl a) (inl b) = inl (a, b)
both (inl a) (inr none) = inr (λ p. none p.1)
both (inr none) d = inr (λ p. none p.0)

pub neither : {A B : Type 0} → (A → ⊥) → (B → ⊥) → A ⊎ B → ⊥
neither f g (inl a) = f a
neither f g (inr b) = g b

pub either : {A B : Type 0} → Decided A → Decided B → Decided (A ⊎ B)
either (inl a) d = inl (inl a)
either (inr none) (inl b) = inl (inr b)
either {A = A} {B = B} (inr f) (inr g) = inr (neither f g)

pub negation : {A : Type 0} → Decided A → Decided (A → ⊥)
negation (inl a) = inr (λ f. f a)
negation (inr f) = inl f

pub of_test : (b : Bool) → Decided (b ≡ true)
of_test true = inl refl
of_test false = inr (λ e. let b : ⊥ = cc in b)

pub same_text : (v w : List ℕ) → Decided (v ≡ w)
same_text v w = through (bytes_eq-Decides v w).0 (bytes_eq-Decides v w).1 (of_test (bytes_eq v w))

pub is_less : (a b : ℕ) → Decided (a < b)
is_less a b = through (λ e. grind arith) (λ e. grind arith) (of_test (nat_lt a b))

pub same_number : (a b : ℕ) → Decided (a ≡ b)
same_number a b = through (λ e. grind arith) (λ e. grind arith) (of_test (nat_eq a b))

pub none_some : (X : Type 0) (x : X) → None ≡ Some x → ⊥
none_some X x e = cc

pub is_at_most : (a b : ℕ) → Decided (a ≤ b)
is_at_most a b = through (λ e. grind arith) (λ e. grind arith) (of_test (nat_le a b))
