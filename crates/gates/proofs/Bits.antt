-- Bits and their literals.
use Rattle.std.proofs.Common.{◌≡◌, ◌==◌, ℕ, suc, ◌+◌, ◌-◌, ◌*◌, ◌/◌, ◌%◌, Bool, true, false, not, refl, sym, ◌∙◌, ap, arith}
use Rattle.std.proofs.lemmas.Bool.Decides.{nat_tests}
use Rattle.clause_spec.specs.Clauses.{same_sign}
use Rattle.gates.specs.Circuits.{bit_value}

pub is_value : (x : Bool) → same_sign x true ≡ x
is_value true = refl
is_value false = refl

is_opposite : (x : Bool) → same_sign x false ≡ not x
is_opposite true = refl
is_opposite false = refl

-- a code with an even number in it, and with an odd one
value_even : (v : ℕ → Bool) (c n : ℕ) → c / 2 ≡ n → c % 2 ≡ 0 → bit_value v (record { code = c }) ≡ v (suc n)
unfolding bit_value
value_even v c n e f =
    let g : (c % 2 == 0) ≡ true = grind (arith, nat_tests) in
    ap (λ s. same_sign (v (suc (c / 2))) s) g ∙ (is_value (v (suc (c / 2))) ∙ ap (λ m. v (suc m)) e)

value_odd : (v : ℕ → Bool) (c n : ℕ) → c / 2 ≡ n → c % 2 ≡ 1 → bit_value v (record { code = c }) ≡ not (v (suc n))
unfolding bit_value
value_odd v c n e f =
    let g : (c % 2 == 0) ≡ false = grind (arith, nat_tests) in
    ap (λ s. same_sign (v (suc (c / 2))) s) g ∙ (is_opposite (v (suc (c / 2))) ∙ ap (λ m. not (v (suc m))) e)

pub new_value : (v : ℕ → Bool) (n : ℕ) → bit_value v (record { code = 2 * n }) ≡ v (suc n)
new_value v n = value_even v (2 * n) n (omega arith) (omega arith)

not_not : (b : Bool) → b ≡ not (not b)
not_not true = refl
not_not false = refl

pub up_value : (v : ℕ → Bool) (c : ℕ) → c % 2 ≡ 0 → bit_value v (record { code = c + 1 }) ≡ not (bit_value v (record { code = c }))
up_value v c h = value_odd v (c + 1) (c / 2) (omega arith) (omega arith) ∙ ap not (sym (value_even v c (c / 2) refl h))

pub down_value : (v : ℕ → Bool) (c : ℕ) → c % 2 ≡ 1 → bit_value v (record { code = c - 1 }) ≡ not (bit_value v (record { code = c }))
down_value v c h =
    value_even v (c - 1) (c / 2) (omega arith) (omega arith) ∙ (not_not (v (suc (c / 2))) ∙ ap not (sym (value_odd v c (c / 2) refl h)))
