-- Expressions that name no part of a state.
use Rattle.std.proofs.Common.{◌≡◌, ℕ, ◌+◌, ◌-◌, refl, ap, ◌∙◌, Bool, true, false, List, [], ◌∷◌, map}
use Rattle.std.specs.Prelude.{◌&&◌, not}
use Rattle.word_spec.specs.Words.{bit}
use Rattle.word_spec.specs.RowFiles.{from_to}
use Rattle.bilv_spec.specs.Notes.{Expr, Number, Register, Flag, Pc, Bound, Memory, Old, Not, Binary, value, apply, is_true, put_bound, each, written_out}
use Rattle.note_check.specs.Constants.{is_constant, AreSteady}

-- a number in place of the bound name names nothing
constant_put : (v : ℕ) (e : Expr) → is_constant (put_bound v e) ≡ is_constant e
constant_put v (Number n) = refl
constant_put v (Register r) = refl
constant_put v (Flag g) = refl
constant_put v Pc = refl
constant_put v Bound = refl
constant_put v (Memory n a) = refl
constant_put v (Old a) = constant_put v a
constant_put v (Not a) = constant_put v a
constant_put v (Binary op a b) =
    ap (λ z. z && is_constant (put_bound v b)) (constant_put v a) ∙ ap (λ z. is_constant a && z) (constant_put v b)

nothing_less : (b : Bool) → (b && true) ≡ b
nothing_less true = refl
nothing_less false = refl

once_more : (b c : Bool) → (b && c) ≡ b → (b && (b && c)) ≡ b
once_more true c h = h
once_more false c h = refl

constant_joined : (e : Expr) (vs : List ℕ) → (is_constant e && is_constant (each (map (λ v. put_bound v e) vs))) ≡ is_constant e
constant_joined e [] = nothing_less (is_constant e)
constant_joined e (v ∷ vs) =
    let rest = each (map (λ w. put_bound w e) vs) in
    ap (λ z. is_constant e && (z && is_constant rest)) (constant_put v e) ∙ once_more (is_constant e) (is_constant rest) (constant_joined e vs)

-- an `all` is of constants alone where its expression is
pub constant_written : (low high : ℕ) (e : Expr) → is_constant (written_out low high e) ≡ is_constant e
constant_written low high e =
    let rest = each (map (λ w. put_bound w e) (from_to (low + 1) (high - low))) in
    ap (λ z. z && is_constant rest) (constant_put low e) ∙ constant_joined e (from_to (low + 1) (high - low))

first_of_both : (b c : Bool) → (b && c) ≡ true → b ≡ true
first_of_both true c h = refl
first_of_both false c h = h

second_of_both : (b c : Bool) → (b && c) ≡ true → c ≡ true
second_of_both true c h = h
second_of_both false c h = absurd (cc)

pub steady : AreSteady
steady order (Number n) now entry other first h = refl
steady order (Register r) now entry other first h = absurd (cc)
steady order (Flag g) now entry other first h = absurd (cc)
steady order Pc now entry other first h = absurd (cc)
steady order Bound now entry other first h = refl
steady order (Memory n a) now entry other first h = absurd (cc)
steady order (Old a) now entry other first h = steady order a entry entry first first h
steady order (Not a) now entry other first h = ap (λ n. bit (not (is_true n))) (steady order a now entry other first h)
steady order (Binary op a b) now entry other first h =
    ap (λ n. apply op n (value order b now entry)) (steady order a now entry other first (first_of_both (is_constant a) (is_constant b) h))
    ∙ ap (λ n. apply op (value order a other first) n)
    (steady order b now entry other first (second_of_both (is_constant a) (is_constant b) h))
