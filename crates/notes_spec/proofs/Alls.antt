-- `all` written out.
use Rattle.std.proofs.Common.{◌≡◌, ℕ, Bool, true, false, List, [], ◌∷◌, refl, ap, ◌∙◌, map}
use Rattle.std.specs.Prelude.{◌&&◌, not}
use Rattle.std.specs.List.{list_all}
use Rattle.word_spec.specs.Words.{bit}
use Rattle.word_spec.specs.Memory.{Endian, load}
use Rattle.word_spec.specs.State.{State}
use Rattle.bilv_spec.specs.Notes.{Expr, Number, Register, Flag, Pc, Bound, Memory, Old, Not, Binary, Each, value, is_true, apply, put_bound, each, values, written_out}

true_bit : (b : Bool) → is_true (bit b) ≡ b
true_bit true = refl
true_bit false = refl

-- the value of joined expressions
joined : (order : Endian) (e : Expr) (now entry : State) (vs : List ℕ) →
    value order (each (map (λ v. put_bound v e) vs)) now entry ≡ bit (list_all (λ v. is_true (value order (put_bound v e) now entry)) vs)
joined order e now entry [] = refl
joined order e now entry (v ∷ vs) =
    ap (λ z. bit (is_true (value order (put_bound v e) now entry) && is_true z)) (joined order e now entry vs)
    ∙ ap (λ z. bit (is_true (value order (put_bound v e) now entry) && z)) (true_bit (list_all (λ w. is_true (value order (put_bound w e) now entry)) vs))

pub all_is_each : (order : Endian) (low high : ℕ) (e : Expr) (now entry : State) →
    value order (written_out low high e) now entry ≡ bit (list_all (λ v. is_true (value order (put_bound v e) now entry)) (values low high))
all_is_each order low high e now entry = joined order e now entry (values low high)

-- a number that is put in leaves no bound name
pub put_once : (u v : ℕ) (e : Expr) → put_bound u (put_bound v e) ≡ put_bound v e
put_once u v (Number n) = refl
put_once u v (Register r) = refl
put_once u v (Flag f) = refl
put_once u v Pc = refl
put_once u v Bound = refl
put_once u v (Memory n a) = ap (Memory n) (put_once u v a)
put_once u v (Old a) = ap Old (put_once u v a)
put_once u v (Not a) = ap Not (put_once u v a)
put_once u v (Binary op a b) = ap (λ z. Binary op z (put_bound u (put_bound v b))) (put_once u v a) ∙ ap (Binary op (put_bound v a)) (put_once u v b)

put_each : (u : ℕ) (e : Expr) (vs : List ℕ) → put_bound u (each (map (λ v. put_bound v e) vs)) ≡ each (map (λ v. put_bound v e) vs)
put_each u e [] = refl
put_each u e (v ∷ vs) =
    ap (λ z. Binary Each z (put_bound u (each (map (λ w. put_bound w e) vs)))) (put_once u v e)
    ∙ ap (Binary Each (put_bound v e)) (put_each u e vs)

pub put_written : (u low high : ℕ) (e : Expr) → put_bound u (written_out low high e) ≡ written_out low high e
put_written u low high e = put_each u e (values low high)

-- outside an `all` a bound name counts as 0
pub put_zero : (order : Endian) (e : Expr) (now entry : State) → value order (put_bound 0 e) now entry ≡ value order e now entry
put_zero order (Number n) now entry = refl
put_zero order (Register r) now entry = refl
put_zero order (Flag f) now entry = refl
put_zero order Pc now entry = refl
put_zero order Bound now entry = refl
put_zero order (Memory n a) now entry = ap (load order n now.mem) (put_zero order a now entry)
put_zero order (Old a) now entry = put_zero order a entry entry
put_zero order (Not a) now entry = ap (λ z. bit (not (is_true z))) (put_zero order a now entry)
put_zero order (Binary op a b) now entry =
    ap (λ z. apply op z (value order (put_bound 0 b) now entry)) (put_zero order a now entry) ∙ ap (apply op (value order a now entry)) (put_zero order b now entry)
