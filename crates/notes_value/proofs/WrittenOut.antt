-- Expressions with a number in place of the bound name, and `all` written out.
use Rattle.std.proofs.Common.{◌≡◌, ℕ, ◌+◌, refl, ap, ◌∙◌, List, [], ◌∷◌, map}
use Rattle.std.specs.Prelude.{not}
use Rattle.word_spec.specs.Words.{bit}
use Rattle.word_spec.specs.Memory.{Endian, load}
use Rattle.word_spec.specs.State.{State}
use Rattle.bilv_spec.specs.Notes.{Expr, Number, Register, Flag, Pc, Bound, Memory, Old, Not, Binary, Each, value, is_true, apply, put_bound, each, values, written_out}
use Rattle.bilv_spec.specs.Points.{bytes_loaded}

-- a number that is put in leaves no bound name
pub put_once : (u v : ℕ) (e : Expr) → put_bound u (put_bound v e) ≡ put_bound v e
put_once u v (Number n) = refl
put_once u v (Register r) = refl
put_once u v (Flag f) = refl
put_once u v Pc = refl
put_once u v Bound = refl
put_once u v (Memory n a) = ap (Memory n) (put_once u v a)
put_once u v (Old a) = ap Old (put_once u v a)
put_once u v (Not a) = ap Not (put_once u v a)
put_once u v (Binary op a b) = ap (λ z. Binary op z (put_bound u (put_bound v b))) (put_once u v a) ∙ ap (Binary op (put_bound v a)) (put_once u v b)

put_each : (u : ℕ) (e : Expr) (vs : List ℕ) → put_bound u (each (map (λ v. put_bound v e) vs)) ≡ each (map (λ v. put_bound v e) vs)
put_each u e [] = refl
put_each u e (v ∷ vs) =
    ap (λ z. Binary Each z (put_bound u (each (map (λ w. put_bound w e) vs)))) (put_once u v e)
    ∙ ap (Binary Each (put_bound v e)) (put_each u e vs)

-- nor does an `all` that is written out have one
pub put_written : (u low high : ℕ) (e : Expr) → put_bound u (written_out low high e) ≡ written_out low high e
put_written u low high e = put_each u e (values low high)

-- a number in place of the bound name loads no bytes more
pub loads_put : (v : ℕ) (e : Expr) → bytes_loaded (put_bound v e) ≡ bytes_loaded e
loads_put v (Number n) = refl
loads_put v (Register r) = refl
loads_put v (Flag f) = refl
loads_put v Pc = refl
loads_put v Bound = refl
loads_put v (Memory n a) = ap (λ z. n + z) (loads_put v a)
loads_put v (Old a) = loads_put v a
loads_put v (Not a) = loads_put v a
loads_put v (Binary op a b) = ap (λ z. z + bytes_loaded (put_bound v b)) (loads_put v a) ∙ ap (λ z. bytes_loaded a + z) (loads_put v b)

-- outside an `all` a bound name counts as 0
pub put_zero : (order : Endian) (e : Expr) (now entry : State) → value order (put_bound 0 e) now entry ≡ value order e now entry
put_zero order (Number n) now entry = refl
put_zero order (Register r) now entry = refl
put_zero order (Flag f) now entry = refl
put_zero order Pc now entry = refl
put_zero order Bound now entry = refl
put_zero order (Memory n a) now entry = ap (load order n now.mem) (put_zero order a now entry)
put_zero order (Old a) now entry = put_zero order a entry entry
put_zero order (Not a) now entry = ap (λ z. bit (not (is_true z))) (put_zero order a now entry)
put_zero order (Binary op a b) now entry =
    ap (λ z. apply op z (value order (put_bound 0 b) now entry)) (put_zero order a now entry)
    ∙ ap (apply op (value order a now entry)) (put_zero order b now entry)
