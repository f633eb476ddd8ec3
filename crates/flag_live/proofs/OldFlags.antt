-- The flags that an `all` names within `old` are those of its expression.
use Rattle.std.proofs.Common.{◌≡◌, ℕ, refl, ap, ◌∙◌}
use Rattle.std.specs.Prelude.{◌||◌}
use Rattle.bilv_spec.specs.Notes.{Expr, Number, Register, Flag, Pc, Bound, Memory, Old, Not, Binary, put_bound, written_out}
use Rattle.bilv_spec.specs.LiveFlags.{names_flag}
use Rattle.frame_spec.specs.FrameUnrolling.{names_old}
use Rattle.flow_graph.proofs.NamedFlags.{names_put, written_same}

old_put : (f v : ℕ) (e : Expr) → names_old f (put_bound v e) ≡ names_old f e
old_put f v (Number n) = refl
old_put f v (Register r) = refl
old_put f v (Flag g) = refl
old_put f v Pc = refl
old_put f v Bound = refl
old_put f v (Memory n a) = old_put f v a
old_put f v (Old a) = ap (λ z. z || names_old f (put_bound v a)) (names_put f v a) ∙ ap (λ z. names_flag f a || z) (old_put f v a)
old_put f v (Not a) = old_put f v a
old_put f v (Binary op a b) = ap (λ z. z || names_old f (put_bound v b)) (old_put f v a) ∙ ap (λ z. names_old f a || z) (old_put f v b)

pub old_written : (f low high : ℕ) (e : Expr) → names_old f (written_out low high e) ≡ names_old f e
old_written f low high e = written_same (names_old f) refl (λ a b. refl) e (λ v. old_put f v e) low high
