-- The flags that an `all` names are those of its expression.
use Rattle.std.proofs.Common.{◌≡◌, ℕ, ◌+◌, ◌-◌, refl, ap, ◌∙◌, Bool, true, false, List, [], ◌∷◌, map}
use Rattle.std.specs.Prelude.{◌||◌}
use Rattle.bilv_spec.specs.Notes.{Expr, Number, Register, Flag, Pc, Bound, Memory, Old, Not, Binary, Each, put_bound, each, written_out}
use Rattle.word_spec.specs.RowFiles.{from_to}
use Rattle.bilv_spec.specs.LiveFlags.{names_flag}

-- a number in place of the bound name names no flag
pub names_put : (f v : ℕ) (e : Expr) → names_flag f (put_bound v e) ≡ names_flag f e
names_put f v (Number n) = refl
names_put f v (Register r) = refl
names_put f v (Flag g) = refl
names_put f v Pc = refl
names_put f v Bound = refl
names_put f v (Memory n a) = names_put f v a
names_put f v (Old a) = refl
names_put f v (Not a) = names_put f v a
names_put f v (Binary op a b) = ap (λ z. z || names_flag f (put_bound v b)) (names_put f v a) ∙ ap (λ z. names_flag f a || z) (names_put f v b)

once_more : (b c : Bool) → (b || c) ≡ b → (b || (b || c)) ≡ b
once_more true c h = refl
once_more false c h = h

nothing_more : (b : Bool) → (b || false) ≡ b
nothing_more true = refl
nothing_more false = refl

-- what is named by one of two expressions, and by no number, is named by values that are joined as it is by the expression
module _ (names : Expr → Bool) (none : names (Number 1) ≡ false) (both : (a b : Expr) → names (Binary Each a b) ≡ (names a || names b)) (e : Expr)
    (put : (v : ℕ) → names (put_bound v e) ≡ names e) where
  names_joined : (vs : List ℕ) → (names e || names (each (map (λ v. put_bound v e) vs))) ≡ names e
  names_joined [] = ap (λ z. names e || z) none ∙ nothing_more (names e)
  names_joined (v ∷ vs) =
      let rest = each (map (λ w. put_bound w e) vs) in
      ap (λ z. names e || z) (both (put_bound v e) rest)
      ∙ ap (λ z. names e || (z || names rest)) (put v)
      ∙ once_more (names e) (names rest) (names_joined vs)

  pub written_same : (low high : ℕ) → names (written_out low high e) ≡ names e
  written_same low high =
      let rest = each (map (λ w. put_bound w e) (from_to (low + 1) (high - low))) in
      both (put_bound low e) rest ∙ ap (λ z. z || names rest) (put low) ∙ names_joined (from_to (low + 1) (high - low))

pub names_written : (f low high : ℕ) (e : Expr) → names_flag f (written_out low high e) ≡ names_flag f e
names_written f low high e = written_same (names_flag f) refl (λ a b. refl) e (λ v. names_put f v e) low high
