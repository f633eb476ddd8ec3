-- The instances of an `all`, tried one after the other until one is false.
use Rattle.std.proofs.Common.{◌≡◌, ℕ, ◌+◌, ◌<◌, ◌≤◌, true, false, List, ◌∷◌, refl, sym, ap, subst, ◌∙◌}
use Rattle.std.specs.Prelude.{◌==◌, not}
use Rattle.word_spec.specs.Memory.{Endian}
use Rattle.word_spec.specs.State.{State}
use Rattle.bilv_spec.specs.Notes.{Expr, Number, Register, Flag, Pc, Bound, Memory, Old, Not, Binary, value, put_bound, written_out}
use Rattle.notes_value.proofs.Looped.{behind, behind_is, behind_none}
use Rattle.trace_texts_spec.specs.ValueLines.{first_false, shown, shown_binary}
use Rattle.value_steps.specs.Pieces.{tried}

module _ (order : Endian) (now entry : State) (e : Expr) where
  -- one that is false is shown
  pub stops : (v : ℕ) (vs : List ℕ) (x : Expr) (r : ℕ) → x ≡ shown order now entry (put_bound v e) → r ≡ value order x now entry → (r == 0) ≡ true →
      x ≡ tried order now entry e (v ∷ vs)
  stops v vs x r is of z =
      is ∙ sym (ap (λ b. first_false b (shown order now entry (put_bound v e)) (tried order now entry e vs))
      (ap not (subst (λ n. (n == 0) ≡ true) (of ∙ ap (λ y. value order y now entry) is) z)))

  -- one that is true is left out
  pub goes : (v : ℕ) (vs : List ℕ) (x : Expr) (r : ℕ) → x ≡ shown order now entry (put_bound v e) → r ≡ value order x now entry → (r == 0) ≡ false →
      tried order now entry e (v ∷ vs) ≡ tried order now entry e vs
  goes v vs x r is of n =
      ap (λ b. first_false b (shown order now entry (put_bound v e)) (tried order now entry e vs))
      (ap not (subst (λ n. (n == 0) ≡ false) (of ∙ ap (λ y. value order y now entry) is) n))

  module _ (low high : ℕ) where
    -- one more is false
    pub found : (v : ℕ) (x : Expr) → shown order now entry (written_out low high e) ≡ tried order now entry e (behind high v) → v < high →
        x ≡ tried order now entry e ((v + 1) ∷ behind high (v + 1)) → x ≡ shown order now entry (written_out low high e)
    found v x inv lt is = is ∙ sym (ap (tried order now entry e) (behind_is high v lt)) ∙ sym inv

    -- one more is true
    pub goes_on : (v : ℕ) → shown order now entry (written_out low high e) ≡ tried order now entry e (behind high v) → v < high →
        tried order now entry e ((v + 1) ∷ behind high (v + 1)) ≡ tried order now entry e (behind high (v + 1)) →
        shown order now entry (written_out low high e) ≡ tried order now entry e (behind high (v + 1))
    goes_on v inv lt is = inv ∙ ap (tried order now entry e) (behind_is high v lt) ∙ is

    -- none is left
    pub ends : (v : ℕ) → shown order now entry (written_out low high e) ≡ tried order now entry e (behind high v) → high ≤ v →
        Number 1 ≡ shown order now entry (written_out low high e)
    ends v inv le = sym (inv ∙ ap (tried order now entry e) (behind_none high v le))

-- outside an `all` a bound name counts as 0
pub shown_zero : (order : Endian) (now entry : State) (e : Expr) → shown order now entry (put_bound 0 e) ≡ shown order now entry e
shown_zero order now entry (Number n) = refl
shown_zero order now entry (Register r) = refl
shown_zero order now entry (Flag f) = refl
shown_zero order now entry Pc = refl
shown_zero order now entry Bound = refl
shown_zero order now entry (Memory n a) = ap (Memory n) (shown_zero order now entry a)
shown_zero order now entry (Old a) = ap Old (shown_zero order entry entry a)
shown_zero order now entry (Not a) = ap Not (shown_zero order now entry a)
shown_zero order now entry (Binary op a b) =
    ap (λ z. shown_binary order now entry op z (shown order now entry (put_bound 0 b))) (shown_zero order now entry a)
    ∙ ap (λ z. shown_binary order now entry op (shown order now entry a) z) (shown_zero order now entry b)
