-- Words that have no row, by their opcode.
use Rattle.std.proofs.Common.{◌≡◌, ◌≢◌, ◌⊎◌, inl, inr, ℕ, ◌<◌, ◌∙◌, sym, None, arith}
use Rattle.std.proofs.lemmas.Bool.{ne_eqb}
use Rattle.std.proofs.Math.Bool.{and-false}
use Rattle.word_spec.specs.Words.{bits}
use Rattle.machine_spec.specs.Rv.{rv_row, table}

pub no_opcode : (w o : ℕ) → o ≡ bits 6 0 w → o ≢ 0x37 → o ≢ 0x17 → o ≢ 0x6f → o ≢ 0x67 → o ≢ 0x63 → o ≢ 0x03 → o ≢ 0x23 → o ≢ 0x13 → o ≢ 0x33 → o ≢ 0x0f →
    o ≢ 0x73 → rv_row w ≡ None
unfolding rv_row table
no_opcode w o op a b c d e f g h i j k =
    simp (
      sym op,
      ne_eqb o 0x37 a,
      ne_eqb o 0x17 b,
      ne_eqb o 0x6f c,
      ne_eqb o 0x67 d,
      ne_eqb o 0x63 e,
      ne_eqb o 0x03 f,
      ne_eqb o 0x23 g,
      ne_eqb o 0x13 h,
      ne_eqb
          o 0x33 i,
      ne_eqb o 0x0f j,
      ne_eqb o 0x73 k,
    )

pub no_jalr : (w f : ℕ) → bits 6 0 w ≡ 0x67 → f ≡ bits 14 12 w → f ≢ 0 → rv_row w ≡ None
unfolding rv_row table
no_jalr w f op e n = simp (op, sym e, ne_eqb f 0 n)

pub no_fence : (w f : ℕ) → bits 6 0 w ≡ 0x0f → f ≡ bits 14 12 w → f ≢ 0 → rv_row w ≡ None
unfolding rv_row table
no_fence w f op e n = simp (op, sym e, ne_eqb f 0 n)

pub no_branch : (w f : ℕ) → bits 6 0 w ≡ 0x63 → f ≡ bits 14 12 w → (f ≡ 2) ⊎ (f ≡ 3) → rv_row w ≡ None
unfolding rv_row table
no_branch w f op e (inl n) = simp (op, sym e ∙ n)
no_branch w f op e (inr n) = simp (op, sym e ∙ n)

pub no_load : (w f : ℕ) → bits 6 0 w ≡ 0x03 → f ≡ bits 14 12 w → (f ≡ 3) ⊎ (5 < f) → rv_row w ≡ None
unfolding rv_row table
no_load w f op e (inl n) = simp (op, sym e ∙ n)
no_load w f op e (inr n) =
    simp (
      op,
      sym e,
      ne_eqb f 0 (λ k. absurd (omega arith)),
      ne_eqb f 1 (λ k. absurd (omega arith)),
      ne_eqb f 2 (λ k. absurd (omega arith)),
      ne_eqb f 4 (λ k. absurd (omega arith)),
      ne_eqb f 5 (λ k. absurd (omega arith)),
    )

pub no_store : (w f : ℕ) → bits 6 0 w ≡ 0x23 → f ≡ bits 14 12 w → 2 < f → rv_row w ≡ None
unfolding rv_row table
no_store w f op e n =
    simp (op, sym e, ne_eqb f 0 (λ k. absurd (omega arith)), ne_eqb f 1 (λ k. absurd (omega arith)), ne_eqb f 2 (λ k. absurd (omega arith)))

pub no_shift : (w f g : ℕ) → bits 6 0 w ≡ 0x13 → f ≡ bits 14 12 w → g ≡ bits 31 25 w → (f ≡ 1) ⊎ (f ≡ 5) → (g ≢ 0) × ((f ≡ 1) ⊎ (g ≢ 32)) → rv_row w ≡ None
unfolding rv_row table
no_shift w f g op e k (inl n) p = simp (op, sym e ∙ n, sym k, ne_eqb g 0 p.0)
no_shift w f g op e k (inr n) (p, inl q) = absurd (omega arith)
no_shift w f g op e k (inr n) (p, inr q) = simp (op, sym e ∙ n, sym k, ne_eqb g 0 p, ne_eqb g 32 q)

pub no_computation : (w f g : ℕ) → bits 6 0 w ≡ 0x33 → f ≡ bits 14 12 w → g ≡ bits 31 25 w → (g ≢ 0) × (g ≢ 1) × ((g ≢ 32) ⊎ ((f ≢ 0) × (f ≢ 5))) →
    rv_row w ≡ None
unfolding rv_row table
no_computation w f g op e k (a, b, inl c) = simp (op, sym e, sym k, and-false, ne_eqb g 0 a, ne_eqb g 1 b, ne_eqb g 32 c)
no_computation w f g op e k (a, b, inr c) = simp (op, sym e, sym k, and-false, ne_eqb g 0 a, ne_eqb g 1 b, ne_eqb f 0 c.0, ne_eqb f 5 c.1)

pub no_system : (w : ℕ) → bits 6 0 w ≡ 0x73 → w ≢ 0x73 → w ≢ 0x100073 → rv_row w ≡ None
unfolding rv_row table
no_system w op a b = simp (op, ne_eqb w 0x73 a, ne_eqb w 0x100073 b)
