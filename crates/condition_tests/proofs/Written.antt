-- Starts with registers and one byte can be written.
use Rattle.std.proofs.Common.{◌≡◌, ℕ, zero, suc, ◌<◌, ◌≤◌, ◌^◌, List, [], ◌∷◌, length, sym, subst, Bool, false, All, arith}
use Rattle.std.specs.Prelude.{slice_index}
use Rattle.machine_spec.specs.StateText.{IsWritten, rv_layout}

all_words : (xs : List ℕ) → ((i : ℕ) → slice_index xs i < 2 ^ 32) → All (λ v. v < 2 ^ 32) xs
all_words [] h k d within = absurd (omega (arith, within))
all_words (x ∷ xs) h zero d within = h 0
all_words (x ∷ xs) h (suc k) d within = all_words xs (λ i. h (suc i)) k d (omega (arith, within))

all_one : {X : Type 0} (P : X → Type 0) (x : X) → P x → All P (x ∷ [])
all_one P x h zero d within = h
all_one P x h (suc k) d within = absurd (omega (arith, within))

pub written : (regs xs : List ℕ) (bytes choices : List (ℕ × ℕ)) (at byte : ℕ) → regs ≡ xs → length xs ≡ 31 → ((i : ℕ) → slice_index xs i < 2 ^ 32) →
    bytes ≡ (at, byte) ∷ [] → choices ≡ [] → (known : ℕ → Bool) → at < 2 ^ 32 → 1 ≤ byte → byte ≤ 255 → known at ≡ false →
    IsWritten (rv_layout false) known (record { regs = regs; flags = 0; bytes = bytes; choices = choices })
written regs xs bytes choices at byte same count small one none known below some most unknown =
    subst (λ (b : List (ℕ × ℕ)). IsWritten (rv_layout false) known (record { regs = regs; flags = 0; bytes = b; choices = choices })) (sym one)
    (subst (λ (b : List (ℕ × ℕ)). IsWritten (rv_layout false) known (record { regs = regs; flags = 0; bytes = (at, byte) ∷ []; choices = b })) (sym none)
    (subst (λ (r : List ℕ). IsWritten (rv_layout false) known (record { regs = r; flags = 0; bytes = (at, byte) ∷ []; choices = [] })) (sym same)
    (record {
      count = count;
      words = all_words xs small;
      flags = omega arith;
      bytes = all_one (λ b. (b.0 < 2 ^ 32) × (1 ≤ b.1) × (b.1 ≤ 255)) (at, byte) (below, some, most);
      bytes_rise = λ i j d less within. absurd (omega (arith, less, within));
      unknown = all_one (λ b. known b.0 ≡ false) (at, byte) unknown;
      choices = λ k d within. absurd (omega (arith, within));
      choices_rise = λ i j d less within. absurd (omega (arith, within));
    })))
