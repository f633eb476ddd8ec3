-- The memory of a model.
use Rattle.std.proofs.Common.{◌≡◌, ℕ, ◌%◌, ◌^◌, ◌<◌, Bool, true, false, List, [], Option, Some, None, refl, ap, sym, ◌∙◌, subst, arith}
use Rattle.std.specs.Prelude.{◌↔◌, bit_xor}
use Rattle.std.specs.Int.Bits.{xor_zero_l}
use Rattle.word_spec.specs.Words.{word}
use Rattle.machine_spec.specs.StateText.{known_or}
use Rattle.walk_spec.specs.Unrolled.{ByteRun, byte_of_runs}
use Rattle.table_run.specs.Traces.{byte_over}
use Rattle.model_text.specs.declared.model.ModelMemory.{ModelMemory}
use Rattle.model_verdict.specs.Models.{memory_over, IsSoundMemory}
use Rattle.model_verdict.specs.Readings.{HasKnown}
use Rattle.model_verdict.proofs.Bytes.{over_small}

pub word_same : (a : ℕ) → a < 2 ^ 32 → word 32 a ≡ a
word_same a l = omega arith

-- a memory that is not given has the known bytes
pub none_has : (known : List ByteRun) → HasKnown known (memory_over known None)
none_has known a b l e =
    ap (λ z. known_or (byte_of_runs known z) [] a) (word_same a l) ∙ ap (λ z. known_or z [] a) e

pub none_by : (known : List ByteRun) (m : Option ModelMemory) → m ≡ None → HasKnown known (memory_over known m)
none_by known m e = subst (λ (z : Option ModelMemory). HasKnown known (memory_over known z)) (sym e) (none_has known)

-- a test of one that is given
pub some_by : (known : List ByteRun) (m : Option ModelMemory) (n : ModelMemory) (b : Bool) → m ≡ Some n →
    (b ≡ true → HasKnown known (λ a. byte_over n.fill n.bytes.items (word 32 a))) →
    (b ≡ false → ¬ HasKnown known (λ a. byte_over n.fill n.bytes.items (word 32 a))) → (b ≡ true) ↔ HasKnown known (memory_over known m)
some_by known m n b e all other =
    subst (λ (z : Option ModelMemory). (b ≡ true) ↔ HasKnown known (memory_over known z)) (sym e) (decided b all other)
  where
    decided : (b : Bool) → (b ≡ true → HasKnown known (λ a. byte_over n.fill n.bytes.items (word 32 a))) →
        (b ≡ false → ¬ HasKnown known (λ a. byte_over n.fill n.bytes.items (word 32 a))) →
        (b ≡ true) ↔ HasKnown known (λ a. byte_over n.fill n.bytes.items (word 32 a))
    decided true all other = (all, λ h. refl)
    decided false all other = (all, λ h. absurd (other refl h))

-- its bytes are bytes
pub over_bytes : (known : List ByteRun) (m : Option ModelMemory) → IsSoundMemory m → ((a b : ℕ) → byte_of_runs known a ≡ Some b → b < 256) → (a : ℕ) →
    memory_over known m a < 256
over_bytes known None sound small a = by (byte_of_runs known (word 32 a)) refl
  where
    by : (o : Option ℕ) → byte_of_runs known (word 32 a) ≡ o → known_or o [] a < 256
    by None e = omega arith
    by (Some b) e = small (word 32 a) b e
over_bytes known (Some m) sound small a = over_small m.fill m.bytes.items (word 32 a) sound.0 sound.2

-- the memory that the terms are read under
pub filled_none : (b : ℕ) → b < 256 → bit_xor (0 % 256) (b % 256) ≡ b
filled_none b l = xor_zero_l (b % 256) ∙ small b l
  where
    small : (b : ℕ) → b < 256 → b % 256 ≡ b
    small b l = omega arith
