-- What values give a part is what a reading has that has the values.
use Rattle.std.proofs.Common.{◌≡◌, ap, sym, ◌∙◌, arith, ℕ, ◌+◌, ◌-◌, ◌*◌, ◌%◌, ◌^◌, ◌<◌, ◌≤◌, Bool, List, length, bit_xor}
use Rattle.std.specs.Prelude.{slice_index}
use Rattle.word_spec.specs.Memory.{memory_of}
use Rattle.term_dag.specs.declared.values.Reading.{Reading}
use Rattle.term_dag.specs.Readings.{reading_of}
use Rattle.term_spec.specs.Terms.{TermReading, InRange}
use Rattle.term_spec.specs.ClauseForm.{bits_from}
use Rattle.bit_blast.specs.declared.input_places.InputPlaces.{InputPlaces}
use Rattle.bit_blast.specs.Places.{HasPart, IsDrawn, IsRead, IsReadingAt, first_of}
use Rattle.bit_blast.specs.Steps.{choice_at, choice_by}
use Rattle.bit_blast.proofs.InputNumbers.{bits_are}
use Rattle.frame_start.specs.Inputs.{byte_by, read_of}

small_word : (a b : ℕ) → b < 2 ^ 32 → a ≡ b → a % 2 ^ 32 ≡ b
small_word a b l e = omega arith

small_flag : (a b : ℕ) → b < 2 → a ≡ b → a % 2 ≡ b
small_flag a b l e = omega arith

small_choice : (a b : ℕ) → b < 4 → a ≡ b → a % 4 ≡ b
small_choice a b l e = omega arith

module _ (v : ℕ → Bool) (x : TermReading) (p : InputPlaces) (part : ℕ) (range : InRange x) (at : IsReadingAt p v x) where
  pub register_is : (first n a : ℕ) → first ≡ first_of p part → HasPart p part → p.first_register ≤ n → n < p.first_register + p.registers →
      a ≡ bits_from v (first + 32 * (n - p.first_register)) 32 → a % 2 ^ 32 ≡ x.regs part n
  register_is first n a e has low high is =
      small_word a (x.regs part n) (range.regs part n)
      (is ∙ ap (λ z. bits_from v (z + 32 * (n - p.first_register)) 32) e ∙ bits_are v (first_of p part + 32 * (n - p.first_register)) 32
      ∙ sym (at.registers part n has low high))

  pub flag_is : (first f a : ℕ) → first ≡ first_of p part + p.first_flag → HasPart p part → f < p.flags → a ≡ bits_from v (first + f) 1 →
      a % 2 ≡ x.flags part f
  flag_is first f a e has l is =
      small_flag a (x.flags part f) (range.flags part f)
      (is ∙ ap (λ z. bits_from v (z + f) 1) e ∙ bits_are v (first_of p part + p.first_flag + f) 1 ∙ sym (at.flags part f has l))

  pub byte_is : (j k a : ℕ) → IsRead p part j k → a ≡ byte_by p v (read_of p part j) → a ≡ x.base part j
  byte_is j k a read is =
      is ∙ ap (byte_by p v) read.0 ∙ bits_are v (p.first_byte + 8 * k) 8 ∙ sym (at.bytes part j k read)

  -- and a choice
  pub choice_is : (cs : List ℕ) → ((i : ℕ) → i < length p.drawn.items → slice_index cs i ≡ choice_at p v i) → (i k : ℕ) → IsDrawn p i k →
      slice_index cs i % 4 ≡ x.choice i
  choice_is cs each i k drawn =
      small_choice (slice_index cs i) (x.choice i) (range.choice i)
      (each i drawn.0 ∙ ap (choice_by p v) drawn.1 ∙ bits_are v (p.first_choice + 2 * k) 2 ∙ sym (at.choices i k drawn))

-- and a memory
small_byte : (a b : ℕ) → a < 256 → a ≡ b → a % 256 ≡ b
small_byte a b l e = omega arith

pub memory_is : (r : Reading) (entries : List (ℕ × ℕ)) → r.memory.entries ≡ entries → r.fill ≡ 0 → (a b : ℕ) → memory_of entries a < 256 →
    memory_of entries a ≡ b → (reading_of r).mem 0 a ≡ b
memory_is r entries e f a b l h =
    ap (λ z. bit_xor (z % 256) (memory_of r.memory.entries a % 256)) f ∙ ap (λ z. memory_of z a % 256) e ∙ small_byte (memory_of entries a) b l h
