-- The operand by its kind, offsets, and what is written back.
use Rattle.std.proofs.Common.{◌≡◌, ℕ, ◌%◌, ◌<◌, refl, ap, sym, ◌∙◌, Bool, true, false, arith}
use Rattle.std.proofs.lemmas.Bool.{ne_eqb}
use Rattle.word_spec.specs.Words.{add, aligned}
use Rattle.word_spec.specs.Memory.{Endian, Memory, store}
use Rattle.word_spec.specs.State.{State, flag_c, put, with_pc}
use Rattle.machine_spec.specs.Arm.{Shifted, operand, bit_i, has_bit, rotated, by_number, by_register, kind_of, amount_of, field_n, field_m, field_s, reg, transfer_offset, base_written, writes_back, moved, store_by, write}
use Rattle.byte_mem.specs.declared.StepOut.{StepOut}
use Rattle.byte_mem.specs.declared.StepOut.TheVariants.{Next, Jump}
use Rattle.byte_mem.specs.declared.How.TheVariants.{Indirect}
use Rattle.byte_mem.specs.Views.{IsStep}

-- a shift from its parts
shift_from : (f : ℕ → ℕ → ℕ → ℕ → Shifted) (k l n m v u c d : ℕ) → k ≡ l → n ≡ m → v ≡ u → c ≡ d → f k n v c ≡ f l m u d
shift_from f k l n m v u c d a b e g = ap (λ k. f k n v c) a ∙ ap (λ n. f l n v c) b ∙ ap (λ v. f l m v c) e ∙ ap (f l m u) g

pub number : (w : ℕ) (s : State) (x : Shifted) (c : ℕ) → bit_i w ≡ true → c ≡ s.flags flag_c → x ≡ rotated w c → x ≡ operand w s
number w s x c i e h = rw i (h ∙ ap (rotated w) e)

pub shifted_by_number : (w : ℕ) (s : State) (x : Shifted) (k n v c : ℕ) → bit_i w ≡ false → has_bit 4 w ≡ false → k ≡ kind_of w → n ≡ amount_of w →
    v ≡ reg s (field_m w) → c ≡ s.flags flag_c → x ≡ by_number k n v c → x ≡ operand w s
shifted_by_number w s x k n v c i b e f g j h = rw (i, b) (h ∙ shift_from by_number k _ n _ v _ c _ e f g j)

pub shifted_by_register : (w : ℕ) (s : State) (x : Shifted) (k n v c : ℕ) → bit_i w ≡ false → has_bit 4 w ≡ true → k ≡ kind_of w → n ≡ reg s (field_s w) % 256 →
    v ≡ reg s (field_m w) → c ≡ s.flags flag_c → x ≡ by_register k n v c → x ≡ operand w s
shifted_by_register w s x k n v c i b e f g j h = rw (i, b) (h ∙ shift_from by_register k _ n _ v _ c _ e f g j)

pub shifted_offset : (w : ℕ) (s : State) (x : Shifted) (k n v c : ℕ) → bit_i w ≡ true → k ≡ kind_of w → n ≡ amount_of w → v ≡ reg s (field_m w) →
    c ≡ s.flags flag_c →
    x ≡ by_number k n v c → x.value ≡ transfer_offset w s
shifted_offset w s x k n v c i e f g j h = rw i (ap (λ y. y.value) (h ∙ shift_from by_number k _ n _ v _ c _ e f g j))

-- the registers with the base written back
pub base_put : (w : ℕ) (s : State) (r b v offset : ℕ) → writes_back w ≡ true → r ≡ field_n w → b ≡ s.regs r → v ≡ moved w b offset →
    put s.regs r v ≡ base_written w s offset
base_put w s r b v offset t e f h =
    let g : v ≡ moved w (s.regs (field_n w)) offset = h ∙ ap (λ x. moved w x offset) (f ∙ ap s.regs e) in
    rw t (ap (λ r. put s.regs r v) e ∙ ap (put s.regs (field_n w)) g)

pub kept : (w : ℕ) (s : State) (offset : ℕ) → writes_back w ≡ false → s.regs ≡ base_written w s offset
kept w s offset t = rw t refl

pub stored_byte : (b : Bool) (e : Endian) (m : Memory) (a v : ℕ) → b ≡ true → store e 1 m a v ≡ store_by b e m a v
stored_byte b e m a v h = rw h refl

pub stored_word : (b : Bool) (e : Endian) (m : Memory) (a x v : ℕ) → b ≡ false → x ≡ aligned a → store e 4 m x v ≡ store_by b e m a v
stored_word b e m a x v h k = rw h (ap (λ x. store e 4 m x v) k)

-- a register that is written, and a jump by r15
pub wrote : (old s mid new : State) (out : StepOut) (r p v : ℕ) → r < 15 → p ≡ r → old.pc ≡ s.pc → mid ≡ record s { regs = put s.regs p v } →
    new ≡ with_pc mid (add 32 mid.pc 4) → out ≡ Next → IsStep old new out (write old s r v)
wrote old s mid new out r p v l q e m h o =
    rw (ne_eqb r 15 (λ x. omega arith)) (
      h ∙ ap (λ t. with_pc t (add 32 t.pc 4)) (m ∙ ap (λ p. let t : State = record s { regs = put s.regs p v } in t) q)
          ∙ ap (λ a. with_pc (record s { regs = put s.regs r v }) (add 32 a 4)) (sym e),
      o,
    )

pub jumped : (old s new : State) (out : StepOut) (r v : ℕ) → r ≡ 15 → new ≡ with_pc s v → out ≡ Jump v Indirect → IsStep old new out (write old s r v)
jumped old s new out r v e h o = rw e (h, o)
