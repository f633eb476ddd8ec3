-- Rows as wholes: the condition, and what is done where it holds.
use Rattle.std.proofs.Common.{◌≡◌, ℕ, ◌*◌, refl, ap, sym, subst, ◌∙◌, Bool, true, false, Some, None, length}
use Rattle.std.specs.Prelude.{not, ◌&&◌}
use Rattle.word_spec.specs.Words.{add}
use Rattle.word_spec.specs.Memory.{Endian}
use Rattle.word_spec.specs.State.{State, put, with_pc}
use Rattle.machine_spec.specs.Arm.{holds, on, when_stored, branch_target, branched, is_linked, is_load, block_start, listed}
use Rattle.byte_mem.specs.declared.StepOut.{StepOut}
use Rattle.byte_mem.specs.declared.StepOut.TheVariants.{Next, Jump}
use Rattle.byte_mem.specs.declared.How.TheVariants.{Direct, DirectCall}
use Rattle.byte_mem.specs.Views.{IsStep}
use Rattle.arm_decode.specs.declared.insn.Insn.{Insn}
use Rattle.arm_decode.specs.declared.insn.Insn.TheVariants.{Computing, Multiply, MultiplyLong, Swap, Transfer, Halfword, Block, Branch, SoftwareInterrupt, Exchange, Count}
use Rattle.arm_decode.specs.Insns.{row_of, word_of}

-- a row whose condition does not hold only goes on
row_skips : (e : Endian) (i : Insn) (s : State) (c : ℕ) → holds (word_of i) s ≡ false → on s s ≡ (row_of e i).effect s c
row_skips e (Computing x) s c h = rw h refl
row_skips e (Multiply x) s c h = rw h refl
row_skips e (MultiplyLong x) s c h = rw h refl
row_skips e (Swap x) s c h = rw h refl
row_skips e (Transfer x) s c h = rw h refl
row_skips e (Halfword x) s c h = rw h refl
row_skips e (Block x) s c h = rw h refl
row_skips e (Branch x) s c h = rw h refl
row_skips e (SoftwareInterrupt x) s c h = rw h refl
row_skips e (Exchange x) s c h = rw h refl
row_skips e (Count x) s c h = rw h refl

pub skips : (e : Endian) (i : Insn) (s new : State) (out : StepOut) (c : ℕ) → holds (word_of i) s ≡ false → new ≡ with_pc s (add 32 s.pc 4) → out ≡ Next →
    IsStep s new out ((row_of e i).effect s c)
skips e i s new out c h n k = subst (IsStep s new out) (row_skips e i s c h) (n, k)

-- and stores nothing
pub stores_not : (e : Endian) (i : Insn) (s : State) → holds (word_of i) s ≡ false → None ≡ (row_of e i).stored s
stores_not e (Computing x) s h = refl
stores_not e (Multiply x) s h = refl
stores_not e (MultiplyLong x) s h = refl
stores_not e (Swap x) s h = rw h refl
stores_not e (Transfer x) s h = rw h refl
stores_not e (Halfword x) s h = rw h refl
stores_not e (Block x) s h = rw h refl
stores_not e (Branch x) s h = refl
stores_not e (SoftwareInterrupt x) s h = refl
stores_not e (Exchange x) s h = refl
stores_not e (Count x) s h = refl

-- and loads nothing
pub loads_not : (e : Endian) (i : Insn) (s : State) → holds (word_of i) s ≡ false → None ≡ (row_of e i).loaded s
loads_not e (Computing x) s h = refl
loads_not e (Multiply x) s h = refl
loads_not e (MultiplyLong x) s h = refl
loads_not e (Swap x) s h = rw h refl
loads_not e (Transfer x) s h = rw h refl
loads_not e (Halfword x) s h = rw h refl
loads_not e (Block x) s h = rw h refl
loads_not e (Branch x) s h = refl
loads_not e (SoftwareInterrupt x) s h = refl
loads_not e (Exchange x) s h = refl
loads_not e (Count x) s h = refl

-- what is stored where the condition holds: nothing by a load, and nothing at an odd address of a halfword
pub stores_where : (b l : Bool) (x y : ℕ × ℕ) → b ≡ true → l ≡ false → x ≡ y → Some x ≡ when_stored (b && not l) y
stores_where b l x y p q e = rw (p, q) (ap Some e)

pub half_stored : (b l m : Bool) (x y : ℕ × ℕ) → b ≡ true → l ≡ false → m ≡ true → x ≡ y → Some x ≡ when_stored (b && not l && m) y
half_stored b l m x y p q r e = rw (p, q, r) (ap Some e)

pub loads_only : (b l m : Bool) (y : ℕ × ℕ) → l ≡ true → None ≡ when_stored (b && not l && m) y
loads_only true l m y q = rw q refl
loads_only false l m y q = refl

pub odd_only : (b l m : Bool) (y : ℕ × ℕ) → m ≡ false → None ≡ when_stored (b && not l && m) y
odd_only true true m y q = refl
odd_only true false m y q = rw q refl
odd_only false l m y q = refl

pub block_stored : (w : ℕ) (s : State) (a k : ℕ) → holds w s ≡ true → is_load w ≡ false → a ≡ block_start w s → k ≡ length (listed w) →
    Some (a, 4 * k) ≡ when_stored (holds w s && not (is_load w)) (block_start w s, 4 * length (listed w))
block_stored w s a k h l ea ek = stores_where (holds w s) (is_load w) _ _ h l (ap (λ a. (a, 4 * k)) ea ∙ ap (λ k. (block_start w s, 4 * k)) ek)

pub links : (w : ℕ) (s mid new : State) (out : StepOut) (at to r : ℕ) → is_linked w ≡ true → at ≡ s.pc → to ≡ branch_target w at → r ≡ 14 →
    mid ≡ record s { regs = put s.regs r (add 32 at 4) } → new ≡ with_pc mid to → out ≡ Jump to DirectCall → IsStep s new out (branched (is_linked w) w s)
links w s mid new out at to r l ea et er m n o =
    let target : to ≡ branch_target w s.pc = et ∙ ap (branch_target w) ea in
    let made : ℕ → ℕ → ℕ → State = λ r a p. record s { pc = p; regs = put s.regs r (add 32 a 4) } in
    rw l (
      n ∙ ap (λ y. with_pc y to) m ∙ ap (λ r. made r at to) er ∙ ap (λ a. made 14 a to) ea ∙ ap (made 14 s.pc) target,
      o ∙ ap
          (λ p. Jump p DirectCall) target,
    )

pub jumps : (w : ℕ) (s new : State) (out : StepOut) (at to : ℕ) → is_linked w ≡ false → at ≡ s.pc → to ≡ branch_target w at → new ≡ with_pc s to →
    out ≡ Jump to Direct →
    IsStep s new out (branched (is_linked w) w s)
jumps w s new out at to l ea et n o =
    let target : to ≡ branch_target w s.pc = et ∙ ap (branch_target w) ea in
    rw l (n ∙ ap (with_pc s) target, o ∙ ap (λ p. Jump p Direct) target)
