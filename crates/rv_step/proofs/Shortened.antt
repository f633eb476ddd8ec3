-- What an instruction comes to by its length, from what its expansion does.
use Rattle.std.proofs.Common.{◌≡◌, ℕ, zero, suc, ◌<◌, refl, sym, ap, subst, ◌∙◌, true, false, Bool, Option, Some, None, if◌then◌else◌, arith}
use Rattle.std.specs.Prelude.{◌==◌}
use Rattle.std.proofs.Math.Path.{fun_ext}
use Rattle.word_spec.specs.Words.{add}
use Rattle.word_spec.specs.State.{State, put, with_pc}
use Rattle.machine_spec.specs.Machine as machine
use Rattle.machine_spec.specs.Machine.{Outcome, Goes, Row, even}
use Rattle.machine_spec.specs.Rv.{reg, rv_row, links, direct_by, indirect_by, with_reg}
use Rattle.machine_spec.specs.RvShort.{expansion, shortened}
use Rattle.byte_mem.specs.Views.{how_of, goes_out, IsStep}
use Rattle.byte_mem.specs.declared.How.{How}
use Rattle.byte_mem.specs.declared.How.TheVariants.{Direct, DirectCall, Indirect, IndirectCall}
use Rattle.byte_mem.specs.declared.StepOut.{StepOut}
use Rattle.byte_mem.specs.declared.StepOut.TheVariants.{Jump}
use Rattle.rv_decode.specs.declared.insn.Insn.{Insn}
use Rattle.rv_decode.specs.declared.plain.Plain.{Plain}
use Rattle.rv_decode.specs.declared.plain.Plain.TheVariants.{Jal, Jalr}
use Rattle.rv_decode.specs.declared.register.Register.{Register}
use Rattle.rv_decode.specs.Halves.{IsOfHalf}
use Rattle.rv_decode.specs.Insns.{length_by, outcome_by, row_by, row_of}
use Rattle.rv_decode.proofs.Expansions.{jal_low, jalr_low, is_short_row}

-- a register is set twice
twice : (s : State) (a b : ℕ) → with_reg (with_reg s 1 a) 1 b ≡ with_reg s 1 b
twice s a b = ap (λ (regs : ℕ → ℕ). let t : State = record { pc = s.pc; regs = regs; flags = s.flags; mem = s.mem } in t) (fun_ext (same s.regs)) where
  same : (f : ℕ → ℕ) (r : ℕ) → put (put f 1 a) 1 b r ≡ put f 1 b r
  same f r = by_test (r == 1) where
    by_test : (t : Bool) → (if t then b else (if t then a else f r)) ≡ (if t then b else f r)
    by_test true = refl
    by_test false = refl

-- what a way on is to be for a register that is set
abbrev IsLowCall : (call : Bool → machine.How) → Type 0
IsLowCall call =
    ((s x : State) → shortened s (Goes (call true) x) ≡ Goes (call true) (with_reg x 1 (add 32 s.pc 2)))
    × ((s x : State) → shortened s (Goes (call false) x) ≡ Goes (call false) x)

-- a jump that sets a register to the address behind
links_low : (call : Bool → machine.How) → IsLowCall call → (rd n : ℕ) (s : State) (to : ℕ) → rd < 2 → n ≡ 2 →
    shortened s (Goes (call (links rd)) (with_pc (with_reg s rd (add 32 s.pc 4)) to)) ≡ Goes (call (links rd)) (with_pc (with_reg s rd (add 32 s.pc n)) to)
links_low call is zero n s to low e = is.1 s (with_pc s to)
links_low call is (suc zero) n s to low e =
    is.0 s (with_pc (with_reg s 1 (add 32 s.pc 4)) to) ∙ ap (λ x. Goes (call true) (with_pc x to)) (twice s (add 32 s.pc 4) (add 32 s.pc 2))
    ∙ ap (λ m. Goes (call true) (with_pc (with_reg s 1 (add 32 s.pc m)) to)) (sym e)
links_low call is (suc (suc rd)) n s to low e = absurd (omega arith)

links_by : (call : Bool → machine.How) → IsLowCall call → (half : Option ℕ) (rd n : ℕ) (s : State) (to : ℕ) → ((h : ℕ) → half ≡ Some h → rd < 2) →
    n ≡ length_by half 4 →
    outcome_by half s (Goes (call (links rd)) (with_pc (with_reg s rd (add 32 s.pc 4)) to))
    ≡ Goes (call (links rd)) (with_pc (with_reg s rd (add 32 s.pc n)) to)
links_by call is None rd n s to low e = rw e refl
links_by call is (Some h) rd n s to low e = links_low call is rd n s to (low h refl) e

halves : (i : Plain) (n : ℕ) (half : Option ℕ) → ((h : ℕ) → IsOfHalf i (Some h) → n < 2) → IsOfHalf i half → (h : ℕ) → half ≡ Some h → n < 2
halves i n half low is h e = low h (subst (IsOfHalf i) e is)

-- what JAL and JALR come to by their length
pub jal_outcome : (rd : Register) (offset : ℕ) (half : Option ℕ) (n : ℕ) (s : State) (to : ℕ) → IsOfHalf (Jal rd offset) half → n ≡ length_by half 4 →
    outcome_by half s (Goes (direct_by (links rd.number)) (with_pc (with_reg s rd.number (add 32 s.pc 4)) to))
    ≡ Goes (direct_by (links rd.number)) (with_pc (with_reg s rd.number (add 32 s.pc n)) to)
jal_outcome rd offset half n s to is e =
    links_by direct_by (λ s x. refl, λ s x. refl) half rd.number n s to (halves (Jal rd offset) rd.number half (jal_low rd offset) is) e

pub jalr_outcome : (rd rs1 : Register) (offset : ℕ) (half : Option ℕ) (n : ℕ) (s : State) (to : ℕ) → IsOfHalf (Jalr rd rs1 offset) half → n ≡ length_by half 4 →
    outcome_by half s (Goes (indirect_by (links rd.number)) (with_pc (with_reg s rd.number (add 32 s.pc 4)) to))
    ≡ Goes (indirect_by (links rd.number)) (with_pc (with_reg s rd.number (add 32 s.pc n)) to)
jalr_outcome rd rs1 offset half n s to is e =
    links_by indirect_by (λ s x. refl, λ s x. refl) half rd.number n s to (halves (Jalr rd rs1 offset) rd.number half (jalr_low rd rs1 offset) is) e

-- the step of a jump
jumped : (how : How) (m : machine.How) (s new x : State) (out : StepOut) (to : ℕ) → how_of how ≡ m → out ≡ Jump to how → new ≡ with_pc x to →
    IsStep s new out (Goes m (with_pc x to))
jumped how m s new x out to k o h = (h, subst (λ m. goes_out m (with_pc x to) out) k (made how o)) where
  made : (how : How) → out ≡ Jump to how → goes_out (how_of how) (with_pc x to) out
  made Direct e = e
  made DirectCall e = e
  made Indirect e = e
  made IndirectCall e = e

pub jal_step : (i : Plain) (rd : Register) (offset : ℕ) (half : Option ℕ) (n choice : ℕ) (s new : State) (out : StepOut) (how : How) (to : ℕ) →
    i ≡ Jal rd offset → n ≡ length_by half 4 → IsOfHalf i half → to ≡ add 32 s.pc offset → how_of how ≡ direct_by (links rd.number) → out ≡ Jump to how →
    new ≡ with_pc (with_reg s rd.number (add 32 s.pc n)) to → IsStep s new out ((row_by i half).effect s choice)
jal_step i rd offset half n choice s new out how to p e is t k o h =
    let own = subst (λ x. IsOfHalf x half) p is in
    subst (λ x. IsStep s new out ((row_by x half).effect s choice)) (sym p)
    (subst (λ x. IsStep s new out (outcome_by half s (Goes (direct_by (links rd.number)) (with_pc (with_reg s rd.number (add 32 s.pc 4)) x)))) t
    (subst (IsStep s new out) (sym (jal_outcome rd offset half n s to own e))
    (jumped how (direct_by (links rd.number)) s new (with_reg s rd.number (add 32 s.pc n)) out to k o h)))

pub jalr_step : (i : Plain) (rd rs1 : Register) (offset : ℕ) (half : Option ℕ) (n choice : ℕ) (s new : State) (out : StepOut) (how : How) (to : ℕ) →
    i ≡ Jalr rd rs1 offset → n ≡ length_by half 4 → IsOfHalf i half → to ≡ even (add 32 (reg s rs1.number) offset) →
    how_of how ≡ indirect_by (links rd.number) → out ≡ Jump to how → new ≡ with_pc (with_reg s rd.number (add 32 s.pc n)) to →
    IsStep s new out ((row_by i half).effect s choice)
jalr_step i rd rs1 offset half n choice s new out how to p e is t k o h =
    let own = subst (λ x. IsOfHalf x half) p is in
    subst (λ x. IsStep s new out ((row_by x half).effect s choice)) (sym p)
    (subst (λ x. IsStep s new out (outcome_by half s (Goes (indirect_by (links rd.number)) (with_pc (with_reg s rd.number (add 32 s.pc 4)) x)))) t
    (subst (IsStep s new out) (sym (jalr_outcome rd rs1 offset half n s to own e))
    (jumped how (indirect_by (links rd.number)) s new (with_reg s rd.number (add 32 s.pc n)) out to k o h)))

-- the step of an instruction of a halfword
pub short_step : (i : Insn) (s new : State) (out : StepOut) (choice h w : ℕ) (row : Row) → IsStep s new out ((row_of i).effect s choice) → i.half ≡ Some h →
    expansion h ≡ Some w → rv_row w ≡ Some row → IsStep s new out (shortened s (row.effect s choice))
short_step i s new out choice h w row is e x r = subst (λ (z : Row). IsStep s new out (z.effect s choice)) (is_short_row i h w row e x r) is
