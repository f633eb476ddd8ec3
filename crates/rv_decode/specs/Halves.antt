-- The instructions of halfwords (RISC-V Unprivileged ISA 20191213, chapter 16): a halfword's expansion is a word of the same instruction.
use Rattle.std.specs.Prelude.{ℕ, ◌≡◌, ◌<◌, ◌^◌, Option, Some, None, true}
use Rattle.std.proofs.Common.{ap}
use Rattle.std.specs.Coded.{×_prop, Unit-prop, le_prop, Coded-set, coded_ℕ, coded_bool}
use Rattle.machine_spec.specs.Rv.{fits}
use Rattle.machine_spec.specs.RvShort.{expansion}
use Rattle.rv_decode.specs.declared.plain.Plain.{Plain}
use Rattle.rv_decode.specs.declared.plain.Plain.TheVariants.{Lui, Auipc, Jal, Jalr, Branch, Load, Store, Immediate, Shift, Computation, Fence, Ecall, Ebreak}
use Rattle.rv_decode.specs.Plains.{HasFields, DecodesPlain, line_of}

-- there is an expansion, and it is a word of the instruction
abbrev pub IsExpansionOf : Plain → Option ℕ → Type 0
IsExpansionOf i None = ⊥
IsExpansionOf i (Some w) = DecodesPlain w i

-- where there is a halfword, of 16 bits, its expansion is a word of the instruction
abbrev pub IsOfHalf : Plain → Option ℕ → Type 0
IsOfHalf i None = Unit {0}
IsOfHalf i (Some h) = (h < 2 ^ 16) × IsExpansionOf i (expansion h)

-- each of these has one proof at most
equal_prop : {a b : ℕ} → IsProp (a ≡ b)
equal_prop = Coded-set coded_ℕ _ _

three_prop : {A B C : Type 0} → IsProp A → IsProp B → IsProp C → IsProp (A × B × C)
three_prop {A} {B} {C} a b c x y =
    ap (λ (p : A × (B × C)). let t : A × B × C = (p.0, p.1.0, p.1.1) in t) (×_prop a (×_prop b c) (x.0, (x.1, x.2)) (y.0, (y.1, y.2)))

pub HasFields-prop : (i : Plain) (w : ℕ) → IsProp (HasFields i w)
HasFields-prop (Lui rd imm) w = ×_prop equal_prop equal_prop
HasFields-prop (Auipc rd imm) w = ×_prop equal_prop equal_prop
HasFields-prop (Jal rd offset) w = ×_prop equal_prop equal_prop
HasFields-prop (Jalr rd rs1 offset) w = three_prop equal_prop equal_prop equal_prop
HasFields-prop (Branch op rs1 rs2 offset) w = three_prop equal_prop equal_prop equal_prop
HasFields-prop (Load op rd rs1 offset) w = three_prop equal_prop equal_prop equal_prop
HasFields-prop (Store op rs1 rs2 offset) w = three_prop equal_prop equal_prop equal_prop
HasFields-prop (Immediate op rd rs1 imm) w = three_prop equal_prop equal_prop equal_prop
HasFields-prop (Shift op rd rs1 amount) w = three_prop equal_prop equal_prop equal_prop
HasFields-prop (Computation op rd rs1 rs2) w = three_prop equal_prop equal_prop equal_prop
HasFields-prop (Fence fields) w = equal_prop
HasFields-prop Ecall w = Unit-prop
HasFields-prop Ebreak w = Unit-prop

pub DecodesPlain-prop : (i : Plain) (w : ℕ) → IsProp (DecodesPlain w i)
DecodesPlain-prop i w a b =
    ap (λ (p : (fits (line_of i) w ≡ true) × HasFields i w). let d : DecodesPlain w i = record { line = p.0; fields = p.1 } in d)
    (×_prop (Coded-set coded_bool _ _) (HasFields-prop i w) (a.line, a.fields) (b.line, b.fields))

pub IsExpansionOf-prop : (i : Plain) (o : Option ℕ) → IsProp (IsExpansionOf i o)
IsExpansionOf-prop i None = λ a b. absurd a
IsExpansionOf-prop i (Some w) = DecodesPlain-prop i w

pub IsOfHalf-prop : (i : Plain) (o : Option ℕ) → IsProp (IsOfHalf i o)
IsOfHalf-prop i None = Unit-prop
IsOfHalf-prop i (Some h) = ×_prop le_prop (IsExpansionOf-prop i (expansion h))
