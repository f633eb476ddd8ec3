-- States that are made of a start, and states with more room.
use Rattle.std.proofs.Common.{◌≡◌, ℕ, ◌-◌, List, Bool, true, false, refl, sym, ap, ◌∙◌, Result, Ok, Err, arith}
use Rattle.std.specs.Prelude.{OnOk, OnErr, nat_lt, slice_index, if◌then◌else◌}
use Rattle.std.proofs.Math.Path.{fun_ext}
use Rattle.std.proofs.lemmas.Bool.Decides.{nat_tests}
use Rattle.word_spec.specs.Memory.{Endian}
use Rattle.word_spec.specs.Profiles.{Profile}
use Rattle.machine_spec.specs.StateText.{arm_layout, register_at}
use Rattle.arm_step.specs.RegisterFile.{registers_of}

-- what stays the same whether memory was given or not
pub same_either : {T E S V : Type 0} (r : Result T E) (f : S → V) (old new : S) → OnOk r (f new ≡ f old) → OnErr r (new ≡ old) → f new ≡ f old
same_either (Ok x) f old new h k = h
same_either (Err x) f old new h k = ap f k

first_register : (b : Bool) (x y : ℕ) → b ≡ false → (if b then x else y) ≡ y
first_register false x y e = refl
first_register true x y e = absurd (cc)

register_is : (e : Endian) (profile : Profile) (regs : List ℕ) (r : ℕ) → registers_of regs r ≡ register_at (arm_layout e profile) regs r
register_is e profile regs r =
    let none : nat_lt r 0 ≡ false = grind (arith, nat_tests) in
    let same : r - 0 ≡ r = omega arith in
    sym (first_register (nat_lt r 0) 0 (slice_index regs (r - 0)) none ∙ ap (λ i. slice_index regs i) same)

-- the registers of a start, from r0 on
pub registers_are : (e : Endian) (profile : Profile) (regs : List ℕ) → registers_of regs ≡ register_at (arm_layout e profile) regs
registers_are e profile regs = fun_ext (λ r. register_is e profile regs r)
