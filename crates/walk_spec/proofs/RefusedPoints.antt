-- Wrong points of unrolled programs, and that what a point has to be refuses them.
use Rattle.std.proofs.Common.{refl, arith, ℕ, [], ◌∷◌, None, true, false}
use Rattle.word_spec.specs.Memory.{Little}
use Rattle.machine_spec.specs.Bil.{Var, Constant, Load, Store, Binary, Cast, Choose, Unsigned, Plus, Divide, Register, Mem, XRegisters, Statements, Empty, Assign, If, BilVariable}
use Rattle.bilv_spec.specs.Run.{Program}
use Rattle.bilv_spec.specs.Points.{Point, ToAddress, ToExit}
use Rattle.walk_spec.specs.Unrolled.{UnrolledPoint, UnrolledProgram, Executes, Raising, WritingKept, Unaligned, Along, Outward}
use Rattle.walk_spec.specs.Unrolling.{IsRunnable, AreEdgesOf}

-- register x
abbrev reg : ℕ → BilVariable
reg n = Register XRegisters n

-- a point of a row that costs so much
abbrev costing : ℕ → UnrolledPoint
costing n = record {
  point = record { turns = 0; stack = []; at = 0 };
  length = 4;
  does = Executes Empty;
  draws = false;
  row = n;
  loads = 0;
  stores = 0;
  exits = Raising ∷ WritingKept ∷ Unaligned ∷ Along false true None Outward ∷ [];
}

-- x10 := x10 + 1; if 0:1 { x10 := mem }: what is not taken has no type
abbrev ill_typed : Statements
ill_typed = Assign (reg 10) (Binary Plus (Var (reg 10)) (Constant 32 1)) (If (Constant 1 0) (Assign (reg 10) (Var Mem) Empty) Empty Empty)

pub ill_typed_refused : (u : UnrolledProgram) (q : UnrolledPoint) → IsRunnable u q ill_typed → ⊥
ill_typed_refused u q h = absurd (let e = h.typed in cc)

-- a division where no row is, whose point costs 64
abbrev divides : Statements
divides = Assign (reg 10) (Binary Divide (Var (reg 10)) (Var (reg 11))) Empty

pub divides_refused : (u : UnrolledProgram) → IsRunnable u (costing 64) divides → ⊥
divides_refused u h = let w = h.weight in absurd (omega arith)

-- a choice between memories, which no weight pays for
abbrev picks_memory : Statements
picks_memory = Assign Mem (Choose (Constant 1 1) (Var Mem) (Var Mem)) Empty

pub picks_memory_refused : (u : UnrolledProgram) (q : UnrolledPoint) → IsRunnable u q picks_memory → ⊥
picks_memory_refused u q h = let e = h.picks in absurd (omega arith)

-- a store in a side of a choice, under a guard that no weight pays for
abbrev stores_chosen : Statements
stores_chosen =
    Assign (reg 10) (Cast Unsigned 32 (Choose (Constant 1 1) (Load (Store (Var Mem) (Constant 32 0) Little 8 (Constant 8 1)) (Constant 32 0) Little 8)
    (Constant 8 2))) Empty

pub stores_chosen_refused : (u : UnrolledProgram) (q : UnrolledPoint) → IsRunnable u q stores_chosen → ⊥
stores_chosen_refused u q h = let e = h.steady in absurd (omega arith)

-- a named target before the exit of its address
pub exit_late_refused : (p : Program) (point : Point) (a : ℕ) → AreEdgesOf p point (ToAddress [] a ∷ ToExit ∷ []) → ⊥
exit_late_refused p point a h = h.exit_first (ToAddress [] a) (ToExit ∷ []) refl (0, omega arith, refl)
