-- Unrolled programs written out: their prices, their walks, and what their lists are.
use Rattle.std.proofs.Common.{◌≡◌, refl, arith, ℕ, [], ◌∷◌, List, Some, None, true, false}
use Rattle.std.specs.Prelude.{◌==◌, if◌then◌else◌}
use Rattle.word_spec.specs.Memory.{Little}
use Rattle.word_spec.specs.RowFiles.{from_to}
use Rattle.bilv_spec.specs.Notes as notes
use Rattle.machine_spec.specs.Bil.{Var, Constant, Binary, Plus, And, NotEqual, Register, XRegisters, Statements, Empty, Assign, JumpTo, If, BilVariable}
use Rattle.machine_spec.specs.BilCounts.{list_weight}
use Rattle.bilv_spec.specs.Questions.{Reading}
use Rattle.term_spec.specs.Terms.{TermNode, RegisterNode, ConstantNode, BinaryNode, SelectNode, values_from, term_word, term_gates}
use Rattle.term_spec.specs.WalkQuestions.{term_reading}
use Rattle.walk_spec.specs.Unrolled.{UnrolledPoint, UnrolledProgram, PointExit, Executes, Raising, WritingKept, Unaligned, Along, OnTo, Outward, OverLast, Leaving, GoesOn, carried_of, leaving, WalkExits, WalkTurns, walk}
use Rattle.walk_spec.specs.Sweep.{held, swept, met_below}
use Rattle.walk_spec.specs.Unrolling.{IsRunnable}
use Rattle.walk_spec.specs.Prices.{unrolled_price, node_bound}

-- register x
abbrev reg : ℕ → BilVariable
reg n = Register XRegisters n

-- a point of a computing row without memory, by its backward transfers, its address, its list and its edges
abbrev plain : (turns at : ℕ) → Statements → List PointExit → UnrolledPoint
plain turns at list edges = record {
  point = record { turns = turns; stack = []; at = at };
  length = 4;
  does = Executes list;
  draws = false;
  row = 1024;
  loads = 0;
  stores = 0;
  exits = Raising ∷ WritingKept ∷ Unaligned ∷ edges;
}

-- addi a0,a0,n
abbrev adds : ℕ → Statements
adds n = Assign (reg 10) (Binary Plus (Var (reg 10)) (Constant 32 n)) Empty

-- ret
abbrev returns : Statements
returns = JumpTo (Binary And (Var (reg 1)) (Constant 32 0xFFFFFFFE)) Empty

-- bne a0,zero to an address
abbrev branches : ℕ → Statements
branches a = If (Binary NotEqual (Var (reg 10)) (Constant 32 0)) (JumpTo (Constant 32 a) Empty) Empty Empty

-- an edge without a jump, to the next address
abbrev falls : (to place : ℕ) → PointExit
falls to place = Along true false (Some to) (OnTo place)

-- the edge by which a function returns
abbrev leaves : PointExit
leaves = Along false true None Outward

-- the words 00150513 00008067, with: ensure a0 = old(a0) + 1
abbrev increment : UnrolledProgram
increment = record {
  endian = Little;
  narrow = false;
  registers = from_to 1 31;
  flags = 0;
  link = 1;
  entry = 0x10000;
  requires = [];
  ensures = record { line = 2; says = notes.Binary notes.Equal (notes.Register 10) (notes.Binary notes.Plus (notes.Old (notes.Register 10)) (notes.Number 1)) }
      ∷ [];
  kept = record { low = 0x10000; high = 0x10007 } ∷ [];
  known = record { at = 0x10000; count = 8; bytes = 0x13 ∷ 0x05 ∷ 0x15 ∷ 0x00 ∷ 0x67 ∷ 0x80 ∷ 0x00 ∷ 0x00 ∷ [] } ∷ [];
  literals = [];
  points = plain 0 0x10000 (adds 1) (falls 0x10004 1 ∷ []) ∷ plain 0 0x10004 returns (leaves ∷ []) ∷ [];
}

-- its price
pub increment_price : unrolled_price increment ≡ 6656
increment_price = refl

-- its nodes, at most
pub increment_nodes : node_bound increment ≡ 648
increment_nodes = refl

-- its lists can be made terms
pub increment_runs : IsRunnable increment (plain 0 0x10000 (adds 1) (falls 0x10004 1 ∷ [])) (adds 1)
increment_runs = record {
  typed = refl;
  no_loop = refl;
  no_special = refl;
  nests = omega arith;
  picks = refl;
  steady = refl;
  names = refl;
  draws = λ h. refl;
  weight = omega arith;
  loads = omega arith;
  byte_stores = omega arith;
}

-- a reading with a0 and the return address 0x20000
abbrev with_a0 : ℕ → Reading
with_a0 n = record {
  state = record { pc = 0x10000; regs = λ r. if r == 10 then n else if r == 1 then 0x20000 else 0; flags = λ f. 0; mem = λ a. 0 };
  choice =
      λ q. 0;
}

-- the increment exits after two points
pub increment_exits : walk increment (with_a0 7) 2 ≡ WalkExits
unfolding walk
increment_exits = refl

-- the words FFF50513 FE051EE3 00008067: addi a0,a0,-1; bne a0,zero,-4; ret; for one backward transfer
abbrev count_down : UnrolledProgram
count_down = record {
  endian = Little;
  narrow = false;
  registers = from_to 1 31;
  flags = 0;
  link = 1;
  entry = 0x10000;
  requires = [];
  ensures = [];
  kept = record { low = 0x10000; high = 0x1000B } ∷ [];
  known = record { at = 0x10000; count = 12; bytes = 0x13 ∷ 0x05 ∷ 0xF5 ∷ 0xFF ∷ 0xE3 ∷ 0x1E ∷ 0x05 ∷ 0xFE ∷ 0x67 ∷ 0x80 ∷ 0x00 ∷ 0x00 ∷ [] } ∷ [];
  literals = [];
  points =
      plain 0 0x10000 (adds 0xFFFFFFFF) (falls 0x10004 1 ∷ [])
      ∷ plain 0 0x10004 (branches 0x10000) (Along false true (Some 0x10000) (OnTo 3) ∷ falls 0x10008 2 ∷ [])
      ∷ plain 0 0x10008 returns (leaves ∷ [])
      ∷ plain 1 0x10000 (adds 0xFFFFFFFF) (falls 0x10004 4 ∷ [])
      ∷ plain 1 0x10004 (branches 0x10000) (Along false true (Some 0x10000) OverLast ∷ falls 0x10008 5 ∷ [])
      ∷ plain 1 0x10008 returns (leaves ∷ [])
      ∷ [];
}

-- its price
pub count_down_price : unrolled_price count_down ≡ 17408
count_down_price = refl

-- from a0 = 2 the walk exits at its fifth point
pub two_exit : walk count_down (with_a0 2) 5 ≡ WalkExits
unfolding walk
two_exit = refl

-- from a0 = 3 it makes a second backward transfer
pub three_turn : walk count_down (with_a0 3) 5 ≡ WalkTurns
unfolding walk
three_turn = refl

-- from a0 = 2 the places 0, 1, 3, 4 and 5 are met and place 2 is not, and there is no event
pub two_held :
    ((swept count_down (with_a0 2)).met 0 ≡ true) × ((swept count_down (with_a0 2)).met 2 ≡ false) × ((swept count_down (with_a0 2)).met 5 ≡ true)
    × ((swept count_down (with_a0 2)).fails ≡ false) × ((swept count_down (with_a0 2)).turns ≡ false)
unfolding held
two_held = (refl, refl, refl, refl, refl)

-- to place 4 it carries a0 = 0, behind three met places
pub two_carried : (((swept count_down (with_a0 2)).carried 4).regs 10 ≡ 0) × (met_below (swept count_down (with_a0 2)) 4 ≡ 3)
unfolding held
two_carried = (refl, refl)

-- from a0 = 3 one backward transfer too many is made
pub three_held : ((swept count_down (with_a0 3)).turns ≡ true) × ((swept count_down (with_a0 3)).met 5 ≡ false)
unfolding held
three_held = (refl, refl)

-- a list with an if under which each side jumps
abbrev either_way : Statements
either_way = If (Binary NotEqual (Var (reg 10)) (Constant 32 0)) (JumpTo (Constant 32 0x10000) Empty) (JumpTo (Constant 32 0x10008) Empty) Empty

-- its terms: the bit of the condition, and the target that it selects
abbrev either_terms : List TermNode
either_terms =
    RegisterNode 0 10 ∷ ConstantNode 32 0 ∷ BinaryNode NotEqual 32 0 1 ∷ ConstantNode 32 0x10000 ∷ ConstantNode 32 0x10008 ∷ SelectNode 32 2 3 4 ∷ []

-- its point, which may jump to either place
abbrev either_point : UnrolledPoint
either_point = plain 0 0x10004 either_way (Along false true (Some 0x10000) (OnTo 3) ∷ Along false true (Some 0x10008) (OnTo 2) ∷ [])

-- where the list goes on to
abbrev goes_to : ℕ → Leaving
goes_to n = leaving either_point 0 (carried_of (with_a0 n).state)

-- from either side it jumps to the address that the terms have
pub either_jumps :
    (goes_to 5 ≡ GoesOn true 0x10000 (carried_of (with_a0 5).state)) × (goes_to 0 ≡ GoesOn true 0x10008 (carried_of (with_a0 0).state))
    × (term_word (term_reading count_down (with_a0 5)) either_terms 5 ≡ 0x10000) × (term_word (term_reading count_down (with_a0 0)) either_terms 5 ≡ 0x10008)
unfolding values_from
either_jumps = (refl, refl, refl, refl)

-- the terms are within the weight of the list, and the list within the row's cost
pub either_costs : (term_gates either_terms ≡ 64) × (list_weight either_way ≡ 164) × IsRunnable count_down either_point either_way
either_costs = (
  refl,
  refl,
  record {
    typed = refl;
    no_loop = refl;
    no_special = refl;
    nests = omega arith;
    picks = refl;
    steady = refl;
    names = refl;
    draws = λ h. refl;
    weight = omega arith;
    loads = omega arith;
    byte_stores = omega arith;
  },
)
