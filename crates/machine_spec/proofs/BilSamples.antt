-- Worked types, meanings, texts, loads and stores of BIL, by computation alone.
use Rattle.std.proofs.Common.{◌≡◌, ℕ, refl, List, [], ◌∷◌, ◌++◌, Option, Some, None}
use Rattle.std.specs.Prelude.{map, codes}
use Rattle.std.specs.Fmt.{digits}
use Rattle.word_spec.specs.Words.{sdiv, srem, udiv, urem, shl, shr, sar}
use Rattle.word_spec.specs.Memory.{Little, Big, Memory, load, store}
use Rattle.machine_spec.specs.Bil.{Bits, BilType, BilVariable, Register, Flag, Mem, XRegisters, RRegisters, Expression, Binary, Plus, Divide, ShiftSigned, SignedModulo, Less, Unary, Not, Cast, Low, Signed, Load, Store, Let, Local, Unknown, Choose, Extract, Concat, Var, Constant, Statements, Assign, JumpTo, Raise, Special, While, If, Empty}
use Rattle.machine_spec.specs.Bil as bil
use Rattle.machine_spec.specs.BilTyping.{Faulty, type_or_fault, typed, list_fault, NeedBits, NeedMemory, AnyBits, Fits}
use Rattle.machine_spec.specs.BilMeaning.{Word, Env, Position, Ending, Ends, RaisesException, OutOfTurns, Stuck, evaluate, execute}
use Rattle.machine_spec.specs.BilText.{text_of, list_text}
use Rattle.word_spec.specs.Texts.{lines}
use Rattle.machine_spec.specs.BilCounts.{list_weight, weight}

abbrev x10 : BilVariable
x10 = Register XRegisters 10

abbrev sum : ℕ → Expression
sum n = Binary Plus (Var x10) (Constant n 1)

abbrev one_more : Statements
one_more = Assign x10 (sum 32) Empty

-- an operand of 8 bits where 32 are asked: a fault of the sum itself, which is node 0
fault_of_sum : type_or_fault 0 (sum 8) ≡ Faulty (record { place = 0; need = NeedBits 32; found = Bits 8 })
fault_of_sum = refl

is_typed : list_fault 0 one_more ≡ None
is_typed = refl

-- behind an assignment of 4 nodes the jump is node 4, and asks for 32 bits
fault_of_jump : list_fault 0 (Assign x10 (sum 32) (JumpTo (Constant 8 0) Empty)) ≡ Some (record { place = 4; need = NeedBits 32; found = Bits 8 })
fault_of_jump = refl

-- the operands are asked in the order of the text; where they fit, their width or the node's numbers do not
fault_of_load : type_or_fault 0 (Load (Var x10) (Constant 8 0) Little 32) ≡ Faulty (record { place = 0; need = NeedMemory; found = Bits 32 })
fault_of_load = refl

fault_of_width : type_or_fault 0 (Load (Var Mem) (Var x10) Little 12) ≡ Faulty (record { place = 0; need = Fits; found = bil.Memory })
fault_of_width = refl

fault_of_extract : type_or_fault 0 (Extract 32 0 (Var x10)) ≡ Faulty (record { place = 0; need = Fits; found = Bits 32 })
fault_of_extract = refl

fault_of_cast : type_or_fault 0 (Cast Low 8 (Var Mem)) ≡ Faulty (record { place = 0; need = AnyBits; found = bil.Memory })
fault_of_cast = refl

-- a fault of an operand comes before that of its node
fault_of_operand : type_or_fault 0 (Binary Plus (sum 8) (sum 16)) ≡ Faulty (record { place = 1; need = NeedBits 32; found = Bits 8 })
fault_of_operand = refl

-- a let binds a word of its width, and an unknown memory has no type
type_of_let : typed (Let 0 8 (Constant 8 3) (Var (Local 0 8))) ≡ Some (Bits 8)
type_of_let = refl

fault_of_let : type_or_fault 0 (Let 0 8 (Constant 16 3) (Var (Local 0 8))) ≡ Faulty (record { place = 0; need = NeedBits 8; found = Bits 16 })
fault_of_let = refl

fault_of_unknown : type_or_fault 0 (Unknown bil.Memory) ≡ Faulty (record { place = 0; need = Fits; found = bil.Memory })
fault_of_unknown = refl

-- what a list does where every register holds a value
abbrev env : ℕ → Env
env v = record { regs = λ r. v; flags = λ f. 0; mem = λ a. 0; locals = λ x n. Stuck }

abbrev start : ℕ → ℕ → Position
start v turns = record { env = env v; jump = None; turns = turns }

abbrev x10_of : Ending → Option ℕ
x10_of (Ends p) = Some (p.env.regs 10)
x10_of (RaisesException n p) = Some (p.env.regs 10)
x10_of other = None

abbrev jump_of : Ending → Option ℕ
jump_of (Ends p) = p.jump
jump_of other = None

sum_wraps : x10_of (execute one_more 0 (start 0xffffffff 5)) ≡ Some 0
sum_wraps = refl

sum_goes_on : jump_of (execute one_more 0 (start 0xffffffff 5)) ≡ None
sum_goes_on = refl

-- a loop that never ends is out of turns; one of three turns leaves two of five
no_end : execute (While (Constant 1 1) Empty Empty) 0 (start 7 5) ≡ OutOfTurns (start 7 0)
no_end = refl

abbrev turns_of : Ending → Option ℕ
turns_of (Ends p) = Some p.turns
turns_of other = None

three_turns : turns_of (execute (While (Binary Less (Var x10) (Constant 32 10)) one_more Empty) 0 (start 7 5)) ≡ Some 2
three_turns = refl

-- the statements after a jump run, and the last jump counts; an exception ends the list, and keeps what was assigned before
last_jump : jump_of (execute (JumpTo (Constant 32 8) (JumpTo (Var x10) one_more)) 0 (start 4 0)) ≡ Some 4
last_jump = refl

exception_keeps : x10_of (execute (Assign x10 (Constant 32 9) (Raise 4 one_more)) 0 (start 7 0)) ≡ Some 9
exception_keeps = refl

-- an unknown is the choice's low bits; a local is read under its let
unknown_bit : evaluate (Unknown (Bits 1)) 3 (env 0) ≡ Word 1 1
unknown_bit = refl

local_word : evaluate (Let 0 32 (sum 32) (Binary Plus (Var (Local 0 32)) (Var (Local 0 32)))) 0 (env 7) ≡ Word 32 16
local_word = refl

-- division by zero gives all ones, and the remainder is the dividend
division_by_zero : udiv 8 7 0 ∷ sdiv 8 7 0 ∷ urem 8 7 0 ∷ srem 8 0xf9 0 ∷ [] ≡ 0xff ∷ 0xff ∷ 7 ∷ 0xf9 ∷ []
division_by_zero = refl

-- -7 by 2 is -3, its remainder -1; 7 by -2 leaves 1; the least number by -1 wraps
signed_division : sdiv 8 0xf9 2 ∷ srem 8 0xf9 2 ∷ sdiv 8 7 0xfe ∷ srem 8 7 0xfe ∷ sdiv 8 0x80 0xff ∷ srem 8 0x80 0xff ∷ [] ≡ 0xfd ∷ 0xff ∷ 0xfd ∷ 1 ∷ 0x80 ∷ 0
    ∷ []
signed_division = refl

-- amounts at or above the width give all fill
overlong_shifts : shl 8 0x81 8 ∷ shr 8 0x81 9 ∷ sar 8 0x81 200 ∷ sar 8 0x41 8 ∷ sar 8 0x81 1 ∷ [] ≡ 0 ∷ 0 ∷ 0xff ∷ 0 ∷ 0xc0 ∷ []
overlong_shifts = refl

signed_operators : evaluate (Binary ShiftSigned (Constant 8 0x81) (Constant 8 9)) 0 (env 0)
    ∷ evaluate (Binary SignedModulo (Constant 8 0xf9) (Constant 8 2)) 0 (env 0)
    ∷ evaluate (Binary Divide (Constant 8 7) (Constant 8 0)) 0 (env 0) ∷ [] ≡ Word 8 0xff ∷ Word 8 0xff ∷ Word 8 0xff ∷ []
signed_operators = refl

cuts : evaluate (Cast Signed 16 (Constant 8 0x80)) 0 (env 0) ∷ evaluate (Extract 11 4 (Constant 16 0xabcd)) 0 (env 0)
    ∷ evaluate (Concat (Constant 8 0xab) (Constant 4 0xc)) 0 (env 0) ∷ evaluate (Unary Not (Constant 1 0)) 0 (env 0) ∷ [] ≡
    Word 16 0xff80 ∷ Word 8 0xbc ∷ Word 12 0xabc ∷ Word 1 1 ∷ []
cuts = refl

-- stores in both orders at the top of the memory, which wraps, and the loads that give the words back
abbrev little : Memory
little = store Little 4 (λ a. 0) 0xfffffffe 0x44332211

abbrev big : Memory
big = store Big 4 (λ a. 0) 0xfffffffe 0x44332211

abbrev five : List ℕ
five = 0xfffffffd ∷ 0xfffffffe ∷ 0xffffffff ∷ 0 ∷ 1 ∷ []

wraps : map little five ∷ map big five ∷ [] ≡ (0 ∷ 0x11 ∷ 0x22 ∷ 0x33 ∷ 0x44 ∷ []) ∷ (0 ∷ 0x44 ∷ 0x33 ∷ 0x22 ∷ 0x11 ∷ []) ∷ []
wraps = refl

gives_back : load Little 4 little 0xfffffffe ∷ load Big 4 big 0xfffffffe ∷ load Little 2 little 0xffffffff ∷ load Big 4 little 0xfffffffe ∷ [] ≡
    0x44332211 ∷ 0x44332211 ∷ 0x3322 ∷ 0x11223344 ∷ []
gives_back = refl

-- texts: the assignment of addi, and operands with and without round brackets
text_of_one_more : list_text 1 one_more ≡ codes "  x10 := x10 + 0x1:32" ++ 10 ∷ []
unfolding digits
text_of_one_more = refl

abbrev texts : List Expression → List (List ℕ)
texts es = map (λ e. text_of e) es

abbrev byte : Expression
byte = Load (Var Mem) (sum 32) Little 8

operands : texts (Binary Plus byte (Constant 8 0) ∷ Unary Not (sum 32) ∷ Concat (Cast Low 8 (sum 32)) (Extract 3 0 (Var x10)) ∷ Unknown (Bits 1) ∷
    Choose (Unknown (Bits 1)) (sum 32) (Var x10) ∷ Let 2 8 byte (Var (Local 2 8)) ∷ Load (Store (Var Mem) (Var x10) Big 8 (Constant 8 0xff)) (Var x10) Big 8
    ∷ []) ≡
    codes "mem[x10 + 0x1:32, el]:8 + 0x0:8" ∷ codes "~(x10 + 0x1:32)" ∷ codes "low:8[x10 + 0x1:32] @ extract:3:0[x10]" ∷ codes "unknown[imm<1>]:1" ∷
    codes "if unknown[imm<1>]:1 then (x10 + 0x1:32) else x10" ∷ codes "let v2_8 = mem[x10 + 0x1:32, el]:8 in v2_8" ∷
    codes "(mem with [x10, be]:8 <- 0xff:8)[x10, be]:8" ∷ []
unfolding digits
operands = refl

-- statements, with their blocks
statements : list_text 0 (If (Var (Flag 2)) (Assign (Register RRegisters 0) (Constant 32 0) Empty) Empty
    (While (Constant 1 1) (If (Var (Flag 3)) (Raise 4 Empty) (Special (codes "t") Empty) Empty) (JumpTo (Var x10) Empty))) ≡
    lines (codes "if Z {" ∷ codes "  r0 := 0x0:32" ∷ codes "} else {" ∷ codes "}" ∷ codes "while 0x1:1 {" ∷ codes "  if N {" ∷ codes "    cpuexn (4)" ∷
    codes "  } else {" ∷ codes "    special (t)" ∷ codes "  }" ∷ codes "}" ∷ codes "jmp x10" ∷ [])
unfolding digits
statements = refl

-- the weights of an addition with its assignment, and of a signed remainder
weights : list_weight one_more ∷ weight (Binary SignedModulo (Var x10) (Var x10)) ∷ [] ≡ 128 ∷ 3424 ∷ []
weights = refl
