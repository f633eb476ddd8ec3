-- Worked points, edges, prices and graph lines, by computation alone.
use Rattle.std.proofs.Common.{◌≡◌, ℕ, ◌+◌, ◌*◌, arith, refl, List, [], ◌∷◌, ◌++◌, Bool, true, false}
use Rattle.std.specs.Prelude.{◌==◌, codes}
use Rattle.bilv_spec.specs.GraphText.{graph_line}
use Rattle.word_spec.specs.Memory.{Little}
use Rattle.machine_spec.specs.Machine.{Machine}
use Rattle.word_spec.specs.RowFiles.{rv_file, arm_file}
use Rattle.machine_spec.specs.Arm.{arm, arm_row}
use Rattle.word_spec.specs.Profiles.{V4}
use Rattle.machine_spec.specs.Arm as arm_rows
use Rattle.bilv_spec.specs.Elf.{loaded}
use Rattle.machine_spec.specs.Rv.{table, rv_row}
use Rattle.machine_spec.specs.RvMachine.{rv32}
use Rattle.bilv_spec.specs.Notes.{Expr, NoteLine, Targets, At, Number, Register, Bound, Memory, Old, Binary, Equal, Plus, BitAnd, Times, written_out}
use Rattle.bilv_spec.specs.Run.{Program, in_memory}
use Rattle.bilv_spec.specs.Points.{price_of, line_price, Point, ToAddress, ToExit, edges, ArePoints, HasMore}
use Rattle.bilv_spec.proofs.PointTests.{points_by_test}
use Rattle.bilv_spec.proofs.AllPoints.{no_more_points}

abbrev program : Machine → List ℕ → List NoteLine → List NoteLine → List Targets → Program
program machine file requires ensures targets = record {
  machine = machine;
  word = in_memory machine;
  loaded = loaded file;
  out = λ f. false;
  entry = 0x10000;
  notes = record { entry = At 0x10000; requires = requires; ensures = ensures; asserts = []; targets = targets; fixed = [] };
}

abbrev rv : List ℕ → List NoteLine → List NoteLine → List Targets → Program
rv words requires ensures targets = program (rv32 false) (rv_file words) requires ensures targets

-- addi a0,a0,1; ret
abbrev adds : List ℕ
adds = 0x00150513 ∷ 0x00008067 ∷ []

-- a loop that counts a0 down; ret
abbrev counts : List ℕ
counts = 0xfff50513 ∷ 0xfe051ee3 ∷ 0x00008067 ∷ []

-- a call by a pair
abbrev calls : List ℕ
calls = 0x00008313 ∷ 0x00000097 ∷ 0x00c080e7 ∷ 0x00030067 ∷ 0x00150513 ∷ 0x00008067 ∷ []

-- beq zero,zero to the next address; ret
abbrev branches : List ℕ
branches = 0x00000263 ∷ 0x00008067 ∷ []

-- movs r0,r0,lsr #32; mov pc,lr
abbrev moves : Program
moves = program (arm Little V4) (arm_file (0xe1b00020 ∷ 0xe1a0f00e ∷ [])) [] [] []

abbrev point : List ℕ → ℕ → Point
point stack at = record { turns = 0; stack = stack; at = at }

abbrev after : ℕ → ℕ → Point
after turns at = record { turns = turns; stack = []; at = at }

-- the price of a sum over its two points, its eight kept bytes being one run
sum_price : price_of (rv adds [] (record { line = 2; says = Binary Equal (Register 10) (Binary Plus (Old (Register 10)) (Number 1)) }
    ∷ []) []) (point [] 0x10000 ∷ point [] 0x10004 ∷ []) 8 1 ≡ 6656
unfolding table rv_row
sum_price = refl

-- what a require adds: its operator, and 512 for a line without one
abbrev a0_is_3 : List NoteLine
a0_is_3 = record { line = 2; says = Binary Equal (Register 10) (Number 3) } ∷ []

require_price : price_of (rv adds a0_is_3 (record { line = 3; says = Register 10 } ∷ []) []) (point [] 0x10000 ∷ point [] 0x10004 ∷ []) 8 1
    ≡ 1024 + 2048 + 2560 + 512 + 512
unfolding table rv_row
require_price = refl

-- all i 0 3 (mem8[0x8000 + i] = 0): eight operators, four loads and four values
abbrev four_zeros : Expr
four_zeros = written_out 0 3 (Binary Equal (Memory 1 (Binary Plus (Number 0x8000) Bound)) (Number 0))

-- ret, where a line requires that, and one ensures mem32[0x8000] = 0
all_price : price_of (rv (0x00008067 ∷ []) (record { line = 3; says = four_zeros } ∷ [])
    (record { line = 4; says = Binary Equal (Memory 4 (Number 0x8000)) (Number 0) } ∷ []) []) (point [] 0x10000 ∷ []) 4 1
    ≡ 14208
unfolding table rv_row
all_price = refl

-- all i 0 3 (i): the line has no operator, and four values
plain_all_price : line_price (written_out 0 3 Bound) ≡ 512 + 4 * 512
plain_all_price = refl

-- all i 0 3 (i * i = i): four products, four other operators and four values
squares_price : line_price (written_out 0 3 (Binary Equal (Binary Times Bound Bound) Bound)) ≡ 4 * 8192 + 4 * 512 + 4 * 512
squares_price = refl

-- a point without a row
stop_price : price_of (rv (0 ∷ []) [] [] []) (point [] 0x10000 ∷ []) 4 1 ≡ 1024 + 64
unfolding table rv_row
stop_price = refl

-- sw a0,0(a1); ret with a line that loads one byte, and two: each load meets each edge, store, known byte and other load
abbrev stores : List ℕ
stores = 0x00a5a023 ∷ 0x00008067 ∷ []

abbrev loads_line : ℕ → List NoteLine
loads_line n = record { line = 2; says = Binary Equal (Memory n (Number 0xffffffff)) (Binary BitAnd (Register 10) (Number 255)) } ∷ []

load_price : price_of (rv stores [] (loads_line 1) []) (point [] 0x10000 ∷ point [] 0x10004 ∷ []) 8 1 ≡ 8416
unfolding table rv_row
load_price = refl

loads_price : price_of (rv stores [] (loads_line 2) []) (point [] 0x10000 ∷ point [] 0x10004 ∷ []) 8 1 ≡ 9216
unfolding table rv_row
loads_price = refl

-- ldr r0,[pc,#-8]; mov pc,lr: a literal that is kept is no load
literal_price : price_of (program (arm Little V4) (arm_file (0xe51f0008 ∷ 0xe1a0f00e ∷ [])) [] [] []) (point [] 0x10000 ∷ point [] 0x10004 ∷ []) 8 1
    ≡ 1024 + 2 * 4096 + 2 * 1280
unfolding arm_row arm_rows.table
literal_price = refl

-- the loop that counts down has nine points within two backward transfers
nine_points : ArePoints (rv counts a0_is_3 [] []) 2
    (after 0 0x10000 ∷ after 0 0x10004 ∷ after 0 0x10008 ∷ after 1 0x10000 ∷ after 1 0x10004 ∷ after 1 0x10008 ∷ after 2 0x10000 ∷ after 2 0x10004
    ∷ after 2 0x10008 ∷ [])
unfolding table rv_row
nine_points = points_by_test (rv counts a0_is_3 [] []) 2
    (after 0 0x10004 ∷ after 0 0x10008 ∷ after 1 0x10000 ∷ after 1 0x10004 ∷ after 1 0x10008 ∷ after 2 0x10000 ∷ after 2 0x10004 ∷ after 2 0x10008 ∷ []) refl

-- edges: of the loop's branch, and of the return, which with the empty stack is the exit
edges_loop : edges (rv counts [] [] []) (point [] 0x10004) ≡ ToAddress [] 0x10000 ∷ ToAddress [] 0x10008 ∷ []
unfolding table rv_row
edges_loop = refl

edges_exit : edges (rv counts [] [] []) (point [] 0x10008) ≡ ToExit ∷ []
unfolding table rv_row
edges_exit = refl

-- of the call by the pair, and of the return from it
edges_call : edges (rv calls [] [] []) (point [] 0x10008) ≡ ToAddress (0x1000c ∷ []) 0x10010 ∷ []
unfolding table rv_row
edges_call = refl

edges_back : edges (rv calls [] [] []) (point (0x1000c ∷ []) 0x10014) ≡ ToAddress [] 0x1000c ∷ []
unfolding table rv_row
edges_back = refl

-- a named target that equals the stack's top is the return alone; another is a second edge, with the stack as it is
edges_named_top : edges (rv calls [] [] (record { at = 0x10014; to = 0x1000c ∷ [] } ∷ [])) (point (0x1000c ∷ []) 0x10014) ≡ ToAddress [] 0x1000c ∷ []
unfolding table rv_row
edges_named_top = refl

edges_named_other : edges (rv calls [] [] (record { at = 0x10014; to = 0x1000c ∷ 0x10000 ∷ 0x10000 ∷ [] } ∷ [])) (point (0x1000c ∷ []) 0x10014)
    ≡ ToAddress [] 0x1000c ∷ ToAddress (0x1000c ∷ []) 0x10000 ∷ []
unfolding table rv_row
edges_named_other = refl

-- with the empty stack a named target stands beside the exit
edges_named_exit : edges (rv counts [] [] (record { at = 0x10008; to = 0x10004 ∷ [] } ∷ [])) (point [] 0x10008) ≡ ToExit ∷ ToAddress [] 0x10004 ∷ []
unfolding table rv_row
edges_named_exit = refl

-- a target that is no multiple of 4 is no edge
edges_unaligned : edges (rv counts [] [] (record { at = 0x10008; to = 0x10006 ∷ [] } ∷ [])) (point [] 0x10008) ≡ ToExit ∷ []
unfolding table rv_row
edges_unaligned = refl

-- a branch to the next address has one edge, and both letters in the graph
edges_next : edges (rv branches [] [] []) (point [] 0x10000) ≡ ToAddress [] 0x10004 ∷ []
unfolding table rv_row
edges_next = refl

-- behind the last word nothing can be fetched
edges_none : edges (rv counts [] [] []) (point [] 0x1000c) ≡ []
unfolding table rv_row
edges_none = refl

-- a direct call pushes the address behind it (jal ra,+8)
edges_direct_call : edges (rv (0x008000ef ∷ 0x00008067 ∷ 0x00008067 ∷ []) [] [] []) (point [] 0x10000) ≡ ToAddress (0x10004 ∷ []) 0x10008 ∷ []
unfolding table rv_row
edges_direct_call = refl

-- lines of the graph
abbrev line_at : Program → ℕ → (ℕ → Bool) → List ℕ
line_at p a keeps = graph_line p a keeps

line_first : line_at (rv counts [] [] []) 0x10000 (λ f. false) ≡ codes "0x00010000 n 0x00010004" ++ 10 ∷ []
unfolding table rv_row
line_first = refl

line_loop : line_at (rv counts [] [] []) 0x10004 (λ f. false) ≡ codes "0x00010004 j 0x00010000 n 0x00010008" ++ 10 ∷ []
unfolding table rv_row
line_loop = refl

line_exit : line_at (rv counts [] [] []) 0x10008 (λ f. false) ≡ codes "0x00010008 x" ++ 10 ∷ []
unfolding table rv_row
line_exit = refl

line_keeps : line_at moves 0x10000 (λ f. f == 1) ≡ codes "0x00010000 n 0x00010004 keeps C" ++ 10 ∷ []
unfolding arm_row arm_rows.table
line_keeps = refl

line_return : line_at moves 0x10004 (λ f. false) ≡ codes "0x00010004 x" ++ 10 ∷ []
unfolding arm_row arm_rows.table
line_return = refl

line_both : line_at (rv branches [] [] []) 0x10000 (λ f. false) ≡ codes "0x00010000 n 0x00010004 j 0x00010004" ++ 10 ∷ []
unfolding table rv_row
line_both = refl

line_call : line_at (rv calls [] [] []) 0x10008 (λ f. false) ≡ codes "0x00010008 r 0x0001000c c 0x00010010" ++ 10 ∷ []
unfolding table rv_row
line_call = refl

line_fetch : line_at (rv counts [] [] []) 0x1000c (λ f. false) ≡ codes "0x0001000c fetch" ++ 10 ∷ []
unfolding table rv_row
line_fetch = refl

line_no_row : line_at (rv (0 ∷ []) [] [] []) 0x10000 (λ f. false) ≡ codes "0x00010000 norow" ++ 10 ∷ []
unfolding table rv_row
line_no_row = refl

line_flags : line_at moves 0x10000 (λ f. true) ≡ codes "0x00010000 n 0x00010004 keeps N Z C V" ++ 10 ∷ []
unfolding arm_row arm_rows.table
line_flags = refl

-- a program of two points has more than one and not more than two
two_points : ArePoints (rv adds [] [] []) 64 (point [] 0x10000 ∷ point [] 0x10004 ∷ [])
unfolding table rv_row
two_points = points_by_test (rv adds [] [] []) 64 (point [] 0x10004 ∷ []) refl

not_three : ¬ HasMore (rv adds [] [] []) 64 2
not_three = no_more_points (rv adds [] [] []) 64 2 (point [] 0x10000 ∷ point [] 0x10004 ∷ []) two_points (omega arith)

more_than_one : HasMore (rv adds [] [] []) 64 1
more_than_one = (point [] 0x10000 ∷ point [] 0x10004 ∷ [], omega arith, two_points.only, two_points.once)
