-- Worked segments, frames, edges and prices, by computation alone.
use Rattle.std.proofs.Common.{◌≡◌, ℕ, refl, List, [], ◌∷◌, Option, Some, None, true, false}
use Rattle.word_spec.specs.Memory.{memory_of}
use Rattle.word_spec.specs.State.{State}
use Rattle.word_spec.specs.RowFiles.{rv_file}
use Rattle.bilv_spec.specs.Elf.{loaded}
use Rattle.machine_spec.specs.RvShort.{shorts, expansion}
use Rattle.machine_spec.specs.RvMachine.{rv32}
use Rattle.machine_spec.specs.Rv.{table, rv_row}
use Rattle.bilv_spec.specs.Notes.{NoteLine, Assert, Expr, At, Number, Register, Old, Binary, Equal, NotEqual, Above, AtLeast, And, Plus}
use Rattle.bilv_spec.specs.Run.{Program, Place, in_memory}
use Rattle.machine_spec.specs.Endings.{EnsureFails}
use Rattle.bilv_spec.specs.Points.{ToAddress, byte_of_cell}
use Rattle.frame_spec.specs.Frames.{Content, Contract, Frame, OfStep, InvariantFails, GivesFails, ModifiesFails}
use Rattle.frame_spec.specs.FrameRuns.{Start, Exited, Failed, Cut, Broken, run}
use Rattle.frame_spec.specs.FramePoints.{Point, AtEntry, AtHead, Anchor, frame_edges, end_of, first_of, price_of}
use Rattle.frame_spec.specs.FrameVerdict.{Whole, entry_frame, contract_frame}

abbrev line : ℕ → Expr → NoteLine
line n e = record { line = n; says = e }

abbrev program : List ℕ → List NoteLine → List NoteLine → List Assert → Program
program words requires ensures asserts = record {
  machine = rv32 false;
  word = in_memory (rv32 false);
  loaded = loaded (rv_file words);
  entry = 0x10000;
  notes = record { entry = At 0x10000; requires = requires; ensures = ensures; asserts = asserts; targets = []; fixed = [] };
  out = λ f. false;
}

abbrev a0 : Expr
a0 = Register 10

-- the state with these registers, in which the file's bytes are in memory
abbrev state : List ℕ → ℕ → List (ℕ × ℕ) → State
state words at regs = record { pc = at; regs = memory_of regs; flags = λ f. 0; mem = λ a. byte_of_cell (loaded (rv_file words) a) }

abbrev nothing : Content
nothing = record { regs = λ r. 0; flags = λ f. 0; mem = λ a. 0 }

abbrev start : State → Option Place → (ℕ → Content) → Start
start s h given = record { state = s; head = h; choices = λ i. 0; given = given }

-- addi a0,a0,-1; bne a0,zero,-4; ret
abbrev counts : List ℕ
counts = 0xfff50513 ∷ 0xfe051ee3 ∷ 0x00008067 ∷ []

-- require a0 != 0; invariant 0x10000 a0 != 0 and ra = old(ra); ensure a0 = 0
abbrev loop : Frame
loop = record {
  program = program counts (line 3 (Binary NotEqual a0 (Number 0)) ∷ []) (line 5 (Binary Equal a0 (Number 0)) ∷ [])
      (record { line = 4; at = 0x10000; says = Binary And (Binary NotEqual a0 (Number 0)) (Binary Equal (Register 1) (Old (Register 1))) } ∷ []);
  invariants = 4 ∷ [];
  cuts = true;
  stepped = [];
  own = None;
}

abbrev entry_9 : State
entry_9 = state counts 0x10000 ((10, 9) ∷ (1, 0x40) ∷ [])

abbrev head_at : ℕ → Option Place
head_at n = Some (record { state = state counts 0x10000 ((10, n) ∷ (1, 0x40) ∷ []); stack = [] })

-- the entry is a head, so that its segment arrives at step 0
cut_at_entry : run loop 64 (start entry_9 None (λ i. nothing)) 1 ≡ Cut 0x10000 0
unfolding run table rv_row
cut_at_entry = refl

-- a head state makes a step first, and arrives again behind the branch; from 1 it exits
cut_again : run loop 0 (start entry_9 (head_at 3) (λ i. nothing)) 3 ≡ Cut 0x10000 2
unfolding run table rv_row
cut_again = refl

exits_from_1 : run loop 0 (start entry_9 (head_at 1) (λ i. nothing)) 3 ≡ Exited 0x10008 2
unfolding run table rv_row
exits_from_1 = refl

-- invariant 0x10000 a0 >u 5 is not inductive: from 6 the branch arrives with 5
abbrev above_5 : Frame
above_5 = record loop {
  program = program counts (line 3 (Binary Equal a0 (Number 9)) ∷ []) [] (record { line = 4; at = 0x10000; says = Binary Above a0 (Number 5) } ∷ []);
}

not_inductive : run above_5 64 (start entry_9 (head_at 6) (λ i. nothing)) 3 ≡ Failed (InvariantFails 4) 0x10000 2
unfolding run table rv_row
not_inductive = refl

-- its points: the entry's, which has no edge, and three of the head's anchor
abbrev at_head : Anchor
at_head = AtHead [] 0x10000

abbrev point : Anchor → List ℕ → ℕ → Point
point anchor stack at = record { anchor = anchor; turns = 0; contract = false; stack = stack; at = at }

edges_entry : frame_edges loop (point AtEntry [] 0x10000) ≡ []
unfolding table rv_row
edges_entry = refl

edges_branch : frame_edges loop (point at_head [] 0x10004) ≡ ToAddress [] 0x10000 ∷ ToAddress [] 0x10008 ∷ []
unfolding table rv_row
edges_branch = refl

back_is_anchor : end_of loop (point at_head [] 0x10004) [] 0x10000 ≡ first_of 0x10000 at_head
unfolding table rv_row
back_is_anchor = refl

loop_price : price_of loop (point AtEntry [] 0x10000 ∷ point at_head [] 0x10000 ∷ point at_head [] 0x10004 ∷ point at_head [] 0x10008 ∷ []) 12 1 ≡ 16896
unfolding table rv_row
loop_price = refl

-- a call by a pair
abbrev calls : List ℕ
calls = 0x00008313 ∷ 0x00000097 ∷ 0x00c080e7 ∷ 0x00030067 ∷ 0x00150513 ∷ 0x00008067 ∷ []

-- gives 0x10010 E; modifies 0x10010 a0; ensure a0 = old(a0) + 1
abbrev contract : Expr → Contract
contract e = record { at = 0x10010; needs = []; gives = line 3 e ∷ []; writes = []; registers = 10 ∷ []; flags = [] }

abbrev whole : Expr → Whole
whole e = record {
  program = program calls [] (line 5 (Binary Equal a0 (Binary Plus (Old a0) (Number 1))) ∷ []) [];
  invariants = [];
  contracts = contract e ∷ [];
}

abbrev one_more : Expr
one_more = Binary Equal a0 (Binary Plus (Old a0) (Number 1))

abbrev caller : Expr → Frame
caller e = entry_frame (whole e)

abbrev callee : Expr → Frame
callee e = contract_frame (whole e) 0 (contract e)

abbrev gives_a0 : ℕ → ℕ → Content
gives_a0 n i = record nothing { regs = memory_of ((10, n) ∷ []) }

abbrev entry_5 : State
entry_5 = state calls 0x10000 ((10, 5) ∷ (1, 0x40) ∷ [])

-- the contract step is step 3; with what it gives the exit is at step 4
caller_exits : run (caller one_more) 64 (start entry_5 None (gives_a0 6)) 5 ≡ Exited 0x1000c 4
unfolding run table rv_row
caller_exits = refl

-- another a0 is no run
caller_broken : run (caller one_more) 64 (start entry_5 None (gives_a0 7)) 5 ≡ Broken 3 0x10010 3
unfolding run table rv_row
caller_broken = refl

-- where the contract gives less, the ensure line is false
caller_fails : run (caller (Binary AtLeast a0 (Number 0))) 64 (start entry_5 None (gives_a0 7)) 5 ≡ Failed (OfStep (EnsureFails 5)) 0x1000c 4
unfolding run table rv_row
caller_fails = refl

-- the frame of the contract, from its own entry
abbrev callee_at : ℕ → State
callee_at n = state calls 0x10010 ((10, n) ∷ (1, 0x1000c) ∷ [])

callee_exits : run (callee one_more) 64 (start (callee_at 5) None (λ i. nothing)) 2 ≡ Exited 0x10014 1
unfolding run table rv_row
callee_exits = refl

callee_fails : run (callee (Binary Above a0 (Old a0))) 64 (start (callee_at 0xffffffff) None (λ i. nothing)) 2 ≡ Failed (GivesFails 3) 0x10014 1
unfolding run table rv_row
callee_fails = refl

-- where the contract may change nothing
callee_changes : run (record (callee one_more) { own = Some (record (contract one_more) { registers = [] }) }) 64 (start (callee_at 5) None (λ i. nothing)) 2
    ≡ Failed ModifiesFails 0x10014 1
unfolding run table rv_row
callee_changes = refl

-- the call leads to the contract's point, whose one edge is the return, a backward transfer
call_point : end_of (caller one_more) (point AtEntry [] 0x10008) (0x1000c ∷ []) 0x10010
    ≡ record { anchor = AtEntry; turns = 0; contract = true; stack = 0x1000c ∷ []; at = 0x10010 }
unfolding table rv_row
call_point = refl

call_returns : frame_edges (caller one_more) (record { anchor = AtEntry; turns = 0; contract = true; stack = 0x1000c ∷ []; at = 0x10010 })
    ≡ ToAddress [] 0x1000c ∷ []
unfolding table rv_row
call_returns = refl

abbrev caller_points : List Point
caller_points =
    point AtEntry [] 0x10000 ∷ point AtEntry [] 0x10004 ∷ point AtEntry [] 0x10008
    ∷ record { anchor = AtEntry; turns = 0; contract = true; stack = 0x1000c ∷ []; at = 0x10010 }
    ∷ record { anchor = AtEntry; turns = 1; contract = false; stack = []; at = 0x1000c } ∷ []

caller_price : price_of (caller one_more) caller_points 24 1 ≡ 14592
unfolding table rv_row
caller_price = refl

callee_price : price_of (callee one_more) (point AtEntry [] 0x10010 ∷ point AtEntry [] 0x10014 ∷ []) 24 1 ≡ 14848
unfolding table rv_row
callee_price = refl

-- ---- rows of 2 bytes: c.mv t1,ra; c.jal 0x10006; c.jr t1; c.addi a0,1; c.jr ra

abbrev short_calls : List ℕ
short_calls = 0x20118306 ∷ 0x05058302 ∷ 0x00008082 ∷ []

abbrev short_whole : Whole
short_whole = record {
  program = record (program short_calls [] (line 5 one_more ∷ []) []) { machine = rv32 true; word = in_memory (rv32 true) };
  invariants = [];
  contracts = record (contract one_more) { at = 0x10006 } ∷ [];
}

-- the call pushes the address after its 2 bytes, and the contract step returns there
short_exits : run (entry_frame short_whole) 64 (start (state short_calls 0x10000 ((10, 5) ∷ (1, 0x42) ∷ [])) None (gives_a0 6)) 4 ≡ Exited 0x10004 3
unfolding run table rv_row shorts expansion
short_exits = refl

short_point : end_of (entry_frame short_whole) (point AtEntry [] 0x10002) (0x10004 ∷ []) 0x10006
    ≡ record { anchor = AtEntry; turns = 0; contract = true; stack = 0x10004 ∷ []; at = 0x10006 }
unfolding table rv_row shorts expansion
short_point = refl

short_edges : frame_edges (entry_frame short_whole) (point AtEntry [] 0x10002) ≡ ToAddress (0x10004 ∷ []) 0x10006 ∷ []
unfolding table rv_row shorts expansion
short_edges = refl
