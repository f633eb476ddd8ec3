-- Unrolled frames written out, their walks and sweeps, by computation alone.
use Rattle.std.proofs.Common.{◌≡◌, ℕ, refl, List, [], ◌∷◌, Some, None, true, false}
use Rattle.std.specs.Prelude.{◌==◌, if◌then◌else◌}
use Rattle.word_spec.specs.Memory.{Little}
use Rattle.word_spec.specs.RowFiles.{from_to}
use Rattle.bilv_spec.specs.Notes as notes
use Rattle.bilv_spec.specs.Notes.{NoteLine, Expr}
use Rattle.machine_spec.specs.Bil.{Var, Constant, Binary, Plus, And, NotEqual, Register, XRegisters, Statements, Empty, Assign, JumpTo, If, BilVariable}
use Rattle.machine_spec.specs.Endings.{EnsureFails}
use Rattle.frame_spec.specs.Frames.{Content, OfStep, InvariantFails}
use Rattle.frame_spec.specs.FramePoints.{Anchor, AtEntry, AtHead, Point}
use Rattle.frame_spec.specs.FrameQuestions.{Reading}
use Rattle.frame_spec.specs.FrameWalk.{Check, OnTo, IntoHead, Outward, Cutting, PointExit, FalseCheck, Always, Raising, WritingKept, NotGiven, Unaligned, Along, Gift, Executes, StepsOver, Arrives, UnrolledPoint, Root, UnrolledProgram, WalkExits, WalkFails, WalkIsCut, WalkBreaks, walk_of, held, swept}

abbrev reg : ℕ → BilVariable
reg n = Register XRegisters n

abbrev plain : Point → Statements → List PointExit → UnrolledPoint
plain q list edges = record {
  point = q;
  length = 4;
  does = Executes list;
  draws = false;
  row = 1024;
  loads = 0;
  stores = 0;
  exits = Raising ∷ WritingKept ∷ Unaligned ∷ edges;
}

abbrev adds : ℕ → Statements
adds n = Assign (reg 10) (Binary Plus (Var (reg 10)) (Constant 32 n)) Empty

abbrev returns : Statements
returns = JumpTo (Binary And (Var (reg 1)) (Constant 32 0xFFFFFFFE)) Empty

abbrev branches : ℕ → Statements
branches a = If (Binary NotEqual (Var (reg 10)) (Constant 32 0)) (JumpTo (Constant 32 a) Empty) Empty Empty

abbrev falls : (to place : ℕ) → PointExit
falls to place = Along true false (Some to) (OnTo place)

abbrev leaves : PointExit
leaves = Along false true None Outward

abbrev point : Anchor → (turns : ℕ) → List ℕ → ℕ → Point
point anchor turns stack at = record { anchor = anchor; turns = turns; contract = false; stack = stack; at = at }

-- invariant 0x10000 a0 >u 5 over addi a0,a0,-1; bne a0,zero,-4; ret
abbrev above_5 : Expr
above_5 = notes.Binary notes.Above (notes.Register 10) (notes.Number 5)

abbrev check : Check
check = record { line = 4; invariant = true; says = above_5 }

abbrev at_head : Anchor
at_head = AtHead [] 0x10000

-- The entry's own point ends its segment there; the head's anchor is a second root, at place 1, which assumes the invariant.
abbrev loop : UnrolledProgram
loop = record {
  endian = Little;
  narrow = false;
  registers = from_to 1 31;
  flags = 0;
  link = 1;
  entry = 0x10000;
  requires = [];
  ensures = [];
  own = None;
  kept = record { low = 0x10000; high = 0x1000B } ∷ [];
  known = [];
  literals = [];
  roots = record { place = 0; assumes = [] } ∷ record { place = 1; assumes = record { line = 4; says = above_5 } ∷ [] } ∷ [];
  points =
      record (plain (point AtEntry 0 [] 0x10000) Empty []) { does = Arrives; exits = FalseCheck check ∷ Always Cutting ∷ [] }
      ∷ plain (point at_head 0 [] 0x10000) (adds 0xFFFFFFFF) (falls 0x10004 2 ∷ [])
      ∷ plain (point at_head 0 [] 0x10004) (branches 0x10000) (Along false true (Some 0x10000) (IntoHead 0x10000 (check ∷ [])) ∷ falls 0x10008 3 ∷ [])
      ∷ plain (point at_head 0 [] 0x10008) returns (leaves ∷ [])
      ∷ [];
}

abbrev nothing : Content
nothing = record { regs = λ r. 0; flags = λ f. 0; mem = λ a. 0 }

abbrev with_a0 : ℕ → ℕ → ℕ
with_a0 n r = if r == 10 then n else if r == 1 then 0x20000 else 0

-- a reading with a0 at entry, and a0 in its head part
abbrev reading : (entry head : ℕ) → Reading
reading n h = record {
  state = record { pc = 0x10000; regs = with_a0 n; flags = λ f. 0; mem = λ a. 0 };
  head = record { regs = with_a0 h; flags = λ f. 0; mem = λ a. 0 };
  choice = λ q. 0;
  given = λ q. nothing;
}

abbrev entry_root : Root
entry_root = record { place = 0; assumes = [] }

abbrev head_root : Root
head_root = record { place = 1; assumes = record { line = 4; says = above_5 } ∷ [] }

entry_is_cut : walk_of loop (reading 9 0) entry_root 1 ≡ WalkIsCut
unfolding walk_of
entry_is_cut = refl

entry_fails : walk_of loop (reading 3 0) entry_root 1 ≡ WalkFails (InvariantFails 4)
unfolding walk_of
entry_fails = refl

-- from 6 the head's segment fails behind its arrival, from 7 it is cut
six_fails : walk_of loop (reading 9 6) head_root 3 ≡ WalkFails (InvariantFails 4)
unfolding walk_of
six_fails = refl

seven_is_cut : walk_of loop (reading 9 7) head_root 3 ≡ WalkIsCut
unfolding walk_of
seven_is_cut = refl

-- the sweep has all of it at once: the event of a head's segment is no event of the entry's; and a head part that breaks the invariant begins no segment
sweep_six : (swept loop (reading 9 6)).steps ≡ true
unfolding held
sweep_six = refl

sweep_six_entry : (swept loop (reading 9 6)).fails ≡ false
unfolding held
sweep_six_entry = refl

sweep_three_entry : (swept loop (reading 3 7)).fails ≡ true
unfolding held
sweep_three_entry = refl

sweep_not_assumed : (swept loop (reading 9 3)).steps ≡ false
unfolding held
sweep_not_assumed = refl

-- the caller of a contract at 0x10010 that gives a0 = old(a0) + 1 and may change a0: addi t1,ra,0; auipc ra,0; jalr ra,12(ra); contract step; jalr zero,0(t1)
abbrev gives_one : List NoteLine
gives_one = record {
  line = 3;
  says = notes.Binary notes.Equal (notes.Register 10)
      (notes.Binary notes.Plus (notes.Old (notes.Register 10)) (notes.Number 1));
} ∷ []

abbrev gift : Gift
gift = record { to = 0x1000c; writes = []; gives = gives_one; registers = 10 ∷ []; flags = [] }

abbrev contract_point : Point
contract_point = record { anchor = AtEntry; turns = 0; contract = true; stack = 0x1000c ∷ []; at = 0x10010 }

abbrev caller : UnrolledProgram
caller = record loop {
  roots = entry_root ∷ [];
  ensures = record {
    line = 5;
    says = notes.Binary notes.Equal (notes.Register 10)
        (notes.Binary notes.Plus (notes.Old (notes.Register 10)) (notes.Number 1));
  } ∷ [];
  points =
      plain (point AtEntry 0 [] 0x10000) (Assign (reg 6) (Var (reg 1)) Empty) (falls 0x10004 1 ∷ [])
      ∷ plain (point AtEntry 0 [] 0x10004) (Assign (reg 1) (Constant 32 0x10004) Empty) (falls 0x10008 2 ∷ [])
      ∷ plain (point AtEntry 0 [] 0x10008) (JumpTo (Constant 32 0x10010) (Assign (reg 1) (Constant 32 0x1000c) Empty))
      (Along false true (Some 0x10010) (OnTo 3) ∷ [])
      ∷ record (plain contract_point Empty []) { does = StepsOver gift; exits = WritingKept ∷ NotGiven ∷ Along false true (Some 0x1000c) (OnTo 4) ∷ [] }
      ∷ plain (point AtEntry 1 [] 0x1000c) (JumpTo (Var (reg 6)) Empty) (leaves ∷ [])
      ∷ [];
}

abbrev given_a0 : ℕ → Reading
given_a0 n = record (reading 5 0) { given = λ q. record nothing { regs = with_a0 n } }

caller_exits : walk_of caller (given_a0 6) entry_root 5 ≡ WalkExits
unfolding walk_of
caller_exits = refl

caller_breaks : walk_of caller (given_a0 7) entry_root 4 ≡ WalkBreaks
unfolding walk_of
caller_breaks = refl

-- where the contract gives nothing, the ensure line is false
abbrev vague : UnrolledProgram
vague = record caller {
  points =
      plain (point AtEntry 0 [] 0x10000) (Assign (reg 6) (Var (reg 1)) Empty) (falls 0x10004 1 ∷ [])
      ∷ plain (point AtEntry 0 [] 0x10004) (Assign (reg 1) (Constant 32 0x10004) Empty) (falls 0x10008 2 ∷ [])
      ∷ plain (point AtEntry 0 [] 0x10008) (JumpTo (Constant 32 0x10010) (Assign (reg 1) (Constant 32 0x1000c) Empty))
      (Along false true (Some 0x10010) (OnTo 3) ∷ [])
      ∷ record (plain contract_point Empty []) {
        does = StepsOver (record gift { gives = [] });
        exits = WritingKept ∷ NotGiven
            ∷ Along false true (Some 0x1000c) (OnTo 4) ∷ [];
      }
      ∷ plain (point AtEntry 1 [] 0x1000c) (JumpTo (Var (reg 6)) Empty) (leaves ∷ [])
      ∷ [];
}

vague_fails : walk_of vague (given_a0 7) entry_root 5 ≡ WalkFails (OfStep (EnsureFails 5))
unfolding walk_of
vague_fails = refl

vague_sweep : (swept vague (given_a0 7)).fails ≡ true
unfolding held
vague_sweep = refl
