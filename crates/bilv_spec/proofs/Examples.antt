-- Worked runs, by computation alone.
use Rattle.std.proofs.Common.{false, ◌≡◌, ℕ, ◌+◌, refl, List, [], ◌∷◌, ◌++◌, Option}
use Rattle.std.specs.Prelude.{◌==◌, if◌then◌else◌}
use Rattle.word_spec.specs.Memory.{Little, Big, memory_of, byte_in}
use Rattle.machine_spec.specs.Machine.{Machine}
use Rattle.word_spec.specs.RowFiles.{rv_file, arm_file, arm_big_file, bytes_of}
use Rattle.std.specs.List.{flat_map}
use Rattle.machine_spec.specs.Arm.{arm, arm_row}
use Rattle.word_spec.specs.Profiles.{V4}
use Rattle.machine_spec.specs.Arm as arm_rows
use Rattle.bilv_spec.specs.Elf.{loaded, Cell}
use Rattle.bilv_spec.specs.Points.{byte_of_cell}
use Rattle.machine_spec.specs.Rv.{table, rv_row}
use Rattle.machine_spec.specs.RvMachine.{rv32}
use Rattle.bilv_spec.specs.Notes.{Notes, NoteLine, At, Number, Register, Flag, Memory, Old, Binary, Equal, Above, Plus, BitAnd, And, ShiftRight}
use Rattle.bilv_spec.specs.Run.{Program, Run, Exited, Failed, Turned, run, in_memory}
use Rattle.machine_spec.specs.Endings.{Start, EnsureFails, CodeWritten, NoRow, Trapped, JumpFails, HalfwordFails}

-- the notes of a function at 0x10000 with these requires and ensures
abbrev notes : List NoteLine → List NoteLine → Notes
notes requires ensures = record { entry = At 0x10000; requires = requires; ensures = ensures; asserts = []; targets = []; fixed = [] }

abbrev program : Machine → List ℕ → List NoteLine → List NoteLine → Program
program machine file requires ensures =
    record { machine = machine; word = in_memory machine; loaded = loaded file; entry = 0x10000; notes = notes requires ensures; out = λ f. false }

-- the state at 0x10000 with these registers; its memory has these bytes, and else those of the file
abbrev or_cell : List (ℕ × ℕ) → Option Cell → ℕ → ℕ
or_cell [] c a = byte_of_cell c
or_cell (b ∷ rest) c a = if a == b.0 then b.1 else or_cell rest c a

abbrev choices_from : ℕ → List ℕ → List (ℕ × ℕ)
choices_from n [] = []
choices_from n (c ∷ cs) = (n, c) ∷ choices_from (n + 1) cs

abbrev start_of : List ℕ → List (ℕ × ℕ) → List (ℕ × ℕ) → List ℕ → Start
start_of file regs bytes choices = record {
  state = record { pc = 0x10000; regs = memory_of regs; flags = λ f. 0; mem = λ a. or_cell bytes (loaded file a) a };
  choices = byte_in (choices_from 0 choices);
}

abbrev runs : Machine → List ℕ → List NoteLine → List NoteLine → (ℕ → Start → ℕ → Run)
runs machine file requires ensures = run (program machine file requires ensures)

-- a0 and one more
abbrev one_up : List NoteLine
one_up = record { line = 2; says = Binary Equal (Register 10) (Binary Plus (Old (Register 10)) (Number 1)) } ∷ []

abbrev file_1 : List ℕ
file_1 = rv_file (0x00150513 ∷ 0x00008067 ∷ [])

-- addi a0,a0,1; ret: the sum wraps, and the run exits
row_1 : runs (rv32 false) file_1 [] one_up 64 (start_of file_1 ((10, 0xffffffff) ∷ (1, 0x40) ∷ []) [] []) 2 ≡ Exited 0x10004 1
unfolding run table rv_row
row_1 = refl

-- a0 above its old value is false at the largest word
row_2 : runs (rv32 false) file_1 [] (record { line = 2; says = Binary Above (Register 10) (Old (Register 10)) } ∷ []) 64
    (start_of file_1 ((10, 0xffffffff) ∷ (1, 0x40) ∷ []) [] []) 2 ≡ Failed (EnsureFails 2) 0x10004 1
unfolding run table rv_row
row_2 = refl

-- a loop that counts a0 down: from 3 it makes two backward transfers
abbrev file_4 : List ℕ
file_4 = rv_file (0xfff50513 ∷ 0xfe051ee3 ∷ 0x00008067 ∷ [])

row_4 : runs (rv32 false) file_4 [] [] 2 (start_of file_4 ((10, 3) ∷ (1, 0x40) ∷ []) [] []) 7 ≡ Exited 0x10008 6
unfolding run table rv_row
row_4 = refl

row_5 : runs (rv32 false) file_4 [] [] 1 (start_of file_4 ((10, 3) ∷ (1, 0x40) ∷ []) [] []) 4 ≡ Turned 0x10004 3
unfolding run table rv_row
row_5 = refl

-- divu by 0
abbrev file_7 : List ℕ
file_7 = rv_file (0x02b55533 ∷ 0x00008067 ∷ [])

row_7 : runs (rv32 false) file_7 [] (record { line = 3; says = Binary Equal (Register 10) (Number 0xffffffff) } ∷ []) 64
    (start_of file_7 ((10, 77) ∷ (1, 0x40) ∷ []) [] []) 2 ≡ Exited 0x10004 1
unfolding run table rv_row
row_7 = refl

-- div of the least by -1
abbrev file_8 : List ℕ
file_8 = rv_file (0x02b54533 ∷ 0x00008067 ∷ [])

row_8 : runs (rv32 false) file_8 [] (record { line = 4; says = Binary Equal (Register 10) (Number 0x80000000) } ∷ []) 64
    (start_of file_8 ((10, 0x80000000) ∷ (11, 0xffffffff) ∷ (1, 0x40) ∷ []) [] []) 2 ≡ Exited 0x10004 1
unfolding run table rv_row
row_8 = refl

-- sw a0,0(a1) onto the code, from below its first byte and at its last
abbrev file_9 : List ℕ
file_9 = rv_file (0x00a5a023 ∷ 0x00008067 ∷ [])

row_9 : runs (rv32 false) file_9 [] [] 64 (start_of file_9 ((11, 0xfffd) ∷ (1, 0x40) ∷ []) [] []) 1 ≡ Failed CodeWritten 0x10000 0
unfolding run table rv_row
row_9 = refl

row_9_last : runs (rv32 false) file_9 [] [] 64 (start_of file_9 ((11, 0x10007) ∷ (1, 0x40) ∷ []) [] []) 1 ≡ Failed CodeWritten 0x10000 0
unfolding run table rv_row
row_9_last = refl

-- the store wraps at the top of the memory
row_10 : runs (rv32 false) file_9 [] (record {
  line = 3;
  says =
      Binary And (Binary Equal (Memory 1 (Number 0xffffffff)) (Binary BitAnd (Register 10) (Number 255)))
      (Binary Equal (Memory 1 (Number 0)) (Binary BitAnd (Binary ShiftRight (Register 10) (Number 8)) (Number 255)));
} ∷ []) 64
    (start_of file_9 ((10, 0x12345678) ∷ (11, 0xffffffff) ∷ (1, 0x40) ∷ []) [] []) 2 ≡ Exited 0x10004 1
unfolding run table rv_row
row_10 = refl

-- no row
row_11 : runs (rv32 false) (rv_file (0 ∷ [])) [] [] 64 (start_of (rv_file (0 ∷ [])) ((1, 0x40) ∷ []) [] []) 1 ≡ Failed NoRow 0x10000 0
unfolding run table rv_row
row_11 = refl

-- a call by a pair; then with the link register moved on
abbrev file_19 : List ℕ
file_19 = rv_file (0x00008313 ∷ 0x00000097 ∷ 0x00c080e7 ∷ 0x00030067 ∷ 0x00150513 ∷ 0x00008067 ∷ [])

row_19 : runs (rv32 false) file_19 [] one_up 64 (start_of file_19 ((10, 5) ∷ (1, 0x40) ∷ []) [] []) 6 ≡ Exited 0x1000c 5
unfolding run table rv_row
row_19 = refl

abbrev file_20 : List ℕ
file_20 = rv_file (0x00008313 ∷ 0x00000097 ∷ 0x00c080e7 ∷ 0x00030067 ∷ 0x00408093 ∷ 0x00008067 ∷ [])

row_20 : runs (rv32 false) file_20 [] one_up 64 (start_of file_20 ((10, 5) ∷ (1, 0x40) ∷ []) [] []) 5 ≡ Failed JumpFails 0x10014 4
unfolding run table rv_row
row_20 = refl

-- ecall
row_21 : runs (rv32 false) (rv_file (0x73 ∷ [])) [] [] 64 (start_of (rv_file (0x73 ∷ [])) ((1, 0x40) ∷ []) [] []) 1 ≡ Failed Trapped 0x10000 0
unfolding run table rv_row
row_21 = refl

-- Two segments that meet at the wrap of addresses: the last two words of the memory, and one word at 0. Each is executable and can't be written.
abbrev file_22 : ℕ → ℕ → ℕ → List ℕ
file_22 second_last last first =
    (0x7f ∷ 0x45 ∷ 0x4c ∷ 0x46 ∷ 1 ∷ 1 ∷ 1 ∷ 0 ∷ 0 ∷ 0 ∷ 0 ∷ 0 ∷ 0 ∷ 0 ∷ 0 ∷ 0 ∷ [])
    ++ flat_map (bytes_of Little 2) (2 ∷ 243 ∷ []) ++ flat_map (bytes_of Little 4) (1 ∷ 0xfffffff8 ∷ 52 ∷ 0 ∷ 0 ∷ [])
    ++ flat_map (bytes_of Little 2) (52 ∷ 32 ∷ 2 ∷ 0 ∷ 0 ∷ 0 ∷ [])
    ++ flat_map (bytes_of Little 4) (1 ∷ 124 ∷ 0 ∷ 0 ∷ 4 ∷ 4 ∷ 5 ∷ 4 ∷ 1 ∷ 116 ∷ 0xfffffff8 ∷ 0xfffffff8 ∷ 8 ∷ 8 ∷ 5 ∷ 4 ∷ [])
    ++ flat_map (bytes_of Little 4) (second_last ∷ last ∷ first ∷ [])

abbrev program_22 : List ℕ → List NoteLine → Program
program_22 file ensures = record {
  machine = rv32 false;
  word = in_memory (rv32 false);
  loaded = loaded file;
  out = λ f. false;
  entry = 0xfffffff8;
  notes = record { entry = At 0xfffffff8; requires = []; ensures = ensures; asserts = []; targets = []; fixed = [] };
}

abbrev start_22 : List ℕ → Start
start_22 file = record {
  state = record { pc = 0xfffffff8; regs = memory_of ((10, 7) ∷ (1, 0x40) ∷ []); flags = λ f. 0; mem = λ a. or_cell [] (loaded file a) a };
  choices = λ n. 0;
}

-- lw a1,-2(zero); addi a0,a0,1; ret: the load reads two bytes of each segment, the word behind the last one is that at 0, and the step to it is a backward
-- transfer
abbrev file_22_load : List ℕ
file_22_load = file_22 0xffe02583 0x00150513 0x00008067

row_22 : run (program_22 file_22_load (record {
  line = 2;
  says = Binary And (Binary Equal (Register 10) (Number 8)) (Binary Equal (Register 11) (Number 0x80670015));
} ∷ [])) 1 (start_22 file_22_load) 3 ≡ Exited 0 2
unfolding run table rv_row
row_22 = refl

row_22_turned : run (program_22 file_22_load []) 0 (start_22 file_22_load) 2 ≡ Turned 0xfffffffc 1
unfolding run table rv_row
row_22_turned = refl

-- sh zero,-1(zero): the second byte of the store is that at 0
abbrev file_22_store : List ℕ
file_22_store = file_22 0x00150513 0xfe001fa3 0x00008067

row_22_store : run (program_22 file_22_store []) 1 (start_22 file_22_store) 2 ≡ Failed CodeWritten 0xfffffffc 1
unfolding run table rv_row
row_22_store = refl

-- a row file, byte for byte
file_is : file_1 ≡
    0x7f ∷ 0x45 ∷ 0x4c ∷ 0x46 ∷ 1 ∷ 1 ∷ 1 ∷ 0 ∷ 0 ∷ 0 ∷ 0 ∷ 0 ∷ 0 ∷ 0 ∷ 0 ∷ 0 ∷
    2 ∷ 0 ∷ 0xf3 ∷ 0 ∷ 1 ∷ 0 ∷ 0 ∷ 0 ∷ 0 ∷ 0 ∷ 1 ∷ 0 ∷ 52 ∷ 0 ∷ 0 ∷ 0 ∷
    0 ∷ 0 ∷ 0 ∷ 0 ∷ 0 ∷ 0 ∷ 0 ∷ 0 ∷ 52 ∷ 0 ∷ 32 ∷ 0 ∷ 1 ∷ 0 ∷ 0 ∷ 0 ∷ 0 ∷ 0 ∷ 0 ∷ 0 ∷
    1 ∷ 0 ∷ 0 ∷ 0 ∷ 84 ∷ 0 ∷ 0 ∷ 0 ∷ 0 ∷ 0 ∷ 1 ∷ 0 ∷ 0 ∷ 0 ∷ 1 ∷ 0 ∷ 8 ∷ 0 ∷ 0 ∷ 0 ∷ 8 ∷ 0 ∷ 0 ∷ 0 ∷ 5 ∷ 0 ∷ 0 ∷ 0 ∷ 4 ∷ 0 ∷ 0 ∷ 0 ∷
    0x13 ∷ 0x05 ∷ 0x15 ∷ 0 ∷ 0x67 ∷ 0x80 ∷ 0 ∷ 0 ∷ []
file_is = refl

abbrev le : Machine
le = arm Little V4

abbrev be : Machine
be = arm Big V4

-- movs r0,r0,lsr #32: the carry is bit 31
abbrev file_12 : List ℕ
file_12 = arm_file (0xe1b00020 ∷ 0xe1a0f00e ∷ [])

row_12 : runs le file_12 [] (record {
  line = 2;
  says =
      Binary And (Binary Equal (Register 0) (Number 0)) (Binary Equal (Flag 1) (Binary ShiftRight (Old (Register 0)) (Number 31)));
} ∷ []) 64
    (start_of file_12 ((0, 0x80000001) ∷ (14, 0x40) ∷ []) [] []) 2 ≡ Exited 0x10004 1
unfolding run arm_row arm_rows.table
row_12 = refl

-- movs r0,r1,lsl r2 by 32: the carry is bit 0
abbrev file_12_register : List ℕ
file_12_register = arm_file (0xe1b00211 ∷ 0xe1a0f00e ∷ [])

row_12_register : runs le file_12_register [] (record {
  line = 3;
  says =
      Binary And (Binary Equal (Register 0) (Number 0)) (Binary Equal (Flag 1) (Binary BitAnd (Old (Register 1)) (Number 1)));
} ∷ []) 64
    (start_of file_12_register ((1, 0x80000001) ∷ (2, 32) ∷ (14, 0x40) ∷ []) [] []) 2 ≡ Exited 0x10004 1
unfolding run arm_row arm_rows.table
row_12_register = refl

-- muls r0,r1,r2: the carry is the choice's low bit
abbrev file_13 : List ℕ
file_13 = arm_file (0xe0100291 ∷ 0xe1a0f00e ∷ [])

abbrev same_carry : List NoteLine
same_carry = record { line = 2; says = Binary Equal (Flag 1) (Old (Flag 1)) } ∷ []

row_13 : runs le file_13 [] same_carry 64 (start_of file_13 ((14, 0x40) ∷ []) [] (1 ∷ [])) 2 ≡ Failed (EnsureFails 2) 0x10004 1
unfolding run arm_row arm_rows.table
row_13 = refl

row_13_even : runs le file_13 [] same_carry 64 (start_of file_13 ((14, 0x40) ∷ []) [] (2 ∷ [])) 2 ≡ Exited 0x10004 1
unfolding run arm_row arm_rows.table
row_13_even = refl

-- ldr r0,[r1] at an address that is no multiple of 4, in both byte orders
abbrev file_14 : List ℕ
file_14 = arm_file (0xe5910000 ∷ 0xe1a0f00e ∷ [])

row_14 : runs le file_14 [] (record { line = 4; says = Binary Equal (Register 0) (Number 0x11443322) } ∷ []) 64
    (start_of file_14 ((1, 0x8001) ∷ (14, 0x40) ∷ []) ((0x8000, 0x11) ∷ (0x8001, 0x22) ∷ (0x8002, 0x33) ∷ (0x8003, 0x44) ∷ []) []) 2 ≡ Exited 0x10004 1
unfolding run arm_row arm_rows.table
row_14 = refl

abbrev file_15 : List ℕ
file_15 = arm_big_file (0xe5910000 ∷ 0xe1a0f00e ∷ [])

row_15 : runs be file_15 [] (record { line = 4; says = Binary Equal (Register 0) (Number 0x44112233) } ∷ []) 64
    (start_of file_15 ((1, 0x8001) ∷ (14, 0x40) ∷ []) ((0x8000, 0x11) ∷ (0x8001, 0x22) ∷ (0x8002, 0x33) ∷ (0x8003, 0x44) ∷ []) []) 2 ≡ Exited 0x10004 1
unfolding run arm_row arm_rows.table
row_15 = refl

-- push {r4,lr}; pop {r4,pc}
abbrev file_16 : List ℕ
file_16 = arm_file (0xe92d4010 ∷ 0xe8bd8010 ∷ [])

row_16 : runs le file_16 [] (record {
  line = 3;
  says =
      Binary And (Binary Equal (Register 13) (Old (Register 13))) (Binary Equal (Register 4) (Old (Register 4)));
} ∷ []) 64
    (start_of file_16 ((4, 77) ∷ (13, 0x20000) ∷ (14, 0x40) ∷ []) [] []) 2 ≡ Exited 0x10004 1
unfolding run arm_row arm_rows.table
row_16 = refl

-- ldrh r0,[r1] at an odd address
abbrev file_17 : List ℕ
file_17 = arm_file (0xe1d100b0 ∷ 0xe1a0f00e ∷ [])

row_17 : runs le file_17 [] [] 64 (start_of file_17 ((1, 0x8001) ∷ (14, 0x40) ∷ []) [] []) 1 ≡ Failed HalfwordFails 0x10000 0
unfolding run arm_row arm_rows.table
row_17 = refl

-- str pc,[r1]: the choice decides between the address and 8, or 12
abbrev file_18 : List ℕ
file_18 = arm_file (0xe581f000 ∷ 0xe1a0f00e ∷ [])

abbrev stores_8 : List NoteLine
stores_8 = record { line = 3; says = Binary Equal (Memory 4 (Number 0x8000)) (Number 0x10008) } ∷ []

row_18 : runs le file_18 [] stores_8 64 (start_of file_18 ((1, 0x8000) ∷ (14, 0x40) ∷ []) [] (3 ∷ [])) 2 ≡ Failed (EnsureFails 3) 0x10004 1
unfolding run arm_row arm_rows.table
row_18 = refl

row_18_even : runs le file_18 [] stores_8 64 (start_of file_18 ((1, 0x8000) ∷ (14, 0x40) ∷ []) [] (2 ∷ [])) 2 ≡ Exited 0x10004 1
unfolding run arm_row arm_rows.table
row_18_even = refl
