-- Worked links, prices and differences, by computation alone.
use Rattle.std.proofs.Common.{◌≡◌, ℕ, refl, List, [], ◌∷◌, ◌++◌, Some, false, true}
use Rattle.std.specs.Prelude.{codes, replicate, ◌+◌}
use Rattle.std.specs.Fmt.{digits}
use Rattle.word_spec.specs.Memory.{Little}
use Rattle.bilv_spec.specs.Elf.{loaded}
use Rattle.bilv_spec.specs.Notes.{Notes, NoteLine, At, Register, Number, Binary, Equal}
use Rattle.word_spec.specs.RowFiles.{rv_file, arm_file}
use Rattle.machine_spec.specs.RvMachine.{rv32}
use Rattle.machine_spec.specs.Rv.{table, rv_row}
use Rattle.machine_spec.specs.Arm.{arm, arm_row}
use Rattle.machine_spec.specs.Arm as arm_rows
use Rattle.notes_spec.specs.RvNames.{rv_names, rv_table}
use Rattle.word_spec.specs.Tokens.{NameToken, NumberToken, tokens_of}
use Rattle.machine_spec.specs.Machine.{Machine}
use Rattle.bilv_spec.specs.Points.{Point}
use Rattle.bilv_spec.specs.Run.{Program, in_memory, run}
use Rattle.word_spec.specs.State.{Written}
use Rattle.machine_spec.specs.StateText.{rv_layout, arm_layout, block_text}
use Rattle.word_spec.specs.Texts.{line}
use Rattle.word_spec.specs.Profiles.{V4}
use Rattle.pair_spec.specs.Links.{Link, EqualAtEntry, EqualAtExit, SharedBytes, SameBytes}
use Rattle.pair_spec.specs.Pairs.{side_price, links_price}
use Rattle.call_spec.specs.Calls.{plain_answer}
use Rattle.pair_spec.specs.Equals.{Side}
use Rattle.pair_spec.specs.Differs.{differ_answer}

-- tokens of a line; a word of a line may be a name too
line_tokens : tokens_of (codes "share 0x8000 32771 # both") ≡ NameToken (codes "share") ∷ NumberToken 32768 ∷ NumberToken 32771 ∷ []
line_tokens = refl

zero_is_a_register : rv_names (codes "zero") ≡ Some (Number 0)
unfolding rv_table
zero_is_a_register = refl

-- ---- two functions of two rows, the second of which returns

abbrev notes : List NoteLine → Notes
notes requires = record { entry = At 0x10000; requires = requires; ensures = []; asserts = []; targets = []; fixed = [] }

abbrev program : Machine → List ℕ → List NoteLine → Program
program machine file requires =
    record { machine = machine; word = in_memory machine; loaded = loaded file; entry = 0x10000; notes = notes requires; out = λ f. false }

abbrev rv_side : (word : ℕ) → List NoteLine → Side
rv_side w requires = record { program = program (rv32 false) (rv_file (w ∷ 0x00008067 ∷ [])) requires; layout = rv_layout false }

abbrev arm_side : (word : ℕ) → List NoteLine → Side
arm_side w requires = record { program = program (arm Little V4) (arm_file (w ∷ 0xe1a0f00e ∷ [])) requires; layout = arm_layout Little V4 }

-- their points, of which the second is an exit, and the 8 bytes of their code in one run
abbrev points : List Point
points = record { turns = 0; stack = []; at = 0x10000 } ∷ record { turns = 0; stack = []; at = 0x10004 } ∷ []

abbrev pair_price : List Link → Side → Side → ℕ
pair_price links a b = side_price links a.program points 8 1 + side_price links b.program points 8 1 + links_price links

abbrev at_0x20000 : (register : ℕ) → List NoteLine
at_0x20000 r = record { line = 2; says = Binary Equal (Register r) (Number 0x20000) } ∷ []

abbrev first : Side
first = rv_side 0x00150513 []

abbrev second : ℕ → Side
second w = arm_side w []

abbrev links : List Link
links = EqualAtEntry 1 (Register 10) (Register 0) ∷ EqualAtExit 2 (Register 10) (Register 0) ∷ []

-- the increment on both machines; with four bytes that are shared and the same
two_lines : pair_price links first (second 0xe2800001) ≡ 19456
unfolding table rv_row arm_row arm_rows.table
two_lines = refl

four_bytes : pair_price (links ++ SharedBytes 3 0x8000 0x8003 ∷ SameBytes 4 0x8000 0x8003 ∷ []) first (second 0xe2800001) ≡ 35840
unfolding table rv_row arm_row arm_rows.table
four_bytes = refl

-- functions that store a word, and that load one
stores_price : pair_price (EqualAtEntry 1 (Register 10) (Register 0) ∷ SharedBytes 2 0x20000 0x20003
    ∷ SameBytes 3 0x20000 0x20005 ∷ SameBytes 4 0x30000 0x30000 ∷ []) (rv_side 0x00a5a023 (at_0x20000 11)) (arm_side 0xe5810000 (at_0x20000 1)) ≡ 52416
unfolding table rv_row arm_row arm_rows.table
stores_price = refl

loads_price : pair_price (SharedBytes 1 0x20000 0x20003 ∷ EqualAtExit 2 (Register 10) (Register 0) ∷ [])
    (rv_side 0x0005a503 (at_0x20000 11)) (arm_side 0xe5910000 (at_0x20000 1)) ≡ 33792
unfolding table rv_row arm_row arm_rows.table
loads_price = refl

-- ---- a difference, replayed: a0 + 1 and r0 + 2

abbrev rv_start : ℕ → Written
rv_start a0 = record { regs = replicate 9 0 ++ a0 ∷ replicate 21 0; flags = 0; bytes = []; choices = [] }

abbrev arm_start : ℕ → Written
arm_start r0 = record { regs = r0 ∷ replicate 14 0; flags = 0; bytes = []; choices = [] }

abbrev report : (a0 r0 : ℕ) → List ℕ
report a0 r0 = line (codes "differs 2 steps 1 1") ++ block_text (rv_layout false) (rv_start a0) ++ block_text (arm_layout Little V4) (arm_start r0)

replayed : differ_answer first (second 0xe2800002) links (report 5 5) ≡ plain_answer 0 (line (codes "replayed differs 2 steps 1 1"))
unfolding digits run table rv_row arm_row arm_rows.table
replayed = refl

-- the same report where the second function adds 1 too
equal_found : differ_answer first (second 0xe2800001) links (report 5 5) ≡
    plain_answer 9 (line (codes "replay: named differs 2 steps 1 1, found equal"))
unfolding digits run table rv_row arm_row arm_rows.table
equal_found = refl

-- states that are not linked, and a register out of order in the second block: line 1, 33 lines of the first block and the second's machine come before it
unlinked : differ_answer first (second 0xe2800002) links (report 5 6) ≡ plain_answer 9 (line (codes "state: links 1"))
unfolding digits run table rv_row arm_row arm_rows.table
unlinked = refl

second_block_refused : differ_answer first (second 0xe2800002) links
    (line (codes "differs 2 steps 1 1") ++ block_text (rv_layout false) (rv_start 5) ++ line (codes "state armv4-le") ++ line (codes "r1 0x00000005"))
    ≡ plain_answer 9 (line (codes "state: line 36 S2 Register"))
unfolding digits run table rv_row arm_row arm_rows.table
second_block_refused = refl

-- a first block without its end is refused where the second begins
first_block_open : differ_answer first (second 0xe2800002) links
    (line (codes "differs 2 steps 1 1") ++ line (codes "state rv32im") ++ line (codes "x1 0x00000000"))
    ≡ plain_answer 9 (line (codes "state: line 4 S2 Register"))
unfolding digits run table rv_row arm_row arm_rows.table
first_block_open = refl

-- an end at another step
other_step : differ_answer first (second 0xe2800002) links
    (line (codes "differs 2 steps 0 1") ++ block_text (rv_layout false) (rv_start 5) ++ block_text (arm_layout Little V4) (arm_start 5))
    ≡ plain_answer 9 (line (codes "replay: named differs 2 steps 0 1, found first running at 0x00010000 step 0"))
unfolding digits run table rv_row arm_row arm_rows.table
other_step = refl

-- a text without a line, and one that ends before the second block
no_text : differ_answer first (second 0xe2800002) links [] ≡ plain_answer 9 (line (codes "state: line 1 S2 Register"))
unfolding digits
no_text = refl

one_block : differ_answer first (second 0xe2800002) links (line (codes "differs 2 steps 1 1") ++ block_text (rv_layout false) (rv_start 5)) ≡
    plain_answer 9 (line (codes "state: line 35 S2 Register"))
unfolding digits run table rv_row arm_row arm_rows.table
one_block = refl

-- a link register that is a multiple of 2 alone, with rows of 2 bytes and without them
abbrev odd_start : Written
odd_start = record { regs = 2 ∷ replicate 8 0 ++ 5 ∷ replicate 21 0; flags = 0; bytes = []; choices = [] }

abbrev narrow : Side
narrow = record { program = program (rv32 true) (rv_file (0x00150513 ∷ 0x00008067 ∷ [])) []; layout = rv_layout true }

narrow_link : differ_answer narrow (second 0xe2800002) links
    (line (codes "differs 2 steps 1 1") ++ block_text (rv_layout true) odd_start ++ block_text (arm_layout Little V4) (arm_start 5))
    ≡ plain_answer 0 (line (codes "replayed differs 2 steps 1 1"))
unfolding digits run table rv_row arm_row arm_rows.table
narrow_link = refl

wide_link : differ_answer first (second 0xe2800002) links
    (line (codes "differs 2 steps 1 1") ++ block_text (rv_layout false) odd_start ++ block_text (arm_layout Little V4) (arm_start 5))
    ≡ plain_answer 9 (line (codes "state: first link"))
unfolding digits run table rv_row arm_row arm_rows.table
wide_link = refl
