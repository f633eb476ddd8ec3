-- Worked state texts, reports, replays and scripts, by computation alone.
use Rattle.std.proofs.Common.{◌≡◌, ℕ, refl, List, [], ◌∷◌, ◌++◌, Option, Some, None, Bool, true, false}
use Rattle.std.specs.Prelude.{codes, map, replicate, ◌==◌, if◌then◌else◌}
use Rattle.std.specs.Fmt.{digits}
use Rattle.word_spec.specs.Memory.{Little, Big}
use Rattle.bilv_spec.specs.Elf.{loaded}
use Rattle.bilv_spec.specs.Notes.{Notes, At, Register, Old, Binary, Above}
use Rattle.word_spec.specs.RowFiles.{rv_file}
use Rattle.machine_spec.specs.Rv.{table, rv_row}
use Rattle.machine_spec.specs.RvMachine.{rv32}
use Rattle.bilv_spec.specs.Run.{Program, in_memory, run}
use Rattle.machine_spec.specs.Endings.{AssertFails, FetchFails, AlignFails, EnsureFails, FailsBy, UnknownBy, named_line}
use Rattle.bilv_spec.specs.Reports.{FoundExit, FoundLeft, found}
use Rattle.word_spec.specs.Profiles.{V4, V4T, V5}
use Rattle.machine_spec.specs.StateText.{StateText, StateLineFault, StateRegisterFault, StateByteFault, StateChoiceFault, StateEndFault, Told, StateIs, StateRefused, rv_layout, arm_layout, printed, state_of}
use Rattle.word_spec.specs.State.{Written}
use Rattle.bilv_spec.specs.Answers.{HoldsReport, VacuousReport, PointsReport, SizeReport, ConflictsReport, report_text, start_in}
use Rattle.call_spec.specs.Calls.{NoEvidence, default_budget, plain_answer, read_fault}
use Rattle.notes_spec.specs.Verified.{ambiguous_text, note_fault_text, elf_fault_text}
use Rattle.bilv_spec.specs.ElfFaults as elf
use Rattle.notes_spec.specs.NotesFaults as note_faults
use Rattle.bilv_spec.specs.Replays.{replay_answer}
use Rattle.word_spec.specs.Texts.{lines, line}
use Rattle.bilv_spec.specs.SmtLib.{SmtValue, WordValue, ArrayValue, Sexp, sexps_of, commands_truth}

-- a state of RV32IM at which the largest word is in x10
abbrev rv_state : ℕ → Written
rv_state a0 = record { regs = replicate 9 0 ++ a0 ∷ replicate 21 0; flags = 0; bytes = (0x8000, 0x11) ∷ (0x8001, 0xfe) ∷ []; choices = [] }

abbrev rv_report : ℕ → StateText
rv_report a0 = record { named = FailsBy (EnsureFails 2) 0x10004 1; start = rv_state a0 }

-- the lines of registers of which the tenth has a value
abbrev zeros : List (List ℕ) → List (List ℕ)
zeros names = map (λ n. n ++ codes " 0x00000000") names

abbrev rv_lines : List (List ℕ)
rv_lines =
    codes "fails ensure 2 at 0x00010004 step 1" ∷ codes "state rv32im"
    ∷ zeros (codes "x1" ∷ codes "x2" ∷ codes "x3" ∷ codes "x4" ∷ codes "x5" ∷ codes "x6" ∷ codes "x7" ∷ codes "x8" ∷ codes "x9" ∷ [])
    ++ codes "x10 0xffffffff"
    ∷ zeros (codes "x11" ∷ codes "x12" ∷ codes "x13" ∷ codes "x14" ∷ codes "x15" ∷ codes "x16" ∷ codes "x17" ∷ codes "x18" ∷ codes "x19" ∷ codes "x20"
    ∷ codes "x21" ∷ codes "x22" ∷ codes "x23" ∷ codes "x24" ∷ codes "x25" ∷ codes "x26" ∷ codes "x27" ∷ codes "x28" ∷ codes "x29" ∷ codes "x30" ∷ codes "x31"
    ∷ [])
    ++ codes "byte 0x00008000 0x11" ∷ codes "byte 0x00008001 0xfe" ∷ codes "end" ∷ []

rv_printed : printed (rv_layout false) (rv_report 0xffffffff) ≡ lines rv_lines
unfolding printed digits
rv_printed = refl

-- the same text says the same state, where no byte is known
rv_told : state_of (rv_layout false) (λ a. false) (lines rv_lines) ≡ StateIs (rv_report 0xffffffff)
unfolding state_of digits
rv_told = refl

-- a state of ARM with C set, and a choice
abbrev arm_report : StateText
arm_report = record {
  named = UnknownBy 64 0x10004 129;
  start = record { regs = 0xdeadbeef ∷ replicate 14 0; flags = 2; bytes = []; choices = (0, 3) ∷ (17, 1) ∷ [] };
}

abbrev arm_head : List (List ℕ)
arm_head =
    codes "unknown unroll 64 at 0x00010004 step 129" ∷ codes "state armv4-le" ∷ codes "r0 0xdeadbeef"
    ∷ zeros (codes "r1" ∷ codes "r2" ∷ codes "r3" ∷ codes "r4" ∷ codes "r5" ∷ codes "r6" ∷ codes "r7" ∷ codes "r8" ∷ codes "r9" ∷ codes "r10"
    ∷ codes "r11" ∷ codes "r12" ∷ codes "r13" ∷ codes "r14" ∷ [])
    ++ codes "N 0" ∷ codes "Z 0" ∷ codes "C 1" ∷ codes "V 0" ∷ []

abbrev arm_lines : List (List ℕ)
arm_lines = arm_head ++ codes "choice 0 3" ∷ codes "choice 17 1" ∷ codes "end" ∷ []

arm_headers : map (λ profile. (arm_layout Little profile).machine) (V4 ∷ V4T ∷ V5 ∷ []) ++
    map (λ profile. (arm_layout Big profile).machine) (V4 ∷ V4T ∷ V5 ∷ []) ≡
    codes "armv4-le" ∷ codes "armv4t-le" ∷ codes "armv5-le" ∷ codes "armv4-be" ∷ codes "armv4t-be" ∷ codes "armv5-be" ∷ []
arm_headers = refl

-- a report under one profile is none under another
other_profile : state_of (arm_layout Little V4T) (λ a. false) (lines arm_lines) ≡ StateRefused 2 StateLineFault
unfolding state_of digits
other_profile = refl

arm_printed : printed (arm_layout Little V4) arm_report ≡ lines arm_lines
unfolding printed digits
arm_printed = refl

arm_told : state_of (arm_layout Little V4) (λ a. false) (lines arm_lines) ≡ StateIs arm_report
unfolding state_of digits
arm_told = refl

-- what ARM's text is told where behind its registers and flags these lines stand, and the byte at 0x10000 is known
abbrev arm_tells : List (List ℕ) → Told
arm_tells more = state_of (arm_layout Little V4) (λ a. a == 0x10000) (lines (arm_head ++ more))

-- line 22 is the first behind the flags: a byte that is 0, known or out of order; a choice out of range or out of order; an end that is missed or not the last
byte_faults :
    map arm_tells
    ((codes "byte 0x00008000 0x00" ∷ []) ∷ (codes "byte 0x00010000 0x01" ∷ []) ∷ (codes "byte 0x00000002 0x01" ∷ codes "byte 0x00000001 0x01" ∷ [])
    ∷ (codes "choice 3 1" ∷ codes "byte 0x00000001 0x01" ∷ []) ∷ (codes "end" ∷ codes "byte 0x00000001 0x01" ∷ []) ∷ [])
    ≡ StateRefused 22 StateByteFault ∷ StateRefused 22 StateByteFault ∷ StateRefused 23 StateByteFault ∷ StateRefused 23 StateByteFault
    ∷ StateRefused 23 StateByteFault ∷ []
unfolding state_of digits
byte_faults = refl

choice_faults :
    map arm_tells
    ((codes "choice 0 0" ∷ []) ∷ (codes "choice 0 9" ∷ []) ∷ (codes "choice 0 4294967296" ∷ []) ∷ (codes "choice 5 1" ∷ codes "choice 5 1" ∷ [])
    ∷ (codes "end" ∷ codes "choice 0 1" ∷ []) ∷ [])
    ≡ StateRefused 22 StateChoiceFault ∷ StateRefused 22 StateChoiceFault ∷ StateRefused 22 StateChoiceFault ∷ StateRefused 23 StateChoiceFault
    ∷ StateRefused 23 StateChoiceFault ∷ []
unfolding state_of digits
choice_faults = refl

end_faults : map arm_tells ([] ∷ (codes "end" ∷ codes "end" ∷ []) ∷ (codes "choice 1 1" ∷ []) ∷ []) ≡
    StateRefused 22 StateEndFault ∷ StateRefused 23 StateEndFault ∷ StateRefused 23 StateEndFault ∷ []
unfolding state_of digits
end_faults = refl

-- lines that are none of the grammar: a register that isn't written, a flag that is no digit, blanks, leading zeros, upper case, another machine's register, a
-- step or a number of transfers that is too great
line_faults :
    map (λ more. arm_tells (more ∷ []))
    (codes "r15 0x00000000" ∷ codes "C 2" ∷ codes "byte  0x00000001 0x01" ∷ codes "choice 01 1" ∷ codes "choice 0 01" ∷ codes "byte 0x0000000A 0x01"
    ∷ codes "x10 0x00000000"
    ∷ codes "choice 16777216 1" ∷ codes "end " ∷ [] ∷ [])
    ≡ StateRefused 22 StateLineFault ∷ StateRefused 22 StateLineFault ∷ StateRefused 22 StateLineFault ∷ StateRefused 22 StateLineFault
    ∷ StateRefused 22 StateLineFault ∷ StateRefused 22 StateLineFault
    ∷ StateRefused 22 StateLineFault ∷ StateRefused 22 StateLineFault ∷ StateRefused 22 StateLineFault ∷ StateRefused 22 StateLineFault ∷ []
unfolding state_of digits
line_faults = refl

-- behind the end a register is told twice, and the ending and the machine are out of place
behind_end :
    map (λ more. arm_tells (codes "end" ∷ more ∷ []))
    (codes "r0 0x00000000" ∷ codes "V 1" ∷ codes "state armv4-le" ∷ codes "fails fetch at 0x00000000 step 0" ∷ [] ∷ [])
    ≡ StateRefused 23 StateRegisterFault ∷ StateRefused 23 StateRegisterFault ∷ StateRefused 23 StateLineFault ∷ StateRefused 23 StateLineFault
    ∷ StateRefused 23 StateLineFault ∷ []
unfolding state_of digits
behind_end = refl

-- heads: no line, an ending that is none, a missing machine, another machine, a missing register at the first other line or behind the last
abbrev rv_tells : List (List ℕ) → Told
rv_tells text = state_of (rv_layout false) (λ a. false) (lines text)

head_faults :
    map rv_tells
    ([] ∷ (codes "holds" ∷ []) ∷ (codes "unknown unroll 4097 at 0x00010004 step 129" ∷ []) ∷ (codes "fails jump at 0x00010004 step 16777216" ∷ [])
    ∷ (codes "fails jump at 0x00010004 step 1" ∷ []) ∷ (codes "fails jump at 0x00010004 step 1" ∷ codes "x1 0x00000000" ∷ [])
    ∷ (codes "fails trap at 0x00010004 step 1" ∷ codes "state armv4-le" ∷ [])
    ∷ (codes "fails trap at 0x00010004 step 1" ∷ codes "state rv32im" ∷ codes "x2 0x00000000" ∷ [])
    ∷ (codes "fails trap at 0x00010004 step 1" ∷ codes "state rv32im" ∷ codes "x1 0x00000000" ∷ codes "end" ∷ [])
    ∷ (codes "fails trap at 0x00010004 step 1" ∷ codes "state rv32im" ∷ codes "x1 0x00000000" ∷ []) ∷ [])
    ≡ StateRefused 1 StateRegisterFault ∷ StateRefused 1 StateLineFault ∷ StateRefused 1 StateLineFault ∷ StateRefused 1 StateLineFault
    ∷ StateRefused 2 StateRegisterFault ∷ StateRefused 2 StateLineFault ∷ StateRefused 2 StateLineFault ∷ StateRefused 3 StateRegisterFault
    ∷ StateRefused 4 StateRegisterFault
    ∷ StateRefused 4 StateRegisterFault ∷ []
unfolding state_of digits
head_faults = refl

-- the last line feed may lack
no_last_feed : state_of (arm_layout Little V4) (λ a. false) (lines arm_head ++ codes "end") ≡
    StateIs (record { named = UnknownBy 64 0x10004 129; start = record { regs = 0xdeadbeef ∷ replicate 14 0; flags = 2; bytes = []; choices = [] } })
unfolding state_of digits
no_last_feed = refl

-- a function that counts up once, of which a note says that it rises
abbrev pub notes : Notes
notes = record {
  entry = At 0x10000;
  requires = [];
  ensures = record { line = 2; says = Binary Above (Register 10) (Old (Register 10)) } ∷ [];
  asserts = [];
  targets = [];
  fixed = [];
}

abbrev program : Program
program = record { machine = rv32 false; word = in_memory (rv32 false); loaded = loaded (rv_file (0x00150513 ∷ 0x00008067 ∷ [])); entry = 0x10000; notes = notes; out = λ f. false }

-- the largest word wraps, and 0 does not
replays : replay_answer program (rv_layout false) (printed (rv_layout false) (rv_report 0xffffffff))
    ≡ plain_answer 0 (line (codes "replayed fails ensure 2 at 0x00010004 step 1"))
unfolding printed state_of digits run table rv_row
replays = refl

replays_not : replay_answer program (rv_layout false) (printed (rv_layout false) (rv_report 0)) ≡
    plain_answer 9 (line (codes "replay: named fails ensure 2 at 0x00010004 step 1, found exit at 0x00010004 step 1"))
unfolding printed state_of digits run table rv_row
replays_not = refl

-- after one step of two the run goes on: the last step is that at 0x10000
runs_on : found program None (start_in program (rv_layout false) (rv_state 0)) 0 ≡ FoundLeft 0x10000 0
unfolding run table rv_row
runs_on = refl

runs_out : found program None (start_in program (rv_layout false) (rv_state 0)) 5 ≡ FoundExit 0x10004 1
unfolding run table rv_row
runs_out = refl

-- the lines of reports
reports : map (λ r. report_text (rv_layout false) default_budget r NoEvidence) (HoldsReport ∷ VacuousReport ∷ PointsReport ∷ SizeReport ∷ ConflictsReport ∷ []) ≡
    map (λ text. line text)
    (codes "holds" ∷ codes "vacuous" ∷ codes "unknown points 65536" ∷ codes "unknown size 1073741824" ∷ codes "unknown conflicts 200000" ∷ [])
unfolding digits
reports = refl

named_lines : map named_line (FailsBy (AssertFails 12) 0xfffffffc 0 ∷ FailsBy FetchFails 0x10000 7 ∷ FailsBy AlignFails 0xabc 10 ∷ UnknownBy 1 0x10004 3 ∷ []) ≡
    codes "fails assert 12 at 0xfffffffc step 0" ∷ codes "fails fetch at 0x00010000 step 7" ∷ codes "fails align at 0x00000abc step 10"
    ∷ codes "unknown unroll 1 at 0x00010004 step 3" ∷ []
unfolding digits
named_lines = refl

-- the texts of refusals
refusals : elf_fault_text elf.SegmentsOverlap ∷ note_fault_text 2 note_faults.SyntaxFault ∷ ambiguous_text 0x10000 0x10010 ∷ [] ≡
    map (λ text. line text) (codes "elf: E11 Overlap" ∷ codes "notes: line 2 N7 Syntax" ∷ codes "notes: Ambiguous 0x00010000 0x00010010" ∷ [])
unfolding digits
refusals = refl

-- a file that can't be read
fault_is : read_fault ≡ plain_answer 6 (line (codes "read fault"))
fault_is = refl

-- a script of two symbols and a definition
abbrev script : List ℕ
script =
    lines (codes "(set-logic QF_ABV)" ∷ codes "(declare-const x1 (_ BitVec 32))" ∷ codes "(declare-const mem (Array (_ BitVec 32) (_ BitVec 8)))"
    ∷ codes "(define-fun t0 () (_ BitVec 8) (select mem (bvadd x1 #x00000001)))" ∷ codes "(assert (= ((_ zero_extend 24) t0) x1))" ∷ codes "(check-sat)" ∷ [])

abbrev model : ℕ → List ℕ → Option SmtValue
model v w = if w_is_mem w then Some (ArrayValue (λ a. if a == 8 then 7 else 0)) else Some (WordValue 32 v)
  where
    w_is_mem : List ℕ → Bool
    w_is_mem (b ∷ rest) = b == 109
    w_is_mem [] = false

abbrev truth : ℕ → Option Sexp → Option Bool
truth v None = None
truth v (Some commands) = commands_truth (model v) commands

satisfied : map (λ v. truth v (sexps_of script)) (7 ∷ 8 ∷ 4294967296 ∷ []) ≡ Some true ∷ Some false ∷ None ∷ []
unfolding commands_truth digits
satisfied = refl
