-- Worked answers to reports with contract steps, by computation alone.
use Rattle.std.proofs.Common.{◌≡◌, ℕ, false, refl, List, [], ◌∷◌, ◌++◌}
use Rattle.std.specs.Prelude.{codes, drop, take}
use Rattle.std.specs.Fmt.{digits}
use Rattle.word_spec.specs.RowFiles.{rv_file}
use Rattle.word_spec.specs.Texts.{line, lines}
use Rattle.call_spec.specs.Calls.{Answer, plain_answer}
use Rattle.machine_spec.specs.Rv.{table, rv_row}
use Rattle.machine_spec.specs.RvMachine.{rv32}
use Rattle.machine_spec.specs.StateText.{rv_layout}
use Rattle.bilv_spec.specs.Elf.{loaded}
use Rattle.bilv_spec.specs.Notes.{NoteLine, Expr, At, Number, Register, Old, Binary, Equal, Above, AtLeast, Plus}
use Rattle.bilv_spec.specs.Run.{in_memory}
use Rattle.frame_spec.specs.FrameRuns.{run}
use Rattle.frame_spec.specs.FrameVerdict.{Whole}
use Rattle.frame_texts_spec.specs.CallReplays.{call_replay_answer}
use Rattle.frame_texts_spec.specs.CallTexts.{call_text_of}

-- mv t1,ra; auipc ra,0; jalr ra,12(ra); jr t1; and at 0x10010 addi a0,a0,1; ret
abbrev calls : List ℕ
calls = 0x00008313 ∷ 0x00000097 ∷ 0x00c080e7 ∷ 0x00030067 ∷ 0x00150513 ∷ 0x00008067 ∷ []

abbrev a0 : Expr
a0 = Register 10

-- needs N; gives G; modifies 0x10010 a0; ensure a0 = old(a0) + 1
abbrev whole : List NoteLine → Expr → Whole
whole needs gives = record {
  program = record {
    machine = rv32 false;
    word = in_memory (rv32 false);
    loaded = loaded (rv_file calls);
    entry = 0x10000;
    notes = record {
      entry = At 0x10000;
      requires = [];
      ensures = record { line = 5; says = Binary Equal a0 (Binary Plus (Old a0) (Number 1)) } ∷ [];
      asserts = [];
      targets = [];
      fixed = [];
    };
    out = λ f. false;
  };
  invariants = [];
  contracts = record { at = 0x10010; needs = needs; gives = record { line = 3; says = gives } ∷ []; writes = []; registers = 10 ∷ []; flags = [] } ∷ [];
}

abbrev any : Whole
any = whole [] (Binary AtLeast a0 (Number 0))

-- the registers of a state, all 0 but one
abbrev zero_lines : List (List ℕ)
zero_lines =
    codes "x1 0x00000000" ∷ codes "x2 0x00000000" ∷ codes "x3 0x00000000" ∷ codes "x4 0x00000000" ∷ codes "x5 0x00000000" ∷ codes "x6 0x00000000"
    ∷ codes "x7 0x00000000" ∷ codes "x8 0x00000000" ∷ codes "x9 0x00000000" ∷ codes "x10 0x00000000" ∷ codes "x11 0x00000000" ∷ codes "x12 0x00000000"
    ∷ codes "x13 0x00000000" ∷ codes "x14 0x00000000" ∷ codes "x15 0x00000000" ∷ codes "x16 0x00000000" ∷ codes "x17 0x00000000" ∷ codes "x18 0x00000000"
    ∷ codes "x19 0x00000000" ∷ codes "x20 0x00000000" ∷ codes "x21 0x00000000" ∷ codes "x22 0x00000000" ∷ codes "x23 0x00000000" ∷ codes "x24 0x00000000"
    ∷ codes "x25 0x00000000" ∷ codes "x26 0x00000000" ∷ codes "x27 0x00000000" ∷ codes "x28 0x00000000" ∷ codes "x29 0x00000000" ∷ codes "x30 0x00000000"
    ∷ codes "x31 0x00000000" ∷ []

abbrev with_x10 : List ℕ → List (List ℕ)
with_x10 text = take 9 zero_lines ++ (text ∷ drop 10 zero_lines)

-- the answer to a text of an ending, a state and blocks
abbrev answer : Whole → (ending : List ℕ) → (registers blocks : List (List ℕ)) → Answer
answer w ending registers blocks =
    call_replay_answer w (λ a. false) (rv_layout false) (lines (ending ∷ codes "state rv32im" ∷ registers ++ (blocks ++ codes "end" ∷ [])))

abbrev refused : List ℕ → Answer
refused text = plain_answer 9 (line text)

abbrev block : List (List ℕ)
block = codes "call 3 0x00010010" ∷ codes "x10 0x00000000" ∷ []

pub as_it_is : answer any (codes "unproved entry ensure 5 at 0x0001000c step 4") zero_lines block
    ≡ plain_answer 0 (line (codes "replayed unproved entry ensure 5 at 0x0001000c step 4"))
unfolding digits run table rv_row call_text_of
as_it_is = refl

pub of_contract : answer (whole [] (Binary Above a0 (Old a0))) (codes "unproved 0x00010010 gives 3 at 0x00010014 step 1") (with_x10 (codes "x10 0xffffffff")) []
    ≡ plain_answer 0 (line (codes "replayed unproved 0x00010010 gives 3 at 0x00010014 step 1"))
unfolding digits run table rv_row call_text_of
of_contract = refl

-- another line, another step, another kind of ending
pub other_line : answer any (codes "unproved entry ensure 4 at 0x0001000c step 4") zero_lines block
    ≡ refused (codes "replay: named unproved entry ensure 4 at 0x0001000c step 4, found unproved entry ensure 5 at 0x0001000c step 4")
unfolding digits run table rv_row call_text_of
other_line = refl

pub one_short : answer any (codes "unproved entry ensure 5 at 0x0001000c step 3") zero_lines block
    ≡ refused (codes "replay: named unproved entry ensure 5 at 0x0001000c step 3, found running at 0x00010010 step 3")
unfolding digits run table rv_row call_text_of
one_short = refl

pub as_of_tables : answer any (codes "fails ensure 5 at 0x0001000c step 4") zero_lines block
    ≡ refused (codes "replay: named fails ensure 5 at 0x0001000c step 4, found unproved entry ensure 5 at 0x0001000c step 4")
unfolding digits run table rv_row call_text_of
as_of_tables = refl

-- the step back from the contract is a backward transfer
pub turned : answer any (codes "unproved entry unroll 0 at 0x00010010 step 3") zero_lines block
    ≡ plain_answer 0 (line (codes "replayed unproved entry unroll 0 at 0x00010010 step 3"))
unfolding digits run table rv_row call_text_of
turned = refl

pub turned_as_of_tables : answer any (codes "unknown unroll 0 at 0x00010010 step 3") zero_lines block
    ≡ refused (codes "replay: named unknown unroll 0 at 0x00010010 step 3, found unproved entry unroll 0 at 0x00010010 step 3")
unfolding digits run table rv_row call_text_of
turned_as_of_tables = refl

-- a run that makes no contract step
pub no_contract_step : answer any (codes "unproved entry trap at 0x00010004 step 1") zero_lines []
    ≡ refused (codes "replay: named unproved entry trap at 0x00010004 step 1, found running at 0x00010004 step 1")
unfolding digits run table rv_row call_text_of
no_contract_step = refl

-- blocks: none, at an earlier and at a later step, after the end of the run, in the contract's own frame
pub no_block : answer any (codes "unproved entry ensure 5 at 0x0001000c step 4") zero_lines [] ≡ refused (codes "state: call 3")
unfolding digits run table rv_row call_text_of
no_block = refl

pub early_block : answer any (codes "unproved entry ensure 5 at 0x0001000c step 4") zero_lines (codes "call 2 0x00010010" ∷ codes "x10 0x00000000" ∷ [])
    ≡ refused (codes "state: call 2")
unfolding digits run table rv_row call_text_of
early_block = refl

pub late_block : answer any (codes "unproved entry ensure 5 at 0x0001000c step 4") zero_lines (codes "call 4 0x00010010" ∷ codes "x10 0x00000000" ∷ [])
    ≡ refused (codes "state: call 3")
unfolding digits run table rv_row call_text_of
late_block = refl

pub block_more : answer any (codes "unproved entry ensure 5 at 0x0001000c step 4") zero_lines
    (block ++ (codes "call 9 0x00010010" ∷ codes "x10 0x00000000" ∷ []))
    ≡ refused (codes "state: call 9")
unfolding digits run table rv_row call_text_of
block_more = refl

pub own_frame : answer any (codes "unproved 0x00010010 gives 3 at 0x00010014 step 1") zero_lines block ≡ refused (codes "state: call 3")
unfolding digits run table rv_row call_text_of
own_frame = refl

-- a byte that the contract may not write
pub byte_outside : answer any (codes "unproved entry ensure 5 at 0x0001000c step 4") zero_lines (block ++ (codes "byte 0x00020000 0x01" ∷ []))
    ≡ refused (codes "state: call 3")
unfolding digits run table rv_row call_text_of
byte_outside = refl

-- what the contract gives, and what it needs: in its own frame, and where it is called, where that goes before the block
abbrev needs_5 : Whole
needs_5 = whole (record { line = 4; says = Binary Equal a0 (Number 5) } ∷ []) (Binary Above a0 (Old a0))

pub breaks_gives : answer needs_5 (codes "unproved entry ensure 5 at 0x0001000c step 4") (with_x10 (codes "x10 0x00000005")) block
    ≡ refused (codes "state: gives 3")
unfolding digits run table rv_row call_text_of
breaks_gives = refl

pub needs_as_named : answer needs_5 (codes "unproved entry needs 4 at 0x00010010 step 3") zero_lines []
    ≡ plain_answer 0 (line (codes "replayed unproved entry needs 4 at 0x00010010 step 3"))
unfolding digits run table rv_row call_text_of
needs_as_named = refl

pub needs_before_block : answer needs_5 (codes "unproved entry ensure 5 at 0x0001000c step 4") zero_lines block
    ≡ refused (codes "replay: named unproved entry ensure 5 at 0x0001000c step 4, found unproved entry needs 4 at 0x00010010 step 3")
unfolding digits run table rv_row call_text_of
needs_before_block = refl

pub needs_of_frame : answer needs_5 (codes "unproved 0x00010010 gives 3 at 0x00010014 step 1") zero_lines [] ≡ refused (codes "state: needs 4")
unfolding digits run table rv_row call_text_of
needs_of_frame = refl
