-- Worked answers to notes with contracts, by computation alone: in which dialect a text is read, which frame a word names, and what is said of a frame that is not
-- proved.
use Rattle.std.proofs.Common.{◌≡◌, refl, [], ◌∷◌, Some, None}
use Rattle.std.specs.Fmt.{digits}
use Rattle.std.specs.Prelude.{codes}
use Rattle.word_spec.specs.State.{Written}
use Rattle.word_spec.specs.Texts.{joined, lines}
use Rattle.call_spec.specs.Calls.{WithCalls, default_budget}
use Rattle.frame_spec.specs.Frames.{Contract, OfStep, GivesFails}
use Rattle.frame_spec.specs.FrameReports.{ByEvent, ByTurn, ShownBy, UnprovedReport, last_rank}
use Rattle.frame_spec.specs.FrameVerdict.{Whole}
use Rattle.frame_texts_spec.specs.CallTexts.{call_ending_words}
use Rattle.machine_spec.specs.Endings.{EnsureFails}
use Rattle.notes_spec.specs.Scopes.{Plain, Framed}
use Rattle.answer_spec.specs.FrameAnswers.{asked_rank, dialect_for, frame_status, name_of, number_word, report_evidence, unproved_ending}
use Rattle.answer_spec.proofs.WorkSamples.{work_program}

-- a line of either kind makes a text one with both, in either version: it is refused then as it must be
with_contract : dialect_for (lines (codes "notes 2" ∷ codes "entry 0x10000" ∷ codes "  needs 0x10010 1 # a" ∷ [])) ≡ Framed
with_contract = refl

with_both : dialect_for (lines (codes "notes 2" ∷ codes "invariant 0x10000 1" ∷ codes "writes 0x10010 a0 4" ∷ [])) ≡ Framed
with_both = refl

with_neither : dialect_for (lines (codes "notes 2" ∷ codes "entry 0x10000" ∷ codes "# modifies 0x10010 a0" ∷ codes "ensure gives" ∷ [])) ≡ Plain
with_neither = refl

-- words that are numbers as a whole, and words that are not
hexadecimal : number_word (codes "0x00010010") ≡ Some 65552
hexadecimal = refl

decimal : number_word (codes "65552") ≡ Some 65552
decimal = refl

long_number : number_word (codes "4295032848") ≡ Some 4295032848
long_number = refl

no_digit : number_word (codes "f") ≡ None
no_digit = refl

empty : number_word [] ≡ None
empty = refl

large_letter : number_word (codes "0X10010") ≡ None
large_letter = refl

no_digits_behind : number_word (codes "0x") ≡ None
no_digits_behind = refl

blank_behind : number_word (codes "65552 ") ≡ None
blank_behind = refl

sign_before : number_word (codes "+65552") ≡ None
sign_before = refl

letter_behind : number_word (codes "0x10010g") ≡ None
letter_behind = refl

-- a function with one contract, whose frame ranks before its own
abbrev contract : Contract
contract = record { at = 0x10010; needs = []; gives = []; writes = []; registers = 10 ∷ []; flags = [] }

abbrev called : Whole
called = record { program = work_program; invariants = []; contracts = contract ∷ [] }

by_address : asked_rank called (Some (codes "0x010010")) ≡ Some 0
by_address = refl

by_none : asked_rank called None ≡ Some 1
by_none = refl

by_other : asked_rank called (Some (codes "0x10000")) ≡ None
by_other = refl

by_name : asked_rank called (Some (codes "entry")) ≡ None
by_name = refl

of_contract : joined (call_ending_words (unproved_ending (name_of called 0) default_budget (ByEvent (GivesFails 3) 0x10014 1)))
    ≡ codes "unproved 0x00010010 gives 3 at 0x00010014 step 1"
unfolding digits
of_contract = refl

of_entry : joined (call_ending_words (unproved_ending (name_of called (last_rank called)) default_budget (ByEvent (OfStep (EnsureFails 5)) 0x1000c 4)))
    ≡ codes "unproved entry ensure 5 at 0x0001000c step 4"
unfolding digits
of_entry = refl

of_turn : joined (call_ending_words (unproved_ending (name_of called 1) default_budget (ByTurn 0x10010 3))) ≡ codes "unproved entry unroll 64 at 0x00010010 step 3"
unfolding digits
of_turn = refl

status_of_event : frame_status (UnprovedReport 0 (ByEvent (GivesFails 3) 0x10014 1)) ≡ 1
status_of_event = refl

status_of_turn : frame_status (UnprovedReport 1 (ByTurn 0x10010 3)) ≡ 3
status_of_turn = refl

-- a frame that is not proved is shown with its rank, also where it makes no contract step
shown_with_rank : (s : Written) → report_evidence called (UnprovedReport 0 (ByTurn 0 0)) (ShownBy (record { start = s; head = None; calls = [] })) ≡ WithCalls 0 s []
shown_with_rank s = refl
