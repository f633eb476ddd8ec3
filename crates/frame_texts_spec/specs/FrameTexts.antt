-- The text of what a report over frames shows: a start with the ending that the report names and, for a segment from a head, with a head part. What is printed,
-- what a text says, and why one is refused. Each part is judged as a text of its own, in which the line of a head or of a return address that stands behind it
-- is in the place of the end: it closes the entry part as an end does.
use Rattle.std.specs.Prelude.{ℕ, ◌≡◌, ◌≤◌, ◌<◌, ◌+◌, ◌-◌, ◌^◌, ◌&&◌, Bool, true, false, if◌then◌else◌, List, [], ◌∷◌, ◌++◌, Option, Some, None, length, map, codes, All}
use Rattle.std.specs.Option.{option_map}
use Rattle.std.specs.Str.{bytes_eq}
use Rattle.word_spec.specs.Texts.{word_text, number_text, lines, joined, words_in, split_lines, decimal_word, hex_word, at_most}
use Rattle.word_spec.specs.State.{Written}
use Rattle.machine_spec.specs.Endings.{NamedEnding, FailsBy, UnknownBy, event_words, place_words}
use Rattle.machine_spec.specs.StateText.{Layout, IsWritten, IsEvent, last_step, StateLine, NamedLine, MachineLine, ByteLine, ChoiceLine, EndLine, words_of_line, register_lines, flag_bits, lines_behind, place_of, event_of_word, event_of_line, line_of, StateFault, StateLineFault, StateRegisterFault, Told, StateIs, StateRefused, told_of}
use Rattle.frame_spec.specs.Frames.{FrameEvent, OfStep, InvariantFails, NeedsFails, WritesFails, GivesFails, ModifiesFails}
use Rattle.frame_spec.specs.FrameReports.{WrittenHead, Shown, ByEvent, ByTurn, Report, NamedReport, NotInductiveReport}

-- The ending that a report over frames names: an event, or the (k + 1)th backward transfer, of a segment; or that the invariants are not inductive, by an event
-- of a segment from a head.
pub data FramedEnding : Type 0 where
  FramedFails : FrameEvent → (at step : ℕ) → FramedEnding
  FramedTurns : (k at step : ℕ) → FramedEnding
  NotInductiveBy : FrameEvent → (at step : ℕ) → FramedEnding

-- the ending of a run of the tables
abbrev pub framed : NamedEnding → FramedEnding
framed (FailsBy e at step) = FramedFails (OfStep e) at step
framed (UnknownBy k at step) = FramedTurns k at step

-- what the report says; its budget has the number of backward transfers
abbrev pub report_of : FramedEnding → Report
report_of (FramedFails e at step) = NamedReport (ByEvent e at step)
report_of (FramedTurns k at step) = NamedReport (ByTurn at step)
report_of (NotInductiveBy e at step) = NotInductiveReport e at step

-- a named ending with its start, and with the head state where the segment begins in one
pub record FramedText : Type 0 where
  pub named : FramedEnding
  pub start : Written
  pub head : Option WrittenHead

-- what the report shows
abbrev pub shown_of : FramedText → Shown
shown_of t = record { start = t.start; head = t.head; calls = [] }

-- an event
abbrev pub frame_event_words : FrameEvent → List (List ℕ)
frame_event_words (OfStep e) = event_words e
frame_event_words (InvariantFails n) = codes "invariant" ∷ number_text n ∷ []
frame_event_words (NeedsFails n) = codes "needs" ∷ number_text n ∷ []
frame_event_words WritesFails = codes "writes" ∷ []
frame_event_words (GivesFails n) = codes "gives" ∷ number_text n ∷ []
frame_event_words ModifiesFails = codes "modifies" ∷ []

-- the words of an ending
abbrev pub ending_words : FramedEnding → List (List ℕ)
ending_words (FramedFails e at step) = codes "fails" ∷ frame_event_words e ++ place_words at step
ending_words (FramedTurns k at step) = codes "unknown" ∷ codes "unroll" ∷ number_text k ∷ place_words at step
ending_words (NotInductiveBy e at step) = codes "not" ∷ codes "inductive" ∷ frame_event_words e ++ place_words at step

-- the line of a head's address, and of a return address on the stack
abbrev pub head_line : ℕ → List ℕ
head_line a = joined (codes "head" ∷ word_text a ∷ [])

abbrev pub stack_line : ℕ → List ℕ
stack_line a = joined (codes "stack" ∷ word_text a ∷ [])

-- the lines of registers, flags and bytes
abbrev pub content_lines : Layout → Written → List StateLine
content_lines layout w = register_lines 0 (w.regs ++ flag_bits (length layout.flags) w.flags) ++ map (λ b. ByteLine b.0 b.1) w.bytes

-- the lines of choices and the end
abbrev pub last_lines : Written → List StateLine
last_lines w = map (λ c. ChoiceLine c.0 c.1) w.choices ++ EndLine ∷ []

-- the texts of lines
abbrev pub line_texts : Layout → List StateLine → List (List ℕ)
line_texts layout ls = map (λ l. joined (words_of_line layout l)) ls

-- The lines behind the first. Before a head part stands the start without choices and without the end. A head part has the head's address, the return addresses
-- from the bottom of the stack, and then the head state's registers, flags, bytes and choices, and the end.
abbrev pub lines_of_parts : Layout → Written → Option WrittenHead → List (List ℕ)
lines_of_parts layout w None = line_texts layout (lines_behind layout w)
lines_of_parts layout w (Some h) =
    line_texts layout (MachineLine ∷ content_lines layout w)
    ++ (head_line h.at ∷ map stack_line h.stack ++ line_texts layout (content_lines layout h.start ++ last_lines h.start))

-- the lines of the text
abbrev pub framed_lines : Layout → FramedText → List (List ℕ)
framed_lines layout t = joined (ending_words t.named) ∷ lines_of_parts layout t.start t.head

-- the text
unfoldable pub framed_printed : Layout → FramedText → List ℕ
framed_printed layout t = lines (framed_lines layout t)

-- What a reader is told besides a text: the addresses whose byte is known at entry, those whose byte is kept, which is known of a head state, the heads, and
-- the return addresses. A reader that has no file knows no byte, and takes every address for a head and for a return address.
pub record Checks : Type 0 where
  pub known : ℕ → Bool
  pub kept : ℕ → Bool
  pub heads : ℕ → Bool
  pub returns : ℕ → Bool

abbrev pub no_checks : Checks
no_checks = record { known = λ a. false; kept = λ a. false; heads = λ a. true; returns = λ a. true }

-- the number of a line of notes, where an event names one, has 64 bits
abbrev pub IsFrameEvent : FrameEvent → Type 0
IsFrameEvent (OfStep e) = IsEvent e
IsFrameEvent (InvariantFails n) = n < 2 ^ 64
IsFrameEvent (NeedsFails n) = n < 2 ^ 64
IsFrameEvent WritesFails = Unit {0}
IsFrameEvent (GivesFails n) = n < 2 ^ 64
IsFrameEvent ModifiesFails = Unit {0}

-- an ending that can be written
abbrev pub IsFramedEnding : FramedEnding → Type 0
IsFramedEnding (FramedFails e at step) = IsFrameEvent e × (at < 2 ^ 32) × (step ≤ last_step)
IsFramedEnding (FramedTurns k at step) = (k ≤ 4096) × (at < 2 ^ 32) × (step ≤ last_step)
IsFramedEnding (NotInductiveBy e at step) = IsFrameEvent e × (at < 2 ^ 32) × (step ≤ last_step)

-- A head state that can be written behind a start without choices: at a head, with a stack of return addresses.
pub record IsWrittenHead (layout : Layout) (c : Checks) (w : Written) (h : WrittenHead) : Type 0 where
  pub no_choices : w.choices ≡ []
  pub at : h.at < 2 ^ 32
  pub head : c.heads h.at ≡ true
  pub stack : All (λ r. (r < 2 ^ 32) × (c.returns r ≡ true)) h.stack
  pub start : IsWritten layout c.kept h.start

abbrev pub IsHeadPart : Layout → Checks → Written → Option WrittenHead → Type 0
IsHeadPart layout c w None = Unit {0}
IsHeadPart layout c w (Some h) = IsWrittenHead layout c w h

-- a text that can be written
pub record IsFramed (layout : Layout) (c : Checks) (t : FramedText) : Type 0 where
  pub named : IsFramedEnding t.named
  pub start : IsWritten layout c.known t.start
  pub head : IsHeadPart layout c t.start t.head

-- the first of two that is there
abbrev pub first_of : {A : Type 0} → Option A → Option A → Option A
first_of (Some x) other = Some x
first_of None other = other

-- an event of frames alone, of one word and of a line of notes
abbrev pub frame_word : List ℕ → Option FrameEvent
frame_word w = if bytes_eq w (codes "writes") then Some WritesFails else if bytes_eq w (codes "modifies") then Some ModifiesFails else None

abbrev pub frame_line : List ℕ → Option ℕ → Option FrameEvent
frame_line w None = None
frame_line w (Some n) =
    if bytes_eq w (codes "invariant") then Some (InvariantFails n) else if bytes_eq w (codes "needs") then Some (NeedsFails n) else
    if bytes_eq w (codes "gives") then Some (GivesFails n) else None

-- any event
abbrev pub any_word : List ℕ → Option FrameEvent
any_word w = first_of (option_map OfStep (event_of_word w)) (frame_word w)

abbrev pub any_line : List ℕ → Option ℕ → Option FrameEvent
any_line w n = first_of (option_map OfStep (event_of_line w n)) (frame_line w n)

-- an ending by its event and its place
abbrev pub ending_at : (FrameEvent → ℕ → ℕ → FramedEnding) → Option FrameEvent → Option (ℕ × ℕ) → Option FramedEnding
ending_at ending (Some e) (Some place) = Some (ending e place.0 place.1)
ending_at ending (Some e) None = None
ending_at ending None place = None

-- the ending whose event these words name, where events of one word and of a line are given
abbrev pub ending_after : (FrameEvent → ℕ → ℕ → FramedEnding) → (List ℕ → Option FrameEvent) → (List ℕ → Option ℕ → Option FrameEvent) → List (List ℕ) →
    Option FramedEnding
ending_after ending word line (e ∷ at ∷ a ∷ step ∷ n ∷ []) = ending_at ending (word e) (place_of at a step n)
ending_after ending word line (e ∷ m ∷ at ∷ a ∷ step ∷ n ∷ []) =
    ending_at ending (line e (at_most (2 ^ 64 - 1) (decimal_word m))) (place_of at a step n)
ending_after ending word line other = None

-- the ending behind the word not
abbrev pub after_not : List (List ℕ) → Option FramedEnding
after_not [] = None
after_not (w ∷ ws) = if bytes_eq w (codes "inductive") then ending_after NotInductiveBy any_word any_line ws else None

-- an ending that no run of the tables has
abbrev pub new_ending : List (List ℕ) → Option FramedEnding
new_ending [] = None
new_ending (w ∷ ws) =
    if bytes_eq w (codes "fails") then ending_after FramedFails frame_word frame_line ws else if bytes_eq w (codes "not") then after_not ws else None

-- the ending of a line of the tables
abbrev pub named_in : Option StateLine → Option NamedEnding
named_in (Some (NamedLine n)) = Some n
named_in other = None

-- the ending that a first line says
abbrev pub ending_of : Layout → List ℕ → Option FramedEnding
ending_of layout text = first_of (option_map framed (named_in (line_of layout text))) (new_ending (words_in text))

-- a line of a head part's beginning
pub data Mark : Type 0 where
  HeadMark : ℕ → Mark
  StackMark : ℕ → Mark

-- by its words
abbrev pub mark_in : List (List ℕ) → Option Mark
mark_in (w ∷ a ∷ []) =
    if bytes_eq w (codes "head") then option_map HeadMark (hex_word 8 a) else
    if bytes_eq w (codes "stack") then option_map StackMark (hex_word 8 a) else None
mark_in other = None

-- a line of a start is no other
abbrev pub mark_unless : Option StateLine → Option Mark → Option Mark
mark_unless (Some l) m = None
mark_unless None m = m

abbrev pub mark_of : Layout → List ℕ → Option Mark
mark_of layout text = mark_unless (line_of layout text) (mark_in (words_in text))

-- the lines of a part, and behind them the line of a head or a return address with all later lines, if there is one
pub record Part : Type 0 where
  pub lines : List (List ℕ)
  pub behind : Option (Mark × List (List ℕ))

-- a line before a part
abbrev pub part_from : List ℕ → Option Mark → List (List ℕ) → Part → Part
part_from text None rest p = record { lines = text ∷ p.lines; behind = p.behind }
part_from text (Some m) rest p = record { lines = []; behind = Some (m, rest) }

-- the first part of lines
abbrev pub part_of : Layout → List (List ℕ) → Part
part_of layout [] = record { lines = []; behind = None }
part_of layout (text ∷ rest) = part_from text (mark_of layout text) rest (part_of layout rest)

-- return addresses, and the lines behind them
pub record Stack : Type 0 where
  pub addresses : List ℕ
  pub behind : List (List ℕ)

-- a line before a stack
abbrev pub stack_from : List ℕ → Option Mark → List (List ℕ) → Stack → Stack
stack_from text (Some (StackMark a)) rest s = record { addresses = a ∷ s.addresses; behind = s.behind }
stack_from text (Some (HeadMark a)) rest s = record { addresses = []; behind = text ∷ rest }
stack_from text None rest s = record { addresses = []; behind = text ∷ rest }

-- the return addresses with which lines begin
abbrev pub stack_of : Layout → List (List ℕ) → Stack
stack_of layout [] = record { addresses = []; behind = [] }
stack_of layout (text ∷ rest) = stack_from text (mark_of layout text) rest (stack_of layout rest)

-- why a line is refused: as one of a start is; or it begins a head part at no head or at the wrong place, or names no return address
pub data FrameFault : Type 0 where
  OfPart : StateFault → FrameFault
  HeadFault : FrameFault

-- what a text says: a state, or nothing, refused at a line
pub data FramedTold : Type 0 where
  FramedIs : FramedText → FramedTold
  FramedRefused : ℕ → FrameFault → FramedTold

-- an ending for the first line of a part that is judged by itself; which it is makes no difference
abbrev pub some_ending : NamedEnding
some_ending = UnknownBy 0 0 0

-- what the lines of a part say, behind an ending, and behind an ending and a machine
abbrev pub entry_part : Layout → List (List ℕ) → List (Option StateLine)
entry_part layout texts = Some (NamedLine some_ending) ∷ map (line_of layout) texts

abbrev pub head_part : Layout → List (List ℕ) → List (Option StateLine)
head_part layout texts = Some (NamedLine some_ending) ∷ Some MachineLine ∷ map (line_of layout) texts

-- lines that something else closes
abbrev pub closed : List (Option StateLine) → List (Option StateLine)
closed ls = ls ++ Some EndLine ∷ []

-- the line of the first address that is no return address, where the first stands on a line
abbrev pub bad_return : (ℕ → Bool) → (line : ℕ) → List ℕ → Option ℕ
bad_return returns n [] = None
bad_return returns n (a ∷ rest) = if returns a then bad_return returns (n + 1) rest else Some n

-- what a head part says behind an entry part, where so many lines stand before its registers
abbrev pub head_told : FramedEnding → Written → (at : ℕ) → (stack : List ℕ) → (before : ℕ) → Told → FramedTold
head_told n w at stack before (StateRefused k f) = FramedRefused (before + k - 2) (OfPart f)
head_told n w at stack before (StateIs t) = FramedIs (record { named = n; start = w; head = Some (record { at = at; stack = stack; start = t.start }) })

-- a part that something else closes: that is out of place
abbrev pub misplaced : (before line : ℕ) → Told → FramedTold
misplaced before line (StateRefused k f) = FramedRefused (before + k - 2) (OfPart f)
misplaced before line (StateIs t) = FramedRefused line HeadFault

-- the registers, flags, bytes, choices and end of a head part
abbrev pub told_registers : Layout → Checks → FramedEnding → Written → (at : ℕ) → (stack : List ℕ) → (before : ℕ) → (part : List (List ℕ)) →
    Option (Mark × List (List ℕ)) → FramedTold
told_registers layout c n w at stack before part None = head_told n w at stack before (told_of layout c.kept (head_part layout part))
told_registers layout c n w at stack before part (Some m) =
    misplaced before (before + length part + 1) (told_of layout c.kept (closed (head_part layout part)))

-- the lines behind the head's address, which stands on a line
abbrev pub told_stack : Layout → Checks → FramedEnding → Written → (at line : ℕ) → Stack → Option ℕ → FramedTold
told_stack layout c n w at line s (Some bad) = FramedRefused bad HeadFault
told_stack layout c n w at line s None =
    let p = part_of layout s.behind in told_registers layout c n w at s.addresses (line + length s.addresses) p.lines p.behind

abbrev pub told_head : Layout → Checks → FramedEnding → Written → (at line : ℕ) → Stack → FramedTold
told_head layout c n w at line s = told_stack layout c n w at line s (bad_return c.returns (line + 1) s.addresses)

-- nothing is chosen
abbrev pub is_none : List (ℕ × ℕ) → Bool
is_none [] = true
is_none (x ∷ rest) = false

-- what is said by an entry part that is closed at a line
abbrev pub told_mark : Layout → Checks → FramedEnding → (line : ℕ) → Mark → List (List ℕ) → Told → FramedTold
told_mark layout c n line m rest (StateRefused k f) = FramedRefused k (OfPart f)
told_mark layout c n line (StackMark a) rest (StateIs t) = FramedRefused line HeadFault
told_mark layout c n line (HeadMark a) rest (StateIs t) =
    if is_none t.start.choices && c.heads a then told_head layout c n t.start a line (stack_of layout rest) else FramedRefused line HeadFault

-- what is said without a head part
abbrev pub plain_told : FramedEnding → Told → FramedTold
plain_told n (StateRefused k f) = FramedRefused k (OfPart f)
plain_told n (StateIs t) = FramedIs (record { named = n; start = t.start; head = None })

-- what the parts say
abbrev pub told_parts : Layout → Checks → FramedEnding → (part : List (List ℕ)) → Option (Mark × List (List ℕ)) → FramedTold
told_parts layout c n part None = plain_told n (told_of layout c.known (entry_part layout part))
told_parts layout c n part (Some m) = told_mark layout c n (length part + 2) m.0 m.1 (told_of layout c.known (closed (entry_part layout part)))

-- what lines say behind the first
abbrev pub told_behind : Layout → Checks → Option FramedEnding → Part → FramedTold
told_behind layout c None p = FramedRefused 1 (OfPart StateLineFault)
told_behind layout c (Some n) p = told_parts layout c n p.lines p.behind

-- What lines say. A text without lines misses its registers.
abbrev pub framed_told : Layout → Checks → List (List ℕ) → FramedTold
framed_told layout c [] = FramedRefused 1 (OfPart StateRegisterFault)
framed_told layout c (first ∷ rest) = told_behind layout c (ending_of layout first) (part_of layout rest)

-- what a text says
unfoldable pub framed_of : Layout → Checks → List ℕ → FramedTold
framed_of layout c text = framed_told layout c (split_lines text)
