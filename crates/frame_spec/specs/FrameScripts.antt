-- The script of a question of a frame whose runs are cut at heads, in SMT-LIB 2.6 (logic QF_ABV), and the answer that prints it. Where there is a head, the
-- head state has symbols of its own, and so has what the contract step of a point is given.
use Rattle.std.specs.Prelude.{ℕ, ◌≡◌, ◌<◌, ◌+◌, ◌-◌, Bool, true, false, ◌==◌, ◌&&◌, ◌||◌, not, nat_eq, nat_lt, if◌then◌else◌, ◌↔◌, List, [], ◌∷◌, ◌++◌, Option, Some, None, is_some, codes, length, map, AllPairs, slice_get, Contains}
use Rattle.std.specs.List.{list_any}
use Rattle.std.specs.Str.{bytes_eq}
use Rattle.word_spec.specs.Texts.{line, number_text}
use Rattle.call_spec.specs.Calls.{Budget, Count, Answer, plain_answer}
use Rattle.machine_spec.specs.StateText.{Layout, value_names, place_in}
use Rattle.bilv_spec.specs.Answers.{budget_text}
use Rattle.bilv_spec.specs.Points.{file_row}
use Rattle.bilv_spec.specs.Scripts.{AreWholeLines, IsTermName, choice_name, choice_names, draws, is_plain_byte, is_stack_below, is_point_below}
use Rattle.bilv_spec.specs.SmtLib.{Sexp, sexps_of, declared_symbols, defined_symbols, commands_truth, SmtValue, WordValue, ArrayValue}
use Rattle.frame_spec.specs.Frames.{Content, Writes, Contract, Frame, contract_at}
use Rattle.frame_spec.specs.FramePoints.{Anchor, AtEntry, AtHead, Point, ArePoints, has_heads, triple}
use Rattle.frame_spec.specs.FrameQuestions.{Question, Reading, IsReading, IsTrue, EntryPart, HeadPart, GivenPart, part_of}
use Rattle.frame_spec.specs.FrameReports.{HasMore, IsWholePrice, IsWithin}
use Rattle.frame_spec.specs.FrameVerdict.{Whole, frame_of}

-- the order of anchors: the entry's first, then by their stacks, then by their heads
abbrev pub is_anchor_below : Anchor → Anchor → Bool
is_anchor_below AtEntry AtEntry = false
is_anchor_below AtEntry (AtHead stack a) = true
is_anchor_below (AtHead stack a) AtEntry = false
is_anchor_below (AtHead s a) (AtHead t b) = is_stack_below s t || (bytes_eq s t && nat_lt a b)

-- two anchors are the same
abbrev pub is_same_anchor : Anchor → Anchor → Bool
is_same_anchor AtEntry AtEntry = true
is_same_anchor AtEntry (AtHead stack a) = false
is_same_anchor (AtHead stack a) AtEntry = false
is_same_anchor (AtHead s a) (AtHead t b) = bytes_eq s t && (a == b)

-- two points are the same, but for their anchors and contract steps
abbrev pub is_same_triple : Point → Point → Bool
is_same_triple p q = (p.turns == q.turns) && (bytes_eq p.stack q.stack && (p.at == q.at))

-- the order of points: by their anchors, then as without heads; a contract step comes behind the row of the same address
abbrev pub is_frame_point_below : Point → Point → Bool
is_frame_point_below p q =
    is_anchor_below p.anchor q.anchor
    || (is_same_anchor p.anchor q.anchor && (is_point_below (triple p) (triple q) || (is_same_triple p q && (not p.contract && q.contract))))

-- the points in their order: a point's number is its place
abbrev pub AreFrameNumbered : Frame → ℕ → List Point → Type 0
AreFrameNumbered f k points = ArePoints f k points × AllPairs (λ x y. is_frame_point_below x y ≡ true) points

-- the symbols of registers and flags of the head state, and of its memory
abbrev pub of_head : List ℕ → List ℕ
of_head name = codes "h_" ++ name

abbrev pub head_names : Layout → List (List ℕ)
head_names layout = map of_head (value_names layout)

-- the symbols of what the contract step of a point is given: g and the point's number stand before the names
abbrev pub given_prefix : ℕ → List ℕ
given_prefix n = codes "g" ++ number_text n ++ codes "_"

abbrev pub of_given : ℕ → List ℕ → List ℕ
of_given n name = given_prefix n ++ name

-- a register is a word of 32 bits, a flag one of one bit
abbrev pub content_value : Layout → Content → ℕ → SmtValue
content_value layout c i =
    if nat_lt i (length layout.registers) then WordValue 32 (c.regs (layout.first + i)) else
    WordValue 1 (c.flags (length (value_names layout) - 1 - i))

-- the choice of a point is a word of two bits
abbrev pub point_choice : Reading → Option Point → Option SmtValue
point_choice r None = None
point_choice r (Some q) = Some (WordValue 2 (r.choice q))

-- the value of what a contract step is given by its place, and else of its memory or of another symbol
abbrev pub given_by : Layout → Content → (place : Option ℕ) → (is_memory : Bool) → (other : Option SmtValue) → Option SmtValue
given_by layout c (Some i) is_memory other = Some (content_value layout c i)
given_by layout c None true other = Some (ArrayValue c.mem)
given_by layout c None false other = other

-- so of the points from a number on
abbrev pub given_value : Layout → Reading → ℕ → List Point → List ℕ → Option SmtValue
given_value layout r n [] w = None
given_value layout r n (q ∷ rest) w =
    given_by layout (part_of r (GivenPart q)) (place_in (map (of_given n) (value_names layout)) w) (bytes_eq w (of_given n (codes "mem")))
    (given_value layout r (n + 1) rest w)

-- the value of a choice by its number, and else of what a contract step is given
abbrev pub choice_of : Layout → List Point → Reading → Option ℕ → List ℕ → Option SmtValue
choice_of layout points r (Some n) w = point_choice r (slice_get points n)
choice_of layout points r None w = given_value layout r 0 points w

-- the value of a register or a flag of the head state by its place, and else of its memory, of a choice, or of what a contract step is given
abbrev pub head_value : Layout → List Point → Reading → Option ℕ → List ℕ → Option SmtValue
head_value layout points r (Some i) w = Some (content_value layout (part_of r HeadPart) i)
head_value layout points r None w =
    if bytes_eq w (of_head (codes "mem")) then Some (ArrayValue r.head.mem) else
    choice_of layout points r (place_in (choice_names (length points)) w) w

-- so of the entry state, and else of the head state
abbrev pub entry_value : Layout → List Point → Reading → Option ℕ → List ℕ → Option SmtValue
entry_value layout points r (Some i) w = Some (content_value layout (part_of r EntryPart) i)
entry_value layout points r None w =
    if bytes_eq w (codes "mem") then Some (ArrayValue r.state.mem) else head_value layout points r (place_in (head_names layout) w) w

-- the values of the symbols under a reading
abbrev pub frame_values_of : Layout → List Point → Reading → List ℕ → Option SmtValue
frame_values_of layout points r w = entry_value layout points r (place_in (value_names layout) w) w

-- the point executes a row that reads the choice
abbrev pub point_draws : Frame → Point → Bool
point_draws f q = if q.contract then false else draws (file_row f.program q.at)

-- the symbols of the choices of points, from a number on: of those alone whose row reads the choice
abbrev pub frame_drawn_names : Frame → ℕ → List Point → List (List ℕ)
frame_drawn_names f n [] = []
frame_drawn_names f n (q ∷ rest) =
    if point_draws f q then choice_name n ∷ frame_drawn_names f (n + 1) rest else frame_drawn_names f (n + 1) rest

-- The names of the registers, from a number on, that a contract may change.
abbrev pub changed_registers : (changed : List ℕ) → (register : ℕ) → (names : List (List ℕ)) → List (List ℕ)
changed_registers changed r [] = []
changed_registers changed r (w ∷ rest) =
    if list_any (nat_eq r) changed then w ∷ changed_registers changed (r + 1) rest else changed_registers changed (r + 1) rest

-- those of the flags, of which the one with the highest number comes first
abbrev pub changed_flags : (changed : List ℕ) → (names : List (List ℕ)) → List (List ℕ)
changed_flags changed [] = []
changed_flags changed (w ∷ rest) = if list_any (nat_eq (length rest)) changed then w ∷ changed_flags changed rest else changed_flags changed rest

-- that of the memory, if there are bytes that a contract may write
abbrev pub written_memory : Bool → List (List ℕ)
written_memory false = []
written_memory true = codes "mem" ∷ []

abbrev pub writes_some : List Writes → Bool
writes_some [] = false
writes_some (w ∷ rest) = true

-- the names of what a contract step is given: registers, flags and bytes that may change
abbrev pub given_names : Layout → (registers flags : List ℕ) → List Writes → List (List ℕ)
given_names layout registers flags writes =
    changed_registers registers layout.first layout.registers ++ (changed_flags flags layout.flags ++ written_memory (writes_some writes))

-- their symbols, at the point of a number
abbrev pub given_at : Layout → ℕ → Option Contract → List (List ℕ)
given_at layout n None = []
given_at layout n (Some x) = map (of_given n) (given_names layout x.registers x.flags x.writes)

-- so of the contract points, from a number on
abbrev pub given_symbols : Frame → Layout → ℕ → List Point → List (List ℕ)
given_symbols f layout n [] = []
given_symbols f layout n (q ∷ rest) =
    (if q.contract then given_at layout n (contract_at f.stepped q.at) else []) ++ given_symbols f layout (n + 1) rest

-- the symbols of the head state, where there is a head
abbrev pub head_symbols : Layout → Bool → List (List ℕ)
head_symbols layout false = []
head_symbols layout true = head_names layout ++ of_head (codes "mem") ∷ []

-- the symbols that a script declares: of the entry state, of the head state, whatever the question is, of the choices, and of what contract steps are given
abbrev pub frame_symbols_of : Frame → Layout → List Point → List (List ℕ)
frame_symbols_of f layout points =
    value_names layout ++ codes "mem" ∷ head_symbols layout (has_heads f) ++ (frame_drawn_names f 0 points ++ given_symbols f layout 0 points)

-- As of a program: a script begins with its logic and ends with the check, declares these symbols, is well formed for the values of each reading, and is
-- satisfied by exactly those of the readings that make the question true.
pub record IsFrameScript (f : Frame) (layout : Layout) (k : ℕ) (question : Question) (text : List ℕ) : Type 0 where
  pub points : List Point
  pub are_numbered : AreFrameNumbered f k points
  pub middle : List ℕ
  pub text_is : text ≡ line (codes "(set-logic QF_ABV)") ++ middle ++ line (codes "(check-sat)")
  pub whole_lines : AreWholeLines middle
  pub plain : (b : ℕ) → Contains text b → is_plain_byte b ≡ true
  pub commands : Sexp
  pub commands_are : sexps_of text ≡ Some commands
  pub declares : (w : List ℕ) → Contains (declared_symbols commands) w ↔ Contains (frame_symbols_of f layout points) w
  pub defines : (w : List ℕ) → Contains (defined_symbols commands) w → IsTermName w
  pub well_formed : (r : Reading) → IsReading r → is_some (commands_truth (frame_values_of layout points r) commands) ≡ true
  pub means : (r : Reading) → IsReading r → r.state.pc ≡ f.program.entry →
      (commands_truth (frame_values_of layout points r) commands ≡ Some true) ↔ IsTrue f k r question

-- the answer that prints the script of a question of the frame of a rank, or names the budget that is exceeded, which is over all frames
pub data IsFrameScriptAnswer (w : Whole) (rank : ℕ) (layout : Layout) (b : Budget) (question : Question) (a : Answer) : Type 0 where
  too_many_points : HasMore w b.unroll b.points →
      a ≡ record { status = 3; text = budget_text (codes "points") b.points; evidence = Count (b.points + 1) } →
      IsFrameScriptAnswer w rank layout b question a
  too_large : (price : ℕ) → (¬ HasMore w b.unroll b.points) → IsWholePrice w b.unroll price → b.size < price →
      a ≡ record { status = 3; text = budget_text (codes "size") b.size; evidence = Count price } → IsFrameScriptAnswer w rank layout b question a
  is_printed : (text : List ℕ) → IsWithin w b → IsFrameScript (frame_of w rank) layout b.unroll question text → a ≡ plain_answer 0 text →
      IsFrameScriptAnswer w rank layout b question a
