-- The script of a question, in SMT-LIB 2.6 (logic QF_ABV), and the answer that prints it.
use Rattle.std.specs.Prelude.{ℕ, ◌≡◌, ◌<◌, ◌+◌, ◌-◌, Bool, true, false, ◌==◌, ◌&&◌, ◌||◌, ◌⊎◌, not, nat_lt, if◌then◌else◌, ◌↔◌, List, [], ◌∷◌, ◌++◌, Option, Some, None, is_some, codes, length, map, AllPairs, slice_get, Contains}
use Rattle.std.specs.Str.{bytes_eq}
use Rattle.word_spec.specs.RowFiles.{from_to}
use Rattle.machine_spec.specs.Machine.{Row}
use Rattle.bilv_spec.specs.Run.{Program}
use Rattle.bilv_spec.specs.Points.{Point, ArePoints, HasMore, IsPrice, file_row}
use Rattle.bilv_spec.specs.Questions.{Reading, IsTrue, IsReading}
use Rattle.call_spec.specs.Calls.{Question, Budget, Count, Answer, plain_answer}
use Rattle.machine_spec.specs.StateText.{Layout, value_names, place_in}
use Rattle.bilv_spec.specs.Answers.{IsWithin, budget_text}
use Rattle.bilv_spec.specs.SmtLib.{Sexp, sexps_of, declared_symbols, defined_symbols, commands_truth, SmtValue, WordValue, ArrayValue}
use Rattle.word_spec.specs.Texts.{number_text, line}

-- the order of lists of one length, by their last elements first
abbrev pub is_below_from_end : List ℕ → List ℕ → Bool
is_below_from_end (a ∷ s) (b ∷ t) = is_below_from_end s t || (bytes_eq s t && nat_lt a b)
is_below_from_end s t = false

-- the order of stacks: a shorter one first, and else by the addresses from the bottom
abbrev pub is_stack_below : List ℕ → List ℕ → Bool
is_stack_below s t = nat_lt (length s) (length t) || ((length s == length t) && is_below_from_end s t)

-- the order of points: by backward transfers, then by stacks, then by addresses
abbrev pub is_point_below : Point → Point → Bool
is_point_below p q =
    nat_lt p.turns q.turns || ((p.turns == q.turns) && (is_stack_below p.stack q.stack || (bytes_eq p.stack q.stack && nat_lt p.at q.at)))

-- the points in their order: a point's number is its place
abbrev pub AreNumbered : Program → ℕ → List Point → Type 0
AreNumbered p k points = ArePoints p k points × AllPairs (λ x y. is_point_below x y ≡ true) points

-- the symbol of the choice of a point: c and the point's number
abbrev pub choice_name : ℕ → List ℕ
choice_name n = codes "c" ++ number_text n

-- the symbols of the choices of so many points
abbrev pub choice_names : ℕ → List (List ℕ)
choice_names count = map choice_name (from_to 0 count)

-- the choice of a point is a word of two bits
abbrev pub choice_value : Reading → Option Point → Option SmtValue
choice_value r None = None
choice_value r (Some point) = Some (WordValue 2 (r.choice point))

-- the choice of the point of a number
abbrev pub choice_at : List Point → Reading → Option ℕ → Option SmtValue
choice_at points r None = None
choice_at points r (Some n) = choice_value r (slice_get points n)

-- a register is a word of 32 bits, a flag one of one bit
abbrev pub register_value : Layout → Reading → ℕ → SmtValue
register_value layout r i =
    if nat_lt i (length layout.registers) then WordValue 32 (r.state.regs (layout.first + i)) else
    WordValue 1 (r.state.flags (length (value_names layout) - 1 - i))

-- the value of a register or a flag by its place, and else of the memory or of a choice
abbrev pub named_value : Layout → List Point → Reading → Option ℕ → List ℕ → Option SmtValue
named_value layout points r (Some i) w = Some (register_value layout r i)
named_value layout points r None w =
    if bytes_eq w (codes "mem") then Some (ArrayValue r.state.mem) else choice_at points r (place_in (choice_names (length points)) w)

-- the values of the symbols under a reading
abbrev pub values_of : Layout → List Point → Reading → List ℕ → Option SmtValue
values_of layout points r w = named_value layout points r (place_in (value_names layout) w) w

-- the row at an address reads the choice
abbrev pub draws : Option Row → Bool
draws None = false
draws (Some row) = row.draws

-- the symbols of the choices of points, from a number on: of those alone whose row reads the choice
abbrev pub drawn_names : Program → ℕ → List Point → List (List ℕ)
drawn_names p n [] = []
drawn_names p n (point ∷ rest) =
    if draws (file_row p point.at) then choice_name n ∷ drawn_names p (n + 1) rest else drawn_names p (n + 1) rest

-- the symbols that a script declares: the registers, the flags, the memory, and the choices
abbrev pub symbols_of : Program → Layout → List Point → List (List ℕ)
symbols_of p layout points = value_names layout ++ codes "mem" ∷ drawn_names p 0 points

-- a byte that begins no quoted symbol, no comment and no string, which are read otherwise by a solver than word by word (SMT-LIB 2.6, section 3.1)
abbrev pub is_plain_byte : ℕ → Bool
is_plain_byte b = not ((b == 124) || (b == 59) || (b == 34))

-- whole lines: nothing, or a text that ends with a line feed
abbrev pub AreWholeLines : List ℕ → Type 0
AreWholeLines text = (text ≡ []) ⊎ ((front : List ℕ) × (text ≡ front ++ 10 ∷ []))

-- the name of a shared term: t and a decimal number, so that no word of the theories and no declared symbol is defined anew
abbrev pub IsTermName : List ℕ → Type 0
IsTermName w = (n : ℕ) × (w ≡ codes "t" ++ number_text n)

-- A script begins with its logic and ends with the check, declares these symbols, is well formed for the values of each reading, and is satisfied by exactly
-- those of the readings that make the question true. The address of the entry is no symbol. What it says by these words a solver reads too: its bytes are
-- plain, its commands whole lines between the first and the last, and what it defines has the names of terms.
pub record IsScript (p : Program) (layout : Layout) (k : ℕ) (kind : Question) (text : List ℕ) : Type 0 where
  pub points : List Point
  pub are_numbered : AreNumbered p k points
  pub middle : List ℕ
  pub text_is : text ≡ line (codes "(set-logic QF_ABV)") ++ middle ++ line (codes "(check-sat)")
  pub whole_lines : AreWholeLines middle
  pub plain : (b : ℕ) → Contains text b → is_plain_byte b ≡ true
  pub commands : Sexp
  pub commands_are : sexps_of text ≡ Some commands
  pub declares : (w : List ℕ) → Contains (declared_symbols commands) w ↔ Contains (symbols_of p layout points) w
  pub defines : (w : List ℕ) → Contains (defined_symbols commands) w → IsTermName w
  pub well_formed : (r : Reading) → IsReading r → is_some (commands_truth (values_of layout points r) commands) ≡ true
  pub means : (r : Reading) → IsReading r → r.state.pc ≡ p.entry → (commands_truth (values_of layout points r) commands ≡ Some true) ↔ IsTrue p k r kind

-- the answer that prints the script of a question, or names the budget that is exceeded
pub data IsScriptAnswer (p : Program) (layout : Layout) (b : Budget) (kind : Question) (a : Answer) : Type 0 where
  too_many_points : HasMore p b.unroll b.points →
      a ≡ record { status = 3; text = budget_text (codes "points") b.points; evidence = Count (b.points + 1) } → IsScriptAnswer p layout b kind a
  too_large : (price : ℕ) → (¬ HasMore p b.unroll b.points) → IsPrice p b.unroll price → b.size < price →
      a ≡ record { status = 3; text = budget_text (codes "size") b.size; evidence = Count price } → IsScriptAnswer p layout b kind a
  is_printed : (text : List ℕ) → IsWithin p b → IsScript p layout b.unroll kind text → a ≡ plain_answer 0 text → IsScriptAnswer p layout b kind a
