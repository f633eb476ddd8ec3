-- What the command that replays a difference answers: the text of two states, and what the two runs come to.
use Rattle.std.specs.Prelude.{ℕ, ◌+◌, ◌-◌, ◌^◌, Bool, true, false, ◌==◌, ◌&&◌, nat_lt, if◌then◌else◌, List, [], ◌∷◌, ◌++◌, Option, Some, None, codes, length, map, take, drop}
use Rattle.std.specs.Str.{bytes_eq}
use Rattle.machine_spec.specs.Machine.{is_place}
use Rattle.word_spec.specs.State.{State, Written}
use Rattle.bilv_spec.specs.Run.{Program, Run, Going, Exited, Failed, Turned, Step, Exits, Stops, Arrives, run, step}
use Rattle.machine_spec.specs.Endings.{Start, FetchFails, FailsBy}
use Rattle.bilv_spec.specs.Points.{is_known_at}
use Rattle.bilv_spec.specs.EntryFaults.{false_require}
use Rattle.bilv_spec.specs.Reports.{Found, found, found_words, turns_within}
use Rattle.machine_spec.specs.StateText.{StateFault, StateLineFault, StateRegisterFault, StateLine, NamedLine, EndLine, line_of, last_step, Told, StateIs, StateRefused, told_of}
use Rattle.word_spec.specs.Texts.{at_most, line, joined, spaced, number_text, decimal_word, split_lines, words_in}
use Rattle.bilv_spec.specs.Answers.{start_in}
use Rattle.clause_spec.specs.Checks.{text_limit}
use Rattle.bilv_spec.specs.Replays.{state_fault_words}
use Rattle.pair_spec.specs.Links.{Link, unlinked_line, differing_line}
use Rattle.call_spec.specs.Calls.{plain_answer, Answer}
use Rattle.pair_spec.specs.Equals.{Side, differs_words}

-- the named difference: a line of the links, and the steps of the exits
pub record NamedDifference : Type 0 where
  pub line : ℕ
  pub first : ℕ
  pub second : ℕ

-- its words; the number of a line has 64 bits, and a step is at most the last that a text names
abbrev pub named_numbers : Option ℕ → Option ℕ → Option ℕ → Option NamedDifference
named_numbers (Some n) (Some i) (Some j) = Some (record { line = n; first = i; second = j })
named_numbers n i j = None

abbrev pub difference_of_words : List (List ℕ) → Option NamedDifference
difference_of_words (d ∷ n ∷ s ∷ i ∷ j ∷ []) =
    if bytes_eq d (codes "differs") && bytes_eq s (codes "steps")
    then named_numbers (at_most (2 ^ 64 - 1) (decimal_word n)) (at_most last_step (decimal_word i)) (at_most last_step (decimal_word j)) else None
difference_of_words other = None

-- the lines up to the first that is the end, that one included, and the lines after them
abbrev pub is_end : Option StateLine → Bool
is_end (Some EndLine) = true
is_end other = false

abbrev pub block_length : List (Option StateLine) → ℕ
block_length [] = 0
block_length (l ∷ rest) = if is_end l then 1 else 1 + block_length rest

-- some ending, which stands for the first line of a block
abbrev pub some_ending : Option StateLine
some_ending = Some (NamedLine (FailsBy FetchFails 0 0))

-- what the two blocks of a text say: two starts, or the first refused line with its least fault
pub data TwoTold : Type 0 where
  TwoStates : Written → Written → TwoTold
  TwoRefused : ℕ → StateFault → TwoTold

-- what a block says, whose lines stand after so many others, of which the last is taken for its ending
abbrev pub shifted : (before : ℕ) → ℕ → ℕ
shifted before n = before + n - 1

abbrev pub second_told : (before : ℕ) → Written → Told → TwoTold
second_told before x (StateIs t) = TwoStates x t.start
second_told before x (StateRefused n f) = TwoRefused (shifted before n) f

abbrev pub first_told : Told → (Written → TwoTold) → TwoTold
first_told (StateIs t) next = next t.start
first_told (StateRefused n f) next = TwoRefused n f

-- the blocks after the first line
abbrev pub blocks_told : (a b : Side) → List (List ℕ) → TwoTold
blocks_told a b texts =
    let count = block_length (map (line_of a.layout) texts) in
    first_told (told_of a.layout (is_known_at a.program) (some_ending ∷ map (line_of a.layout) (take count texts)))
    (λ x. second_told (1 + count) x (told_of b.layout (is_known_at b.program) (some_ending ∷ map (line_of b.layout) (drop count texts))))

-- ---- the runs

-- the state in which a run exits by its next step
abbrev pub exit_by_step : Step → Option State
exit_by_step (Exits s) = Some s
exit_by_step (Stops e) = None
exit_by_step (Arrives c) = None

abbrev pub exit_of_run : Program → Start → Run → Option State
exit_of_run p start (Going turns n c) = exit_by_step (step p start.state c (start.choices n))
exit_of_run p start (Exited at n) = None
exit_of_run p start (Failed e at n) = None
exit_of_run p start (Turned at n) = None

-- the state in which the run from a start exits by the step of a number, without a bound on backward transfers
abbrev pub exit_at : Program → Start → (number : ℕ) → Option State
exit_at p start n = exit_of_run p start (run p (n + 1) start n)

-- what the run of a side is found to come to within the named step
abbrev pub found_in : Program → Start → (number : ℕ) → Found
found_in p start n = found p None start n

abbrev pub side_end : (word : List ℕ) → Program → Start → (number : ℕ) → List ℕ
side_end word p start n = word ++ codes " " ++ joined (found_words (turns_within n None) (found_in p start n))

-- the text where something else is found
abbrev pub found_text : NamedDifference → (ending : List ℕ) → List ℕ
found_text d ending = line (codes "replay: named " ++ joined (differs_words d.line d.first d.second) ++ codes ", found " ++ ending)

-- the answer by the first line on which the exits differ
abbrev pub by_line : NamedDifference → Option ℕ → Answer
by_line d None = plain_answer 9 (found_text d (codes "equal"))
by_line d (Some m) =
    if m == d.line then plain_answer 0 (line (codes "replayed " ++ joined (differs_words d.line d.first d.second)))
    else plain_answer 9 (found_text d (joined (differs_words m d.first d.second)))

-- the answer by the exits of both
abbrev pub by_exits : (a b : Program) → List Link → NamedDifference → (x y : Start) → Option State → Option State → Answer
by_exits a b links d x y None other = plain_answer 9 (found_text d (side_end (codes "first") a x d.first))
by_exits a b links d x y (Some s) None = plain_answer 9 (found_text d (side_end (codes "second") b y d.second))
by_exits a b links d x y (Some s) (Some t) = by_line d (differing_line links s t)

-- ---- the entry states

abbrev pub by_links : (a b : Program) → List Link → NamedDifference → (x y : Start) → Option ℕ → Answer
by_links a b links d x y (Some n) = plain_answer 9 (line (codes "state: links" ++ spaced (number_text n ∷ [])))
by_links a b links d x y None = by_exits a b links d x y (exit_at a x d.first) (exit_at b y d.second)

abbrev pub by_require : (word : List ℕ) → Option ℕ → Answer → Answer
by_require word (Some n) next = plain_answer 9 (line (codes "state: " ++ word ++ codes " require" ++ spaced (number_text n ∷ [])))
by_require word None next = next

abbrev pub by_state : (word : List ℕ) → Program → State → Answer → Answer
by_state word p s next =
    if is_place p.machine.narrow (s.regs p.machine.link) then by_require word (false_require p s) next
    else plain_answer 9 (line (codes "state: " ++ word ++ codes " link"))

abbrev pub by_starts : (a b : Side) → List Link → NamedDifference → (x y : Start) → Answer
by_starts a b links d x y =
    by_state (codes "first") a.program x.state (by_state (codes "second") b.program y.state
    (by_links a.program b.program links d x y (unlinked_line links x.state y.state)))

-- ---- the text

-- the text is refused at a line
abbrev pub refused_at : ℕ → StateFault → Answer
refused_at n f = plain_answer 9 (line (codes "state: line" ++ spaced (number_text n ∷ state_fault_words f ∷ [])))

-- the answer to what the two blocks say, by what they are refused for
abbrev pub by_told : (a b : Side) → List Link → NamedDifference → TwoTold → Answer
by_told a b links d (TwoRefused n f) = refused_at n f
by_told a b links d (TwoStates x y) = by_starts a b links d (start_in a.program a.layout x) (start_in b.program b.layout y)

abbrev pub by_first : (a b : Side) → List Link → List (List ℕ) → Option NamedDifference → Answer
by_first a b links texts None = refused_at 1 StateLineFault
by_first a b links texts (Some d) = by_told a b links d (blocks_told a b texts)

-- a text without a line is refused as one that ends before its registers
abbrev pub by_texts : (a b : Side) → List Link → List (List ℕ) → Answer
by_texts a b links [] = refused_at 1 StateRegisterFault
by_texts a b links (t ∷ texts) = by_first a b links texts (difference_of_words (words_in t))

-- the answer to a report over two programs and their links
abbrev pub differ_answer : (a b : Side) → List Link → List ℕ → Answer
differ_answer a b links text =
    if nat_lt text_limit (length text) then plain_answer 9 (line (codes "state: TooLarge")) else by_texts a b links (split_lines text)
