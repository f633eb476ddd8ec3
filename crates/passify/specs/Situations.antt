-- The exits of a point under a reading.
use Rattle.std.specs.Prelude.{ℕ, ◌≡◌, ◌≤◌, ◌+◌, ◌*◌, ◌&&◌, Bool, not, List, ◌∷◌, ◌++◌, map, filter, sum_by}
use Rattle.word_spec.specs.Memory.{endian}
use Rattle.word_spec.specs.State.{State}
use Rattle.machine_spec.specs.Endings.{JumpFails}
use Rattle.bilv_spec.specs.Notes.{Expr, Number, NoteLine, value, is_true}
use Rattle.bilv_spec.specs.Run.{false_line}
use Rattle.bilv_spec.specs.Points.{line_price, bytes_loaded}
use Rattle.term_spec.specs.Terms.{TermReading, InRange, TermNode, HasWidth, term_word}
use Rattle.walk_spec.specs.Unrolled.{WalkFails, carried_of, state_at}
use Rattle.walk_spec.specs.Sweep.{Held, held_if, hand}
use Rattle.walk_spec.specs.Prices.{line_steps}
use Rattle.frame_spec.specs.Frames.{GivesFails}
use Rattle.frame_spec.specs.FrameWalk as frames
use Rattle.frame_spec.specs.FrameWalk.{Check, UnrolledProgram, Leaving, PointExit, first_aim, walk_to, out_by}
use Rattle.question_form.specs.declared.unrolled.Unrolled.{Unrolled}
use Rattle.question_form.specs.FrameViews.{check_at}
use Rattle.term_names.specs.Chosen.{at_entry}
use Rattle.note_terms.specs.declared.Now.{Now}
use Rattle.note_terms.specs.Lines.{IsStateOf}
use Rattle.passify.specs.declared.sweep.Sweep.{Sweep}
use Rattle.passify.specs.Plain.{plain}
use Rattle.passify.specs.Sweeps.{Steps}
use Rattle.passify.specs.Exits.{IsPending, Narrows}

-- What decides which exit of a point is taken, and where that leads: the frame, the states at entry, at the point and after it, the stored bytes, how the point
-- is left, and what a contract step has to meet.
pub record Situation : Type 0 where
  pub program : UnrolledProgram
  pub entry : State
  pub now : State
  pub next : State
  pub stored : List ℕ
  pub leaving : Leaving
  pub gives : List NoteLine

-- without the frame
abbrev pub deciding : Situation → frames.Situation
deciding S = record { entry = S.entry; now = S.now; next = S.next; stored = S.stored; leaving = S.leaving; gives = S.gives }

-- what is held after the first of the exits that is taken
abbrev pub goes : Situation → List PointExit → Held → Held
goes S xs h = hand (plain S.program S.entry (walk_to S.program S.entry S.next (first_aim S.program (deciding S) xs))) h

-- the terms are a state of the situation, and its entry state is that of the reading
pub record IsThere (nodes : List TermNode) (s : Sweep) (big : Bool) (n : Now) (state : Situation → State) (x : TermReading) (S : Situation) : Type 0 where
  pub endian : S.program.endian ≡ endian big
  pub entry : S.entry ≡ state_at (at_entry x) s.at
  pub is : IsStateOf nodes x n (carried_of (state S)) (state S).pc

-- Exits are tried: from what is held in the end by all of them to what is by those that are left. Where none was taken before, the terms have to fit the
-- situation.
abbrev pub TriesAll : (old new : List TermNode) → (s z : Sweep) → (rest left : ℕ) → (TermReading → Situation → Type 0) →
    (all others : Situation → List PointExit → Held → Held) → Type 0
TriesAll old new s z rest left Fits all others =
    (x : TermReading) → InRange x → (from : ℕ) (S : Situation) → (term_word x old rest ≡ 1 → Fits x S) → (before after : Held) (tail : List PointExit) →
    IsPending old s from x rest before after (all S tail before) → IsPending new z from x left before after (others S tail before)

-- terms within the price of some lines, but for others
pub record AreLines (old new : List TermNode) (s z : Sweep) (all others : List Expr) : Type 0 where
  pub gates : ℕ
  pub loads : ℕ
  pub nodes : ℕ
  pub steps : Steps old new s z gates loads 0 0 nodes (λ m. ⊥)
  pub few_gates : gates + sum_by line_price others ≤ sum_by line_price all
  pub few_loads : loads + sum_by bytes_loaded others ≤ sum_by bytes_loaded all
  pub few_nodes : nodes + 4 * line_steps others ≤ 4 * line_steps all

-- Lines are tried one by one in a state: some are left.
pub record LinesTried (old new : List TermNode) (s z : Sweep) (rest left : ℕ) (big : Bool) (n : Now) (state : Situation → State) (all others : List Expr)
    (goes_all goes_others : Situation → List PointExit → Held → Held) : Type 0 where
  pub lines : AreLines old new s z all others
  pub bit : HasWidth new 1 left
  pub tries : TriesAll old new s z rest left (IsThere old s big n state) goes_all goes_others
  pub narrows : Narrows old new rest left (λ x q. Unit {0})

-- Lines are judged in a state, one after the other: the first that is false is an event.
pub record Judging : Type 0 where
  pub state : Situation → State
  pub goes : List Check → Situation → List PointExit → Held → Held
  pub by : (x : Check) (rest : List Check) (S : Situation) (tail : List PointExit) (h : Held) →
      goes (x ∷ rest) S tail h
      ≡ held_if (not (is_true (value S.program.endian x.says (state S) S.entry))) (hand (WalkFails JumpFails) h) (goes rest S tail h)

-- what lines say
abbrev pub said : List Check → List Expr
said checks = map (λ x. x.says) checks

-- Some of them are tried, wherever they are judged.
abbrev pub ChecksTried : (old new : List TermNode) → (s z : Sweep) → (rest left : ℕ) → (big : Bool) → Now → (all others : List Check) → Type 0
ChecksTried old new s z rest left big n all others =
    (J : Judging) → LinesTried old new s z rest left big n J.state (said all) (said others) (J.goes all) (J.goes others)

-- the assert lines of some entries of the lines by address, maybe without invariants
abbrev pub checks_of : Unrolled → (skips : Bool) → List (ℕ × ℕ) → List Check
checks_of u skips index = filter (λ x. not (skips && x.invariant)) (map (check_at u) index)

-- what is held in the end by the exits of lines, and others behind
abbrev pub goes_checks : List Check → Situation → List PointExit → Held → Held
goes_checks checks S tail h = goes S (map frames.FalseCheck checks ++ tail) h

-- what is held in the end where the frame is left, by lines, and by whether something changed that may not
abbrev pub goes_out_by : (Situation → Bool) → List NoteLine → Situation → List PointExit → Held → Held
goes_out_by changed lines S tail h =
    hand (plain S.program S.entry (out_by (false_line S.program.endian lines S.next S.entry) GivesFails (changed S))) h

-- no line
abbrev pub no_line : NoteLine
no_line = record { line = 0; says = Number 0 }
