-- The exit of a program whose last place it is: whether it is left there, and words of the state, as terms.
use Rattle.std.specs.Prelude.{ℕ, ◌≡◌, ◌≤◌, ◌+◌, ◌-◌, ◌*◌, Bool, true, false, ◌==◌, ◌&&◌, if◌then◌else◌, List, length, map, sum_by}
use Rattle.std.specs.List.{list_any, flat_map}
use Rattle.word_spec.specs.State.{State}
use Rattle.bilv_spec.specs.Notes.{Expr}
use Rattle.bilv_spec.specs.Points.{line_price, bytes_loaded}
use Rattle.bilv_spec.specs.Questions.{Reading}
use Rattle.term_spec.specs.Terms.{TermReading, InRange, TermNode, AreTyped, HasWidth, term_word, term_gates, term_loads, term_stores, term_joins}
use Rattle.walk_spec.specs.Unrolled.{Aim, OnTo, Outward, OverLast, ToEvent, PointExit, FalseAssert, Always, Raising, WritingKept, Unaligned, Along, UnrolledProgram, state_at}
use Rattle.walk_spec.specs.Sweep.{Held, held}
use Rattle.term_spec.specs.Passive.{UnderAll, Tells}
use Rattle.walk_spec.specs.Prices.{variables_of, point_price, point_loads, point_bound, stores_of, edges_of, line_steps}
use Rattle.term_spec.specs.WalkQuestions.{IsNamedBelow, AreNamedBelow, term_reading}
use Rattle.term_dag.specs.Made.{Grew, InputsFrom}
use Rattle.pair_spec.specs.Links.{Link}
use Rattle.pair_spec.specs.Pairs.{same_bytes}
use Rattle.pair_spec.specs.PairTerms.{HaveWords, HaveWidths, all_exit_words, exit_widths}
use Rattle.weakest_pre.specs.Entry.{all_hold}

-- the last place
abbrev pub last_of : UnrolledProgram → ℕ
last_of u = length u.points - 1

-- what is held before the last place
abbrev pub held_last : UnrolledProgram → Reading → Held
held_last u r = held u r (last_of u)

-- the state there, at the value that the link register has at entry
abbrev pub last_state : UnrolledProgram → Reading → State
last_state u r = state_at ((held_last u r).carried (last_of u)) (r.state.regs u.link)

-- the lines that are ensured
abbrev pub ensured_lines : UnrolledProgram → List Expr
ensured_lines u = map (λ l. l.says) u.ensures

-- the last place is met, and the ensured lines are true there
abbrev pub leaves_last : UnrolledProgram → Reading → Bool
leaves_last u r = (held_last u r).met (last_of u) && all_hold u.endian (ensured_lines u) (last_state u r) r.state

-- an aim is that of a place, and an exit leads to it
abbrev pub is_onto : ℕ → Aim → Bool
is_onto n (OnTo i) = i == n
is_onto n Outward = false
is_onto n OverLast = false
is_onto n (ToEvent e) = false

abbrev pub leads_to : ℕ → PointExit → Bool
leads_to n (Along falls jumps to aim) = is_onto n aim
leads_to n (FalseAssert line e) = false
leads_to n (Always e) = false
leads_to n Raising = false
leads_to n WritingKept = false
leads_to n Unaligned = false

-- some exit leads to a place
abbrev pub is_led_to : UnrolledProgram → ℕ → Bool
is_led_to u n = list_any (λ q. list_any (leads_to n) q.exits) u.points

-- a number, where some exit leads to the last place
abbrev pub where_led : UnrolledProgram → ℕ → ℕ
where_led u n = if is_led_to u (last_of u) then n else 0

-- The nodes are within what the points may cost and, where some exit leads to the last place, the ensured lines and a byte load for each byte that is to be the
-- same.
pub record AreWithinExit (u : UnrolledProgram) (links : List Link) (nodes : List TermNode) : Type 0 where
  pub typed : AreTyped nodes
  pub named : AreNamedBelow u 0 nodes
  pub gates : term_gates nodes ≤ point_price u + where_led u (sum_by line_price (ensured_lines u))
  pub loads : term_loads nodes ≤ point_loads u + where_led u (sum_by bytes_loaded (ensured_lines u) + same_bytes links)
  pub stores : term_stores nodes ≤ stores_of u
  pub joins : term_joins nodes ≤ edges_of u + 2 * stores_of u
  pub few : length nodes ≤ point_bound u + where_led u (4 * line_steps (ensured_lines u)) + (variables_of u + 4 + length links + 3 * same_bytes links)

-- A bit tells whether the last place is met with the ensured lines true, and where it is so, terms are the words of the links at the exit.
pub record TellsLeaving (u : UnrolledProgram) (second : Bool) (links : List Link) (nodes : List TermNode) (met : ℕ) (words : List ℕ) : Type 0 where
  pub bit_of : HasWidth nodes 1 met
  pub tells : UnderAll u (λ r. Tells nodes (term_reading u r) met (leaves_last u r))
  pub widths : HaveWidths nodes words (flat_map exit_widths links)
  pub values : UnderAll u (λ r. leaves_last u r ≡ true →
      HaveWords (term_reading u r) nodes words (map (λ f. f (last_state u r)) (all_exit_words second links)))

-- nodes that were added for the exit, within so many gates, byte loads and nodes, and what they tell
pub record IsExit (u : UnrolledProgram) (second : Bool) (links : List Link) (old new : List TermNode) (gates loads nodes : ℕ) (met : ℕ) (words : List ℕ) :
    Type 0 where
  pub grew : Grew old new gates loads 0 0 nodes
  pub inputs : InputsFrom old new (IsNamedBelow u 0)
  pub typed : AreTyped new
  pub tells : TellsLeaving u second links new met words

-- a bit that is 0, and constants of some widths, within so many nodes
pub record IsBlank (old new : List TermNode) (wide : List ℕ) (nodes met : ℕ) (words : List ℕ) : Type 0 where
  pub grew : Grew old new 0 0 0 0 nodes
  pub inputs : InputsFrom old new (λ m. ⊥)
  pub typed : AreTyped new
  pub bit_of : HasWidth new 1 met
  pub zero : (x : TermReading) → InRange x → term_word x new met ≡ 0
  pub widths : HaveWidths new words wide

-- a bit tells whether the last place is met
abbrev pub TellsMet : UnrolledProgram → List TermNode → (met : ℕ) → Type 0
TellsMet u nodes t = HasWidth nodes 1 t × UnderAll u (λ r. Tells nodes (term_reading u r) t ((held_last u r).met (last_of u)))
