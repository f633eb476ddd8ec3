-- What a list of statements leaves, as terms.
use Rattle.std.specs.Prelude.{ℕ, ◌≡◌, ◌≤◌, ◌+◌, ◌*◌, ◌↔◌, List, None, true, sum_by, Contains}
use Rattle.machine_spec.specs.Bil.{Statements, list_size}
use Rattle.machine_spec.specs.BilTyping.{IsWellTyped}
use Rattle.machine_spec.specs.BilCounts.{list_weight, byte_loads, byte_stores, memory_choices, chosen_stores, unknowns, has_no_loop, has_no_special, nesting, list_names_only}
use Rattle.machine_spec.specs.BilMeaning.{Stuck, Ending, Ends, RaisesException, OutOfTurns, Wrong, execute}
use Rattle.machine_spec.specs.BilStores.{list_stored}
use Rattle.machine_spec.specs.Simulation.{position}
use Rattle.term_spec.specs.Terms.{TermReading, InRange, TermNode, ChoiceNode, AreTyped, HasWidth, term_word}
use Rattle.walk_spec.specs.Unrolled.{UnrolledProgram, Carried, state_at}
use Rattle.walk_spec.specs.Unrolling.{is_variable_of}
use Rattle.term_spec.specs.Passive.{AreNames, Denotes}
use Rattle.term_dag.specs.Made.{Grew, InputsFrom}
use Rattle.term_names.specs.declared.names.Names.{Names}
use Rattle.term_names.specs.Views.{form_of, names_of}
use Rattle.term_names.specs.Chosen.{HaveSameForm}
use Rattle.bil_terms.specs.declared.left.Left.{Left}
use Rattle.bil_terms.specs.Gathered.{IsStore}
use Rattle.bil_terms.specs.Runs.{Jumps, IsStoredBy}

-- A list that becomes terms within its weight: well typed, without loops and specials, ifs at most two deep, no choice between memories and no store in a side
-- of a choice, over the variables of a program.
pub record CanBeLed (u : UnrolledProgram) (list : Statements) : Type 0 where
  pub typed : IsWellTyped list
  pub no_loop : has_no_loop list ≡ true
  pub no_special : has_no_special list ≡ true
  pub nests : nesting list ≤ 2
  pub picks : memory_choices list ≡ 0
  pub steady : chosen_stores list ≡ 0
  pub names : list_names_only list (is_variable_of u) ≡ true

-- under a reading the terms are what a list comes to: whether it jumped and where to, and what it left, or that it raised an exception
abbrev pub AreLeft : List TermNode → TermReading → Left → Ending → Type 0
AreLeft nodes x l (Ends p) =
    (term_word x nodes l.raised.0 ≡ 0) × Jumps nodes x l.jumped.0 l.target.0 p.jump
    × Denotes (form_of l.names) nodes x (names_of l.names) (record { regs = p.env.regs; flags = p.env.flags; mem = p.env.mem })
AreLeft nodes x l (RaisesException n p) = term_word x nodes l.raised.0 ≡ 1
AreLeft nodes x l (OutOfTurns p) = ⊥
AreLeft nodes x l Wrong = ⊥

-- What a list leaves: under each reading in range, from what the names denote, the terms are what the list comes to and stores. They are within the list's
-- weight, its loads and stores, and 4 for each of its nodes and 8 more.
pub record IsLeft (old new : List TermNode) (place : ℕ) (n : Names) (list : Statements) (l : Left) : Type 0 where
  pub grew : Grew old new (list_weight list) (byte_loads list) (byte_stores list) (2 * byte_stores list) (4 * list_size list + 8)
  pub inputs : InputsFrom old new (λ m. (m ≡ ChoiceNode place) × (1 ≤ unknowns list))
  pub typed : AreTyped new
  pub form : HaveSameForm n l.names
  pub names : AreNames (form_of l.names) new (names_of l.names)
  pub jumped : HasWidth new 1 l.jumped.0
  pub target : HasWidth new 32 l.target.0
  pub raised : HasWidth new 1 l.raised.0
  pub stores : (t : _) → Contains l.stored.items t → IsStore new t
  pub bytes : sum_by (λ t. t.bytes) l.stored.items ≤ byte_stores list
  pub leaves : (x : TermReading) → InRange x → (c : Carried) → Denotes (form_of n) old x (names_of n) c → (at : ℕ) →
      AreLeft new x l (execute list (x.choice place) (position (λ y w. Stuck) 0 None (state_at c at)))
  pub stored_bytes : (x : TermReading) → InRange x → (c : Carried) → Denotes (form_of n) old x (names_of n) c → (at a : ℕ) →
      Contains (list_stored list (x.choice place) (position (λ y w. Stuck) 0 None (state_at c at))) a ↔ IsStoredBy new x l.stored.items a
