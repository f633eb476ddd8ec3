-- What a list of statements has come to, as terms.
use Rattle.std.specs.Prelude.{ℕ, ◌≡◌, ◌≤◌, ◌+◌, ◌*◌, ◌↔◌, List, [], ◌++◌, Option, Some, None, sum_by, Contains}
use Rattle.word_spec.specs.Memory.{span}
use Rattle.machine_spec.specs.Bil.{Statements}
use Rattle.machine_spec.specs.BilCounts.{byte_loads, byte_stores, unknowns}
use Rattle.machine_spec.specs.BilMeaning.{Position, Ending, Ends, RaisesException, OutOfTurns, Wrong, execute}
use Rattle.machine_spec.specs.BilStores.{list_stored}
use Rattle.term_spec.specs.Terms.{TermReading, InRange, TermNode, ChoiceNode, HasWidth, term_word}
use Rattle.term_spec.specs.Passive.{AreNames}
use Rattle.term_dag.specs.Made.{Grew, InputsFrom}
use Rattle.term_names.specs.Views.{form_of, names_of}
use Rattle.term_names.specs.Choices.{differs}
use Rattle.term_names.specs.Chosen.{HaveSameForm, differing_bits, differing_memory, differing_terms}
use Rattle.bil_terms.specs.declared.run.Bits.{Bits}
use Rattle.bil_terms.specs.declared.run.Run.{Run}
use Rattle.bil_terms.specs.declared.stored.Stored.{Stored}
use Rattle.bil_terms.specs.Naming.{Holds}
use Rattle.bil_terms.specs.Gathered.{IsStore}
use Rattle.bil_terms.specs.Costs.{changed_bits, changes, list_gates, list_nodes, list_joins}

-- the terms have the widths of what they stand for
pub record IsRun (nodes : List TermNode) (r : Run) : Type 0 where
  pub names : AreNames (form_of r.names) nodes (names_of r.names)
  pub jumped : HasWidth nodes 1 r.jumped.0
  pub target : HasWidth nodes 32 r.target.0
  pub live : HasWidth nodes 1 r.live.0

-- the terms are the two words of 1 bit
pub record AreBits (nodes : List TermNode) (b : Bits) : Type 0 where
  pub zero_bit : HasWidth nodes 1 b.zero.0
  pub one_bit : HasWidth nodes 1 b.one.0
  pub zero : (x : TermReading) → term_word x nodes b.zero.0 ≡ 0
  pub one : (x : TermReading) → term_word x nodes b.one.0 ≡ 1

-- the terms are those of a jump that was made or not
abbrev pub Jumps : List TermNode → TermReading → (jumped target : ℕ) → Option ℕ → Type 0
Jumps nodes x j t None = term_word x nodes j ≡ 0
Jumps nodes x j t (Some a) = (term_word x nodes j ≡ 1) × (term_word x nodes t ≡ a)

-- under a reading the run comes by and stands at a position, at which no local has a value
pub record Stands (nodes : List TermNode) (x : TermReading) (r : Run) (p : Position) : Type 0 where
  pub live : term_word x nodes r.live.0 ≡ 1
  pub jump : Jumps nodes x r.jumped.0 r.target.0 p.jump
  pub holds : Holds nodes x r.names [] p.env

-- it comes to an end of a list
abbrev pub Comes : List TermNode → TermReading → Run → Ending → Type 0
Comes nodes x r (Ends p) = Stands nodes x r p
Comes nodes x r (RaisesException n p) = term_word x nodes r.live.0 ≡ 0
Comes nodes x r (OutOfTurns p) = ⊥
Comes nodes x r Wrong = ⊥

-- the byte at an address is stored, by what is stored under a guard that is 1
abbrev pub IsStoredBy : List TermNode → TermReading → List Stored → ℕ → Type 0
IsStoredBy nodes x stored a =
    (s : Stored) × Contains stored s × (term_word x nodes s.guard.0 ≡ 1) × Contains (span (term_word x nodes s.address.0) s.bytes) a

-- the bits of two runs that differ, but for the memory and whether a jump was made
abbrev pub bits_apart : Run → Run → ℕ
bits_apart r s = differing_bits r.names s.names + 32 * differs r.target.0 s.target.0 + differs r.live.0 s.live.0

-- how many of their terms differ
abbrev pub terms_apart : Run → Run → ℕ
terms_apart r s = differing_terms r.names s.names + differs r.target.0 s.target.0 + differs r.live.0 s.live.0

-- A list leads from a run to another: under each reading in range, where the run stands at a position before the list, it comes to the list's end, and stores
-- what the list stores; where it does not come by, it does not do so behind the list, and stores nothing.
pub record IsLed (old new : List TermNode) (place : ℕ) (r s : Run) (before after : List Stored) (list : Statements) : Type 0 where
  pub grew : Grew old new (list_gates list) (byte_loads list) (byte_stores list) (list_joins list) (list_nodes list)
  pub inputs : InputsFrom old new (λ m. (m ≡ ChoiceNode place) × (1 ≤ unknowns list))
  pub run : IsRun new s
  pub form : HaveSameForm r.names s.names
  pub bits : bits_apart r s ≤ changed_bits list
  pub terms : terms_apart r s ≤ changes list
  pub memory : differing_memory r.names s.names ≤ byte_stores list
  pub more : List Stored
  pub behind : after ≡ before ++ more
  pub stores : (t : Stored) → Contains more t → IsStore new t
  pub bytes : sum_by (λ t. t.bytes) more ≤ byte_stores list
  pub comes : (x : TermReading) → InRange x → (p : Position) → Stands old x r p → Comes new x s (execute list (x.choice place) p)
  pub passes : (x : TermReading) → InRange x → term_word x old r.live.0 ≡ 0 → term_word x new s.live.0 ≡ 0
  pub stored : (x : TermReading) → InRange x → (p : Position) → Stands old x r p → (a : ℕ) →
      Contains (list_stored list (x.choice place) p) a ↔ IsStoredBy new x more a
  pub silent : (x : TermReading) → InRange x → term_word x old r.live.0 ≡ 0 → (t : Stored) → Contains more t → term_word x new t.guard.0 ≡ 0
