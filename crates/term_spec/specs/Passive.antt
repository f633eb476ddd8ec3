-- Passive programs: terms that say where the walk of a reading goes. Each place has a bit that says whether it is met, and, while it is handled, terms for
-- what is carried to it.
use Rattle.std.specs.Prelude.{ℕ, ◌≡◌, ◌≤◌, ◌<◌, ◌↔◌, Bool, true, List, length, slice_index}
use Rattle.word_spec.specs.Words.{bit}
use Rattle.bilv_spec.specs.Questions.{Reading, IsReading}
use Rattle.call_spec.specs.Calls.{Question, EntryQuestion, FailQuestion, TurnQuestion}
use Rattle.term_spec.specs.Terms.{TermReading, TermNode, HasWidth, HasMemory, term_value, term_word}
use Rattle.walk_spec.specs.Unrolled.{Carried, UnrolledProgram, ExitsLeadLater}
use Rattle.walk_spec.specs.Sweep.{Held, held, swept}
use Rattle.term_spec.specs.WalkQuestions.{MeetsLines, IsTrueButBytes, term_reading, point_room, AreTermsWithin}

-- terms for registers, by their places in the program's list, for flags, and for the memory
pub record Names : Type 0 where
  pub registers : List ℕ
  pub flags : List ℕ
  pub memory : ℕ

-- the terms have the widths of what they name
pub record AreNames (u : UnrolledProgram) (nodes : List TermNode) (names : Names) : Type 0 where
  pub registers : length names.registers ≡ length u.registers
  pub flags : length names.flags ≡ u.flags
  pub words : (i : ℕ) → i < length u.registers → HasWidth nodes 32 (slice_index names.registers i)
  pub bits : (f : ℕ) → f < u.flags → HasWidth nodes 1 (slice_index names.flags f)
  pub memory : HasMemory nodes names.memory

-- under a reading the terms have the values of what is carried
pub record Denotes (u : UnrolledProgram) (nodes : List TermNode) (x : TermReading) (names : Names) (c : Carried) : Type 0 where
  pub registers : (i : ℕ) → i < length u.registers → term_word x nodes (slice_index names.registers i) ≡ c.regs (slice_index u.registers i)
  pub flags : (f : ℕ) → f < u.flags → term_word x nodes (slice_index names.flags f) ≡ c.flags f
  pub memory : (term_value x nodes names.memory).bytes ≡ c.mem

-- a bit has the value of a test
abbrev pub Tells : List TermNode → TermReading → (place : ℕ) → Bool → Type 0
Tells nodes x t b = term_word x nodes t ≡ bit b

-- A passive program: a bit for each place that is met, and one each for an event and for one backward transfer too many. The entry condition is no part of
-- it: a question makes that in nodes of its own, so that constants which the condition gives can be put into its copy of these nodes, and nothing is paid for
-- twice.
pub record Passive : Type 0 where
  pub nodes : List TermNode
  pub met : List ℕ
  pub fails : ℕ
  pub turns : ℕ

-- what holds under every reading that begins at the entry
abbrev pub UnderAll : UnrolledProgram → (Reading → Type 0) → Type 0
UnderAll u Claim = (r : Reading) → IsReading r → r.state.pc ≡ u.entry → Claim r

-- where the place is met, the terms have the values of what is carried to it
abbrev pub DenotesMet : UnrolledProgram → List TermNode → Held → Reading → Names → (place : ℕ) → Type 0
DenotesMet u nodes h r names i = h.met i ≡ true → Denotes u nodes (term_reading u r) names (h.carried i)

-- After the first places: under every reading the terms are what is held then. The terms of what is carried are asked of places that are still to be handled,
-- and count only where the place is met.
pub record Shows (u : UnrolledProgram) (handled : ℕ) (nodes : List TermNode) (met : List ℕ) (names : ℕ → Names) (fails turns : ℕ) : Type 0 where
  pub count : length met ≡ length u.points
  pub bits : (i : ℕ) → i < length u.points → HasWidth nodes 1 (slice_index met i)
  pub fails_bit : HasWidth nodes 1 fails
  pub turns_bit : HasWidth nodes 1 turns
  pub forms : (i : ℕ) → handled ≤ i → i < length u.points → AreNames u nodes (names i)
  pub mets : UnderAll u (λ r. (i : ℕ) → i < length u.points → Tells nodes (term_reading u r) (slice_index met i) ((held u r handled).met i))
  pub carries : UnderAll u (λ r. (i : ℕ) → handled ≤ i → i < length u.points → DenotesMet u nodes (held u r handled) r (names i) i)
  pub failing : UnderAll u (λ r. Tells nodes (term_reading u r) fails ((held u r handled).fails))
  pub turning : UnderAll u (λ r. Tells nodes (term_reading u r) turns ((held u r handled).turns))

-- What a passive program is: terms over the unrolled program, within what the price counts of its points, which under every reading tell whether the walk
-- meets a place, ends in an event, and makes one backward transfer too many. Every reading is meant, of whichever entry condition.
pub record IsPassive (u : UnrolledProgram) (q : Passive) : Type 0 where
  pub terms : AreTermsWithin u (point_room u) q.nodes
  pub count : length q.met ≡ length u.points
  pub bits : (i : ℕ) → i < length u.points → HasWidth q.nodes 1 (slice_index q.met i)
  pub fails_bit : HasWidth q.nodes 1 q.fails
  pub turns_bit : HasWidth q.nodes 1 q.turns
  pub mets : UnderAll u (λ r. (i : ℕ) → i < length u.points → Tells q.nodes (term_reading u r) (slice_index q.met i) ((swept u r).met i))
  pub failing : UnderAll u (λ r. Tells q.nodes (term_reading u r) q.fails (swept u r).fails)
  pub turning : UnderAll u (λ r. Tells q.nodes (term_reading u r) q.turns (swept u r).turns)

-- the walk ends as the question asks, by what is held in the end
abbrev pub ends_held : Question → Held → Bool
ends_held EntryQuestion h = true
ends_held FailQuestion h = h.fails
ends_held TurnQuestion h = h.turns

-- By what is held a question is true, but for the bytes of the file, exactly where the entry condition is met and the walk ends as it asks.
abbrev pub HeldAnswers : Type 0
HeldAnswers =
    (u : UnrolledProgram) → 0 < length u.points → ExitsLeadLater u → (r : Reading) (question : Question) →
    IsTrueButBytes u r question ↔ (MeetsLines u r.state × (ends_held question (swept u r) ≡ true))
