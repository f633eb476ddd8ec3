-- What is kept of the points while they are handled in their order.
use Rattle.std.specs.Prelude.{ℕ, ◌≡◌, ◌≤◌, ◌<◌, ◌+◌, ◌*◌, Bool, true, false, List, Option, Some, length, slice_get, slice_index_or}
use Rattle.machine_spec.specs.Endings.{Event}
use Rattle.term_spec.specs.Terms.{TermReading, InRange, TermNode, AreTyped, HasWidth, term_word}
use Rattle.walk_spec.specs.Unrolled.{Carried, Walk, WalkIsAt, WalkFails}
use Rattle.walk_spec.specs.Sweep.{Held, held_if, hand}
use Rattle.term_spec.specs.Passive.{AreNames, Denotes, Tells}
use Rattle.term_dag.specs.declared.nodes.Term.{Term}
use Rattle.term_dag.specs.Made.{Grew, InputsFrom}
use Rattle.term_names.specs.declared.names.Names.{Names}
use Rattle.term_names.specs.Views.{form_of, names_of}
use Rattle.term_names.specs.Chosen.{HaveSameForm, at_entry}
use Rattle.passify.specs.declared.sweep.Sweep.{Sweep}

-- the term at a place
abbrev pub term_at : List Term → ℕ → ℕ
term_at ts i = (slice_index_or ts i (record { 0 = 0 })).0

-- the terms are for what a state of a form has
pub record AreTermsOf (form : Names) (nodes : List TermNode) (n : Names) : Type 0 where
  pub same : HaveSameForm form n
  pub names : AreNames (form_of n) nodes (names_of n)

-- What is kept are terms: those of the entry state and its address, a bit for each place, and terms for what is carried to some.
pub record AreWell (nodes : List TermNode) (s : Sweep) : Type 0 where
  pub typed : AreTyped nodes
  pub entry : AreNames (form_of s.entry) nodes (names_of s.entry)
  pub denotes : (x : TermReading) → InRange x → Denotes (form_of s.entry) nodes x (names_of s.entry) (at_entry x)
  pub pc : HasWidth nodes 32 s.pc.0
  pub pc_is : (x : TermReading) → term_word x nodes s.pc.0 ≡ s.at
  pub count : length s.states.items ≡ length s.met.items
  pub bits : (i : ℕ) → i < length s.met.items → HasWidth nodes 1 (term_at s.met.items i)
  pub states : (i : ℕ) (n : Names) → slice_get s.states.items i ≡ Some (Some n) → AreTermsOf s.entry nodes n
  pub fails : HasWidth nodes 1 s.fails.0
  pub steps : HasWidth nodes 1 s.steps.0
  pub turns : HasWidth nodes 1 s.turns.0

-- there are terms, and under the reading they are what is carried
pub record AreCarried (nodes : List TermNode) (x : TermReading) (state : Option (Option Names)) (c : Carried) : Type 0 where
  pub names : Names
  pub is : state ≡ Some (Some names)
  pub denotes : Denotes (form_of names) nodes x (names_of names) c

-- Under the reading the terms are what is held: each place's bit, and from a place on what is carried to the places that are met.
pub record ShowsAt (nodes : List TermNode) (s : Sweep) (from : ℕ) (x : TermReading) (h : Held) : Type 0 where
  pub mets : (i : ℕ) → i < length s.met.items → Tells nodes x (term_at s.met.items i) (h.met i)
  pub carries : (i : ℕ) → from ≤ i → i < length s.met.items → h.met i ≡ true → AreCarried nodes x (slice_get s.states.items i) (h.carried i)
  pub failing : Tells nodes x s.fails.0 h.fails
  pub turning : Tells nodes x s.turns.0 h.turns

-- how many terms a state has
abbrev pub terms_of : Names → ℕ
terms_of n = length n.registers.items + length n.flags.items + 1

-- how many bits its registers and flags have
abbrev pub bits_of : Names → ℕ
bits_of n = 32 * length n.registers.items + length n.flags.items

-- the same entry state and what may be written by it, as many places, and no event of a segment from a head
pub record AreLike (s z : Sweep) : Type 0 where
  pub entry : z.entry ≡ s.entry
  pub pc : z.pc ≡ s.pc
  pub at : z.at ≡ s.at
  pub places : length z.met.items ≡ length s.met.items
  pub steps : z.steps ≡ s.steps
  pub own : z.own ≡ s.own

-- A step keeps what is kept as terms of the same places, by new terms within so many gates, byte loads, byte stores, joins and nodes, and no other inputs than
-- some.
pub record Steps (old new : List TermNode) (s z : Sweep) (gates loads stores joins nodes : ℕ) (more : TermNode → Type 0) : Type 0 where
  pub grew : Grew old new gates loads stores joins nodes
  pub inputs : InputsFrom old new more
  pub well : AreWell new z
  pub like : AreLike s z

-- Where a bit is 1, a walk is handed on.
abbrev pub Hands : (old new : List TermNode) → (s z : Sweep) → (hit : ℕ) → (ℕ → TermReading → Walk → Bool → Type 0) → Type 0
Hands old new s z hit Is =
    (x : TermReading) → InRange x → (from : ℕ) (w : Walk) (b : Bool) → Is from x w b → Tells old x hit b → (h : Held) → ShowsAt old s from x h →
    ShowsAt new z from x (held_if b (hand w h) h)

-- the walk has an event
abbrev pub HasEvent : Walk → Type 0
HasEvent w = (e : Event) × (w ≡ WalkFails e)

-- where the bit is 1 the walk comes to a later place, with what terms denote
abbrev pub ComesTo : (nodes : List TermNode) → Names → (place from : ℕ) → TermReading → Walk → Bool → Type 0
ComesTo nodes n place from x w b = (c : Carried) × (w ≡ WalkIsAt place c) × (from ≤ place) × (b ≡ true → Denotes (form_of n) nodes x (names_of n) c)

-- Terms are those of one of two states, by two bits: where the first is 1 they denote what the first names do; where it is 0 and the second 1, what the others
-- do, if there are others.
pub record IsJoined (form : Names) (old new : List TermNode) (hit met : ℕ) (names : Names) (state : Option Names) (n : Names) : Type 0 where
  pub grew : Grew old new (bits_of names) 0 0 1 (2 * terms_of names)
  pub inputs : InputsFrom old new (λ m. ⊥)
  pub terms : AreTermsOf form new n
  pub first : (x : TermReading) → InRange x → Tells old x hit true → (c : Carried) → Denotes (form_of names) old x (names_of names) c →
      Denotes (form_of n) new x (names_of n) c
  pub second : (x : TermReading) → InRange x → Tells old x hit false → Tells old x met true → (c : Carried) → AreCarried old x (Some state) c →
      Denotes (form_of n) new x (names_of n) c
