-- Steps as the code has them, as definitions see them.
use Rattle.std.specs.Prelude.{ℕ, ◌≡◌, List, [], ◌∷◌, Option, ◌==◌, length, map, if◌then◌else◌}
use Rattle.word_spec.specs.RowFiles.{from_to}
use Rattle.word_spec.specs.State.{State}
use Rattle.machine_spec.specs.StateText.{Layout}
use Rattle.trace_spec.specs.Seen as trace
use Rattle.seen_step.specs.declared.looks.Glance.{Glance}
use Rattle.seen_step.specs.declared.step.Change.{Change}
use Rattle.seen_step.specs.declared.step.SeenStep.{SeenStep}
use Rattle.seen_step.specs.declared.step.StepKind.{StepKind}
use Rattle.seen_step.specs.declared.step.StepKind.TheVariants as kind
use Rattle.seen_step.specs.declared.values.Values.{Values}

-- a kind
abbrev pub kind_of : StepKind → trace.StepKind
kind_of kind.Row = trace.OfRow
kind_of kind.Contract = trace.OfContract
kind_of kind.Arrival = trace.OfArrival

-- a change
abbrev pub change_of : Change → trace.Change
change_of c = record { place = c.place; old = c.old; new = c.new }

-- a step, and steps
abbrev pub seen_of : SeenStep → trace.SeenStep
seen_of s = record {
  number = s.number;
  kind = kind_of s.kind;
  at = s.at;
  to = s.to;
  depth = s.depth;
  later = s.later;
  stored = s.stored;
  regs = map change_of s.regs.items;
  flags = map change_of s.flags.items;
  bytes = map change_of s.bytes.items;
}

-- the places that have another value later, by their values
abbrev pub changed : (places old new : List ℕ) → List trace.Change
changed [] old new = []
changed (a ∷ places) [] new = []
changed (a ∷ places) (v ∷ old) [] = []
changed (a ∷ places) (v ∷ old) (w ∷ new) =
    if v == w then changed places old new else record { place = a; old = v; new = w } ∷ changed places old new

-- the values of a state, with its bytes at some places
pub record IsValues (form : Layout) (places : List ℕ) (s : State) (v : Values) : Type 0 where
  pub regs : v.regs.items ≡ map s.regs (from_to form.first (length form.registers))
  pub flags : v.flags.items ≡ map s.flags (from_to 0 (length form.flags))
  pub bytes : v.bytes.items ≡ map s.mem places

-- a step before it is made
pub record IsGlance (form : Layout) (number : ℕ) (kind : trace.StepKind) (s : State) (depth : ℕ) (stored : Option (ℕ × ℕ)) (places : List ℕ)
    (g : Glance) : Type 0 where
  pub number_is : g.number ≡ number
  pub kind_is : kind_of g.kind ≡ kind
  pub at_is : g.at ≡ s.pc
  pub depth_is : g.depth ≡ depth
  pub stored_is : g.stored ≡ stored
  pub places_are : g.places.items ≡ places
  pub values_are : IsValues form places s g.values

-- it holds as many values as there are registers and flags of a form, and as there are places
pub record IsLooked (form : Layout) (g : Glance) : Type 0 where
  pub regs : length g.values.regs.items ≡ length form.registers
  pub flags : length g.values.flags.items ≡ length form.flags
  pub bytes : length g.values.bytes.items ≡ length g.places.items
