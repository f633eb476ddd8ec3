-- What is carried to a place, as terms.
use Rattle.std.specs.Prelude.{ℕ, ◌≡◌, ◌<◌, true, false, List, Option, Some, None, length}
use Rattle.term_spec.specs.Terms.{TermNode}
use Rattle.walk_spec.specs.Unrolled.{UnrolledProgram}
use Rattle.walk_spec.specs.Sweep.{held}
use Rattle.term_spec.specs.Passive.{AreNames, Denotes, UnderAll}
use Rattle.term_spec.specs.WalkQuestions.{term_reading}
use Rattle.frame_spec.specs.FrameWalk as frames
use Rattle.frame_terms.specs.PassiveFrames as parts
use Rattle.frame_terms.specs.PassiveFrames.{inputs_of, part_reading}
use Rattle.term_names.specs.declared.names.Names.{Names}
use Rattle.term_names.specs.Views.{AreFor, names_of}
use Rattle.frame_spec.specs.Frames.{Content}
use Rattle.low_memory.specs.LowWalks.{low_content}
use Rattle.passify.specs.Likes.{HasNoSteps}
use Rattle.passify.specs.Plain.{carried}

-- The terms are for the program's registers and flags. Under every reading under which the walk comes to the place they denote what it carries there.
pub record CarriesTo (u : UnrolledProgram) (place : ℕ) (nodes : List TermNode) (n : Names) : Type 0 where
  pub form : AreFor u n
  pub names : AreNames u nodes (names_of n)
  pub denotes : UnderAll u (λ r. (held u r place).met place ≡ true → Denotes u nodes (term_reading u r) (names_of n) ((held u r place).carried place))

-- terms of what is carried to the place; where there are none, no walk comes to it
abbrev pub AreCarriedTo : UnrolledProgram → (place : ℕ) → List TermNode → Option Names → Type 0
AreCarriedTo u place nodes None = UnderAll u (λ r. (held u r place).met place ≡ false)
AreCarriedTo u place nodes (Some n) = CarriesTo u place nodes n

-- and so there are for each place of the program
abbrev pub HaveStates : UnrolledProgram → List TermNode → Type 0
HaveStates u nodes = (i : ℕ) → i < length u.points → (names : Option Names) × AreCarriedTo u i nodes names

-- The terms are for the frame's registers and flags. Under every reading under which a walk comes to the place they denote what it carries there; behind a
-- contract step but for memory that no machine sees.
pub record CarriesIn (u : frames.UnrolledProgram) (place : ℕ) (nodes : List TermNode) (n : Names) : Type 0 where
  pub form : AreFor (inputs_of u) n
  pub names : AreNames (inputs_of u) nodes (names_of n)
  pub denotes : parts.UnderAll u (λ r. (frames.held u r place).met place ≡ true →
      (c : Content) × (low_content c ≡ low_content ((frames.held u r place).carried place)) × (HasNoSteps u → c ≡ (frames.held u r place).carried place)
      × Denotes (inputs_of u) nodes (part_reading u r) (names_of n) (carried c))

-- terms of what a walk of the frame carries to the place; where there are none, no walk comes to it
abbrev pub AreCarriedIn : frames.UnrolledProgram → (place : ℕ) → List TermNode → Option Names → Type 0
AreCarriedIn u place nodes None = parts.UnderAll u (λ r. (frames.held u r place).met place ≡ false)
AreCarriedIn u place nodes (Some n) = CarriesIn u place nodes n
