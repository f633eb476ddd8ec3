-- Which points are met on the segment of a root.
use Rattle.std.specs.Prelude.{ℕ, zero, suc, ◌≡◌, ◌<◌, ◌==◌, ◌&&◌, Bool, true, false, if◌then◌else◌, List, [], ◌∷◌, ◌++◌, length, slice_index, slice_index_or}
use Rattle.word_spec.specs.State.{Written}
use Rattle.frame_spec.specs.Frames.{Content}
use Rattle.frame_spec.specs.FrameQuestions.{Reading}
use Rattle.frame_spec.specs.FrameWalk.{root_at}
use Rattle.frame_terms.specs.PassiveFrames.{part_reading}
use Rattle.frame_terms.specs.FrameStarts.{AreCalls, AreChoices, IsReadingOfParts, WrittenParts, part_memory, place_choice}
use Rattle.start_value.specs.Starts.{layout_of}
use Rattle.term_dag.specs.declared.nodes.Term.{Term}
use Rattle.term_dag.specs.declared.values.Reading as inputs
use Rattle.term_dag.specs.Readings.{AreWords, reading_of}
use Rattle.question_form.specs.declared.unrolled.Point.{Point}
use Rattle.question_form.specs.FrameQuestions.{is_of_heads}
use Rattle.question_form.specs.FrameViews.{is_contract}
use Rattle.unroller.specs.RootPoints.{no_point, root_of_point}
use Rattle.mem_cells.specs.declared.cells.Celled.{Celled}
use Rattle.mem_cells.specs.FrameViews.{frame_of_cells}
use Rattle.bit_blast.specs.declared.input_places.InputPlaces.{InputPlaces}
use Rattle.bit_blast.specs.Steps.{count_met, is_met_by}
use Rattle.frame_start.specs.Files.{UnderValues}
use Rattle.frame_start.specs.Inputs.{HasInputs}
use Rattle.frame_start.specs.declared.met.Met.{Met}
use Rattle.frame_start.specs.declared.parts.Parts.{Parts}
use Rattle.frame_start.specs.Segments.{written_parts}

-- the point at a place is of a root, and is met, by the words of terms
abbrev pub is_met_of : List Point → (root : ℕ) → List Term → List ℕ → (place : ℕ) → Bool
is_met_of points root met ws i = (root_of_point points i == root) && is_met_by met ws i

-- the point at a place makes a contract step
abbrev pub is_gift : List Point → (place : ℕ) → Bool
is_gift points i = is_contract (slice_index_or points i no_point).deed

-- the contract points that are met below a place, each behind its step
abbrev pub call_steps : (met gift : ℕ → Bool) → ℕ → List (ℕ × ℕ)
call_steps met gift zero = []
call_steps met gift (suc i) = if met i && gift i then call_steps met gift i ++ (count_met met i, i) ∷ [] else call_steps met gift i

-- what stands for the head part: the head part itself where the question speaks of head states, and else whatever data have
abbrev pub head_by : (of_head : Bool) → Reading → inputs.Reading → Content
head_by true r head = r.head
head_by false r head = record { regs = (reading_of head).regs 0; flags = (reading_of head).flags 0; mem = (reading_of head).mem 0 }

abbrev pub shown_reading : (of_head : Bool) → inputs.Reading → Reading → Reading
shown_reading of_head head r = record r { head = head_by of_head r head }

-- the words are those of the terms of the points, from the parts of values
abbrev pub HasMetWords : Celled → (values : List Bool) → WrittenParts → List ℕ → Type 0
HasMetWords c values p ws =
    (head : inputs.Reading) × UnderValues c values (λ x. (r : Reading) →
    IsReadingOfParts (frame_of_cells c) (is_of_heads c.question.now) (layout_of c.question.now.passive.now.unrolled.now.form) x p r →
    AreWords (part_reading (frame_of_cells c) (shown_reading (is_of_heads c.question.now) head r)) c.question.now.passive.now.dag ws)

-- the data have what a part is read under: its registers and flags, and the memory that is written
pub record IsOfPart (c : Celled) (p : InputPlaces) (values : List Bool) (part : ℕ) (w : Written) (r : inputs.Reading) : Type 0 where
  pub has : HasInputs p values part (length c.addresses.items) r
  pub memory : (a : ℕ) → (reading_of r).mem 0 a ≡ part_memory (frame_of_cells c) part w a

-- The points that are met from the parts of values, by words of terms, and the choices of all points by their places. Where no point draws or makes a contract
-- step there are no choices and no contract steps.
pub record IsMet (c : Celled) (values : List Bool) (p : Parts) (m : Met) : Type 0 where
  pub words : m.needed ≡ true → HasMetWords c values (written_parts p) m.words.items
  pub choices : m.needed ≡ true →
      UnderValues c values (λ x. (i : ℕ) → i < length (frame_of_cells c).points → slice_index m.choices.items i ≡ place_choice (frame_of_cells c) x i)
  pub no_choices : m.needed ≡ false → (n : ℕ) → UnderValues c values (λ x. AreChoices (frame_of_cells c) (is_of_heads c.question.now)
      (layout_of c.question.now.passive.now.unrolled.now.form) x (written_parts p) (root_at (frame_of_cells c) n) [])
  pub no_calls : m.needed ≡ false → (n : ℕ) → UnderValues c values (λ x. AreCalls (frame_of_cells c) (is_of_heads c.question.now)
      (layout_of c.question.now.passive.now.unrolled.now.form) x (written_parts p) (root_at (frame_of_cells c) n) [])
