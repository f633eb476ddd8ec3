-- What values of the inputs of a question of a frame give.
use Rattle.std.specs.Prelude.{ℕ, ◌≡◌, true, List, ◌≤◌, ◌<◌, ◌+◌, ◌^◌, length, slice_index}
use Rattle.clause_spec.specs.Clauses.{valuation}
use Rattle.question_form.specs.FrameQuestions.{heads_of_question, is_of_heads}
use Rattle.mem_cells.specs.FrameViews.{frame_cells_of, frame_of_cells}
use Rattle.bit_blast.specs.Laid.{AreFramePlaces}
use Rattle.bit_blast.specs.Steps.{choice_at}
use Rattle.frame_start.specs.declared.evaluated.Evaluated.{Evaluated}
use Rattle.frame_start.specs.Files.{UnderValues}
use Rattle.frame_start.specs.Inputs.{HasInputs}
use Rattle.frame_start.specs.Reads.{HaveReads}
use Rattle.frame_start.specs.Changes.{AreOthers}
use Rattle.frame_start.specs.Met.{IsOfPart}
use Rattle.frame_start.specs.declared.parts.Parts.{Parts}
use Rattle.start_value.specs.Starts.{written_of}
use Rattle.term_dag.specs.declared.values.Reading.{Reading}

-- The data are those of the values: the places of the inputs, the inputs of the entry's part, the choices of the points, and the base reads with their bytes.
pub record IsEvaluated (e : Evaluated) : Type 0 where
  pub placed : AreFramePlaces (frame_of_cells e.celled.now) (heads_of_question e.celled.now.question.now) (frame_cells_of e.celled.now) e.places
  pub entry : HasInputs e.places e.values.now 0 (length e.celled.now.addresses.items) e.entry
  pub fill_entry : e.entry.fill ≡ 0
  pub read_count : length e.reads.gifts.items ≡ length e.celled.now.question.now.passive.now.unrolled.now.points.items
  pub few_points : length e.celled.now.question.now.passive.now.unrolled.now.points.items + 2 < 2 ^ 32
  pub few_addresses : length e.celled.now.addresses.items < 2 ^ 32
  pub each : (i : ℕ) → i < length e.places.drawn.items → slice_index e.entry.choices.items i ≡ choice_at e.places (valuation e.values.now) i
  pub count : length e.entry.choices.items ≡ length e.places.drawn.items
  pub few : (i : ℕ) → slice_index e.entry.choices.items i ≤ 3
  pub reads : UnderValues e.celled.now e.values.now (λ x. HaveReads (frame_of_cells e.celled.now) (frame_cells_of e.celled.now) (is_of_heads e.celled.now.question.now) x e.reads)

-- the data are those of the parts besides the entry's as they are written: of the head's where the question speaks of head states, and of gifts
pub record ArePartReadings (e : Evaluated) (parts : Parts) (others : List Reading) : Type 0 where
  pub head : Reading
  pub of_head : is_of_heads e.celled.now.question.now ≡ true → IsOfPart e.celled.now e.places e.values.now 1 (written_of parts.head) head
  pub others_are : AreOthers (frame_of_cells e.celled.now) e.places e.values.now (length e.celled.now.addresses.items)
      (length e.celled.now.question.now.passive.now.unrolled.now.points.items) head parts.gifts.items others
