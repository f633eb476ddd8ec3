-- What values show of the segments of a frame.
use Rattle.std.specs.Prelude.{ℕ, ◌≡◌, ◌<◌, Bool, List, [], Some, length, map, slice_index_or}
use Rattle.std.specs.Global.{Vec}
use Rattle.walk_spec.specs.Unrolled.{byte_of_runs}
use Rattle.frame_spec.specs.FrameWalk.{Gift, UnrolledProgram, root_at}
use Rattle.word_spec.specs.State.{Written}
use Rattle.frame_spec.specs.FrameReports.{WrittenCall}
use Rattle.frame_terms.specs.FrameStarts.{AreCalls, AreChoices, AreParts, IsPart, IsWrittenAnchor, WrittenParts, call_of}
use Rattle.frame_terms.specs.PassiveFrames.{gift_part, IsGiftAt, IsPassive, IsWalkable}
use Rattle.known_bytes.specs.Runs.{AreRuns}
use Rattle.start_value.specs.declared.start.Start.{Start}
use Rattle.start_value.specs.Starts.{layout_of, written_of}
use Rattle.question_form.specs.declared.questions.Passive.{Passive}
use Rattle.question_form.specs.Forms.{AreRootsFormed}
use Rattle.question_form.specs.FrameQuestions.{frame_passive_of, is_of_heads}
use Rattle.question_form.specs.FrameViews.{anchor_at, frame_unrolled_of}
use Rattle.unroller.specs.RootPoints.{BeginAtOwn, IsEntryFirst}
use Rattle.mem_cells.specs.declared.cells.Celled.{Celled}
use Rattle.mem_cells.specs.FrameViews.{frame_cells_of, frame_of_cells}
use Rattle.frame_start.specs.declared.meaning.Meaning.{Meaning}
use Rattle.frame_start.specs.declared.meaning.Meaning.TheVariants.{Broken, Shown}
use Rattle.frame_start.specs.declared.meaning.Segments.{Segments}
use Rattle.frame_start.specs.declared.parts.Parts.{Parts}
use Rattle.frame_start.specs.Changes.{gift_in}
use Rattle.frame_start.specs.Files.{AreBroken, UnderValues}

-- a passive program of a frame of which questions can be asked
pub record IsFrameAskable (p : Passive) : Type 0 where
  pub walkable : IsWalkable (frame_unrolled_of p.unrolled.now)
  pub bytes : (a b : ℕ) → byte_of_runs (frame_unrolled_of p.unrolled.now).known a ≡ Some b → b < 256
  pub runs : AreRuns p.unrolled.now.known.items
  pub roots : AreRootsFormed p.unrolled.now
  pub own : BeginAtOwn p.unrolled.now
  pub first : IsEntryFirst p.unrolled.now
  pub passive : IsPassive (frame_unrolled_of p.unrolled.now) p.unrolled.now.heads (frame_passive_of p)

-- the parts as they are written
abbrev pub written_parts : Parts → WrittenParts
written_parts p = record { entry = written_of p.entry; head = written_of p.head; gift = gift_in p.gifts.items }

-- the gift of a place is that of values, and those of the first places are
abbrev pub IsGiftOf : Celled → (values : List Bool) → (place : ℕ) → Written → Type 0
IsGiftOf c values i w =
    (g : Gift) → IsGiftAt (frame_of_cells c) i g → UnderValues c values (λ x. IsPart (frame_of_cells c) (frame_cells_of c) x (gift_part i) w)

pub record AreGiftsOf (c : Celled) (values : List Bool) (n : ℕ) (gifts : List Start) : Type 0 where
  pub count : length gifts ≡ n
  pub each : (i : ℕ) → i < n → IsGiftOf c values i (gift_in gifts i)

-- the parts are those of values
abbrev pub ArePartsOf : Celled → (values : List Bool) → Parts → Type 0
ArePartsOf c values p =
    UnderValues c values (λ x. AreParts (frame_of_cells c) (is_of_heads c.question.now) (frame_cells_of c) x (written_parts p))

-- what is listed for the root of a number, by the steps of its segment: choices, and the places of contract steps
abbrev pub choices_at : List (Vec (ℕ × ℕ)) → ℕ → List (ℕ × ℕ)
choices_at lists i = slice_index_or (map (λ v. v.items) lists) i []

abbrev pub calls_by : UnrolledProgram → WrittenParts → List (ℕ × ℕ) → List WrittenCall
calls_by u p steps = map (λ z. call_of u p z.0 z.1) steps

abbrev pub calls_at : UnrolledProgram → Parts → List (Vec (ℕ × ℕ)) → ℕ → List WrittenCall
calls_at u p lists i = calls_by u (written_parts p) (choices_at lists i)

-- the choices of the segment of the root of a number, from the parts of values, if it can be shown
abbrev pub AreChoicesOf : Celled → (values : List Bool) → Parts → (root : ℕ) → List (ℕ × ℕ) → Type 0
AreChoicesOf c values p i choices =
    IsWrittenAnchor (is_of_heads c.question.now) (anchor_at c.question.now.passive.now.unrolled.now i) →
    UnderValues c values (λ x. AreChoices (frame_of_cells c) (is_of_heads c.question.now) (layout_of c.question.now.passive.now.unrolled.now.form) x
    (written_parts p) (root_at (frame_of_cells c) i) choices)

-- so its contract steps
abbrev pub AreCallsOf : Celled → (values : List Bool) → Parts → (root : ℕ) → List (ℕ × ℕ) → Type 0
AreCallsOf c values p i steps =
    IsWrittenAnchor (is_of_heads c.question.now) (anchor_at c.question.now.passive.now.unrolled.now i) →
    UnderValues c values (λ x. AreCalls (frame_of_cells c) (is_of_heads c.question.now) (layout_of c.question.now.passive.now.unrolled.now.form) x
    (written_parts p) (root_at (frame_of_cells c) i) (calls_by (frame_of_cells c) (written_parts p) steps))

-- those of the first n roots
pub record AreEach (Is : ℕ → List (ℕ × ℕ) → Type 0) (n : ℕ) (lists : List (Vec (ℕ × ℕ))) : Type 0 where
  pub count : length lists ≡ n
  pub each : (i : ℕ) → i < n → Is i (choices_at lists i)

abbrev pub AreChoicesTo : Celled → (values : List Bool) → Parts → ℕ → List (Vec (ℕ × ℕ)) → Type 0
AreChoicesTo c values p n lists = AreEach (AreChoicesOf c values p) n lists

abbrev pub AreCallsTo : Celled → (values : List Bool) → Parts → ℕ → List (Vec (ℕ × ℕ)) → Type 0
AreCallsTo c values p n lists = AreEach (AreCallsOf c values p) n lists

-- the parts, the choices and the contract steps are those of values
pub record AreSegmentsOf (c : Celled) (values : List Bool) (s : Segments) : Type 0 where
  pub parts : ArePartsOf c values s.parts
  pub choices : AreChoicesTo c values s.parts (length c.question.now.passive.now.unrolled.now.roots.items) s.choices.items
  pub calls : AreCallsTo c values s.parts (length c.question.now.passive.now.unrolled.now.roots.items) s.calls.items

-- satisfying values mean segments that are theirs, or bytes of the file that they have not
abbrev pub IsMeaning : Celled → (values : List Bool) → Meaning → Type 0
IsMeaning c values (Shown s) = AreSegmentsOf c values s
IsMeaning c values (Broken list) = AreBroken c values list.items × (0 < length list.items)
