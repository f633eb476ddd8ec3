-- The cells of a question, step by step.
use Rattle.std.proofs.Common.{◌≡◌, inl, inr, ℕ, ◌+◌, ◌-◌, ◌*◌, ◌<◌, ◌≤◌, Bool, true, List, Some, length, ap, sym, ◌∙◌, subst, arith}
use Rattle.term_spec.specs.Terms.{TermNode, HasWidth}
use Rattle.walk_spec.specs.Unrolled.{byte_of_runs}
use Rattle.term_spec.specs.WalkQuestions.{QuestionTerm}
use Rattle.frame_laws.specs.FramePrices.{known_of}
use Rattle.question_form.specs.declared.questions.Question.{Question}
use Rattle.question_form.specs.FrameQuestions.{frame_of_question}
use Rattle.term_dag.specs.declared.nodes.Term.{Term}
use Rattle.mem_cells.specs.declared.building.Build.{Build}
use Rattle.mem_cells.specs.declared.cells.Agreement.{Agreement}
use Rattle.mem_cells.specs.declared.cells.AskedByte.{AskedByte}
use Rattle.mem_cells.specs.declared.file_bytes.FileByte.{FileByte}
use Rattle.mem_cells.specs.declared.pieces.StoredByte.{StoredByte}
use Rattle.mem_cells.specs.declared.pieces.Piece.{Piece}
use Rattle.mem_cells.specs.Pieces.{link}
use Rattle.mem_cells.specs.Parts.{AreParts, CountsGifts, KeepsParts}
use Rattle.mem_cells.specs.Building.{read_places, Grown}
use Rattle.mem_cells.specs.Ties.{AreTies, Before}
use Rattle.mem_cells.specs.Asked.{AreFileBytes, AreAsked, AskedOf}
use Rattle.mem_cells.specs.Lowering.{source_of, AreLowered}
use Rattle.mem_cells.proofs.Growing.{grown_on}
use Rattle.mem_cells.proofs.Agreements.{ties_kept, same_reads}
use Rattle.mem_cells.proofs.Told.{of_kept, IsMadeOf}

all_within : (n i j : ℕ) → Before n 0 i j → (i < n) × (j < n)
all_within n i j (k, inl h) = (omega (arith, k, h), h)
all_within n i j (k, inr h) = absurd (omega (arith, h.1))

pub made_of : (q : Question) (t : QuestionTerm) (of_head : Bool) (asks : ℕ →
    Bool) (mid tied b : Build) (words : List Term) (numbers : List ℕ) (stored : List StoredByte) (pieces : List Piece) (parts : List (List ℕ))
    (ts : List Agreement)
    (xs : List AskedByte) (file : List FileByte) (root : Term) → HasWidth t.nodes 1 t.root →
    ((a c : ℕ) → byte_of_runs (frame_of_question q).known a ≡ Some c → c < 256) → CountsGifts (frame_of_question q) →
    mid.question.now ≡ q → source_of mid ≡ t.nodes → AreLowered (source_of mid) (length t.nodes) mid words numbers stored pieces →
    length parts ≡ length (read_places mid) → AreParts mid parts →
    Grown mid tied (16 * (length (read_places mid) * (length (read_places mid) - 1))) 0 → KeepsParts mid tied →
    AreTies tied parts ts (Before (length (read_places tied)) 0) →
    AreFileBytes (frame_of_question q).known (λ a. asks a ≡ true) (of_kept (frame_of_question q) of_head) file → length file ≤ known_of (frame_of_question q) →
    Grown tied b (32 * (length (read_places tied) * length file)) 0 → KeepsParts tied b →
    AreAsked b parts file xs (AskedOf (length (read_places b)) file) → root.0 ≡ link words t.root →
    IsMadeOf q t of_head asks mid b words numbers stored pieces parts ts xs file root
made_of q t of_head asks mid tied b words numbers stored pieces parts ts xs file root width bytes gifts eq es lowered count are g keeps agree given few k keeps_on
    says is =
    let r = same_reads mid tied (16 * (length (read_places mid) * (length (read_places mid) - 1))) g in
    let s = same_reads tied b (32 * (length (read_places tied) * length file)) k in
    record {
      width = width;
      bytes = bytes;
      gifts = gifts;
      question = ap (λ z. z.now) (k.question ∙ g.question) ∙ eq;
      lowered = subst (λ (z : List TermNode). AreLowered z (length t.nodes) mid words numbers stored pieces) es lowered;
      count = count;
      noted = are;
      grown = subst (λ (z : List ℕ). Grown mid b (16 * (length (read_places mid) * (length (read_places mid) - 1)) + 32 * (length z * length file)) 0) r
          (grown_on mid tied b (16 * (length (read_places mid) * (length (read_places mid) - 1))) 0 (32 * (length (read_places tied) * length file)) 0 g k);
      kept = λ p j h. keeps p j (keeps_on p j h);
      agree = subst (λ (z : List ℕ). AreTies b parts ts (Before (length z) 0)) (sym s)
          (ties_kept tied b (32 * (length (read_places tied) * length file)) 0 parts ts (Before (length (read_places tied)) 0) g.built k s
          (all_within (length (read_places tied))) agree);
      given = given;
      few = few;
      says = says;
      is = is;
    }
