-- What values mean for a side, by a passive program of its unrolled program.
use Rattle.std.proofs.Common.{◌≡◌, refl, sym, ap, subst, ◌∙◌, ℕ, ◌-◌, ◌<◌, ◌≤◌, List, Bool, arith}
use Rattle.std.specs.Prelude.{◌↔◌, Contains, length}
use Rattle.std.specs.Global.{Vec}
use Rattle.clause_spec.specs.Clauses.{valuation}
use Rattle.term_spec.specs.Cells.{AreFormed, Cells}
use Rattle.term_spec.specs.ClauseForm.{IsBroken, IsStartOf, reading}
use Rattle.walk_spec.specs.Unrolled.{UnrolledProgram}
use Rattle.walk_laws.proofs.StartReadings.{start_breaks_none}
use Rattle.frame_terms.specs.FrameCells as frames
use Rattle.frame_terms.specs.HeadlessTerms.{as_cells}
use Rattle.start_value.specs.Starts.{written_of}
use Rattle.start_value.specs.declared.start.Start.{Start}
use Rattle.question_form.specs.FrameQuestions.{heads_of_question, is_of_heads}
use Rattle.question_form.specs.Views.{unrolled_of}
use Rattle.question_form.specs.declared.questions.Passive.{Passive}
use Rattle.mem_cells.specs.FrameViews.{frame_cells_of, frame_of_cells}
use Rattle.mem_cells.specs.Views.{cells_of, program_of_cells}
use Rattle.mem_cells.specs.declared.cells.Celled.{Celled}
use Rattle.frame_start.specs.Files as files
use Rattle.frame_start.specs.Files.{ForSomeValues}
use Rattle.frame_start.specs.Segments.{IsMeaning}
use Rattle.frame_start.specs.declared.meaning.Meaning.{Meaning}
use Rattle.frame_start.specs.declared.meaning.Meaning.TheVariants as meaning
use Rattle.frame_start.specs.declared.meaning.Segments.{Segments}
use Rattle.pair_form.specs.Views.{AreOfProgram}
use Rattle.pair_spec.specs.ExitPlaces.{before_step}
use Rattle.verdict.specs.Rounds.{IsDecidable, entry_shown}
use Rattle.verdict.proofs.Grounding.{count_points}
use Rattle.pair_verdict.specs.PairRounds.{AreBroken, AreOne, AreValues, IsMeant, IsShown, broken_in}
use Rattle.pair_verdict.proofs.CellsOfFrame.{broken_bytes, formed_frame, one_frame, one_segment, shown_start}

-- values of cells, by a passive program of their program
module _ (c k : Celled) (values : List Bool) (q : Passive) (h : AreValues c values q) (of : AreOfProgram c) (is : k.question.now.passive.now ≡ q)
    (cells : cells_of k ≡ cells_of c) (framed : frame_cells_of k ≡ frame_cells_of c) where
  same_program : program_of_cells k ≡ program_of_cells c
  same_program = ap (λ (z : Passive). unrolled_of z.unrolled.now) is ∙ sym h.same

  decidable : IsDecidable k.question.now.passive.now
  decidable = subst IsDecidable (sym is) h.decidable

  flat : frame_cells_of k ≡ as_cells (cells_of k)
  flat = framed ∙ of.flat ∙ ap as_cells (sym cells)

  to : (P : UnrolledProgram → Cells → Type 0) → P (program_of_cells k) (cells_of k) → P (program_of_cells c) (cells_of c)
  to P x = subst (λ (u : UnrolledProgram). P u (cells_of c)) same_program (subst (λ (z : Cells). P (program_of_cells k) z) cells x)

  from : (P : UnrolledProgram → Cells → Type 0) → P (program_of_cells c) (cells_of c) → P (program_of_cells k) (cells_of k)
  from P x = subst (λ (z : Cells). P (program_of_cells k) z) (sym cells) (subst (λ (u : UnrolledProgram). P u (cells_of c)) (sym same_program) x)

  formed : AreFormed (program_of_cells k) (cells_of k)
  formed = from AreFormed h.formed

  formed_so : frames.AreFormed (frame_of_cells k) (heads_of_question k.question.now) (frame_cells_of k)
  formed_so = formed_frame k decidable flat formed

  one_so : ForSomeValues k values (files.AreOne (is_of_heads k.question.now) (frame_cells_of k))
  one_so = one_frame k decidable flat values (from (λ u z. AreOne z (reading u z (valuation values))) h.one)

  meant : (m : Meaning) → IsMeaning k values m → IsMeant c values m
  meant (meaning.Shown s) shown = (
    to (λ u z. IsStartOf u z (valuation values) (entry_shown s)) (shown_start k decidable flat values s shown formed),
    one_segment k decidable flat values s shown,
  )
  meant (meaning.Broken list) broken = (
    record {
      rise = broken.0.rise;
      broken = λ a. to (λ u z. Contains list.items a ↔ IsBroken u z (reading u z (valuation values)) a)
          (broken_bytes k decidable flat values list.items broken.0 a);
    },
    broken.1,
  )

-- cells of a question with another passive program
abbrev over : Celled → Passive → Celled
over c q = record c {
  question = record c.question { now = record c.question.now { passive = record c.question.now.passive { now = q } } };
}

-- so they have the form by which they can be read, and what they mean is what the cells' values mean
module _ (c : Celled) (values : List Bool) (q : Passive) (h : AreValues c values q) (of : AreOfProgram c) where
  pub formed_by : frames.AreFormed (frame_of_cells (over c q)) (heads_of_question (over c q).question.now) (frame_cells_of c)
  formed_by = formed_so c (over c q) values q h of refl refl refl

  pub one_by : ForSomeValues (over c q) values (files.AreOne (is_of_heads (over c q).question.now) (frame_cells_of c))
  one_by = one_so c (over c q) values q h of refl refl refl

  pub meant_by : (m : Meaning) (k : Celled) → IsMeaning k values m → k.question.now.passive.now ≡ q → cells_of k ≡ cells_of c →
      frame_cells_of k ≡ frame_cells_of c → IsMeant c values m
  meant_by m k shown is cells framed = meant c k values q h of is cells framed m shown

-- what values mean, in one of its forms
module _ (c : Celled) (values : List Bool) (q : Passive) (h : AreValues c values q) where
  points : length q.unrolled.now.points.items ≡ length (program_of_cells c).points
  points = sym (count_points q.unrolled.now q.unrolled.now.points.items) ∙ ap (λ (u : UnrolledProgram). length u.points) (sym h.same)

  pub some_points : 1 ≤ length q.unrolled.now.points.items
  some_points =
      let some = h.decidable.askable.walkable.some in let count = count_points q.unrolled.now q.unrolled.now.points.items in omega (arith, some, count)

  -- the start of what is shown
  pub shown_by : (m : Meaning) (s : Segments) → IsMeant c values m → m ≡ meaning.Shown s → (x : Start) →
      written_of x ≡ before_step (length q.unrolled.now.points.items - 1) (entry_shown s) → IsShown c values x
  shown_by m s is same x e =
      (entry_shown s, (subst (IsMeant c values) same is).0, e ∙ ap (λ n. before_step (n - 1) (entry_shown s)) points)

  -- the bytes that are broken
  pub broken_by : (m : Meaning) → IsMeant c values m → (items : List ℕ) → items ≡ broken_in m → AreBroken c values items
  broken_by (meaning.Shown s) is items e =
      subst (AreBroken c values) (sym e)
      (record {
        rise = λ i j l n. absurd (omega (arith, n));
        broken = λ a. (
          (λ has. absurd (let l = has.1 in omega (arith, l))),
          (λ b. absurd (start_breaks_none (program_of_cells c) (cells_of c) h.formed (valuation values) (entry_shown s) is.0 a b)),
        );
      })
  broken_by (meaning.Broken list) is items e = subst (AreBroken c values) (sym e) is.0

  pub some_broken : (m : Meaning) (list : Vec ℕ) → IsMeant c values m → m ≡ meaning.Broken list → 0 < length list.items
  some_broken m list is same = (subst (IsMeant c values) same is).1
