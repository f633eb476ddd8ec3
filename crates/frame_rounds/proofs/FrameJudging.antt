-- What a round of a question of a frame answers.
use Rattle.std.proofs.Common.{◌≡◌, ap, sym, ◌∙◌, subst, ℕ, zero, suc, ◌<◌, ◌^◌, Bool, true, false, List, Some, None, length}
use Rattle.std.specs.Prelude.{if◌then◌else◌, Contains, slice_index}
use Rattle.clause_spec.specs.Clauses.{Satisfies, valuation}
use Rattle.clause_spec.specs.Empowering.{IsSpent}
use Rattle.clause_spec.specs.Refutation.{IsRefutation}
use Rattle.walk_spec.specs.Unrolled.{byte_of_runs, is_in}
use Rattle.frame_spec.specs.FrameWalk.{UnrolledProgram}
use Rattle.term_spec.specs.Terms.{TermReading, with_memories}
use Rattle.term_spec.specs.WalkQuestions.{is_asked}
use Rattle.walk_laws.proofs.CellValues.{words_fit}
use Rattle.frame_terms.specs.FrameCells.{Completes, IsRead, TellsCells, read_address}
use Rattle.frame_terms.specs.FrameClauseForm.{MakesTrue, TellsClauses}
use Rattle.frame_terms.specs.FrameStarts.{HasValues, IsBroken, part_byte}
use Rattle.frame_terms.specs.PassiveFrames.{TellsQuestion}
use Rattle.frame_terms.proofs.FrameValues.{memories_only}
use Rattle.frame_terms.proofs.PartStarts.{frame_broken_is_new}
use Rattle.frame_terms.proofs.PartValues.{frame_addresses_agree}
use Rattle.asked_bytes.specs.AskedBytes.{AreAdded, AreFurther}
use Rattle.asked_bytes.proofs.Adding.{any_contained}
use Rattle.cnf_form.specs.Views.{cnf_of, lines_of}
use Rattle.cnf_form.specs.declared.form.Cnf.{Cnf}
use Rattle.cnf_form.specs.declared.form.Log.{Log}
use Rattle.sat_core.specs.Answers.{IsAnswer}
use Rattle.sat_core.specs.declared.answer.Answer.{Answer}
use Rattle.question_form.specs.declared.questions.Question.{Question}
use Rattle.question_form.specs.declared.unrolled.Unrolled.{Unrolled}
use Rattle.question_form.specs.FrameQuestions.{frame_of_question, frame_question_of, heads_of_question, is_of_heads}
use Rattle.question_form.specs.Questions.{term_of}
use Rattle.mem_cells.specs.declared.cells.Celled.{Celled}
use Rattle.mem_cells.specs.FrameViews.{AreFrameCellsOf, frame_cells_of, frame_of_cells}
use Rattle.frame_start.specs.Files.{AreBroken, AreOne, ForSomeValues}
use Rattle.frame_start.specs.Segments.{IsFrameAskable}
use Rattle.frame_rounds.specs.FrameRounds.{AreJudged, IsRound}
use Rattle.frame_rounds.specs.declared.answers.FrameAnswered.TheVariants as answer
use Rattle.frame_rounds.specs.declared.rounds.Round.{Round}
use Rattle.frame_rounds.specs.declared.rounds.Round.TheVariants.{Answered, Broken}
use Rattle.frame_rounds.proofs.FrameAnswering.{none_true, refutes, spends, shows}

-- what the layers say of a round's cells
pub record AreLayers (added : List ℕ) (c : Celled) : Type 0 where
  pub askable : IsFrameAskable c.question.now.passive.now
  pub added_are : AreAdded (frame_of_cells c).known added
  pub term : TellsQuestion (frame_of_cells c) (heads_of_question c.question.now) (frame_question_of c.question.now) (term_of c.question.now)
  pub cells : TellsCells (frame_of_cells c) (heads_of_question c.question.now) (is_of_heads c.question.now) (term_of c.question.now)
      (is_asked added (frame_of_cells c).literals) (frame_cells_of c)

pub layers : (q : Question) (added : List ℕ) (c : Celled) → AreFrameCellsOf q added c → IsFrameAskable q.passive.now →
    AreAdded (frame_of_question q).known added →
    TellsQuestion (frame_of_question q) (heads_of_question q) (frame_question_of q) (term_of q) → AreLayers added c
layers q added c h askable are term = record {
  askable = subst (λ (z : Question). IsFrameAskable z.passive.now) (sym h.of) askable;
  added_are = subst (λ (z : Question). AreAdded (frame_of_question z).known added) (sym h.of) are;
  term = subst (λ (z : Question). TellsQuestion (frame_of_question z) (heads_of_question z) (frame_question_of z) (term_of z)) (sym h.of) term;
  cells = subst (λ (z : Question). TellsCells (frame_of_cells c) (heads_of_question z) (is_of_heads z) (term_of z)
      (is_asked added (frame_of_question z).literals) (frame_cells_of c)) (sym h.of) h.tells;
}

-- what holds of the question of the cells holds of the question
pub of_question : (q : Question) (added : List ℕ) (conflicts : ℕ) (c : Celled) (r : Round) → AreFrameCellsOf q added c →
    IsRound c.question.now added conflicts r → IsRound q added conflicts r
of_question q added conflicts c r h is = subst (λ (z : Question). IsRound z added conflicts r) h.of is

-- what an answer of the search says
pub said : (cnf : Cnf) (conflicts : ℕ) (a b : Answer) → IsAnswer (cnf_of cnf) conflicts a → a ≡ b → IsAnswer (cnf_of cnf) conflicts b
said cnf conflicts a b h is = subst (λ (z : Answer). IsAnswer (cnf_of cnf) conflicts z) is h

pub satisfied : (cnf : Cnf) (bits values : List Bool) → bits ≡ values → Satisfies (valuation values) (cnf_of cnf).clauses →
    Satisfies (valuation bits) (cnf_of cnf).clauses
satisfied cnf bits values same h = subst (λ (z : List Bool). Satisfies (valuation z) (cnf_of cnf).clauses) (sym same) h

-- a byte of the file that a part has is known
part_known : (u : UnrolledProgram) (part a n : ℕ) → part_byte u part a ≡ Some n → byte_of_runs u.known a ≡ Some n
part_known u zero a n e = e
part_known u (suc zero) a n e = by (is_in u.kept a) e
  where
    by : (b : Bool) → (if b then byte_of_runs u.known a else None) ≡ Some n → byte_of_runs u.known a ≡ Some n
    by true e = e
    by false e = absurd (cc)
part_known u (suc (suc i)) a n e = absurd (cc)

module _ (added : List ℕ) (conflicts : ℕ) (c : Celled) (cnf : Cnf) (h : AreLayers added c)
    (clauses : TellsClauses (frame_of_cells c) (heads_of_question c.question.now) (frame_cells_of c) (cnf_of cnf)) where
  abbrev un : Unrolled
  un = c.question.now.passive.now.unrolled.now

  pub round_refuted : (log : Log) → IsRefutation (cnf_of cnf).variables (cnf_of cnf).clauses (lines_of log) →
      IsRound c.question.now added conflicts (Answered (answer.Refuted (record { clauses = cnf; log = log })))
  round_refuted log refuted = (
    (λ f contracts k layout g.
        refutes un (frame_question_of c.question.now) added (term_of c.question.now) (frame_cells_of c) (cnf_of cnf) h.askable.walkable h.askable.roots
        h.askable.own h.askable.first h.askable.bytes h.added_are h.term h.cells clauses f contracts k layout g (lines_of log) refuted),
    (λ f contracts k layout g.
        none_true un (frame_question_of c.question.now) added (term_of c.question.now) (frame_cells_of c) (cnf_of cnf) h.askable.walkable h.askable.roots
        h.askable.own h.askable.first h.askable.bytes h.added_are h.term h.cells clauses f contracts k layout g (lines_of log) refuted),
  )

  pub round_spent : (log : Log) → IsSpent (cnf_of cnf).clauses conflicts (lines_of log) →
      IsRound c.question.now added conflicts (Answered (answer.Spent (record { clauses = cnf; log = log })))
  round_spent log spent = (
    (λ f contracts k layout g.
        spends un (frame_question_of c.question.now) added (term_of c.question.now) (frame_cells_of c) (cnf_of cnf) h.askable.walkable h.askable.roots
        h.askable.own h.askable.first h.askable.bytes h.added_are h.term h.cells clauses f contracts k layout g conflicts (lines_of log) spent),
    tt,
  )

  module _ (bits : List Bool) (sat : Satisfies (valuation bits) (cnf_of cnf).clauses) where
    makes : MakesTrue (frame_of_cells c) (heads_of_question c.question.now) (frame_cells_of c) (valuation bits)
    makes = clauses.extends.only (valuation bits) sat

    abbrev x : TermReading
    x = makes.reading

    has : HasValues (frame_of_cells c) (heads_of_question c.question.now) (frame_cells_of c) (valuation bits) x
    has = record { in_range = makes.in_range; bits = makes.bits }

    -- base reads of one address have one byte in satisfying values
    pub one_byte : ForSomeValues c bits (AreOne (is_of_heads c.question.now) (frame_cells_of c))
    one_byte = (x, has, λ p i j written a b e. given p i a ∙ ap (m.memories p) e ∙ sym (given p j b))
      where
        m : Completes (frame_of_cells c) (is_of_heads c.question.now) (is_asked added (frame_of_cells c).literals) (frame_cells_of c) x
        m = h.cells.complete x makes.in_range makes.allowed

        given : (p j : ℕ) → IsRead (frame_cells_of c) p j → x.base p j ≡ m.memories p (read_address (frame_cells_of c) x j)
        given p j inside =
            let l = (h.cells.formed.reads (record { part = p; address = j }) inside).1 in
            m.gives (record { part = p; address = j }) inside
            ∙ ap (m.memories p) (frame_addresses_agree (frame_of_cells c) (heads_of_question c.question.now) (frame_cells_of c) h.cells.formed
            (with_memories x m.memories) x j l (memories_only (frame_of_cells c) (heads_of_question c.question.now) x m.memories j))

    -- values that break bytes of the file break new ones
    pub further : (broken : List ℕ) → AreBroken c bits broken → 0 < length broken → AreFurther (frame_of_cells c).known added broken
    further broken is some = record {
      are = record { rise = is.rise; known = λ a inside. known_at a ((is.broken x has a).0 inside) };
      some = some;
      new = λ a inside old. was_asked a old ((is.broken x has a).0 inside);
    }
      where
        known_at : (a : ℕ) → IsBroken (frame_of_cells c) (is_of_heads c.question.now) (frame_cells_of c) x a →
            (a < 2 ^ 32) × ((b : ℕ) × (byte_of_runs (frame_of_cells c).known a ≡ Some b))
        known_at a (b, n, inside, written, at, e, other) = (
          subst (λ (z : ℕ). z < 2 ^ 32) at
              (words_fit (frame_cells_of c).nodes h.cells.formed.typed h.cells.formed.words x makes.in_range 32
              (slice_index (frame_cells_of c).addresses b.address) (h.cells.formed.addresses b.address (h.cells.formed.reads b inside).1)),
          (n, part_known (frame_of_cells c) b.part a n e),
        )

        was_asked : (a : ℕ) → Contains added a → IsBroken (frame_of_cells c) (is_of_heads c.question.now) (frame_cells_of c) x a → ⊥
        was_asked a old broken =
            let new = frame_broken_is_new (frame_of_cells c) (heads_of_question c.question.now) (is_of_heads c.question.now) (term_of c.question.now)
            (is_asked added (frame_of_cells c).literals) (frame_cells_of c) h.cells (cnf_of cnf) clauses (valuation bits) sat x has a broken in
            let asked = any_contained added a old in cc

    pub round_judged : (r : Round) → AreJudged c bits r → IsRound c.question.now added conflicts r
    round_judged (Answered (answer.Sat s)) is = (
      (λ f contracts k layout g.
          shows un (frame_question_of c.question.now) added (term_of c.question.now) (frame_cells_of c) (cnf_of cnf) h.askable.walkable h.askable.roots
          h.askable.own h.askable.first h.askable.bytes h.added_are h.term h.cells clauses f contracts k layout g (valuation bits) sat s is.choices.count
          is.parts (λ i l. is.choices.each i l) is.calls.count (λ i l. is.calls.each i l)),
      tt,
    )
    round_judged (Answered (answer.Refuted proof)) is = absurd is
    round_judged (Answered (answer.Spent proof)) is = absurd is
    round_judged (Broken list) is = further list.items is.0 is.1
