-- Data that stand for a reading give terms the reading's words, so that they tell whether a question is true of it.
use Rattle.std.proofs.Common.{◌≡◌, ℕ, ◌<◌, Bool, true, false, length, refl, sym, ◌∙◌, subst, arith}
use Rattle.std.specs.Prelude.{◌↔◌, ◌==◌, if◌then◌else◌}
use Rattle.std.proofs.lemmas.Bool.Decides.{nat_tests}
use Rattle.bilv_spec.specs.Questions.{Reading}
use Rattle.call_spec.specs.Calls.{Question}
use Rattle.term_spec.specs.Terms.{TermReading, term_word, node_at}
use Rattle.walk_spec.specs.Unrolled.{UnrolledProgram, point_at}
use Rattle.term_spec.specs.WalkQuestions.{AreNamedBelow, QuestionTerm, TellsQuestion, IsTrueOfWalk, term_reading}
use Rattle.walk_laws.proofs.CellValues.{Agree, node_same, node_in, same_term}
use Rattle.question_form.specs.Questions.{program_of_question, question_of, term_of}
use Rattle.question_form.specs.Views.{kind_of, unrolled_of}
use Rattle.question_form.specs.declared.questions.Passive.{Passive}
use Rattle.question_form.specs.declared.questions.Question as asked
use Rattle.call_form.specs.declared.kind.Kind.{Kind}
use Rattle.question_form.specs.Asked.{asked_of}
use Rattle.question_form.proofs.OfKinds.{is_of_kind}
use Rattle.model_verdict.specs.Readings.{HasKnown, StandsFor}

drawn_choice : (b : Bool) (n : ℕ) → b ≡ true → (if b then n else 0) ≡ n
drawn_choice true n h = refl
drawn_choice false n h = absurd (cc)

module _ (u : UnrolledProgram) (y : TermReading) (r : Reading) (stands : StandsFor u y r) where
  agree : Agree u 0 y (term_reading u r)
  agree = record {
    regs = stands.regs;
    flags = stands.flags;
    choice = λ i d. stands.choice i d.0 ∙ drawn_choice ((point_at u i).draws) (r.choice (point_at u i).point) d.1;
    base = λ j l. absurd (omega arith);
  }

  -- a term over the program's inputs has the reading's word
  pub word_is : (q : QuestionTerm) → AreNamedBelow u 0 q.nodes → (t : ℕ) → t < length q.nodes → term_word y q.nodes t ≡ term_word (term_reading u r) q.nodes t
  word_is q named t l =
      same_term y (term_reading u r) q.nodes t (λ i le vs. node_same u 0 y (term_reading u r) agree vs (node_at q.nodes i)
      (named (node_at q.nodes i) (node_in q.nodes i (omega (arith, le, l)))) (λ e. stands.mem)) l

  module _ (question : Question) (q : QuestionTerm) (tells : TellsQuestion u question q) where
    root_is : term_word y q.nodes q.root ≡ term_word (term_reading u r) q.nodes q.root
    root_is = word_is q tells.terms.named q.root tells.root.0

    -- where the memory has the known bytes, the question is true exactly where its term is 1
    pub true_by_word : HasKnown u.known r.state.mem → term_word y q.nodes q.root ≡ 1 → IsTrueOfWalk u r question
    true_by_word known one =
        let t = (tells.means r stands.reading stands.pc).0 (sym root_is ∙ one) in
        record {
          choice = stands.reading.choice;
          entry = record { state = stands.reading.state; pc = stands.pc; lines = t.lines; bytes = λ a b l e asked. known a b l e };
          ends = t.ends;
        }

    pub word_by_true : IsTrueOfWalk u r question → term_word y q.nodes q.root ≡ 1
    word_by_true t = root_is ∙ (tells.means r stands.reading stands.pc).1 (record { lines = t.entry.lines; ends = t.ends })

-- a question that is true has the known bytes
pub known_by_true : (u : UnrolledProgram) (r : Reading) (question : Question) → IsTrueOfWalk u r question → HasKnown u.known r.state.mem
known_by_true u r question t a b l e = t.entry.bytes a b l e refl

-- ---- the test of both

-- a memory without the known bytes
pub not_had : (u : UnrolledProgram) (y : TermReading) (r : Reading) (question : Question) (b : Bool) → b ≡ false → (b ≡ true) ↔ HasKnown u.known (y.mem 0) →
    StandsFor u y r → (false ≡ true) ↔ IsTrueOfWalk u r question
not_had u y r question b e has stands =
    (λ h. absurd (cc), λ t. (let h : b ≡ true = has.1 (subst (HasKnown u.known) (sym stands.mem) (known_by_true u r question t)) in sym e ∙ h))

one_by : (n : ℕ) → (n == 1) ≡ true → n ≡ 1
one_by n h = grind (arith, nat_tests)

by_one : (n : ℕ) → n ≡ 1 → (n == 1) ≡ true
by_one n h = grind (arith, nat_tests)

-- and one with them, by the word of the question's term
pub had : (u : UnrolledProgram) (y : TermReading) (r : Reading) (question : Question) (q : QuestionTerm) → TellsQuestion u question q → (b : Bool) → b ≡ true →
    (b ≡ true) ↔ HasKnown u.known (y.mem 0) → (n : ℕ) → n ≡ term_word y q.nodes q.root → StandsFor u y r → ((n == 1) ≡ true) ↔ IsTrueOfWalk u r question
had u y r question q tells b e has n is stands = (
  λ h. true_by_word u y r stands question q tells (subst (HasKnown u.known) stands.mem (has.0 e)) (sym is ∙ one_by n h),
  λ t. by_one n (is ∙ word_by_true u y r stands question q tells t),
)

-- the term of a question that is asked
pub tells_of : (p : Passive) (kind : Kind) (q : asked.Question) → q.passive.now ≡ p → q.asked ≡ asked_of kind →
    TellsQuestion (program_of_question q) (question_of q) (term_of q) → TellsQuestion (unrolled_of p.unrolled.now) (kind_of kind) (term_of q)
tells_of p kind q of kind_is tells =
    subst (λ (z : Passive). TellsQuestion (unrolled_of z.unrolled.now) (kind_of kind) (term_of q)) of
    (subst (λ (k : Question). TellsQuestion (program_of_question q) k (term_of q)) (is_of_kind q kind kind_is) tells)
