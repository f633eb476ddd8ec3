-- What the script of a question says of the program.
use Rattle.std.proofs.Common.{◌≡◌, ℕ, List, sym, subst}
use Rattle.bilv_spec.specs.Run.{Program}
use Rattle.bilv_spec.specs.Scripts.{IsScript}
use Rattle.machine_spec.specs.StateText.{Layout}
use Rattle.known_bytes.specs.Runs.{AreRuns}
use Rattle.question_form.specs.Questions.{program_of_question, question_of}
use Rattle.question_form.specs.Views.{kind_of, unrolled_of}
use Rattle.question_form.specs.declared.questions.Passive.{Passive}
use Rattle.question_form.specs.declared.questions.Question.{Question}
use Rattle.call_spec.specs.Calls.{Question as Asked}
use Rattle.call_form.specs.declared.kind.Kind.{Kind}
use Rattle.question_form.specs.Asked.{asked_of}
use Rattle.question_form.proofs.OfKinds.{is_of_kind}
use Rattle.smtlib_print.specs.Numbered.{AreApart}
use Rattle.smtlib_print.specs.Told.{TellsScript}
use Rattle.smtlib_print.proofs.Programs.{script_of_program}
use Rattle.start_value.specs.Starts.{layout_of}
use Rattle.verdict.specs.Grounds.{IsGround}
use Rattle.verdict.specs.Rounds.{IsAskable}

module _ (q : Passive) (question : Question) (of : question.passive.now ≡ q) where
  -- its known bytes are runs, as those of the passive program
  pub known_runs : IsAskable q → AreRuns question.passive.now.unrolled.now.known.items
  known_runs askable = subst (λ (z : Passive). AreRuns z.unrolled.now.known.items) (sym of) askable.runs

  module _ (p : Program) (k : ℕ) (layout : Layout) (ground : IsGround p k layout (unrolled_of q.unrolled.now)) where
    -- no two of its points are one
    pub points_apart : AreApart (program_of_question question)
    points_apart = subst (λ (z : Passive). AreApart (unrolled_of z.unrolled.now)) (sym of) ground.unrolling.points.once

    pub script_says : layout_of q.unrolled.now.form ≡ layout → (kind : Kind) → question.asked ≡ asked_of kind → (text : List ℕ) →
        TellsScript (program_of_question question) (layout_of question.passive.now.unrolled.now.form) (question_of question) text →
        IsScript p layout k (kind_of kind) text
    script_says form kind is text told =
        let u = unrolled_of q.unrolled.now in
        let here = subst (λ (z : Passive). TellsScript (unrolled_of z.unrolled.now) (layout_of z.unrolled.now.form) (question_of question) text) of told in
        let asked = subst (λ (z : Asked). TellsScript u (layout_of q.unrolled.now.form) z text) (is_of_kind question kind is) here in
        script_of_program p ground.lawful k u ground.unrolling layout (kind_of kind) text
        (subst (λ (z : Layout). TellsScript u z (kind_of kind) text) form asked)
