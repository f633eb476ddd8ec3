-- The text of the script of a question as a value.
use Rattle.std.proofs.Common.{◌≡◌, ℕ, ◌^◌, ◌<◌, ◌∙◌, Bool, true, false, List, [], arith, refl, ap, sym, subst, length, map}
use Rattle.std.specs.Prelude.{◌&&◌}
use Rattle.std.proofs.lemmas.List.{length-map}
use Rattle.frame_spec.specs.FrameQuestions.{asks_head}
use Rattle.frame_terms.specs.PassiveFrames as frames
use Rattle.known_bytes.specs.Runs.{run_of, AreRuns}
use Rattle.question_form.specs.declared.questions.Question.{Question}
use Rattle.question_form.specs.FrameQuestions.{frame_of_question, frame_question_of, heads_of_question}
use Rattle.question_form.specs.Questions.{program_of_question, question_of, term_of}
use Rattle.question_form.specs.Views.{kept_of}
use Rattle.start_value.specs.Starts.{layout_of}
use Rattle.term_spec.specs.Terms.{node_at}
use Rattle.term_spec.specs.WalkQuestions.{TellsQuestion}
use Rattle.smtlib_print.specs.FrameTold.{TellsFrameScript}
use Rattle.smtlib_print.specs.Numbered.{AreNumbersOf, AreRanks}
use Rattle.smtlib_print.specs.Printable.{IsPrintable}
use Rattle.smtlib_print.specs.Scripted.{FitMemory, draws_of, given_by, givens_of, source_of, source_text}
use Rattle.smtlib_print.specs.Commands.{Given}
use Rattle.smtlib_print.specs.Told.{TellsScript}
use Rattle.smtlib_print.proofs.Choices.{draws_count, frame_draws, program_draws}
use Rattle.smtlib_print.proofs.FrameTelling.{frame_script_tells}
use Rattle.smtlib_print.proofs.Layouts.{usable_of}
use Rattle.smtlib_print.proofs.Named.{frame_gives, frame_named, givens, printable, program_named}
use Rattle.smtlib_print.proofs.Runs.{behind_runs}
use Rattle.smtlib_print.proofs.Telling.{script_tells}

module _ (q : Question) (numbers : List ℕ) (count : length numbers ≡ length q.passive.now.unrolled.now.points.items) where
  -- as many numbers as points that draw or not
  drawn_count : length numbers ≡ length (draws_of q.passive.now.unrolled.now)
  drawn_count = count ∙ sym (draws_count q.passive.now.unrolled.now q.passive.now.unrolled.now.points.items)

  -- the text of a script, by whether the points draw and what their contract steps are given
  abbrev drawn_text : (heads : Bool) → List Bool → List Given → List ℕ
  drawn_text heads draws given = source_text (record {
    layout = layout_of q.passive.now.unrolled.now.form;
    heads = heads;
    numbers = numbers;
    draws = draws;
    given = given;
    known = map run_of q.passive.now.unrolled.now.known.items;
    kept = map kept_of q.passive.now.unrolled.now.kept.now;
    asks_head = heads && asks_head (frame_question_of q);
    nodes = q.dag;
    root = q.root.0;
  })

  module _ (tells : TellsQuestion (program_of_question q) (question_of q) (term_of q)) where
    pub program_printable : (t : ℕ) → t < length q.dag → IsPrintable (layout_of q.passive.now.unrolled.now.form) (length numbers) (node_at q.dag t)
    program_printable t l =
        let u = program_of_question q in
        let v = q.passive.now.unrolled.now in
        printable (layout_of v.form) false (map (λ x. x.draws) u.points) [] (length numbers) (drawn_count ∙ ap length (sym (program_draws v))) (omega arith)
        q.dag
        tells.terms.typed (λ n c. program_named u (layout_of v.form) (record { registers = refl; flags = refl }) n (tells.terms.named n c)) t l

    pub program_tells : AreNumbersOf (program_of_question q) numbers → length q.dag < 2 ^ 32 →
        FitMemory (map run_of q.passive.now.unrolled.now.known.items) → AreRuns q.passive.now.unrolled.now.known.items → (text : List ℕ) →
        text ≡ source_text (source_of q false false numbers) →
        TellsScript (program_of_question q) (layout_of q.passive.now.unrolled.now.form) (question_of q) text
    program_tells are few fit runs text e =
        let u = program_of_question q in
        let v = q.passive.now.unrolled.now in
        subst (λ (t : List ℕ). TellsScript u (layout_of v.form) (question_of q) t) (sym (e ∙ ap (λ d. drawn_text false d []) (sym (program_draws v))))
        (script_tells u (layout_of v.form) (usable_of v.form) (record { registers = refl; flags = refl }) are.0 numbers are.2 q.dag q.root.0
        (question_of q) tells few fit (behind_runs v.known.items runs) are.1)

  module _ (tells : frames.TellsQuestion (frame_of_question q) (heads_of_question q) (frame_question_of q) (term_of q)) where
    given_count : length (givens (frame_of_question q)) ≡ length numbers
    given_count =
        ap length (frame_gives q.passive.now.unrolled.now)
        ∙ length-map q.passive.now.unrolled.now.points.items (λ x. given_by q.passive.now.unrolled.now x.deed) ∙ sym count

    pub frame_printable : (t : ℕ) → t < length q.dag → IsPrintable (layout_of q.passive.now.unrolled.now.form) (length numbers) (node_at q.dag t)
    frame_printable t l =
        let u = frame_of_question q in
        let v = q.passive.now.unrolled.now in
        printable (layout_of v.form) (heads_of_question q) (map (λ x. x.draws) u.points) (givens u) (length numbers)
        (drawn_count ∙ ap length (sym (frame_draws v))) (omega (arith, given_count)) q.dag tells.terms.typed
        (λ n c. frame_named u (heads_of_question q) (layout_of v.form) (record { registers = refl; flags = refl }) n
        (tells.terms.named n c)) t l

    pub frame_tells : AreRanks (map (λ x. x.point) (frame_of_question q).points) numbers → length q.dag < 2 ^ 32 →
        FitMemory (map run_of q.passive.now.unrolled.now.known.items) → AreRuns q.passive.now.unrolled.now.known.items → (text : List ℕ) →
        text ≡ source_text (source_of q (heads_of_question q) true numbers) →
        TellsFrameScript (frame_of_question q) (heads_of_question q) (layout_of q.passive.now.unrolled.now.form) (frame_question_of q) text
    frame_tells are few fit runs text e =
        let u = frame_of_question q in
        let v = q.passive.now.unrolled.now in
        subst (λ (t : List ℕ). TellsFrameScript u (heads_of_question q) (layout_of v.form) (frame_question_of q) t)
        (sym (e ∙ ap (λ d. drawn_text (heads_of_question q) d (givens_of v)) (sym (frame_draws v))
        ∙ ap (drawn_text (heads_of_question q) (map (λ x. x.draws) u.points)) (sym (frame_gives v))))
        (frame_script_tells u (heads_of_question q) (layout_of v.form) (usable_of v.form) (record { registers = refl; flags = refl })
        are.0 numbers are.1 q.dag q.root.0 (frame_question_of q) tells few fit (behind_runs v.known.items runs))
