use Rattle.std.proofs.Common.{ℕ, List, sym, subst}
use Rattle.frame_spec.specs.FrameWalk.{root_at}
use Rattle.frame_terms.specs.FrameStarts.{AreChoices}
use Rattle.start_value.specs.Starts.{layout_of}
use Rattle.frame_start.specs.Segments.{written_parts}
use Rattle.question_form.specs.FrameQuestions.{is_of_heads}
use Rattle.mem_cells.specs.FrameViews.{frame_of_cells}
use Rattle.frame_start.proofs.RootChoices.{chosen_are, met_inside, met_long}
use Rattle.frame_start.proofs.choices.choices_of_root.Goals as goal

pub returns-then-not-met : goal.returns-then-not-met
returns-then-not-met c values p met written x hx =
    let k = c.args.c.now in
    subst (λ (xs : List (ℕ × ℕ)). AreChoices (frame_of_cells k) (is_of_heads k.question.now) (layout_of k.question.now.passive.now.unrolled.now.form) x
    (written_parts p) (root_at (frame_of_cells k) c.args.root) xs) (sym c.new.ensures.items)
    (met.no_choices c.if-not-met.true c.args.root x hx)

pub choices_by_step-requires-clause-points : goal.choices_by_step-requires-clause-points
choices_by_step-requires-clause-points c =
    rw (c.deref.ensures.value, c.deref-then-can_be_shown.ensures.value) (met_long c.args.c.now c.requires.askable)

pub choices_by_step-requires-clause-within : goal.choices_by_step-requires-clause-within
choices_by_step-requires-clause-within c =
    rw (c.deref-then-can_be_shown.ensures.value, c.deref-then-can_be_shown-2.ensures.value)
    (met_inside c.args.c.now c.requires.askable c.args.met.now.words.items (c.requires.words c.if-not-met.false))

pub returns-then-can_be_shown : goal.returns-then-can_be_shown
returns-then-can_be_shown c values p met written =
    let h = rw (
      c.deref.ensures.value,
      c.deref-then-can_be_shown.ensures.value,
      c.deref-then-can_be_shown-2.ensures.value,
      c.deref-then-can_be_shown-3.ensures.value,
    ) at c.in_ok-choices.ensures in
    chosen_are c.args.c.now c.requires.askable values (written_parts p) c.args.root c.requires.within written
    c.args.met.now.words.items (met.words c.if-not-met.false) c.args.met.now.choices.items (met.choices c.if-not-met.false) c.in_ok-choices.choices.items h

pub returns : goal.returns
returns c values p met written = absurd (c.can_be_shown.ensures.other c.if-can_be_shown.false written)
