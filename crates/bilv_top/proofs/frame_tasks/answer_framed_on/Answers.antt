use Rattle.std.proofs.Common.{◌∙◌, ◌≤◌, List, ap, length, map, subst, sym}
use Rattle.std.proofs.lemmas.Result.{IfOk-weaker}
use Rattle.bilv_spec.specs.Files.{layout_of, machine_of}
use Rattle.command_line.specs.Commands.{options_of}
use Rattle.io_edges.specs.Met.{seen}
use Rattle.notes_value.specs.FrameViews.{contract_of}
use Rattle.notes_value.specs.declared.notes.Contract.{Contract}
use Rattle.bilv_top.specs.Answers.{answer_of}
use Rattle.bilv_top.specs.Frames.{whole_by}
use Rattle.bilv_top.proofs.Segments.{no_frame, segmented_done}
use Rattle.bilv_top.proofs.frame_tasks.answer_framed_on.Goals as goal

pub answer_segmented_on-requires-clause-rank : goal.answer_segmented_on-requires-clause-rank
answer_segmented_on-requires-clause-rank g c =
    subst (λ (l : List Contract). c.in-Some.rank ≤ length l) c.deref.ensures.value (rw c.in-Some.is at c.in_ok-rank_asked.ensures.within)

pub returns-in-None-clause-done : goal.returns-in-None-clause-done
returns-in-None-clause-done g c =
    let s = seen (g.H.Shelf.holds c.args.shelf.now) (g.H.Shelf.faults c.args.shelf.now) (g.H.Shelf.faults c.args.shelf.now) in
    let o = options_of c.args.options in
    let file = c.args.image.now in
    let w = whole_by (machine_of o file) file c.args.framed.now in
    IfOk-weaker c.answer.result _ _
    (λ a is. no_frame s c.args.task (layout_of o file) w (answer_of a)
    (sym (c.in_ok-rank_asked.ensures.rank w (ap (map contract_of) (sym c.deref.ensures.value))) ∙ c.in-None.is) is) c.answer.ensures

pub returns-in-Some-clause-done : goal.returns-in-Some-clause-done
returns-in-Some-clause-done g c =
    let s = seen (g.H.Shelf.holds c.args.shelf.now) (g.H.Shelf.faults c.args.shelf.now) (g.H.Shelf.faults c.answer_segmented_on.new.shelf) in
    let o = options_of c.args.options in
    let file = c.args.image.now in
    let w = whole_by (machine_of o file) file c.args.framed.now in
    IfOk-weaker c.answer_segmented_on.result _ _
    (λ a done. segmented_done s c.args.task c.in-Some.rank (layout_of o file) w (answer_of a)
    (sym (c.in_ok-rank_asked.ensures.rank w (ap (map contract_of) (sym c.deref.ensures.value))) ∙ c.in-Some.is) done) c.answer_segmented_on.ensures.done
