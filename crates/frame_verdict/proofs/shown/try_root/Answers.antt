use Rattle.std.proofs.Common.{◌∙◌, Some, sym, true}
use Rattle.program_points.specs.Tables.{stacks_of}
use Rattle.question_form.specs.Asked.{frame_question}
use Rattle.frame_verdict.specs.FrameFunctions.{whole_of_framed}
use Rattle.frame_verdict.specs.ShownEnds.{shown_of}
use Rattle.frame_verdict.proofs.Trying.{came_as, can_end, is_ended, no_end, other_end, wanted_by}
use Rattle.frame_verdict.proofs.shown.try_root.Goals as goal

pub came_to-requires-clause-ends : goal.came_to-requires-clause-ends
came_to-requires-clause-ends g c =
    can_end g.M.Machine.form c.args.framed.now c.args.budget.now c.args.rank c.args.unrolled.now c.requires.ready
    (frame_question c.args.asked) c.args.segments.now c.requires.segments c.args.root c.requires.root
    (wanted_by c.args.unrolled.now c.args.root c.index.result.now (frame_question c.args.asked) c.wants.result true c.requires.root c.index.ensures
    (c.wants.ensures (stacks_of c.args.unrolled.now.frames.items)) c.if-not-wants.false)
    c.in_ok-shown.shown c.in_ok-shown.ensures

pub returns-in-None : goal.returns-in-None
returns-in-None g c =
    no_end g.M.Machine.form c.args.framed.now c.args.budget.now c.args.rank c.args.unrolled.now c.requires.ready
    (frame_question c.args.asked) c.args.segments.now c.requires.segments c.args.root c.requires.root
    (wanted_by c.args.unrolled.now c.args.root c.index.result.now (frame_question c.args.asked) c.wants.result true c.requires.root c.index.ensures
    (c.wants.ensures (stacks_of c.args.unrolled.now.frames.items)) c.if-not-wants.false)
    c.in_ok-shown.shown c.in_ok-shown.ensures c.in_ok-came_to.field-0 c.in_ok-came_to.ensures c.in-None.is

pub returns-then-is_end : goal.returns-then-is_end
returns-then-is_end g c =
    is_ended g.M.Machine.form c.args.framed.now c.args.budget.now c.args.rank c.args.unrolled.now c.requires.ready
    (frame_question c.args.asked) c.args.segments.now c.requires.segments c.args.root c.requires.root
    (wanted_by c.args.unrolled.now c.args.root c.index.result.now (frame_question c.args.asked) c.wants.result true c.requires.root c.index.ensures
    (c.wants.ensures (stacks_of c.args.unrolled.now.frames.items)) c.if-not-wants.false)
    c.in_ok-shown.shown c.in_ok-shown.ensures c.in-Some.ended
    (came_as (whole_of_framed c.args.framed.now) c.args.rank c.args.budget.now.unroll c.args.budget.now.points g.M.Machine.form
    (shown_of c.in_ok-shown.shown) c.in_ok-came_to.field-0 (Some c.in-Some.ended) c.in_ok-came_to.ensures c.in-Some.is)
    (sym c.is_end.ensures ∙ c.if-is_end.true)

pub returns-else-is_end : goal.returns-else-is_end
returns-else-is_end g c =
    other_end g.M.Machine.form c.args.framed.now c.args.budget.now c.args.rank c.args.unrolled.now c.requires.ready
    (frame_question c.args.asked) c.args.segments.now c.requires.segments c.args.root c.requires.root
    (wanted_by c.args.unrolled.now c.args.root c.index.result.now (frame_question c.args.asked) c.wants.result true c.requires.root c.index.ensures
    (c.wants.ensures (stacks_of c.args.unrolled.now.frames.items)) c.if-not-wants.false)
    c.in_ok-shown.shown c.in_ok-shown.ensures c.in-Some.ended
    (came_as (whole_of_framed c.args.framed.now) c.args.rank c.args.budget.now.unroll c.args.budget.now.points g.M.Machine.form
    (shown_of c.in_ok-shown.shown) c.in_ok-came_to.field-0 (Some c.in-Some.ended) c.in_ok-came_to.ensures c.in-Some.is)
    (sym c.is_end.ensures ∙ c.if-is_end.false)
