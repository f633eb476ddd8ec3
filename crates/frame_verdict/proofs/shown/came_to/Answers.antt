use Rattle.frame_verdict.specs.ShownEnds.{shown_of}
use Rattle.frame_verdict.proofs.CalledWholes.{came_plain, shown_plain}
use Rattle.frame_verdict.proofs.Ready.{none_if, some_if}
use Rattle.frame_verdict.proofs.shown.came_to.Goals as goal

pub segment_end-requires-clause-shown : goal.segment_end-requires-clause-shown
segment_end-requires-clause-shown g c =
    let none = none_if c.args.framed.now.contracts.now c.is_empty.result c.is_empty.ensures c.if-is_empty.true in
    shown_plain c.args.framed.now none c.args.rank c.requires.rank g.M.Machine.form (shown_of c.args.shown) c.requires.ends.shown

pub segment_end-requires-clause-none : goal.segment_end-requires-clause-none
segment_end-requires-clause-none g c =
    c.requires.ends.none (none_if c.args.framed.now.contracts.now c.is_empty.result c.is_empty.ensures c.if-is_empty.true)

pub returns-then-is_empty : goal.returns-then-is_empty
returns-then-is_empty g c =
    let none = none_if c.args.framed.now.contracts.now c.is_empty.result c.is_empty.ensures c.if-is_empty.true in
    came_plain c.args.framed.now none c.args.rank c.requires.rank c.args.budget.now.unroll c.args.budget.now.points g.M.Machine.form
    (shown_of c.args.shown) c.in_ok-came.came c.in_ok-came.ensures

pub called_end-requires-clause-some : goal.called_end-requires-clause-some
called_end-requires-clause-some g c = some_if c.args.framed.now.contracts.now c.is_empty.result c.is_empty.ensures c.if-is_empty.false
