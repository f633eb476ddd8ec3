use Rattle.frame_verdict.specs.FrameFunctions.{program_of_framed}
use Rattle.frame_verdict.proofs.CameTo.{named_end, no_head_state, other_end}
use Rattle.frame_verdict.proofs.shown.segment_end.Goals as goal

pub returns-in-None : goal.returns-in-None
returns-in-None g c =
    no_head_state (program_of_framed c.args.framed.now) c.args.framed.now.invariants.now c.args.budget.now.unroll c.args.budget.now.points
    g.M.Machine.form c.args.shown c.requires.none c.in_ok-ending.field-0 c.in_ok-ending.ensures c.in-None.is

pub returns-in-None-named : goal.returns-in-None-named
returns-in-None-named g c =
    other_end (program_of_framed c.args.framed.now) c.args.framed.now.invariants.now c.args.budget.now.unroll c.args.budget.now.points
    g.M.Machine.form c.args.shown c.requires.none c.in_ok-ending.field-0 c.in-Some.ending c.in-Some.is c.in_ok-ending.ensures c.named.result c.named.ensures
    c.in-None-named.is

pub returns-in-Some-named : goal.returns-in-Some-named
returns-in-Some-named g c =
    named_end (program_of_framed c.args.framed.now) c.args.framed.now.invariants.now c.args.budget.now.unroll c.args.budget.now.points
    g.M.Machine.form c.args.shown c.requires.none c.in_ok-ending.field-0 c.in-Some.ending c.in-Some.is c.in_ok-ending.ensures c.named.result
    c.in-Some-named.ending c.named.ensures c.in-Some-named.is c.requires.shown
