use Rattle.frame_verdict.specs.FrameFunctions.{contracts_of, whole_of_framed}
use Rattle.frame_verdict.proofs.Measured.{next_measured, too_many}
use Rattle.frame_verdict.proofs.RankedVerdicts.{at_most}
use Rattle.frame_verdict.proofs.measuring.measure_frame.Goals as goal

pub returns-in-Ok : goal.returns-in-Ok
returns-in-Ok g c = record {
  unrolled = c.in-Ok.ensures.unrolled;
  left = next_measured (whole_of_framed c.args.framed.now) c.args.budget.now.unroll c.args.budget.now.points c.args.rank c.args.left
      c.requires.left (contracts_of c.args.framed.now) g.M.Machine.form c.in-Ok.unrolled c.in-Ok.ensures.unrolled c.left_behind-left.result
      c.left_behind-left.ensures.points c.left_behind-left.ensures.price;
}

pub returns-in-Err-TooMany : goal.returns-in-Err-TooMany
returns-in-Err-TooMany g c =
    too_many (whole_of_framed c.args.framed.now) c.args.budget.now.unroll c.args.budget.now.points c.args.rank c.args.left c.requires.left
    (at_most c.args.framed.now c.args.rank c.requires.rank) _ c.in-Err-TooMany.field-0 c.in-Err-TooMany.ensures.more
    c.in-Err-TooMany.field-0-is
