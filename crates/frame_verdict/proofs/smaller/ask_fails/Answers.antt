use Rattle.frame_spec.specs.FrameQuestions.{FailQuestion}
use Rattle.frame_rounds.specs.declared.answers.FrameAnswered.TheVariants.{Sat}
use Rattle.frame_verdict.proofs.EarlyFrames.{fail_later, never_more}
use Rattle.frame_verdict.proofs.Judging.{answered}
use Rattle.frame_verdict.proofs.smaller.ask_fails.Goals as goal

pub ask_steps-requires-clause-fail : goal.ask_steps-requires-clause-fail
ask_steps-requires-clause-fail c =
    fail_later c.args.passive.now.unrolled.now c.args.conflicts c.args.inputs c.args.asked.items _ c.in-Refuted.fail c.over_variables-fail.result
    c.requires.never c.in_ok-answered.ensures c.in-Refuted.is c.over_variables-fail.ensures

pub ask_steps-requires-clause-never : goal.ask_steps-requires-clause-never
ask_steps-requires-clause-never c =
    never_more c.args.passive.now.unrolled.now c.args.conflicts c.args.inputs c.args.asked.items _ c.in_ok-answered.ensures.keep c.requires.never

pub returns-in-Sat : goal.returns-in-Sat
returns-in-Sat c f contracts k m layout whole is count =
    answered c.args.passive.now.unrolled.now FailQuestion c.args.conflicts _ (Sat c.in-Sat.segments) c.in_ok-answered.ensures.answers c.in-Sat.is f contracts k
    layout is.small.ground
