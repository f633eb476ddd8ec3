use Rattle.std.proofs.Common.{string_bytes}
use Rattle.question_form.specs.Asked.{frame_question}
use Rattle.frame_spec.specs.FrameVerdict.{frame_of}
use Rattle.frame_verdict.proofs.FrameScripting.{apart_of, passive_of, runs_of, script_is, told_of, walkable_of}
use Rattle.frame_verdict.proofs.scripting.script_unrolled.Goals as goal

pub script_passive-requires-clause-walkable : goal.script_passive-requires-clause-walkable
script_passive-requires-clause-walkable c =
    walkable_of c.args.unrolled.now c.in_ok-passive.passive c.in_ok-passive.ensures.of c.requires.measurable

pub script_passive-requires-clause-passive : goal.script_passive-requires-clause-passive
script_passive-requires-clause-passive c =
    passive_of c.args.unrolled.now c.in_ok-passive.passive c.in_ok-passive.ensures.of c.in_ok-passive.ensures.passive

pub script_passive-requires-clause-runs : goal.script_passive-requires-clause-runs
script_passive-requires-clause-runs c = runs_of c.args.unrolled.now c.in_ok-passive.passive c.in_ok-passive.ensures.of c.requires.measurable

pub script_passive-requires-clause-once : goal.script_passive-requires-clause-once
script_passive-requires-clause-once c = apart_of c.args.unrolled.now c.in_ok-passive.passive c.in_ok-passive.ensures.of c.requires.once

pub returns : goal.returns
returns c w rank layout within is =
    let question = frame_question c.args.question in
    let text = string_bytes c.in_ok-text.text in (
      within,
      script_is (frame_of w rank) w.contracts c.args.budget.now.unroll layout c.args.unrolled.now is.ground question text
          (told_of c.args.unrolled.now c.in_ok-passive.passive c.in_ok-passive.ensures.of question text c.in_ok-text.ensures),
    )
