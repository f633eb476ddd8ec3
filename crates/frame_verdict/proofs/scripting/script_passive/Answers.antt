use Rattle.std.proofs.Common.{string_bytes}
use Rattle.frame_verdict.proofs.FrameScripting.{known_runs, points_apart, tells_of}
use Rattle.frame_verdict.proofs.scripting.script_passive.Goals as goal

pub frame_script-requires-clause-runs : goal.frame_script-requires-clause-runs
frame_script-requires-clause-runs c = known_runs c.args.passive.now c.in_ok-asked.asked c.in_ok-asked.ensures.of.0 c.requires.runs

pub frame_script-requires-clause-apart : goal.frame_script-requires-clause-apart
frame_script-requires-clause-apart c = points_apart c.args.passive.now c.in_ok-asked.asked c.in_ok-asked.ensures.of.0 c.requires.once

pub returns : goal.returns
returns c =
    tells_of c.args.passive.now c.in_ok-asked.asked c.in_ok-asked.ensures.of.0 c.args.question c.in_ok-asked.ensures.of.1 (string_bytes c.in_ok-text.text)
    c.in_ok-text.ensures
