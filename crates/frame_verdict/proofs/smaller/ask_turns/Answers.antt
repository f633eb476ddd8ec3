use Rattle.frame_verdict.proofs.EarlyFrames.{turns_later, turns_never}
use Rattle.frame_verdict.proofs.smaller.ask_turns.Goals as goal

pub ask_fails-requires-clause-turn : goal.ask_fails-requires-clause-turn
ask_fails-requires-clause-turn c =
    turns_later c.args.passive.now.unrolled.now c.args.conflicts c.args.inputs _ _ c.in-Refuted.turn c.over_variables-turn.result
    c.in_ok-answered.ensures c.in-Refuted.is c.over_variables-turn.ensures

pub ask_fails-requires-clause-never : goal.ask_fails-requires-clause-never
ask_fails-requires-clause-never c =
    turns_never c.args.passive.now.unrolled.now c.args.conflicts c.args.inputs _ _ c.in-Refuted.turn c.in_ok-answered.ensures c.in-Refuted.is
