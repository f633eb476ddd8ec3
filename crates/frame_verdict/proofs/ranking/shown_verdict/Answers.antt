use Rattle.frame_verdict.proofs.RankedVerdicts.{last_called, last_fails, last_inductive, last_turns}
use Rattle.frame_verdict.proofs.ranking.shown_verdict.Goals as goal

pub returns-then-called : goal.returns-then-called
returns-then-called c w layout b is alone within below h = last_called w c.args.rank layout b is alone within below c.args.ended h c.if-called.true

pub returns-in-Turned : goal.returns-in-Turned
returns-in-Turned c w layout b is alone within below h =
    last_turns w c.args.rank layout b is alone within below c.args.ended h c.if-called.false c.in-Turned.at c.in-Turned.step c.in-Turned.is

pub returns-in-None : goal.returns-in-None
returns-in-None c w layout b is alone within below h =
    last_fails w c.args.rank layout b is alone within below c.args.ended h c.if-called.false c.in-Failed.event c.in-Failed.at c.in-Failed.step c.in-Failed.is
    c.in-None.is

pub returns : goal.returns
returns c w layout b is alone within below h =
    last_inductive w c.args.rank layout b is alone within below c.args.ended h c.if-called.false c.in-Failed.event c.in-Failed.at c.in-Failed.step
    c.in-Failed.is c.in-Some.head c.in-Some.is
