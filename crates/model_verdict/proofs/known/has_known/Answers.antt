use Rattle.std.proofs.Common.{arith}
use Rattle.model_verdict.proofs.KnownRuns.{all_known, run_known, runs_more}
use Rattle.model_verdict.proofs.known.has_known.Goals as goal

pub returns-then-not-has_run-clause-other : goal.returns-then-not-has_run-clause-other
returns-then-not-has_run-clause-other c = λ e all.
    c.has_run.ensures.other c.if-not-has_run.true
    (run_known c.args.known.now c.args.fill c.args.bytes.now c.loop-i.i _ c.requires.runs c.loop-i-test.true c.has_run.ensures.last all)

pub loop-i-preserved : goal.loop-i-preserved
loop-i-preserved c =
    runs_more c.args.known.now c.args.fill c.args.bytes.now c.loop-i.i _ c.loop-i-test.true c.loop-i.invariant
    (c.has_run.ensures.all c.if-not-has_run.false)

pub returns-clause-all : goal.returns-clause-all
returns-clause-all c = λ e.
    all_known c.args.known.now c.args.fill c.args.bytes.now c.requires.runs
    (λ i d l. c.loop-i.invariant i d (omega (arith, l, c.loop-i-test.false)))
